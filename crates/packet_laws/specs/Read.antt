-- Document 01, "Relay packets": "each read is either a packet or a refusal". A refusal is named; `refusal_number` of crate `refusal` gives document
-- 01's number of each.
use Rattle.std.specs.Prelude.{Bool, true, false}
use Rattle.refusal.specs.declared.Refusal.{Refusal}

pub data Read (A : Type 0) : Type 0 where
  packet : A → Read A
  refused : Refusal → Read A

-- one check: where it fails, its refusal; where it holds, what comes after it
unfoldable pub check : {A : Type 0} → Bool → Refusal → Read A → Read A
check true why after = after
check false why after = refused why
