-- Answers as one number: 0 or more is an answer, below 0 it is minus the papers' refusal number.
use Rattle.std.specs.Prelude.{List, ◌≡◌, ℕ, ◌≤◌, ℤ, pos, neg_ℤ, Result, Ok, Err}
use Rattle.wire.specs.Numbers as wire
use Rattle.refusal.specs.declared.Refusal.{Refusal}
use Rattle.refusal.specs.Numbers.{refusal_number}

unfoldable pub refusal_code : Refusal → ℤ
refusal_code why = neg_ℤ (pos (refusal_number why))

-- the byte count, or minus the refusal
unfoldable pub written_code : Result ℕ Refusal → ℤ
written_code (Ok count) = pos count
written_code (Err why) = refusal_code why

-- a count that a writer can have
unfoldable pub Counted : Result ℕ Refusal → Type 0
Counted (Ok count) = count ≤ 2032
Counted (Err why) = Unit {0}

-- the relation of a call that is lent bytes to read: each is below 256, as the type of the parameter has it
pub record OfBytes (lent : List ℕ) (relation : Type 0) : Type 0 where
  pub bytes : wire.Bytes lent
  pub does : relation

-- a relation between a call and its answer, where the host is told the answer as `code` has it: some answer stands in the relation, and is told so
pub record ToldAs {A B : Type 0} (code : A → B) (relation : A → Type 0) (told : B) : Type 0 where
  pub given : A
  pub relates : relation given
  pub codes : told ≡ code given
