-- The checks that both ends make, as code.
use Rattle.std.specs.Prelude.{Bool, List, ℕ, Result, Ok, Err}
use Rattle.refusal.specs.declared.Refusal.{Refusal}
use Rattle.packet_laws.specs.Read.{Read, packet, refused}
use Rattle.packet_laws.specs.Table.{kind_of, checked}

-- a read as code has it
unfoldable pub read_result : {A : Type 0} → Read A → Result A Refusal
read_result (packet p) = Ok p
read_result (refused why) = Err why

-- at an end that takes such kinds, the kind of a packet that passes the checks 4 to 7, or the refusal of the first that fails
unfoldable pub kind_checked : (ℕ → Bool) → List ℕ → Result ℕ Refusal
kind_checked takes bytes = read_result (checked takes bytes (packet (kind_of bytes)))
