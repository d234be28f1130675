-- What a run of stored calls writes for a call before its records, by the call's answer.
use Rattle.std.specs.Prelude.{cond, List, ◌∷◌, ◌++◌, ◌≡◌, ℕ, ◌+◌, leb, length, drop, Result, Ok, Err}
use Rattle.refusal.specs.Numbers.{refusal_number}
use Rattle.wire.specs.Numbers.{bytes_of}
use Rattle.rules.specs.Call as rules
use Rattle.refusal.specs.declared.Refusal.{Refusal}
use Rattle.records.specs.declared.Accepted.{Accepted}

-- an answer of the code, as the rules have it
unfoldable pub answer_of : Result Accepted Refusal → rules.Answer
answer_of (Ok accepted) = rules.accepted accepted.seat.0 accepted.bytes
answer_of (Err why) = rules.refused why

-- "An accepted call answers how many bytes it wrote", "A refusal answers its number with 0 bytes written"
unfoldable pub written : rules.Answer → ℕ
written (rules.accepted seat count) = count
written (rules.refused why) = 0

-- refusal (1 byte, 0 for none), seat (1, 0 for a refused call), length (2)
unfoldable pub entry_head : rules.Answer → List ℕ
entry_head (rules.accepted seat count) = 0 ∷ seat ∷ bytes_of 2 count
entry_head (rules.refused why) = refusal_number why ∷ 0 ∷ bytes_of 2 0

-- a head of 4 bytes is written where the output has room for it and for `count` bytes of records behind it, and otherwise nothing: the answer, which is how
-- many bytes both are or 0, and what the output is then
pub record WritesHead (head : List ℕ) (count : ℕ) (out : List ℕ) (given : ℕ) (left : List ℕ) : Type 0 where
  pub answers : given ≡ cond (leb (4 + count) (length out)) (4 + count) 0
  pub leaves : left ≡ cond (leb (4 + count) (length out)) (head ++ drop 4 out) out

-- the head for an answer
abbrev pub WritesEntry : (given : rules.Answer) (out : List ℕ) (bytes : ℕ) (left : List ℕ) → Type 0
WritesEntry given = WritesHead (entry_head given) (written given)
