-- What the exported calls of the relay answer. The relations are those of `relay_laws` (`Arrives`, `Departs`, `Sends`, `Ticks`), for document 01's 40 seats and 32
-- numbers; here the answer becomes one number, and of an Arrive a number and a seat.
use Rattle.std.specs.Prelude.{ℕ, ◌≤◌, ℤ, pos}
use Rattle.rules.specs.Call as rules
use Rattle.banavoge_laws.specs.Answers.{refusal_code}

-- the byte count, or minus the refusal
unfoldable pub count_code : rules.Answer → ℤ
count_code (rules.accepted seat bytes) = pos bytes
count_code (rules.refused why) = refusal_code why

-- the host's place for the seat of an Arrive: a refusal leaves it as it was
unfoldable pub seat_after : rules.Answer → ℕ → ℕ
seat_after (rules.accepted seat bytes) before = seat
seat_after (rules.refused why) before = before

-- all that the host is told of an Arrive: document 02, "Arrive now has output and answers its byte count too."
pub record ArrivalTold : Type 0 where
  pub answer : ℤ
  pub seat : ℕ

abbrev pub told : ℤ → ℕ → ArrivalTold
told answer seat = record { answer = answer; seat = seat }

unfoldable pub arrival_told : ℕ → rules.Answer → ArrivalTold
arrival_told before given = told (count_code given) (seat_after given before)

-- a count that fits the number: no call writes more than 5,120 bytes. What each call may write is `outcome_within` (`room_laws`)
unfoldable pub CallCounted : rules.Answer → Type 0
CallCounted (rules.accepted seat bytes) = bytes ≤ rules.most_needed
CallCounted (rules.refused why) = Unit {0}
