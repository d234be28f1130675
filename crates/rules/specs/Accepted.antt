-- Every outcome is a refusal or an acceptance, and every answer counts the bytes that were written: "An accepted call answers how many bytes it wrote", and
-- "A refusal answers its number with 0 bytes written".
use Rattle.std.specs.Prelude.{Bool, true, false, ◌&&◌, not, List, [], ◌∷◌, ◌≡◌, ℕ, eqb, length}
use Rattle.refusal.specs.declared.Refusal.{Refusal}
use Rattle.refusal.specs.Numbers.{is_retired}
use Rattle.rules.specs.Call.{Answer, accepted, refused, Sent}
use Rattle.rules.specs.Outcome.{Change, Outcome, refuse, sent_bytes, accept}
use Rattle.rules.specs.History.{Event}

-- it answers a refusal, changes nothing and sends nothing, or it is accepted with the count of the bytes that it sends. Document 02: "2 is retired"
pub data RefusedOrAccepted (o : Outcome) : Type 0 where
  refusal : (why : Refusal) → is_retired why ≡ false → o ≡ refuse why → RefusedOrAccepted o
  acceptance : (seat : ℕ) (changes : List Change) (sent : List Sent) → o ≡ accept seat changes sent → RefusedOrAccepted o

-- the same of a call made in a seat: where it is accepted, it answers that seat. (A tick is made in none, and answers 0)
pub data MadeAt (seat : ℕ) (o : Outcome) : Type 0 where
  refusal : (why : Refusal) → is_retired why ≡ false → o ≡ refuse why → MadeAt seat o
  acceptance : (changes : List Change) (sent : List Sent) → o ≡ accept seat changes sent → MadeAt seat o

-- an answer other than a refusal that is retired
unfoldable pub is_given : Answer → Bool
is_given (accepted seat count) = true
is_given (refused why) = not (is_retired why)

unfoldable pub all_given : List Event → Bool
all_given [] = true
all_given (e ∷ events) = is_given e.answer && all_given events

-- an answer's count is that of the bytes written, a refusal's 0
unfoldable pub count_is : Answer → ℕ → Bool
count_is (accepted seat count) written = eqb count written
count_is (refused why) written = eqb 0 written

unfoldable pub all_counted : List Event → Bool
all_counted [] = true
all_counted (e ∷ events) = count_is e.answer (length (sent_bytes e.sent)) && all_counted events
