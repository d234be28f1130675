-- The 40 seconds, in small histories: a room of two seats, where the clock is 5 when KA arrives. It still sits at 44, and at 45 it is gone. The theorem's
-- hypotheses are needed: where the clock moves by 2 once, where a pong came in time, and where the client left and came back, or came back without leaving, it
-- sits at 45. A pong with another number, any other packet, and another client's pong are no answers. Assumes nothing.
use mathlib.Core.Path.{◌≡◌, refl, sym, ◌∙◌}
use mathlib.Core.Bool.{Bool, true, false, not, true≢false}
use mathlib.Core.List.{List, [], ◌∷◌, ◌++◌}
use Prim.Native.Nat.{ℕ, zero, suc}
use Rattle.packet_laws.specs.FromClient as client
use Rattle.rules.specs.Room.{Sizes, sizes_of, Room, empty_room}
use Rattle.rules.specs.Call.{Call, arrive, leave, packet_call, tick}
use Rattle.rules.specs.Outcome.{outcome, room_after}
use Rattle.rules.specs.History.{Event, event, transcript, happens}
use Rattle.rules.specs.Transcript.{Past, nobody, client_of, Start, from_empty, clock_of, sitter, is_client}
use Rattle.rules.specs.After.{room_after_all, past_after}
use Rattle.after_calls.specs.Silent.{each, arrival_of, arrives, slowly, bears, answers_by, answers, NeverAnswers}
use Rattle.rules.proofs.Computed.{ka, kb, kc, opened}

abbrev pub small : Sizes
small = sizes_of 2 1

abbrev pub begin : Start
begin = from_empty small

-- so many ticks, a second each, from one on; each with the ping number 1
unfoldable pub ticks_from : ℕ → ℕ → List Call
ticks_from time zero = []
ticks_from time (suc many) = tick time 1 ∷ ticks_from (suc time) many

-- the clock is 5
unfoldable pub past_at5 : Past
past_at5 = past_after [] (happens small (tick 5 1 ∷ []))

unfoldable pub room_at5 : Room
room_at5 = room_after_all small (empty_room small) (tick 5 1 ∷ [])

-- KA arrives, and what happens then
unfoldable pub arrival : Event
arrival = event room_at5 (arrive ka)

unfoldable pub later : List Call → List Event
later calls = transcript small (room_after small room_at5 (outcome room_at5 (arrive ka))) calls

unfoldable pub now : List Call → Past
now calls = past_after (arrival ∷ past_at5) (later calls)

unfoldable pub history : Unit {0}
unfolding opened room_after_all client.client_bytes each arrival_of arrives slowly bears is_client answers_by answers ticks_from past_at5 room_at5 arrival later now
history = tt

-- what the theorem asks of the calls, each as a test
abbrev pub is_latest : List Call → Bool
is_latest calls = each (λ past e. not (arrives ka e)) (arrival ∷ past_at5) (later calls)

abbrev pub is_slow : List Call → Bool
is_slow calls = each (slowly begin) (arrival ∷ past_at5) (later calls)

abbrev pub is_silent : List Call → Bool
is_silent calls = each (λ past e. not (answers begin ka past e)) (arrival ∷ past_at5) (later calls)

-- one of them is not so, and then `NeverAnswers` is not
module _ (calls : List Call) where
  pub not_slow : is_slow calls ≡ false → NeverAnswers begin past_at5 ka arrival (later calls) → ⊥
  not_slow h never = true≢false (sym never.slow ∙ h)

  pub not_silent : is_silent calls ≡ false → NeverAnswers begin past_at5 ka arrival (later calls) → ⊥
  not_silent h never = true≢false (sym never.silent ∙ h)

  pub not_latest : is_latest calls ≡ false → NeverAnswers begin past_at5 ka arrival (later calls) → ⊥
  not_latest h never = true≢false (sym never.latest ∙ h)

-- the clock is 40 past the arrival, and KA still sits
pub record SitsAt45 (calls : List Call) : Type 0 where
  pub clock : clock_of begin (now calls) ≡ 45
  pub sits : sitter begin (now calls) 0 ≡ client_of ka

-- a pong of KA
unfoldable pub pong : ℕ → Call
pong n = packet_call 0 (client.client_bytes (client.pong n))

-- ---- it says nothing

pub quiet : NeverAnswers begin past_at5 ka arrival (later (ticks_from 6 40))
unfolding history
quiet = record { arrival = refl; latest = refl; slow = refl; silent = refl }

-- 39 seconds past its arrival it still sits: "is gone when the clock is 40 past its latest arrival", and not before
pub quiet_39 : (clock_of begin (now (ticks_from 6 39)) ≡ 44) × (sitter begin (now (ticks_from 6 39)) 0 ≡ client_of ka)
unfolding history
quiet_39 = (refl, refl)

pub quiet_40 : (clock_of begin (now (ticks_from 6 40)) ≡ 45) × (sitter begin (now (ticks_from 6 40)) 0 ≡ nobody)
unfolding history
quiet_40 = (refl, refl)

-- ---- "where the clock moves by at most one second a tick": here by 2 once, from 34 to 36

unfoldable pub leap : List Call
leap = ticks_from 6 29 ++ ticks_from 36 10

pub leap_sits : SitsAt45 leap
unfolding history leap
leap_sits = record { clock = refl; sits = refl }

pub leap_is : (is_slow leap ≡ false) × (is_silent leap ≡ true) × (is_latest leap ≡ true)
unfolding history leap
leap_is = (refl, refl, refl)

pub leap_refused : NeverAnswers begin past_at5 ka arrival (later leap) → ⊥
leap_refused = not_slow leap leap_is.0

-- ---- "a client that never answers": here the ping of 35 is answered

unfoldable pub answered : List Call
answered = ticks_from 6 30 ++ (pong 1 ∷ ticks_from 36 10)

pub answered_sits : SitsAt45 answered
unfolding history answered pong
answered_sits = record { clock = refl; sits = refl }

pub answered_is : (is_slow answered ≡ true) × (is_silent answered ≡ false) × (is_latest answered ≡ true)
unfolding history answered pong
answered_is = (refl, refl, refl)

pub answered_refused : NeverAnswers begin past_at5 ka arrival (later answered) → ⊥
answered_refused = not_silent answered answered_is.1

-- ---- no answers: "A pong with the outstanding number clears it; other pongs do nothing." A pong that comes before the ping, one with another number, a ping,
-- and a request

unfoldable pub no_answer : List Call
no_answer = pong 1 ∷ (ticks_from 6 30 ++ (pong 2 ∷ packet_call 0 (client.client_bytes (client.ping 1)) ∷ packet_call 0 (0 ∷ kb) ∷ ticks_from 36 10))

pub no_answer_lem : NeverAnswers begin past_at5 ka arrival (later no_answer)
unfolding history no_answer pong
no_answer_lem = record { arrival = refl; latest = refl; slow = refl; silent = refl }

pub no_answer_gone : (clock_of begin (now no_answer) ≡ 45) × (sitter begin (now no_answer) 0 ≡ nobody)
unfolding history no_answer pong
no_answer_gone = (refl, refl)

-- ---- "its latest arrival": it left at 34 and came back

unfoldable pub came_back : List Call
came_back = ticks_from 6 29 ++ (leave 0 ∷ arrive ka ∷ ticks_from 35 11)

pub came_back_sits : SitsAt45 came_back
unfolding history came_back
came_back_sits = record { clock = refl; sits = refl }

pub came_back_is : (is_slow came_back ≡ true) × (is_silent came_back ≡ true) × (is_latest came_back ≡ false)
unfolding history came_back
came_back_is = (refl, refl, refl)

pub came_back_refused : NeverAnswers begin past_at5 ka arrival (later came_back) → ⊥
came_back_refused = not_latest came_back came_back_is.2

-- another client's arrival is not its own, and that client's pong, which bears the number outstanding for both, is not its answer: KA is gone, and KB sits
unfoldable pub another : List Call
another = arrive kb ∷ (ticks_from 6 30 ++ (packet_call 1 (client.client_bytes (client.pong 1)) ∷ ticks_from 36 10))

pub another_is : NeverAnswers begin past_at5 ka arrival (later another)
unfolding history another
another_is = record { arrival = refl; latest = refl; slow = refl; silent = refl }

pub another_sits : (sitter begin (now another) 0 ≡ nobody) × (sitter begin (now another) 1 ≡ client_of kb)
unfolding history another
another_sits = (refl, refl)

-- it came back at 34 without leaving
unfoldable pub returned : List Call
returned = ticks_from 6 29 ++ (arrive ka ∷ ticks_from 35 11)

pub returned_sits : SitsAt45 returned
unfolding history returned
returned_sits = record { clock = refl; sits = refl }

pub returned_is : (is_slow returned ≡ true) × (is_silent returned ≡ true) × (is_latest returned ≡ false)
unfolding history returned
returned_is = (refl, refl, refl)

-- a refused arrival of its key is none: it has left, and both seats are taken
unfoldable pub refused_arrival : List Call
refused_arrival = leave 0 ∷ arrive kb ∷ arrive kc ∷ arrive ka ∷ []

pub refused_arrival_is : (is_latest refused_arrival ≡ true) × (sitter begin (now refused_arrival) 0 ≡ client_of kb) × (sitter begin (now refused_arrival) 1 ≡ client_of kc)
unfolding history refused_arrival
refused_arrival_is = (refl, refl, refl)

-- a tick that is refused does not move the clock: one with the number 0, and one that goes back
unfoldable pub refused_ticks : List Call
refused_ticks = tick 50 0 ∷ tick 4 1 ∷ []

pub refused_do_not_move : (is_slow refused_ticks ≡ true) × (clock_of begin (now refused_ticks) ≡ 5)
unfolding history refused_ticks
refused_do_not_move = (refl, refl)
