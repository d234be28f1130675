-- What the host sees of a run of stored calls: the calls that the run played, read at the front of the stored ones, and for each the event in the output. A run
-- writes for each call refusal (1 byte, 0 for none), seat (1), length (2) and the records. The stored bytes, what `banavoge_play` tells and the output are all
-- that is read: nothing here can see a room.
use Rattle.std.specs.Prelude.{cond, List, [], ◌∷◌, ◌≡◌, ℕ, zero, suc, ◌<◌, ℤ, pos, negsuc, eqb, length, get_or, take, drop}
use Rattle.refusal.specs.Numbers.{refusal_of}
use Rattle.wire.specs.Numbers.{number_of}
use Rattle.rules.specs.Call.{Call, Answer, accepted, refused}
use Rattle.rules.specs.Outcome.{sent_bytes}
use Rattle.rules.specs.History.{Event}
use Rattle.records.specs.Read.{too_long}
use Rattle.stored.specs.Stored.{stored_bytes, First, none, call, first_call}
use Rattle.relay_laws.specs.Calls.{written}
use Rattle.banavoge_laws.specs.Runs.{Telling}
use Rattle.histories.specs.Seen.{seen_as}

-- ---- the calls that were played

unfoldable pub calls_from : First → (Call → List Call) → List Call
calls_from none later = []
calls_from (call c) later = c ∷ later c

-- the first so many of the stored calls
unfoldable pub calls_in : ℕ → List ℕ → List Call
calls_in zero stored = []
calls_in (suc more) stored = calls_from (first_call stored) (λ c. calls_in more (drop (length (stored_bytes c)) stored))

-- ---- their events

-- the answer that a head tells: refusal, seat and length
unfoldable pub answer_told : ℕ → ℕ → ℕ → Answer
answer_told refusal seat size = cond (eqb refusal 0) (accepted seat size) (refused (refusal_of refusal))

unfoldable pub answer_in : List ℕ → Answer
answer_in out = answer_told (get_or out 0 0) (get_or out 1 0) (number_of (take 2 (drop 2 out)))

-- each entry is seen as the output of a single call is: its answer, and the records behind its head
unfoldable pub events_in : List Call → List ℕ → List Event
events_in [] out = []
events_in (c ∷ calls) out = seen_as c (answer_in out) (drop 4 out) ∷ events_in calls (drop (written (answer_in out)) (drop 4 out))

-- the answer of an event counts the bytes of its records, and they are few enough for a length of two bytes
abbrev pub Readable : Event → Type 0
Readable e = (written e.answer ≡ length (sent_bytes e.sent)) × (length (sent_bytes e.sent) < too_long)

abbrev pub AllReadable : List Event → Type 0
AllReadable [] = Unit {0}
AllReadable (e ∷ events) = Readable e × AllReadable events

-- how many calls were played: what is told, or none where the run was refused
unfoldable pub played_told : ℤ → ℕ → ℕ
played_told (pos why) played = played
played_told (negsuc less) played = 0

unfoldable pub run_seen : List ℕ → Telling → List ℕ → List Event
run_seen stored t out = events_in (calls_in (played_told t.answer t.counts.played) stored) out
