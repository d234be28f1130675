-- What the host sees of an exported call: the number that it answers, the seat, and the records in the output. An event is read off the call, the seat, the number
-- and the bytes of the output alone: nothing here can see a room. The seat of an Arrive is what stands in the place that the host lent for it, that of a Leave or
-- a packet is the call's own, and a tick has 0.
use Rattle.std.specs.Prelude.{List, ℕ, suc, ℤ, pos, negsuc, take}
use Rattle.refusal.specs.Numbers.{refusal_of}
use Rattle.rules.specs.Call.{Call, Answer, accepted, refused, Sent}
use Rattle.rules.specs.History.{Event}
use Rattle.records.specs.Read.{records_in}
use Rattle.relay_laws.specs.Calls.{written}

-- ---- the records

-- the records that a call wrote: those in the bytes that its answer counts, of which there are no more than bytes
unfoldable pub records_read : Answer → List ℕ → List Sent
records_read given out = records_in (written given) (take (written given) out)

-- the call, its answer, and the records in the output that it left
unfoldable pub seen_as : Call → Answer → List ℕ → Event
seen_as call given out = record { call = call; answer = given; sent = records_read given out }

-- ---- the number

-- of 0 or more: how many bytes were written. Below 0: minus a refusal's number
unfoldable pub answered : ℕ → ℤ → Answer
answered seat (pos count) = accepted seat count
answered seat (negsuc less) = refused (refusal_of (suc less))

-- ---- the event

unfoldable pub seen : Call → ℕ → ℤ → List ℕ → Event
seen call seat number out = seen_as call (answered seat number) out
