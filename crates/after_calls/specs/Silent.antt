-- A client that never answers: document 02, "Notice dead laptops", "Prove that where the clock moves by at most one second a tick, a client that never answers
-- is gone when the clock is 40 past its latest arrival." What that asks of the calls after an arrival, by what has happened alone, as tests.
use Rattle.std.specs.Prelude.{Bool, true, false, ◌&&◌, not, List, [], ◌∷◌, ◌≡◌, ℕ, suc, eqb, leb}
use Rattle.key.specs.Keys.{same_key}
use Rattle.packet_laws.specs.Read.{Read}
use Rattle.packet_laws.specs.Read as read
use Rattle.packet_laws.specs.FromClient as client
use Rattle.rules.specs.Room.{Key}
use Rattle.rules.specs.Call.{Call, arrive, leave, packet_call, tick}
use Rattle.rules.specs.History.{Event}
use Rattle.rules.specs.Transcript.{Past, Maker, is_client, Start, is_accepted, clock_of, ping_of, maker}

-- a test that each of the events passes, the oldest first, each with what has happened before it
unfoldable pub each : (Past → Event → Bool) → Past → List Event → Bool
each test past [] = true
each test past (e ∷ events) = test past e && each test (e ∷ past) events

-- ---- "its latest arrival"

unfoldable pub arrival_of : Key → Call → Bool
arrival_of key (arrive k) = same_key k key
arrival_of key (leave seat) = false
arrival_of key (packet_call seat bytes) = false
arrival_of key (tick time number) = false

-- an accepted arrival of `key`
unfoldable pub arrives : Key → Event → Bool
arrives key e = arrival_of key e.call && is_accepted e.answer

-- ---- "where the clock moves by at most one second a tick". A refused tick does not move it, and no other call does

unfoldable pub slowly : Start → Past → Event → Bool
slowly start past e = leb (clock_of start (e ∷ past)) (suc (clock_of start past))

-- ---- "a client that never answers"

-- "A pong with the outstanding number clears it; other pongs do nothing." So no other packet is an answer
unfoldable pub bears : Read client.FromClient → ℕ → Bool
bears (read.packet (client.pong n)) outstanding = eqb n outstanding
bears (read.packet (client.routing_request key)) outstanding = false
bears (read.packet (client.drop_route n)) outstanding = false
bears (read.packet (client.ping n)) outstanding = false
bears (read.packet (client.oob_send key bytes)) outstanding = false
bears (read.packet (client.routed_data n bytes)) outstanding = false
bears (read.refused why) outstanding = false

-- whether a call that `who` made is a pong of `key` with the number then outstanding for the seat it came from
unfoldable pub answers_by : Start → Past → Key → Maker → Call → Bool
answers_by start past key who (arrive k) = false
answers_by start past key who (leave seat) = false
answers_by start past key who (packet_call seat bytes) = is_client key who && bears (client.relay_read bytes) (ping_of start past seat).number
answers_by start past key who (tick time number) = false

unfoldable pub answers : Start → Key → Past → Event → Bool
answers start key past e = answers_by start past key (maker start past e.call) e.call

-- after `past` the client `key` arrives, by `e`, and `later` is what happens then
pub record NeverAnswers (start : Start) (past : Past) (key : Key) (e : Event) (later : List Event) : Type 0 where
  -- "its latest arrival": `e` is an accepted arrival of the client, and no later one is
  pub arrival : arrives key e ≡ true
  pub latest : each (λ past e. not (arrives key e)) (e ∷ past) later ≡ true
  -- "where the clock moves by at most one second a tick"
  pub slow : each (slowly start) (e ∷ past) later ≡ true
  -- "a client that never answers"
  pub silent : each (λ past e. not (answers start key past e)) (e ∷ past) later ≡ true
