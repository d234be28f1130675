-- Who sits where, who made a call, which requests stand, what time it is, whose ping is not yet answered and whom a tick puts out: functions of calls, answers
-- and bytes sent alone, in the words of documents 01 and 02. Nothing here can see a room.
use Rattle.std.specs.Prelude.{Bool, true, false, ◌&&◌, ◌||◌, not, cond, List, [], ◌∷◌, ℕ, zero, suc, eqb}
use Rattle.key.specs.Keys.{same_key}
use Rattle.packet_laws.specs.Read.{Read}
use Rattle.packet_laws.specs.Read as read
use Rattle.packet_laws.specs.FromClient as client
use Rattle.packet_laws.specs.FromRelay as relay
use Rattle.packet_laws.specs.Table.{kind_of}
use Rattle.rules.specs.Room.{Sizes, Key, Ping, none_since}
use Rattle.rules.specs.Call.{Call, arrive, leave, packet_call, tick, Answer, accepted, refused, Sent}
use Rattle.rules.specs.Outcome.{overdue}
use Rattle.rules.specs.History.{Event}

-- what has happened so far, the newest first
abbrev pub Past : Type 0
Past = List Event

-- who made a call: "with no key there it is nobody's"
pub data Maker : Type 0 where
  nobody : Maker
  client_of : Key → Maker

-- whether it is the client `key`
unfoldable pub is_client : Key → Maker → Bool
is_client key nobody = false
is_client key (client_of k) = same_key k key

-- before the first call: how many seats there are, who sits where, which requests stand, the clock, and the ping of each seat
pub record Start : Type 0 where
  pub seats : ℕ
  pub sits : ℕ → Maker
  pub standing : Key → ℕ → Key → Bool
  pub clock : ℕ
  pub ping : ℕ → Ping

-- from the empty room: nobody, and none; document 02: "a clock in whole seconds, first 0"
abbrev pub from_empty : Sizes → Start
from_empty sizes = record {
  seats = sizes.seats;
  sits = λ seat. nobody;
  standing = λ key number wanted. false;
  clock = 0;
  ping = λ seat. none_since 0;
}

-- "a call is accepted when it gets no refusal"
unfoldable pub is_accepted : Answer → Bool
is_accepted (accepted seat count) = true
is_accepted (refused why) = false

-- ---- the clock: the time that the last accepted tick brought

unfoldable pub clock_after : Call → Answer → ℕ → ℕ
clock_after (arrive key) answer before = before
clock_after (leave seat) answer before = before
clock_after (packet_call seat bytes) answer before = before
clock_after (tick time number) answer before = cond (is_accepted answer) time before

unfoldable pub clock_of : Start → Past → ℕ
clock_of start [] = start.clock
clock_of start (e ∷ past) = clock_after e.call e.answer (clock_of start past)

-- ---- pings: "the time of its last ping and the ping number not yet answered", of a seat

-- "An arrival starts with the last clock as its ping time." Where its client was seated, none is outstanding any more in its old seat
unfoldable pub ping_after_arrival : Key → Answer → ℕ → ℕ → Maker → Ping → Ping
ping_after_arrival key (accepted seat count) clock here who before = cond (eqb seat here) (none_since clock) (cond (is_client key who) (none_since 0) before)
ping_after_arrival key (refused why) clock here who before = before

-- "A pong with the outstanding number clears it; other pongs do nothing."
unfoldable pub ping_after_packet : Read client.FromClient → Ping → Ping
ping_after_packet (read.packet (client.pong n)) before = cond (eqb n before.number) (none_since before.time) before
ping_after_packet (read.packet (client.routing_request key)) before = before
ping_after_packet (read.packet (client.drop_route n)) before = before
ping_after_packet (read.packet (client.ping n)) before = before
ping_after_packet (read.packet (client.oob_send key bytes)) before = before
ping_after_packet (read.packet (client.routed_data n bytes)) before = before
ping_after_packet (read.refused why) before = before

-- whether a ping, which is of kind 4, was sent to a seat
unfoldable pub ping_sent_to : ℕ → List Sent → Bool
ping_sent_to here [] = false
ping_sent_to here (s ∷ rest) = (eqb s.seat here && eqb (kind_of s.bytes) 4) || ping_sent_to here rest

-- a tick pings a seat with its time and its number; where it puts a client out, none is outstanding any more
unfoldable pub ping_after_tick : ℕ → ℕ → List Sent → ℕ → Ping → Ping
ping_after_tick time number sent here before =
    cond (ping_sent_to here sent) (record { time = time; number = number }) (cond (overdue time before) (none_since 0) before)

unfoldable pub ping_after : Call → Answer → List Sent → ℕ → ℕ → Maker → Ping → Ping
ping_after (arrive key) answer sent clock here who before = ping_after_arrival key answer clock here who before
ping_after (leave seat) answer sent clock here who before = cond (is_accepted answer && eqb seat here) (none_since 0) before
ping_after (packet_call seat bytes) answer sent clock here who before =
    cond (is_accepted answer && eqb seat here) (ping_after_packet (client.relay_read bytes) before) before
ping_after (tick time number) answer sent clock here who before = cond (is_accepted answer) (ping_after_tick time number sent here before) before

-- ---- seated: "It is seated from an accepted arrival, in the seat answered, until it leaves"

-- document 02: "an arrival of a seated key has the outcome of the two calls in that order": its client sits in its old seat no more
unfoldable pub sits_after_arrival : Key → Answer → ℕ → Maker → Maker
sits_after_arrival key (accepted seat count) here before = cond (eqb seat here) (client_of key) (cond (is_client key before) nobody before)
sits_after_arrival key (refused why) here before = before

-- a tick: "every seat whose ping has stood unanswered for 10 seconds or more leaves as if it had called"
unfoldable pub sits_after : Call → Answer → ℕ → Ping → Maker → Maker
sits_after (arrive key) answer here ping before = sits_after_arrival key answer here before
sits_after (leave seat) answer here ping before = cond (is_accepted answer && eqb seat here) nobody before
sits_after (packet_call seat bytes) answer here ping before = before
sits_after (tick time number) answer here ping before = cond (is_accepted answer && overdue time ping) nobody before

-- the ping of a seat, and who sits there, after what has happened
unfoldable mutual
  pub ping_of : Start → Past → ℕ → Ping
  ping_of start [] seat = start.ping seat
  ping_of start (e ∷ past) seat = ping_after e.call e.answer e.sent (clock_of start past) seat (sitter start past seat) (ping_of start past seat)

  pub sitter : Start → Past → ℕ → Maker
  sitter start [] seat = start.sits seat
  sitter start (e ∷ past) seat = sits_after e.call e.answer seat (ping_of start past seat) (sitter start past seat)

-- whether a client sits in one of so many seats, from one on; and in any
unfoldable pub sits_from : Start → Past → Key → ℕ → ℕ → Bool
sits_from start past key seat zero = false
sits_from start past key seat (suc many) = is_client key (sitter start past seat) || sits_from start past key (suc seat) many

unfoldable pub is_seated : Start → Past → Key → Bool
is_seated start past key = sits_from start past key 0 start.seats

-- ---- whom a tick puts out, by key, in rising seat order

unfoldable pub key_if : Bool → Maker → List Key → List Key
key_if true (client_of key) later = key ∷ later
key_if true nobody later = later
key_if false who later = later

-- of so many seats, from one on
unfoldable pub overdue_from : Start → Past → ℕ → ℕ → ℕ → List Key
overdue_from start past time seat zero = []
overdue_from start past time seat (suc many) =
    key_if (overdue time (ping_of start past seat)) (sitter start past seat) (overdue_from start past time (suc seat) many)

unfoldable pub put_out_if : Bool → Start → Past → ℕ → List Key
put_out_if false start past time = []
put_out_if true start past time = overdue_from start past time 0 start.seats

unfoldable pub put_out : Start → Past → Call → Answer → List Key
put_out start past (arrive key) answer = []
put_out start past (leave seat) answer = []
put_out start past (packet_call seat bytes) answer = []
put_out start past (tick time number) answer = put_out_if (is_accepted answer) start past time

unfoldable pub is_among : Key → List Key → Bool
is_among key [] = false
is_among key (k ∷ keys) = same_key k key || is_among key keys

-- "An arrival is made by its key, a Leave or a packet by the key then in its seat". A tick is nobody's
unfoldable pub maker : Start → Past → Call → Maker
maker start past (arrive key) = client_of key
maker start past (leave seat) = sitter start past seat
maker start past (packet_call seat bytes) = sitter start past seat
maker start past (tick time number) = nobody

-- ---- standing: "A request stands from an answer other than 0 until its number is dropped or its client leaves."

-- the number that a request was answered with, read off what was sent
unfoldable pub number_read : Read relay.FromRelay → ℕ
number_read (read.packet (relay.routing_response number key)) = number
number_read (read.packet (relay.connect_notice number)) = 0
number_read (read.packet (relay.disconnect_notice number)) = 0
number_read (read.packet (relay.ping n)) = 0
number_read (read.packet (relay.pong n)) = 0
number_read (read.packet (relay.oob_received key bytes)) = 0
number_read (read.packet (relay.routed_data number bytes)) = 0
number_read (read.refused why) = 0

unfoldable pub number_answered : List Sent → ℕ
number_answered [] = 0
number_answered (s ∷ rest) = number_read (relay.client_read s.bytes)

-- one more packet of the client itself: does its request for `wanted` under `number` stand after it
unfoldable pub stands_after_packet : Read client.FromClient → Answer → List Sent → ℕ → Key → Bool → Bool
stands_after_packet (read.packet (client.routing_request key)) answer sent number wanted before =
    cond ((not (eqb number 0) && eqb (number_answered sent) number) && same_key key wanted) true before
stands_after_packet (read.packet (client.drop_route n)) answer sent number wanted before = cond (is_accepted answer && eqb n number) false before
stands_after_packet (read.packet (client.ping n)) answer sent number wanted before = before
stands_after_packet (read.packet (client.pong n)) answer sent number wanted before = before
stands_after_packet (read.packet (client.oob_send key bytes)) answer sent number wanted before = before
stands_after_packet (read.packet (client.routed_data n bytes)) answer sent number wanted before = before
stands_after_packet (read.refused why) answer sent number wanted before = before

-- an accepted arrival ends all requests of its client: one that was seated leaves, and of one that was not none stands
unfoldable pub stands_after_own : Call → Answer → List Sent → ℕ → Key → Bool → Bool
stands_after_own (arrive key) answer sent number wanted before = cond (is_accepted answer) false before
stands_after_own (leave seat) answer sent number wanted before = cond (is_accepted answer) false before
stands_after_own (packet_call seat bytes) answer sent number wanted before = stands_after_packet (client.relay_read bytes) answer sent number wanted before
stands_after_own (tick time ping) answer sent number wanted before = before

unfoldable pub stands_after : Maker → Event → Key → ℕ → Key → Bool → Bool
stands_after nobody e key number wanted before = before
stands_after (client_of k) e key number wanted before = cond (same_key k key) (stands_after_own e.call e.answer e.sent number wanted before) before

-- whether the request of `key` for `wanted`, answered with `number`, stands: "A number names C while its client's request for C's key, answered with
-- that number, stands." None of a client that a tick puts out does: it "leaves as if it had called"
unfoldable pub stands : Start → Past → Key → ℕ → Key → Bool
stands start [] key number wanted = start.standing key number wanted
stands start (e ∷ past) key number wanted =
    cond (is_among key (put_out start past e.call e.answer)) false
    (stands_after (maker start past e.call) e key number wanted (stands start past key number wanted))
