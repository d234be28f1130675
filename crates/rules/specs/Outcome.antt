-- What each call does: document 01, "The room", sentence by sentence, with document 02's "A client that asks for itself", "Notice dead laptops" and "One call
-- when a laptop comes back". An outcome is an answer, the changes that it makes to the room, and what it sends. To be read for whole rooms (`Whole`): refusal
-- 11, and 10, belong to lent memory and stand where the lent room and output do.
use Rattle.std.specs.Prelude.{Bool, true, false, ◌&&◌, not, List, [], ◌∷◌, ◌++◌, map, ℕ, ◌-◌, eqb, leb, ltb, length, set}
use Rattle.refusal.specs.declared.Refusal.{Refusal}
use Rattle.refusal.specs.declared.Refusal.TheVariants.{RoomFull, NotSeated, ZeroPing, NoSuchRoute, NotConnected, ClockBack}
use Rattle.wire.specs.Numbers.{bytes_of}
use Rattle.key.specs.Keys.{same_key}
use Rattle.packet_laws.specs.Read.{Read}
use Rattle.packet_laws.specs.Read as read
use Rattle.packet_laws.specs.FromClient as client
use Rattle.packet_laws.specs.FromRelay as relay
use Rattle.rules.specs.Room.{Sizes, Key, Route, free, wants, Ping, Held, Seat, vacant, holds, Room, none_since, newcomer, set_ping, set_route, set_clock, set_seat, Found, none, at, find, seat_of, is_vacant, route_to, is_free, routes_of, ping_in, seat_at, route_at, first_number, number_of_place, places_from, Peer, alone, joined}
use Rattle.rules.specs.Call.{Call, arrive, leave, packet_call, tick, Answer, accepted, refused, Sent}

-- ---- changes

-- a route by its seat and its place, which is its number less 16
pub data Change : Type 0 where
  seat_taken : ℕ → Key → Change
  seat_emptied : ℕ → Change
  route_given : ℕ → ℕ → Key → Change
  route_freed : ℕ → ℕ → Change
  -- the clock is set to a time; a seat was pinged at a time, with a number; the ping of a seat was answered
  clock_set : ℕ → Change
  ping_sent : ℕ → ℕ → ℕ → Change
  ping_answered : ℕ → Change

-- a seat with one of its routes replaced; pinged at a time, with a number; with none outstanding any more
unfoldable pub with_route : Seat → ℕ → Route → Seat
with_route vacant place route = vacant
with_route (holds held) place route = holds (set_route held place route)

unfoldable pub with_ping : Seat → ℕ → ℕ → Seat
with_ping vacant time number = vacant
with_ping (holds held) time number = holds (set_ping held (record { time = time; number = number }))

unfoldable pub without_ping : Seat → Seat
without_ping vacant = vacant
without_ping (holds held) = holds (set_ping held (none_since held.ping.time))

unfoldable pub apply : Sizes → Room → Change → Room
apply sizes room (seat_taken seat key) = set_seat room seat (holds (newcomer sizes room.clock key))
apply sizes room (seat_emptied seat) = set_seat room seat vacant
apply sizes room (route_given seat place key) = set_seat room seat (with_route (seat_at room seat) place (wants key))
apply sizes room (route_freed seat place) = set_seat room seat (with_route (seat_at room seat) place free)
apply sizes room (clock_set time) = set_clock room time
apply sizes room (ping_sent seat time number) = set_seat room seat (with_ping (seat_at room seat) time number)
apply sizes room (ping_answered seat) = set_seat room seat (without_ping (seat_at room seat))

unfoldable pub apply_all : Sizes → Room → List Change → Room
apply_all sizes room [] = room
apply_all sizes room (change ∷ changes) = apply_all sizes (apply sizes room change) changes

-- ---- outcomes

pub record Outcome : Type 0 where
  pub answer : Answer
  pub changes : List Change
  pub sent : List Sent

unfoldable pub refuse : Refusal → Outcome
refuse why = record { answer = refused why; changes = []; sent = [] }

-- "What is sent is a run of records in the lent output: seat (1 byte), length (2), the packet."
unfoldable pub record_bytes : Sent → List ℕ
record_bytes s = s.seat ∷ (bytes_of 2 (length s.bytes) ++ s.bytes)

unfoldable pub sent_bytes : List Sent → List ℕ
sent_bytes [] = []
sent_bytes (s ∷ rest) = record_bytes s ++ sent_bytes rest

-- "An accepted call answers how many bytes it wrote"
unfoldable pub accept : ℕ → List Change → List Sent → Outcome
accept seat changes sent = record { answer = accepted seat (length (sent_bytes sent)); changes = changes; sent = sent }

-- one packet of the relay's for a seat
unfoldable pub to : ℕ → relay.FromRelay → Sent
to seat p = record { seat = seat; bytes = relay.relay_bytes p }

unfoldable pub room_after : Sizes → Room → Outcome → Room
room_after sizes room outcome = apply_all sizes room outcome.changes

-- one after the other, as one call. Where both are accepted the answer has the second's seat and the bytes of both. Where one is refused the whole is, and does
-- nothing: "A refusal answers its number with 0 bytes written; room [..] as before the call."
unfoldable pub join_outcomes : Answer → Answer → Outcome → Outcome → Outcome
join_outcomes (refused why) later first second = refuse why
join_outcomes (accepted seat count) (refused why) first second = refuse why
join_outcomes (accepted seat count) (accepted seat' count') first second = accept seat' (first.changes ++ second.changes) (first.sent ++ second.sent)

abbrev pub followed_by : Outcome → Outcome → Outcome
followed_by first second = join_outcomes first.answer second.answer first second

-- the second from the room that the first leaves
unfoldable pub and_then : Sizes → Room → Outcome → (Room → Outcome) → Outcome
and_then sizes room first next = followed_by first (next (room_after sizes room first))

-- ---- connected: "Two clients are connected when they sit in different seats and each has a route naming the other's key."

unfoldable pub joined_by : ℕ → Found → Peer
joined_by seat none = alone
joined_by seat (at place) = joined seat place

unfoldable pub peer_at : Bool → Room → Key → ℕ → Peer
peer_at true room key seat = alone
peer_at false room key seat = joined_by seat (find (route_to key) (routes_of (seat_at room seat)))

-- where the client at `seat`, whose key is `key`, has a route naming `wanted`, or is being given one: its peer, if they are connected. Asked of the other
-- side alone, so the room before the new route serves; that what it finds is who is connected is shown in `after_calls`, `PeerConnected.antt`
unfoldable pub peer_in : Found → Room → ℕ → Key → Peer
peer_in none room seat key = alone
peer_in (at other) room seat key = peer_at (eqb seat other) room key other

unfoldable pub peer : Room → ℕ → Key → Key → Peer
peer room seat key wanted = peer_in (find (seat_of wanted) room.seats) room seat key

-- one packet for a connected peer, under the peer's own number
unfoldable pub to_peer : (ℕ → relay.FromRelay) → Peer → List Sent
to_peer p alone = []
to_peer p (joined seat place) = to seat (p (number_of_place place)) ∷ []

-- ---- Leave(seat): "in rising route number, each connected peer is told disconnected with the peer's own number; its route goes on waiting. The
-- seat and its routes are emptied."

unfoldable pub tell_peer : Room → ℕ → Key → Route → List Sent
tell_peer room seat key free = []
tell_peer room seat key (wants wanted) = to_peer relay.disconnect_notice (peer room seat key wanted)

unfoldable pub tell_peers : Room → ℕ → Key → List Route → List Sent
tell_peers room seat key [] = []
tell_peers room seat key (route ∷ routes) = tell_peer room seat key route ++ tell_peers room seat key routes

unfoldable pub leave_from : Seat → Room → ℕ → Outcome
leave_from vacant room seat = refuse NotSeated
leave_from (holds held) room seat = accept seat (seat_emptied seat ∷ []) (tell_peers room seat held.key held.routes)

-- ---- Arrive(key): "takes the lowest empty seat and answers with it." Document 02: "1 is given only to a key not seated"

unfoldable pub take_seat : Found → Key → Outcome
take_seat none key = refuse RoomFull
take_seat (at seat) key = accept seat (seat_taken seat key ∷ []) []

-- document 02: "an arrival of a seated key has the outcome of the two calls in that order, notices and all": of Leave, and then of Arrive from the room after it,
-- in which that seat is empty. That this is `and_then` of the two outcomes is `comes_back` (proofs/ComesBack.antt)
unfoldable pub arrive_from : Found → Room → Key → Outcome
arrive_from none room key = take_seat (find is_vacant room.seats) key
arrive_from (at seat) room key = followed_by (leave_from (seat_at room seat) room seat) (take_seat (find is_vacant (set room.seats seat vacant)) key)

-- ---- the packets of a client at `seat`

-- "connected is sent to the asker, then to the peer, each with its own number"
unfoldable pub tell_both : ℕ → ℕ → Peer → List Sent
tell_both seat number alone = []
tell_both seat number (joined other place) = to seat (relay.connect_notice number) ∷ to other (relay.connect_notice (number_of_place place)) ∷ []

-- a request that is answered with a number, or with 0 for none, "and nothing else happens"
abbrev pub answer_only : ℕ → ℕ → Key → Outcome
answer_only seat number wanted = accept seat [] (to seat (relay.routing_response number wanted) ∷ [])

-- Request, first of a client's own key: document 02, "The answer becomes 0 and no route is taken, tested before the search for an old number." Of another's:
-- "a key already named by this seat gets its old number again and nothing else happens. Otherwise the lowest free number is taken, or, with none free, the
-- answer is 0 and nothing changes. Then, if the two are now connected, connected is sent". It goes by whether the key is the client's own, where it has an
-- old number, and which is the lowest free
unfoldable pub request_at : Bool → Found → Found → Room → ℕ → Key → Key → Outcome
request_at true old lowest room seat key wanted = answer_only seat 0 wanted
request_at false (at place) lowest room seat key wanted = answer_only seat (number_of_place place) wanted
request_at false none none room seat key wanted = answer_only seat 0 wanted
request_at false none (at place) room seat key wanted =
    accept seat (route_given seat place wanted ∷ [])
    (to seat (relay.routing_response (number_of_place place) wanted) ∷ tell_both seat (number_of_place place) (peer room seat key wanted))

-- Drop(number): "frees it. A connected peer is told disconnected. The dropper hears nothing."
unfoldable pub drop_at : Route → Room → ℕ → Key → ℕ → Outcome
drop_at free room seat key number = refuse NoSuchRoute
drop_at (wants wanted) room seat key number =
    accept seat (route_freed seat (number - first_number) ∷ []) (to_peer relay.disconnect_notice (peer room seat key wanted))

-- Out-of-band send: "goes to the seat holding the key, the sender included, with the sender's key put in. With no such seat it is accepted and
-- nothing is sent."
unfoldable pub oob_to : Found → ℕ → Key → List ℕ → Outcome
oob_to none seat key bytes = accept seat [] []
oob_to (at other) seat key bytes = accept seat [] (to other (relay.oob_received key bytes) ∷ [])

-- Data: "on a connected number goes to the peer under the peer's number"
unfoldable pub carry_to : Peer → ℕ → List ℕ → Outcome
carry_to alone seat bytes = refuse NotConnected
carry_to (joined other place) seat bytes = accept seat [] (to other (relay.routed_data (number_of_place place) bytes) ∷ [])

unfoldable pub data_at : Route → Room → ℕ → Key → List ℕ → Outcome
data_at free room seat key bytes = refuse NoSuchRoute
data_at (wants wanted) room seat key bytes = carry_to (peer room seat key wanted) seat bytes

-- Pong: document 02, "A pong with the outstanding number clears it; other pongs do nothing."
unfoldable pub pong_at : Bool → ℕ → Outcome
pong_at true seat = accept seat (ping_answered seat ∷ []) []
pong_at false seat = accept seat [] []

unfoldable pub act : client.FromClient → Room → ℕ → Held → Outcome
act (client.routing_request wanted) room seat held =
    request_at (same_key wanted held.key) (find (route_to wanted) held.routes) (find is_free held.routes) room seat held.key wanted
act (client.drop_route number) room seat held = drop_at (route_at held.routes number) room seat held.key number
-- "Ping sends the asker a pong with the same number."
act (client.ping n) room seat held = accept seat [] (to seat (relay.pong n) ∷ [])
act (client.pong n) room seat held = pong_at (eqb n held.ping.number) seat
act (client.oob_send wanted bytes) room seat held = oob_to (find (seat_of wanted) room.seats) seat held.key bytes
act (client.routed_data number bytes) room seat held = data_at (route_at held.routes number) room seat held.key bytes

unfoldable pub act_on : Read client.FromClient → Room → ℕ → Held → Outcome
act_on (read.packet p) room seat held = act p room seat held
act_on (read.refused why) room seat held = refuse why

-- "Order for a packet call: 10, 11, 3, 4, 5, 6, 7, 8, 9": the seat, then what the relay reads, then the act
unfoldable pub packet_from : Seat → Room → ℕ → List ℕ → Outcome
packet_from vacant room seat bytes = refuse NotSeated
packet_from (holds held) room seat bytes = act_on (client.relay_read bytes) room seat held

-- ---- Tick(time, number): document 02, "Notice dead laptops"

-- "whose ping has stood unanswered for 10 seconds or more", at the tick's time
unfoldable pub overdue : ℕ → Ping → Bool
overdue time ping = not (eqb ping.number 0) && leb 10 (time - ping.time)

unfoldable pub is_overdue : ℕ → Seat → Bool
is_overdue time seat = overdue time (ping_in seat)

-- "with none outstanding, last pinged 30 seconds ago or more", at the tick's time
unfoldable pub is_due : ℕ → Seat → Bool
is_due time vacant = false
is_due time (holds held) = eqb held.ping.number 0 && leb 30 (time - held.ping.time)

-- two outcomes of one tick, the one after the other: the changes and the records of both. No part of a tick is refused: each seat that leaves holds a client. So
-- this is `and_then` of the Leaves, and then of the pings (`leave_then` and `tick_in_turn`, proofs/TickInTurn.antt)
abbrev pub both : Outcome → Outcome → Outcome
both first second = accept 0 (first.changes ++ second.changes) (first.sent ++ second.sent)

-- "First, in rising seat order, every seat [..] leaves as if it had called": each from the room that the last left. The seats are those that go
unfoldable pub leave_each : Room → List ℕ → Outcome
leave_each room [] = accept 0 [] []
leave_each room (seat ∷ seats) = both (leave_from (seat_at room seat) room seat) (leave_each (set_seat room seat vacant) seats)

-- "Then every remaining seat [..] is pinged in that order."
unfoldable pub ping_each : ℕ → ℕ → List ℕ → Outcome
ping_each time number seats = accept 0 (map (λ seat. ping_sent seat time number) seats) (map (λ seat. to seat (relay.ping number)) seats)

-- the seats that a tick puts out, and those that it pings: one that is put out has a ping outstanding, so it is not pinged
unfoldable pub leavers : ℕ → Room → List ℕ
leavers time room = places_from (is_overdue time) 0 room.seats

unfoldable pub due_seats : ℕ → Room → List ℕ
due_seats time room = places_from (is_due time) 0 room.seats

-- the clock is set, the departures, then the pings
unfoldable pub tick_from : Room → ℕ → ℕ → Outcome
tick_from room time number =
    both (accept 0 (clock_set time ∷ []) [])
    (both (leave_each (set_clock room time) (leavers time room)) (ping_each time number (due_seats time room)))

-- "Refusals: 10 (tick output under 5,120), 11, 7, 19 for a clock that goes back."
unfoldable pub tick_at : Bool → Bool → Room → ℕ → ℕ → Outcome
tick_at true back room time number = refuse ZeroPing
tick_at false true room time number = refuse ClockBack
tick_at false false room time number = tick_from room time number

unfoldable pub outcome : Room → Call → Outcome
outcome room (arrive key) = arrive_from (find (seat_of key) room.seats) room key
outcome room (leave seat) = leave_from (seat_at room seat) room seat
outcome room (packet_call seat bytes) = packet_from (seat_at room seat) room seat bytes
outcome room (tick time number) = tick_at (eqb number 0) (ltb time room.clock) room time number
