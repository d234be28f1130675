-- C's view of a room: the clock, who sits where, C's own routes and ping, and for every other seat whether one of its routes names C. And what observing an entry
-- of the record for C yields: the view after it, the packets handed to C, the answers to C's calls. Only `project` is given a room. Other clients' pings are
-- not in the view: all that they do to C is in the ticks' entries. These are means of the proof of demand 3: the statement, `two_histories`, does not name them.
use mathlib.Core.Bool.{Bool, true, false, not, cond}
use mathlib.Core.List.{List, [], ◌∷◌, ◌++◌, map}
use Prim.Native.Nat.{ℕ, ◌-◌}
use lib.Dec.{eqb, ltb}
use lib.ListN.{get_or, set, length}
use Rattle.refusal.specs.declared.Refusal.TheVariants.{RoomFull, NoSuchRoute, NotConnected}
use Rattle.key.specs.Keys.{same_key}
use Rattle.packet_laws.specs.Read.{Read}
use Rattle.packet_laws.specs.Read as read
use Rattle.packet_laws.specs.FromClient as client
use Rattle.packet_laws.specs.FromRelay as relay
use Rattle.rules.specs.Room.{Sizes, Key, Route, free, wants, Seat, vacant, holds, Room, Found, none, at, find, route_to, is_free, route_at, first_number, number_of_place, places_from, Held, none_since, newcomer, set_ping, set_route}
use Rattle.rules.specs.Call.{Call, arrive, leave, packet_call, tick, Answer, accepted, refused, Sent}
use Rattle.rules.specs.Outcome.{sent_bytes, to, overdue, is_due}
use Rattle.rules.specs.Transcript.{is_among}
use Rattle.rules.proofs.SeatedLaws.{is_found}
use Rattle.isolation.specs.Record.{Entry, arrived, departed, own, to_c, dropped_c, data_for_c, ticked, strike}

-- ---- the view

pub data SeatView : Type 0 where
  open_seat : SeatView
  -- C's own, with all that it holds
  own_seat : Held → SeatView
  -- another client's, and whether a route of it names C
  other_seat : Key → Bool → SeatView

pub record View : Type 0 where
  pub seats : List SeatView
  pub clock : ℕ

-- with its clock replaced; with its seats, and with one of them
abbrev pub set_time : View → ℕ → View
set_time v time = record { seats = v.seats; clock = time }

abbrev pub set_views : View → List SeatView → View
set_views v seats = record { seats = seats; clock = v.clock }

abbrev pub set_view : View → ℕ → SeatView → View
set_view v seat s = set_views v (set v.seats seat s)

unfoldable pub view_seat_if : Bool → Key → Held → SeatView
view_seat_if true c held = own_seat held
view_seat_if false c held = other_seat held.key (is_found (find (route_to c) held.routes))

unfoldable pub view_seat : Key → Seat → SeatView
view_seat c vacant = open_seat
view_seat c (holds held) = view_seat_if (same_key held.key c) c held

unfoldable pub project : Key → Room → View
project c room = record { seats = map (view_seat c) room.seats; clock = room.clock }

-- ---- looking things up

unfoldable pub is_open : SeatView → Bool
is_open open_seat = true
is_open (own_seat held) = false
is_open (other_seat key b) = false

unfoldable pub is_held_by : Key → Key → SeatView → Bool
is_held_by c key open_seat = false
is_held_by c key (own_seat held) = same_key c key
is_held_by c key (other_seat k b) = same_key k key

unfoldable pub own_routes : SeatView → List Route
own_routes open_seat = []
own_routes (own_seat held) = held.routes
own_routes (other_seat key b) = []

unfoldable pub names_c : Key → SeatView → Bool
names_c c open_seat = false
names_c c (own_seat held) = is_found (find (route_to c) held.routes)
names_c c (other_seat key b) = b

-- is C, in `seat` with a route for a key, connected by it
unfoldable pub is_connected_in : Found → Key → View → ℕ → Bool
is_connected_in none c v seat = false
is_connected_in (at other) c v seat = cond (eqb seat other) false (names_c c (get_or v.seats other open_seat))

unfoldable pub is_connected : Key → View → ℕ → Key → Bool
is_connected c v seat wanted = is_connected_in (find (is_held_by c wanted) v.seats) c v seat

-- the place of C's route that names a key
unfoldable pub place_if : Found → View → Key → Found
place_if none v key = none
place_if (at seat) v key = find (route_to key) (own_routes (get_or v.seats seat open_seat))

unfoldable pub place_of : Key → View → Key → Found
place_of c v key = place_if (find (is_held_by c c) v.seats) v key

-- ---- what observing an entry yields

-- the view after it, the packets handed to C, the answers to C's calls
pub record Observed : Type 0 where
  pub view : View
  pub packets : List (List ℕ)
  pub answers : List Answer

unfoldable pub observed : View → List (List ℕ) → List Answer → Observed
observed v packets answers = record { view = v; packets = packets; answers = answers }

-- a packet to C under the number of its route at a place
unfoldable pub packet_at : (ℕ → relay.FromRelay) → Found → List (List ℕ)
packet_at p none = []
packet_at p (at place) = relay.relay_bytes (p (number_of_place place)) ∷ []

unfoldable pub only : Bool → List (List ℕ) → List (List ℕ)
only true packets = packets
only false packets = []

-- an answer counts bytes, and a record for a peer is as long whatever the peer's seat and number are: 0 stands for both
unfoldable pub to_one : (ℕ → relay.FromRelay) → Bool → List Sent
to_one p true = to 0 (p 0) ∷ []
to_one p false = []

unfoldable pub to_both : Bool → List Sent
to_both true = to 0 (relay.connect_notice 0) ∷ to 0 (relay.connect_notice 0) ∷ []
to_both false = []

unfoldable pub counted : ℕ → List Sent → List Answer
counted seat sent = accepted seat (length (sent_bytes sent)) ∷ []

-- ---- C's own calls

unfoldable pub notice_by_view : Key → View → ℕ → Route → List Sent
notice_by_view c v seat free = []
notice_by_view c v seat (wants wanted) = to_one relay.disconnect_notice (is_connected c v seat wanted)

unfoldable pub notices_by_view : Key → View → ℕ → List Route → List Sent
notices_by_view c v seat [] = []
notices_by_view c v seat (route ∷ routes) = notice_by_view c v seat route ++ notices_by_view c v seat routes

unfoldable pub own_leave : SeatView → Key → View → ℕ → Observed
own_leave open_seat c v seat = observed v [] []
own_leave (other_seat key b) c v seat = observed v [] []
own_leave (own_seat held) c v seat = observed (set_view v seat open_seat) [] (counted seat (notices_by_view c v seat held.routes))

-- it takes the lowest open seat of a view, once notices are sent
unfoldable pub own_taken : Sizes → Found → Key → View → List Sent → Observed
own_taken sizes none c v sent = observed v [] (refused RoomFull ∷ [])
own_taken sizes (at seat) c v sent = observed (set_view v seat (own_seat (newcomer sizes v.clock c))) [] (counted seat sent)

-- an arrival; where it is seated, it leaves first
unfoldable pub own_arrival : Sizes → Found → Key → View → Observed
own_arrival sizes none c v = own_taken sizes (find is_open v.seats) c v []
own_arrival sizes (at seat) c v =
    let left = set_view v seat open_seat in
    own_taken sizes (find is_open left.seats) c left (notices_by_view c v seat (own_routes (get_or v.seats seat open_seat)))

-- a request of C's that is answered, and nothing else happens
abbrev pub own_answer : View → ℕ → ℕ → Key → Observed
own_answer v seat number wanted = observed v (relay.relay_bytes (relay.routing_response number wanted) ∷ []) (counted seat (to 0 (relay.routing_response 0 wanted) ∷ []))

unfoldable pub own_request : Bool → Found → Found → Key → View → ℕ → Held → Key → Observed
own_request true old lowest c v seat held wanted = own_answer v seat 0 wanted
own_request false (at place) lowest c v seat held wanted = own_answer v seat (number_of_place place) wanted
own_request false none none c v seat held wanted = own_answer v seat 0 wanted
own_request false none (at place) c v seat held wanted =
    observed
    (set_view v seat (own_seat (set_route held place (wants wanted))))
    (relay.relay_bytes (relay.routing_response (number_of_place place) wanted) ∷ only (is_connected c v seat wanted) (relay.relay_bytes (relay.connect_notice (number_of_place place)) ∷ []))
    (counted seat (to 0 (relay.routing_response 0 wanted) ∷ to_both (is_connected c v seat wanted)))

unfoldable pub own_drop : Route → Key → View → ℕ → Held → ℕ → Observed
own_drop free c v seat held number = observed v [] (refused NoSuchRoute ∷ [])
own_drop (wants wanted) c v seat held number =
    observed (set_view v seat (own_seat (set_route held (number - first_number) free))) [] (counted seat (to_one relay.disconnect_notice (is_connected c v seat wanted)))

unfoldable pub own_oob : Found → Key → View → ℕ → Key → List ℕ → Observed
own_oob none c v seat wanted bytes = observed v [] (counted seat [])
own_oob (at other) c v seat wanted bytes =
    observed v (only (same_key wanted c) (relay.relay_bytes (relay.oob_received c bytes) ∷ [])) (counted seat (to 0 (relay.oob_received c bytes) ∷ []))

unfoldable pub own_carry : Bool → View → ℕ → List ℕ → Observed
own_carry false v seat bytes = observed v [] (refused NotConnected ∷ [])
own_carry true v seat bytes = observed v [] (counted seat (to 0 (relay.routed_data 0 bytes) ∷ []))

unfoldable pub own_data : Route → Key → View → ℕ → List ℕ → Observed
own_data free c v seat bytes = observed v [] (refused NoSuchRoute ∷ [])
own_data (wants wanted) c v seat bytes = own_carry (is_connected c v seat wanted) v seat bytes

-- a pong: one with the number that is outstanding clears it
unfoldable pub own_pong : Bool → View → ℕ → Held → Observed
own_pong true v seat held = observed (set_view v seat (own_seat (set_ping held (none_since held.ping.time)))) [] (counted seat [])
own_pong false v seat held = observed v [] (counted seat [])

unfoldable pub own_act : Read client.FromClient → Key → View → ℕ → Held → Observed
own_act (read.packet (client.routing_request wanted)) c v seat held =
    own_request (same_key wanted held.key) (find (route_to wanted) held.routes) (find is_free held.routes) c v seat held wanted
own_act (read.packet (client.drop_route number)) c v seat held = own_drop (route_at held.routes number) c v seat held number
own_act (read.packet (client.ping n)) c v seat held = observed v (relay.relay_bytes (relay.pong n) ∷ []) (counted seat (to 0 (relay.pong n) ∷ []))
own_act (read.packet (client.pong n)) c v seat held = own_pong (eqb n held.ping.number) v seat held
own_act (read.packet (client.oob_send wanted bytes)) c v seat held = own_oob (find (is_held_by c wanted) v.seats) c v seat wanted bytes
own_act (read.packet (client.routed_data number bytes)) c v seat held = own_data (route_at held.routes number) c v seat bytes
own_act (read.refused why) c v seat held = observed v [] (refused why ∷ [])

unfoldable pub own_packet : SeatView → Key → View → ℕ → Read client.FromClient → Observed
own_packet open_seat c v seat r = observed v [] []
own_packet (other_seat key b) c v seat r = observed v [] []
own_packet (own_seat held) c v seat r = own_act r c v seat held

unfoldable pub own_call : Sizes → Key → View → Call → Observed
own_call sizes c v (arrive key) = own_arrival sizes (find (is_held_by c c) v.seats) c v
own_call sizes c v (leave seat) = own_leave (get_or v.seats seat open_seat) c v seat
own_call sizes c v (packet_call seat bytes) = own_packet (get_or v.seats seat open_seat) c v seat (client.relay_read bytes)
own_call sizes c v (tick time number) = observed v [] []

-- ---- other clients' calls

unfoldable pub other_arrived : Found → View → Key → Observed
other_arrived none v key = observed v [] []
other_arrived (at seat) v key = observed (set_view v seat (other_seat key false)) [] []

-- what C is handed where a client with this key leaves, if a route of it names C
abbrev pub lost_notice : Bool → Key → View → Key → List (List ℕ)
lost_notice names c v key = only names (packet_at relay.disconnect_notice (place_of c v key))

unfoldable pub other_departed : Found → Key → View → Key → Observed
other_departed none c v key = observed v [] []
other_departed (at seat) c v key = observed (set_view v seat open_seat) (lost_notice (names_c c (get_or v.seats seat open_seat)) c v key) []

unfoldable pub other_dropped : Found → Key → View → Key → Observed
other_dropped none c v key = observed v [] []
other_dropped (at seat) c v key = observed (set_view v seat (other_seat key false)) (packet_at relay.disconnect_notice (place_of c v key)) []

unfoldable pub other_asked : Key → View → Key → ℕ → Read client.FromClient → Observed
other_asked c v key seat (read.packet (client.routing_request wanted)) =
    observed (set_view v seat (other_seat key true)) (only (not (names_c c (get_or v.seats seat open_seat))) (packet_at relay.connect_notice (place_of c v key))) []
other_asked c v key seat (read.packet (client.oob_send wanted bytes)) =
    observed v (only (is_found (find (is_held_by c c) v.seats)) (relay.relay_bytes (relay.oob_received key bytes) ∷ [])) []
other_asked c v key seat (read.packet (client.drop_route number)) = observed v [] []
other_asked c v key seat (read.packet (client.ping n)) = observed v [] []
other_asked c v key seat (read.packet (client.pong n)) = observed v [] []
other_asked c v key seat (read.packet (client.routed_data number bytes)) = observed v [] []
other_asked c v key seat (read.refused why) = observed v [] []

unfoldable pub other_to_c : Key → View → Key → Call → Observed
other_to_c c v key (arrive k) = observed v [] []
other_to_c c v key (leave seat) = observed v [] []
other_to_c c v key (packet_call seat bytes) = other_asked c v key seat (client.relay_read bytes)
other_to_c c v key (tick time number) = observed v [] []

-- an arrival or a departure of C itself is observed with its own call, which is the entry after it
unfoldable pub arrived_if : Bool → View → Key → Observed
arrived_if true v key = observed v [] []
arrived_if false v key = other_arrived (find is_open v.seats) v key

unfoldable pub departed_if : Bool → Key → View → Key → Observed
departed_if true c v key = observed v [] []
departed_if false c v key = other_departed (find (is_held_by c key) v.seats) c v key

-- ---- ticks

-- a seat that goes: C's own by its own ping and the time, another's by its key. So whether C itself is among the keys is not asked
unfoldable pub goes : ℕ → List Key → SeatView → Bool
goes time out open_seat = false
goes time out (own_seat held) = overdue time held.ping
goes time out (other_seat key b) = is_among key out

-- what C is handed where a seat goes: by its own departure nothing, nor by another's once it has left itself, since then it has no place for the other's key
unfoldable pub lost_by : SeatView → Key → View → List (List ℕ)
lost_by open_seat c v = []
lost_by (own_seat held) c v = []
lost_by (other_seat key b) c v = lost_notice b c v key

-- seats that go, one after the other, each from the view that the last left
unfoldable pub seats_go : Key → View → List ℕ → Observed
seats_go c v [] = observed v [] []
seats_go c v (seat ∷ seats) =
    let rest = seats_go c (set_view v seat open_seat) seats in
    observed rest.view (lost_by (get_or v.seats seat open_seat) c v ++ rest.packets) []

-- then C's own seat is pinged where it is due
unfoldable pub is_own_due : ℕ → SeatView → Bool
is_own_due time open_seat = false
is_own_due time (own_seat held) = is_due time (holds held)
is_own_due time (other_seat key b) = false

unfoldable pub pinged_if : Bool → ℕ → ℕ → Held → SeatView
pinged_if true time number held = own_seat (set_ping held (record { time = time; number = number }))
pinged_if false time number held = own_seat held

unfoldable pub pinged_view : ℕ → ℕ → SeatView → SeatView
pinged_view time number open_seat = open_seat
pinged_view time number (own_seat held) = pinged_if (is_due time (holds held)) time number held
pinged_view time number (other_seat key b) = other_seat key b

-- what it is handed by that
unfoldable pub pings_heard : ℕ → ℕ → List SeatView → List (List ℕ)
pings_heard time number [] = []
pings_heard time number (s ∷ l) = only (is_own_due time s) (relay.relay_bytes (relay.ping number) ∷ []) ++ pings_heard time number l

-- a tick: refused where its number is 0 or its time before the clock
unfoldable pub tick_seen : Bool → Bool → Key → View → ℕ → ℕ → List Key → Observed
tick_seen true back c v time number out = observed v [] []
tick_seen false true c v time number out = observed v [] []
tick_seen false false c v time number out =
    let left = seats_go c (set_time v time) (places_from (goes time out) 0 v.seats) in
    observed (set_views left.view (map (pinged_view time number) left.view.seats)) (left.packets ++ pings_heard time number left.view.seats) []

-- ---- one entry, and a whole record

unfoldable pub observe : Sizes → Key → View → Entry → Observed
observe sizes c v (arrived key) = arrived_if (same_key key c) v key
observe sizes c v (departed key) = departed_if (same_key key c) c v key
observe sizes c v (own call) = own_call sizes c v call
observe sizes c v (to_c key call) = other_to_c c v key call
observe sizes c v (dropped_c key) = other_dropped (find (is_held_by c key) v.seats) c v key
observe sizes c v (data_for_c key bytes) = observed v (packet_at (λ n. relay.routed_data n bytes) (place_of c v key)) []
observe sizes c v (ticked time number out) = tick_seen (eqb number 0) (ltb time v.clock) c v time number (strike c out)

unfoldable pub observed_then : Observed → Observed → Observed
observed_then s t = observed t.view (s.packets ++ t.packets) (s.answers ++ t.answers)

unfoldable pub observe_all : Sizes → Key → View → List Entry → Observed
observe_all sizes c v [] = observed v [] []
observe_all sizes c v (e ∷ es) = observed_then (observe sizes c v e) (observe_all sizes c (observe sizes c v e).view es)
