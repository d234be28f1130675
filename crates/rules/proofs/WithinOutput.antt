-- No call writes more than the output that it needs: document 01's bound for lent output, "under 2,048 for packet and leave", and document 02's, "10 (tick
-- output under 5,120)" and "arrival checks 10 (2,048)". In a whole room of at most 40 seats and 240 numbers, whose seated keys have 32 bytes at most, a leave
-- writes 5 bytes for each connected peer, a request 37, and 10 more where it connects, a drop 5, a ping 12, an out-of-band send 1,060 at most, data 2,035 at
-- most, an arrival what a leave does, and a tick 4,380 at most (`TickWithin`). So output that the papers ask for is never too short. And the seated keys stay
-- so over every call, where one who arrives has such a key. Assumes nothing.
use mathlib.Core.Path.{◌≡◌, refl, ap, subst, ◌∙◌}
use mathlib.Core.Bool.{Bool, true, false, ◌&&◌, cond}
use mathlib.Core.List.{List, [], ◌∷◌}
use Prim.Native.Nat.{ℕ, ◌*◌, ◌≤◌}
use native.Mathlib.Omega.{arith}
use lib.Dec.{eqb, ltb}
use lib.ListN.{length, length-append}
use Rattle.wire.proofs.Numbers.{length_bytes_of}
use Rattle.key.specs.Keys.{same_key}
use Rattle.packet_laws.specs.Read.{Read}
use Rattle.packet_laws.specs.Read as read
use Rattle.packet_laws.specs.FromClient as client
use Rattle.packet_laws.specs.FromClient.{Within}
use Rattle.packet_laws.specs.FromRelay as relay
use Rattle.packet_laws.proofs.ReadBounds.{read_within}
use Rattle.rules.specs.Room.{Sizes, Key, Route, free, wants, Ping, Seat, vacant, holds, Room, Found, none, at, find, seat_of, route_to, is_free, ping_in, seat_at, route_at, number_of_place, Peer, alone, joined, Held}
use Rattle.rules.specs.Whole.{Whole, ShortKeys}
use Rattle.rules.specs.Call.{Call, arrive, leave, packet_call, tick, needed, most_needed, Answer, accepted, refused, Sent}
use Rattle.rules.specs.Outcome.{refuse, accept, sent_bytes, room_after, peer, to_peer, to, tell_peer, tell_peers, leave_from, tell_both, request_at, drop_at, oob_to, carry_to, data_at, pong_at, act, act_on, packet_from, overdue, outcome}
use Rattle.rules.specs.History.{event}
use Rattle.rules.specs.Transcript.{Maker, nobody, client_of, is_client, is_accepted, ping_of, sits_after, sits_after_arrival, sitter}
use Rattle.rules.specs.After.{client_in, start_of}
use Rattle.rules.proofs.SentLaws.{count_more, count_one, count_append}
use Rattle.rules.proofs.TickWithin.{tick_at_within}
use Rattle.rules.proofs.ComesBack.{held, sits_there, some_empty, comes_back_to, new_sends_nothing}
use Rattle.rules.proofs.Tied.{tied_start, tied_after}

-- ---- records

-- how many bytes records take
abbrev size : List Sent → ℕ
size sent = length (sent_bytes sent)

none_within : (most : ℕ) → size [] ≤ most
unfolding sent_bytes
none_within most = omega arith

notice_within : (p : Peer) → size (to_peer relay.disconnect_notice p) ≤ 5
unfolding to_peer to relay.relay_bytes
notice_within alone = none_within _
notice_within (joined seat place) = omega (arith, count_one (to seat (relay.disconnect_notice (number_of_place place))))

both_within : (seat number : ℕ) (p : Peer) → size (tell_both seat number p) ≤ 10
unfolding tell_both to relay.relay_bytes
both_within seat number alone = none_within _
both_within seat number (joined other place) =
    let theirs = to other (relay.connect_notice (number_of_place place)) in
    omega (arith, count_more (to seat (relay.connect_notice number)) (theirs ∷ []), count_one theirs)

-- ---- each call

module _ (room : Room) where
  -- for one number of a client that leaves
  pub tell_within : (seat : ℕ) (key : Key) (route : Route) → length (sent_bytes (tell_peer room seat key route)) ≤ 5
  unfolding tell_peer
  tell_within seat key free = none_within 5
  tell_within seat key (wants wanted) = notice_within (peer room seat key wanted)

  tells_within : (seat : ℕ) (key : Key) (routes : List Route) → size (tell_peers room seat key routes) ≤ 5 * length routes
  unfolding tell_peers
  tells_within seat key [] = none_within 0
  tells_within seat key (route ∷ routes) =
      let h = tells_within seat key routes in
      let g = tell_within seat key route in
      omega (arith, count_append (tell_peer room seat key route) (tell_peers room seat key routes))

  request_within : (own : Bool) (old lowest : Found) (seat : ℕ) (key wanted : Key) → length wanted ≡ 32 → size (request_at own old lowest room seat key wanted).sent ≤ 47
  unfolding request_at accept to relay.relay_bytes
  request_within true old lowest seat key wanted l = omega (arith, count_one (to seat (relay.routing_response 0 wanted)))
  request_within false (at place) lowest seat key wanted l = omega (arith, count_one (to seat (relay.routing_response (number_of_place place) wanted)))
  request_within false none none seat key wanted l = omega (arith, count_one (to seat (relay.routing_response 0 wanted)))
  request_within false none (at place) seat key wanted l =
      let told = tell_both seat (number_of_place place) (peer room seat key wanted) in
      let h = both_within seat (number_of_place place) (peer room seat key wanted) in
      omega (arith, count_more (to seat (relay.routing_response (number_of_place place) wanted)) told)

  drop_within : (route : Route) (seat : ℕ) (key : Key) (number : ℕ) → size (drop_at route room seat key number).sent ≤ 5
  unfolding drop_at refuse accept
  drop_within free seat key number = none_within _
  drop_within (wants wanted) seat key number = notice_within (peer room seat key wanted)

  oob_within : (other : Found) (seat : ℕ) (key : Key) (bytes : List ℕ) → length key ≤ 32 → length bytes ≤ 1024 → size (oob_to other seat key bytes).sent ≤ 1060
  unfolding oob_to accept to relay.relay_bytes
  oob_within none seat key bytes k l = none_within _
  oob_within (at other) seat key bytes k l = omega (arith, count_one (to other (relay.oob_received key bytes)), length-append key bytes)

  carry_within : (p : Peer) (seat : ℕ) (bytes : List ℕ) → length bytes ≤ 2031 → size (carry_to p seat bytes).sent ≤ 2035
  unfolding carry_to refuse accept to relay.relay_bytes
  carry_within alone seat bytes l = none_within _
  carry_within (joined other place) seat bytes l = omega (arith, count_one (to other (relay.routed_data (number_of_place place) bytes)))

  data_within : (route : Route) (seat : ℕ) (key : Key) (bytes : List ℕ) → length bytes ≤ 2031 → size (data_at route room seat key bytes).sent ≤ 2035
  unfolding data_at refuse
  data_within free seat key bytes l = none_within _
  data_within (wants wanted) seat key bytes l = carry_within (peer room seat key wanted) seat bytes l

  pong_within : (t : Bool) (seat : ℕ) → size (pong_at t seat).sent ≤ 0
  unfolding pong_at accept
  pong_within true seat = none_within _
  pong_within false seat = none_within _

  act_within : (p : client.FromClient) → Within p → (seat : ℕ) (held : Held) → length held.key ≤ 32 → size (act p room seat held).sent ≤ 2035
  unfolding act accept to relay.relay_bytes Within
  act_within (client.routing_request wanted) w seat held k =
      let h = request_within (same_key wanted held.key) (find (route_to wanted) held.routes) (find is_free held.routes) seat held.key wanted w in omega arith
  act_within (client.drop_route number) w seat held k = let h = drop_within (route_at held.routes number) seat held.key number in omega arith
  act_within (client.ping n) w seat held k = omega (arith, count_one (to seat (relay.pong n)), length_bytes_of 8 n)
  act_within (client.pong n) w seat held k = let h = pong_within (eqb n held.ping.number) seat in omega arith
  act_within (client.oob_send wanted bytes) w seat held k = let h = oob_within (find (seat_of wanted) room.seats) seat held.key bytes k w.1 in omega arith
  act_within (client.routed_data number bytes) w seat held k = let h = data_within (route_at held.routes number) seat held.key bytes w.1 in omega arith

  acted_within : (bytes : List ℕ) (r : Read client.FromClient) → client.relay_read bytes ≡ r → (seat : ℕ) (held : Held) → length held.key ≤ 32
      → size (act_on r room seat held).sent ≤ 2035
  unfolding act_on refuse
  acted_within bytes (read.packet p) e seat held k = act_within p (read_within bytes p e) seat held k
  acted_within bytes (read.refused why) e seat held k = none_within _

module _ (sizes : Sizes) (few : sizes.numbers ≤ 240) (room : Room) (whole : Whole sizes room) where
  pub leave_within : (seat : ℕ) (x : Seat) → seat_at room seat ≡ x → size (leave_from x room seat).sent ≤ 1200
  unfolding leave_from refuse accept
  leave_within seat vacant e = none_within _
  leave_within seat (holds held) e = omega (arith, tells_within room seat held.key held.routes, whole.numbers seat held e)

module _ (sizes : Sizes) (seats : sizes.seats ≤ 40) (few : sizes.numbers ≤ 240) (room : Room) (whole : Whole sizes room) (keys : ShortKeys room) where
  packet_within : (seat : ℕ) (bytes : List ℕ) (x : Seat) → seat_at room seat ≡ x → size (packet_from x room seat bytes).sent ≤ 2035
  unfolding packet_from refuse
  packet_within seat bytes vacant e = none_within _
  packet_within seat bytes (holds held) e = acted_within room bytes (client.relay_read bytes) refl seat held (keys seat held e)

  -- an arrival: of a key that is not seated nothing, of a seated one what its leave writes
  back_within : (key : Key) (seat : ℕ) → find (seat_of key) room.seats ≡ at seat → size (outcome room (arrive key)).sent ≤ 1200
  unfolding leave_from accept
  back_within key seat e =
      let low = some_empty room key seat e in
      rw (comes_back_to room key seat e low.place low.lowest) (leave_within sizes few room whole seat (holds (held room key seat e)) (sits_there room key seat e))

  arrive_within : (key : Key) (f : Found) → find (seat_of key) room.seats ≡ f → size (outcome room (arrive key)).sent ≤ 1200
  arrive_within key none e = omega (arith, ap size (new_sends_nothing room key e), none_within 0)
  arrive_within key (at seat) e = back_within key seat e

  -- THE LAW
  pub sent_within : (call : Call) → length (sent_bytes (outcome room call).sent) ≤ needed call
  unfolding outcome
  sent_within (arrive key) = omega (arith, arrive_within key (find (seat_of key) room.seats) refl)
  sent_within (leave seat) = omega (arith, leave_within sizes few room whole seat (seat_at room seat) refl)
  sent_within (packet_call seat bytes) = omega (arith, packet_within seat bytes (seat_at room seat) refl)
  sent_within (tick time number) = tick_at_within sizes seats room whole (eqb number 0) (ltb time room.clock) time number

pub needs_within : (call : Call) → needed call ≤ most_needed
needs_within (arrive key) = omega arith
needs_within (leave seat) = omega arith
needs_within (packet_call seat bytes) = omega arith
needs_within (tick time number) = omega arith

-- ---- the keys stay short

abbrev ShortOf : Maker → Type 0
ShortOf nobody = Unit {0}
ShortOf (client_of key) = length key ≤ 32

one_of : (t : Bool) (a b : Maker) → ShortOf a → ShortOf b → ShortOf (cond t a b)
one_of true a b h g = h
one_of false a b h g = g

-- who sits in a seat after a call sat there before, or arrived
sits_short : (call : Call) (answer : Answer) (here : ℕ) (ping : Ping) (before : Maker) → ((key : Key) → call ≡ arrive key → length key ≤ 32) → ShortOf before
    → ShortOf (sits_after call answer here ping before)
unfolding sits_after sits_after_arrival
sits_short (arrive key) (accepted seat count) here ping before k h = one_of (eqb seat here) (client_of key) (cond (is_client key before) nobody before) (k key refl) (one_of (is_client key before) nobody before tt h)
sits_short (arrive key) (refused why) here ping before k h = h
sits_short (leave seat) answer here ping before k h = one_of (is_accepted answer && eqb seat here) nobody before tt h
sits_short (packet_call seat bytes) answer here ping before k h = h
sits_short (tick time number) answer here ping before k h = one_of (is_accepted answer && overdue time ping) nobody before tt h

pub keys_stay_short : (sizes : Sizes) (room : Room) → Whole sizes room → ShortKeys room → (call : Call) → ((key : Key) → call ≡ arrive key → length key ≤ 32)
    → ShortKeys (room_after sizes room (outcome room call))
unfolding client_in start_of sitter ping_of event
keys_stay_short sizes room whole keys call k seat held e =
    let t = (tied_after sizes (start_of room) [] room whole (tied_start room) call).sits seat in
    subst ShortOf (t ∙ ap client_in e) (sits_short call (outcome room call).answer seat (ping_in (seat_at room seat)) (client_in (seat_at room seat)) k (before (seat_at room seat) refl))
  where
    before : (x : Seat) → seat_at room seat ≡ x → ShortOf (client_in x)
    before vacant q = tt
    before (holds held') q = keys seat held' q
