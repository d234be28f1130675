-- A leave or a packet changes at most the seat it is made at, and an arrival the seat that it is answered with and the seat where its client sat: every other seat
-- keeps its key, its routes and its ping. So a disconnect, by a drop, by a leave or by a client that comes back, leaves the peer's request standing: "its route
-- goes on waiting". Assumes nothing.
use mathlib.Core.Path.{◌≡◌, refl, sym, ap, ◌∙◌}
use mathlib.Core.Bool.{Bool, true, false, true≢false}
use mathlib.Core.List.{List, [], ◌∷◌}
use mathlib.Core.Logic.{◌≢◌}
use Prim.Native.Nat.{ℕ, ◌-◌}
use lib.Dec.{eqb}
use Rattle.key.specs.Keys.{same_key}
use Rattle.packet_laws.specs.Read.{Read}
use Rattle.packet_laws.specs.Read as read
use Rattle.packet_laws.specs.FromClient as client
use Rattle.rules.specs.Room.{Sizes, Key, Route, free, wants, Held, Seat, vacant, holds, Room, set_seat, Found, none, at, find, seat_of, is_vacant, route_to, is_free, seat_at, route_at, first_number, Peer, alone, joined}
use Rattle.rules.specs.Call.{arrive, leave, packet_call, accepted}
use Rattle.rules.specs.Outcome.{with_route, without_ping, apply, apply_all, Outcome, refuse, accept, room_after, peer, tell_peers, seat_taken, seat_emptied, take_seat, leave_from, request_at, drop_at, oob_to, carry_to, data_at, pong_at, act, act_on, packet_from, outcome}
use Rattle.rules.proofs.FindLaws.{find_hit, seat_set_other}
use Rattle.rules.proofs.ComesBack.{arrives_new, held, some_empty, comes_back_to}

module _ (sizes : Sizes) (room : Room) (seat other : ℕ) (ne : other ≢ seat) where
  -- the other seat is as it was
  abbrev Stays : Outcome → Type 0
  Stays o = seat_at (room_after sizes room o) other ≡ seat_at room other

  request_stays : (own : Bool) (old lowest : Found) (key wanted : Key) → Stays (request_at own old lowest room seat key wanted)
  unfolding request_at accept room_after apply_all apply
  request_stays true old lowest key wanted = refl
  request_stays false (at place) lowest key wanted = refl
  request_stays false none none key wanted = refl
  request_stays false none (at place) key wanted = seat_set_other room seat (with_route (seat_at room seat) place (wants wanted)) other ne

  drop_stays : (route : Route) (key : Key) (number : ℕ) → Stays (drop_at route room seat key number)
  unfolding drop_at accept refuse room_after apply_all apply
  drop_stays free key number = refl
  drop_stays (wants wanted) key number = seat_set_other room seat (with_route (seat_at room seat) (number - first_number) free) other ne

  oob_stays : (f : Found) (key : Key) (bytes : List ℕ) → Stays (oob_to f seat key bytes)
  unfolding oob_to accept room_after apply_all
  oob_stays none key bytes = refl
  oob_stays (at i) key bytes = refl

  carry_stays : (p : Peer) (bytes : List ℕ) → Stays (carry_to p seat bytes)
  unfolding carry_to accept refuse room_after apply_all
  carry_stays alone bytes = refl
  carry_stays (joined i place) bytes = refl

  data_stays : (route : Route) (key : Key) (bytes : List ℕ) → Stays (data_at route room seat key bytes)
  unfolding data_at refuse room_after apply_all
  data_stays free key bytes = refl
  data_stays (wants wanted) key bytes = carry_stays (peer room seat key wanted) bytes

  pong_stays : (t : Bool) → Stays (pong_at t seat)
  unfolding pong_at accept room_after apply_all apply
  pong_stays true = seat_set_other room seat (without_ping (seat_at room seat)) other ne
  pong_stays false = refl

  read_stays : (r : Read client.FromClient) (held : Held) → Stays (act_on r room seat held)
  unfolding act_on act accept refuse room_after apply_all
  read_stays (read.packet (client.routing_request wanted)) held =
      request_stays (same_key wanted held.key) (find (route_to wanted) held.routes) (find is_free held.routes) held.key wanted
  read_stays (read.packet (client.drop_route number)) held = drop_stays (route_at held.routes number) held.key number
  read_stays (read.packet (client.ping n)) held = refl
  read_stays (read.packet (client.pong n)) held = pong_stays (eqb n held.ping.number)
  read_stays (read.packet (client.oob_send wanted bytes)) held = oob_stays (find (seat_of wanted) room.seats) held.key bytes
  read_stays (read.packet (client.routed_data number bytes)) held = data_stays (route_at held.routes number) held.key bytes
  read_stays (read.refused why) held = refl

  packet_from_lem : (bytes : List ℕ) (s : Seat) → Stays (packet_from s room seat bytes)
  unfolding packet_from refuse room_after apply_all
  packet_from_lem bytes vacant = refl
  packet_from_lem bytes (holds held) = read_stays (client.relay_read bytes) held

  leave_from_lem : (s : Seat) → Stays (leave_from s room seat)
  unfolding leave_from accept refuse room_after apply_all apply
  leave_from_lem vacant = refl
  leave_from_lem (holds held) = seat_set_other room seat vacant other ne

  -- a key that is not seated takes a seat
  take_stays : (lowest : Found) (key : Key) (count : ℕ) → (take_seat lowest key).answer ≡ accepted seat count → Stays (take_seat lowest key)
  unfolding take_seat accept refuse room_after apply_all apply
  take_stays none key count h = refl
  take_stays (at i) key count h = seat_set_other room i _ other (λ q. ne (q ∙ (let z : i ≡ seat = cc in z)))

  -- a seated key leaves its seat and takes one
  back_stays : (key : Key) (old place count : ℕ) (routes : List Route) → other ≢ old
      → (accept place (seat_emptied old ∷ seat_taken place key ∷ []) (tell_peers room old key routes)).answer ≡ accepted seat count
      → Stays (accept place (seat_emptied old ∷ seat_taken place key ∷ []) (tell_peers room old key routes))
  unfolding accept room_after apply_all apply
  back_stays key old place count routes apart h =
      seat_set_other (set_seat room old vacant) place _ other (λ q. ne (q ∙ (let z : place ≡ seat = cc in z))) ∙ seat_set_other room old vacant other apart

  arrive_at : (key : Key) (count : ℕ) → seat_of key (seat_at room other) ≡ false → (f : Found) → find (seat_of key) room.seats ≡ f
      → (outcome room (arrive key)).answer ≡ accepted seat count → Stays (outcome room (arrive key))
  unfolding seat_at
  arrive_at key count apart none e h =
      let q = arrives_new room key e in
      rw q (take_stays (find is_vacant room.seats) key count (sym (ap (λ (o : Outcome). o.answer) q) ∙ h))
  arrive_at key count apart (at old) e h =
      let l = some_empty room key old e in
      let q = comes_back_to room key old e l.place l.lowest in
      rw q
      (back_stays key old l.place count (held room key old e).routes
      (λ z. true≢false (sym (find_hit (seat_of key) vacant room.seats old e) ∙ ap (λ (i : ℕ). seat_of key (seat_at room i)) (sym z) ∙ apart))
      (sym (ap (λ (o : Outcome). o.answer) q) ∙ h))

  -- every packet of a client, drops among them
  pub packet_keeps_others : (bytes : List ℕ) → seat_at (room_after sizes room (outcome room (packet_call seat bytes))) other ≡ seat_at room other
  unfolding outcome
  packet_keeps_others bytes = packet_from_lem bytes (seat_at room seat)

  pub leave_keeps_others : seat_at (room_after sizes room (outcome room (leave seat))) other ≡ seat_at room other
  unfolding outcome
  leave_keeps_others = leave_from_lem (seat_at room seat)

  -- an arrival that is answered with the seat, of a client that does not sit in the other
  pub arrive_keeps_others : (key : Key) (count : ℕ) → seat_of key (seat_at room other) ≡ false → (outcome room (arrive key)).answer ≡ accepted seat count
      → seat_at (room_after sizes room (outcome room (arrive key))) other ≡ seat_at room other
  arrive_keeps_others key count apart h = arrive_at key count apart (find (seat_of key) room.seats) refl h
