-- The law of one call: in a whole room that says what has happened says, observing the entries that a call adds to C's record yields what the
-- call does: the view of the room after it, the packets it hands to C, and the answer if the call is C's own; unless the call is another client's
-- request for C that is answered with 0. A list of cases, one for each kind of call, of C and of another client; a tick is nobody's, and its law is in
-- `OneTick`. Assumes nothing.
use mathlib.Core.Path.{◌≡◌, refl, sym, ap, ap₂, ◌∙◌, subst}
use mathlib.Core.Bool.{Bool, true, false, ◌&&◌, cond, true≢false}
use mathlib.Core.List.{List, [], ◌∷◌, append-nil}
use Prim.Native.Nat.{ℕ, ◌-◌}
use lib.Dec.{eqb, ltb}
use lib.ListN.{get_or, set, length}
use lib.Seq.{set-get_or}
use Rattle.key.specs.Keys.{same_key}
use Rattle.key.proofs.Same.{same_refl, same_sound}
use Rattle.packet_laws.specs.Read.{Read}
use Rattle.packet_laws.specs.Read as read
use Rattle.packet_laws.specs.FromClient as client
use Rattle.packet_laws.specs.FromRelay as relay
use Rattle.packet_laws.proofs.ReadBounds.{request_key_long}
use Rattle.rules.specs.Room.{Sizes, Key, Route, free, wants, Seat, vacant, holds, Room, Found, none, at, find, seat_of, is_vacant, route_to, is_free, seat_at, route_at, first_number, number_of_place, Peer, alone, joined, newcomer, set_seat, Held, none_since, set_key, set_ping, set_route}
use Rattle.rules.specs.Whole.{Whole}
use Rattle.rules.specs.Call.{Call, arrive, leave, packet_call, tick, Answer, accepted, refused, Sent}
use Rattle.rules.specs.Outcome.{with_route, without_ping, apply, apply_all, Outcome, refuse, sent_bytes, accept, answer_only, to, room_after, peer, to_peer, tell_peers, take_seat, leave_from, tell_both, request_at, drop_at, oob_to, carry_to, data_at, pong_at, act, act_on, packet_from, tick_at, outcome}
use Rattle.rules.specs.History.{Event, event}
use Rattle.rules.specs.Transcript.{Past, Start, is_accepted, is_seated, put_out, maker, number_answered, stands, is_client}
use Rattle.rules.specs.After.{client_in, Tied}
use Rattle.isolation.specs.Record.{Entry, arrived, departed, own, to_c, dropped_c, data_for_c, ticked, entry_if, by_key, other_packet, other_call, if_accepted, made_by, of_tick, entries_by, entries, handed_if, handed, answer_if, asks_for, turns_away}
use Rattle.rules.proofs.FindLaws.{held_of, Once, find_hit, find_replicate, find_set_same, find_clear, free_not_to, wanted_place}
use Rattle.rules.proofs.Whole.{wanted_once, key_found}
use Rattle.rules.proofs.ComesBack.{arrives_new, held, sits_there, Lowest, some_empty, comes_back_to}
use Rattle.rules.proofs.SeatedLaws.{is_found, seated_found}
use Rattle.rules.proofs.AnswerLaws.{zero_answered}
use Rattle.rules.proofs.Tied.{tied_here}
use Rattle.rules.proofs.SentLaws.{count_same}
use Rattle.isolation.proofs.View.{is_open, own_routes, notices_by_view, SeatView, open_seat, own_seat, other_seat, View, view_seat, project, names_c, place_of, Observed, observed, packet_at, only, to_one, to_both, counted, own_taken, own_arrival, own_leave, own_answer, own_request, own_drop, own_oob, own_carry, own_data, own_pong, own_act, own_packet, own_call, other_arrived, other_departed, other_dropped, other_asked, other_to_c, arrived_if, departed_if, observe, observed_then, observe_all, set_view, set_views}
use Rattle.isolation.proofs.ViewLaws.{find_put, held_law, open_law, view_at, held_as, view_own, view_other, project_set, left_open, is_joined, connected_law, handed_by, handed_law, hand_only, else_seat, not_handed, found_held, packet_law, own_held, peer_else, own_not_handed, own_tells, other_lost, observed_of, observed_same, count_told, count_both, count_tells}
use Rattle.isolation.proofs.OneTick.{tick_law}

counted_same : (seat : ℕ) (a b : List Sent) → length (sent_bytes b) ≡ length (sent_bytes a) → counted seat a ≡ accepted seat (length (sent_bytes b)) ∷ []
unfolding counted
counted_same seat a b e = ap (λ (n : ℕ). accepted seat n ∷ []) (sym e)

-- ---- one entry, or two

and_nothing : (s : Observed) → observed_then s (observed s.view [] []) ≡ s
unfolding observed_then observed
and_nothing s = rw (append-nil s.packets, append-nil s.answers)

observe_one : (sizes : Sizes) (c : Key) (v : View) (e : Entry) → observe_all sizes c v (e ∷ []) ≡ observe sizes c v e
unfolding observe_all
observe_one sizes c v e = and_nothing (observe sizes c v e)

observe_own : (sizes : Sizes) (c : Key) (v : View) (call : Call) → observe_all sizes c v (own call ∷ []) ≡ own_call sizes c v call
unfolding observe
observe_own sizes c v call = observe_one sizes c v (own call)

-- C's own arrival or departure, and then its call
observe_arrived : (sizes : Sizes) (c : Key) (v : View) (call : Call) → observe_all sizes c v (arrived c ∷ own call ∷ []) ≡ own_call sizes c v call
unfolding observe_all observe arrived_if observed_then observed
observe_arrived sizes c v call = rw (same_refl c) (observe_one sizes c v (own call))

observe_departed : (sizes : Sizes) (c : Key) (v : View) (call : Call) → observe_all sizes c v (departed c ∷ own call ∷ []) ≡ own_call sizes c v call
unfolding observe_all observe departed_if observed_then observed
observe_departed sizes c v call = rw (same_refl c) (observe_one sizes c v (own call))

observe_returned : (sizes : Sizes) (c : Key) (v : View) (call : Call) → observe_all sizes c v (departed c ∷ arrived c ∷ own call ∷ []) ≡ own_call sizes c v call
unfolding observe_all observe departed_if arrived_if observed_then observed
observe_returned sizes c v call = rw (same_refl c) (observe_one sizes c v (own call))

-- ---- C's own calls

-- its arrival, where it is not seated
own_taken_lem : (sizes : Sizes) (c : Key) (room : Room) (lowest : Found)
    → own_taken sizes lowest c (project c room) [] ≡ observed_of sizes c room (take_seat lowest c) ((take_seat lowest c).answer ∷ [])
unfolding own_taken project take_seat refuse accept room_after apply_all apply handed_by counted
own_taken_lem sizes c room none = refl
own_taken_lem sizes c room (at seat) = observed_same (sym (project_set c room seat _ _ (view_own c (newcomer sizes room.clock c) refl))) refl refl

own_arrival_lem : (sizes : Sizes) (c : Key) (room : Room) → find (seat_of c) room.seats ≡ none
    → own_call sizes c (project c room) (arrive c) ≡ observed_of sizes c room (outcome room (arrive c)) ((outcome room (arrive c)).answer ∷ [])
unfolding own_call own_arrival project
own_arrival_lem sizes c room h = rw (held_law c c room, h, open_law c room, arrives_new room c h) (own_taken_lem sizes c room (find is_vacant room.seats))

module _ (sizes : Sizes) (room : Room) (whole : Whole sizes room) (c : Key) (seat : ℕ) (held : Held) (sits : seat_at room seat ≡ holds (set_key held c)) where
  -- all that its seat holds
  abbrev all : Held
  all = set_key held c

  -- the view where one of its held.routes becomes another
  own_route : (place : ℕ) (route : Route)
      → set_view (project c room) seat (own_seat (set_route all place route)) ≡ project c (set_seat room seat (with_route (seat_at room seat) place route))
  unfolding with_route
  own_route place route = rw sits (sym (project_set c room seat _ _ (view_own c (set_route all place route) refl)))

  own_view : get_or (project c room).seats seat open_seat ≡ own_seat all
  unfolding project
  own_view = view_at c room seat ∙ ap (view_seat c) sits ∙ view_own c all refl

  here : seat_of c (seat_at room seat) ≡ true
  here = own_held sizes room whole c seat held sits

  own_both : (wanted : Key) (number : ℕ) (l : Peer) → peer room seat c wanted ≡ l → only (is_joined l) (relay.relay_bytes (relay.connect_notice number) ∷ []) ≡ handed_by c room (tell_both seat number l)
  unfolding only is_joined handed_by handed_if tell_both to
  own_both wanted number alone e = refl
  own_both wanted number (joined other place) e = rw (here, peer_else sizes room whole c seat held sits wanted other place e)

  own_answer_lem : (wanted : Key) (number : ℕ)
      → own_answer (project c room) seat number wanted ≡ observed_of sizes c room (answer_only seat number wanted) ((answer_only seat number wanted).answer ∷ [])
  unfolding accept room_after apply_all handed_by handed_if to relay.relay_bytes
  own_answer_lem wanted number = observed_same refl (rw here) (counted_same seat _ _ (count_same _ _ [] [] refl refl))

  own_request_lem : (wanted : Key) (o : Bool) (f lowest : Found)
      → own_request o f lowest c (project c room) seat all wanted ≡ observed_of sizes c room (request_at o f lowest room seat c wanted) ((request_at o f lowest room seat c wanted).answer ∷ [])
  unfolding own_request request_at accept room_after apply_all apply handed_by handed_if to relay.relay_bytes
  own_request_lem wanted true f lowest = own_answer_lem wanted 0
  own_request_lem wanted false (at place) lowest = own_answer_lem wanted (number_of_place place)
  own_request_lem wanted false none none = own_answer_lem wanted 0
  own_request_lem wanted false none (at place) =
      observed_same (own_route place (wants wanted))
      (rw (here, connected_law c room seat wanted) (ap (λ (t : List (List ℕ)). (1 ∷ number_of_place place ∷ wanted) ∷ t) (own_both wanted (number_of_place place) (peer room seat c wanted) refl)))
      (counted_same seat _ _ (count_same _ _ _ _ refl (count_both seat (number_of_place place) (peer room seat c wanted) ∙ ap (λ (t : Bool). length (sent_bytes (to_both t))) (sym (connected_law c room seat wanted)))))

  own_drop_lem : (number : ℕ) (route : Route)
      → own_drop route c (project c room) seat all number ≡ observed_of sizes c room (drop_at route room seat c number) ((drop_at route room seat c number).answer ∷ [])
  unfolding own_drop drop_at refuse accept room_after apply_all apply handed_by
  own_drop_lem number free = refl
  own_drop_lem number (wants wanted) =
      observed_same (own_route (number - first_number) free) (sym (own_not_handed sizes room whole c seat held sits wanted relay.disconnect_notice))
      (counted_same seat _ _ (count_told (peer room seat c wanted) ∙ ap (λ (t : Bool). length (sent_bytes (to_one relay.disconnect_notice t))) (sym (connected_law c room seat wanted))))

  own_oob_lem : (wanted : Key) (bytes : List ℕ) (f : Found) → find (seat_of wanted) room.seats ≡ f
      → own_oob f c (project c room) seat wanted bytes ≡ observed_of sizes c room (oob_to f seat c bytes) ((oob_to f seat c bytes).answer ∷ [])
  unfolding own_oob oob_to accept room_after apply_all handed_by to counted
  own_oob_lem wanted bytes none e = refl
  own_oob_lem wanted bytes (at other) e =
      observed_same refl (rw (held_as c wanted (seat_at room other) (found_held wanted room other e)) (hand_only (same_key wanted c) _)) (counted_same seat _ _ (count_same _ _ [] [] refl refl))

  own_carry_lem : (wanted : Key) (bytes : List ℕ) (l : Peer) → peer room seat c wanted ≡ l
      → own_carry (is_joined l) (project c room) seat bytes ≡ observed_of sizes c room (carry_to l seat bytes) ((carry_to l seat bytes).answer ∷ [])
  unfolding own_carry is_joined carry_to refuse accept room_after apply_all handed_by handed_if to relay.relay_bytes
  own_carry_lem wanted bytes alone e = refl
  own_carry_lem wanted bytes (joined other place) e =
      observed_same refl (rw (peer_else sizes room whole c seat held sits wanted other place e)) (counted_same seat _ _ (count_same _ _ [] [] refl refl))

  own_data_lem : (bytes : List ℕ) (route : Route)
      → own_data route c (project c room) seat bytes ≡ observed_of sizes c room (data_at route room seat c bytes) ((data_at route room seat c bytes).answer ∷ [])
  unfolding own_data data_at refuse room_after apply_all handed_by
  own_data_lem bytes free = refl
  own_data_lem bytes (wants wanted) = rw (connected_law c room seat wanted) (own_carry_lem wanted bytes (peer room seat c wanted) refl)

  -- a pong: its own ping is no more outstanding, or all is as it was
  own_pong_lem : (t : Bool) → own_pong t (project c room) seat all ≡ observed_of sizes c room (pong_at t seat) ((pong_at t seat).answer ∷ [])
  unfolding own_pong pong_at accept room_after apply_all apply handed_by counted without_ping
  own_pong_lem true = rw sits (observed_same (sym (project_set c room seat _ _ (view_own c (set_ping all (none_since held.ping.time)) refl))) refl refl)
  own_pong_lem false = refl

  own_act_lem : (r : Read client.FromClient)
      → own_act r c (project c room) seat all ≡ observed_of sizes c room (act_on r room seat all) ((act_on r room seat all).answer ∷ [])
  unfolding own_act act_on act refuse accept room_after apply_all handed_by handed_if to counted project
  own_act_lem (read.packet (client.routing_request wanted)) = own_request_lem wanted (same_key wanted c) (find (route_to wanted) held.routes) (find is_free held.routes)
  own_act_lem (read.packet (client.drop_route number)) = own_drop_lem number (route_at held.routes number)
  own_act_lem (read.packet (client.ping n)) = observed_same refl (rw here) (counted_same seat _ _ (count_same _ _ [] [] refl refl))
  own_act_lem (read.packet (client.pong n)) = own_pong_lem (eqb n held.ping.number)
  own_act_lem (read.packet (client.oob_send wanted bytes)) = rw (held_law c wanted room) (own_oob_lem wanted bytes (find (seat_of wanted) room.seats) refl)
  own_act_lem (read.packet (client.routed_data number bytes)) = own_data_lem bytes (route_at held.routes number)
  own_act_lem (read.refused why) = refl

  own_packet_lem : (bytes : List ℕ)
      → own_call sizes c (project c room) (packet_call seat bytes)
      ≡ observed_of sizes c room (act_on (client.relay_read bytes) room seat all) ((act_on (client.relay_read bytes) room seat all).answer ∷ [])
  unfolding own_call own_packet
  own_packet_lem bytes = rw own_view (own_act_lem (client.relay_read bytes))

  own_leave_lem : own_call sizes c (project c room) (leave seat) ≡ observed_of sizes c room (leave_from (holds all) room seat) ((leave_from (holds all) room seat).answer ∷ [])
  unfolding own_call own_leave leave_from accept room_after apply_all apply
  own_leave_lem =
      rw own_view
      (observed_same (sym (left_open c room seat)) (sym (own_tells sizes room whole c seat held sits held.routes)) (counted_same seat _ _ (count_tells c room seat held.routes)))

-- its arrival, where it is seated
own_return : (sizes : Sizes) (c : Key) (room : Room) → Whole sizes room → (seat : ℕ) → find (seat_of c) room.seats ≡ at seat
    → own_call sizes c (project c room) (arrive c) ≡ observed_of sizes c room (outcome room (arrive c)) ((outcome room (arrive c)).answer ∷ [])
unfolding own_call own_arrival own_taken own_routes project accept room_after apply_all apply
own_return sizes c room whole seat h =
    ap (λ (f : Found). own_arrival sizes f c (project c room)) (held_law c c room ∙ h)
    ∙ ap₂ (λ (v : View) (s : SeatView). own_taken sizes (find is_open v.seats) c v (notices_by_view c (project c room) seat (own_routes s))) (sym (left_open c room seat)) (own_view sizes room whole c seat was there)
    ∙ ap (λ (f : Found). own_taken sizes f c (project c left) (notices_by_view c (project c room) seat was.routes)) (open_law c left ∙ low.lowest)
    ∙ observed_same (sym (project_set c left low.place _ _ (view_own c (newcomer sizes room.clock c) refl)))
    (sym (own_tells sizes room whole c seat was there was.routes)) (counted_same low.place _ _ (count_tells c room seat was.routes))
    ∙ sym (ap (λ (o : Outcome). observed_of sizes c room o (o.answer ∷ [])) (comes_back_to room c seat h low.place low.lowest))
  where
    was : Held
    was = held_of (seat_at room seat)

    there : seat_at room seat ≡ holds (set_key was c)
    there = sits_there room c seat h

    low : Lowest room c seat h
    low = some_empty room c seat h

    left : Room
    left = set_seat room seat vacant

-- ---- another client's calls

-- its arrival, where it is not seated
other_arrival : (sizes : Sizes) (c : Key) (room : Room) (key : Key) → same_key key c ≡ false → (seat : ℕ) → find is_vacant room.seats ≡ at seat
    → observe sizes c (project c room) (arrived key) ≡ observed_of sizes c room (take_seat (at seat) key) []
unfolding observe arrived_if other_arrived project take_seat accept room_after apply_all apply handed_by is_free is_found
other_arrival sizes c room key hk seat e = rw (hk, open_law c room, e) (observed_same (sym (project_set c room seat _ _ new_other)) refl refl)
  where
    new_other : view_seat c (holds (newcomer sizes room.clock key)) ≡ other_seat key false
    new_other = view_other c (newcomer sizes room.clock key) hk ∙ ap (other_seat key) (ap is_found (find_replicate (route_to c) sizes.numbers free (free_not_to c free refl)))

-- another client, `key`, sits in `seat`
module _ (sizes : Sizes) (room : Room) (whole : Whole sizes room) (c : Key) (seat : ℕ) (held : Held) (sits : seat_at room seat ≡ holds held) (hk : same_key held.key c ≡ false) where
  not_held : seat_of c (seat_at room seat) ≡ false
  unfolding seat_of
  not_held = rw sits hk

  other_view : get_or (project c room).seats seat open_seat ≡ other_seat held.key (is_found (find (route_to c) held.routes))
  unfolding project
  other_view = view_at c room seat ∙ ap (view_seat c) sits ∙ view_other c held hk

  names_here : names_c c (get_or (project c room).seats seat open_seat) ≡ is_found (find (route_to c) held.routes)
  unfolding names_c
  names_here = ap (names_c c) other_view

  once : Once (route_to c) free held.routes
  once = wanted_once sizes room whole seat held sits c

  -- the view where one of its routes becomes another
  other_set : (place : ℕ) (route : Route)
      → project c (set_seat room seat (with_route (seat_at room seat) place route)) ≡ set_view (project c room) seat (other_seat held.key (is_found (find (route_to c) (set held.routes place route))))
  unfolding with_route
  other_set place route = rw sits (project_set c room seat _ _ (view_other c (set_route held place route) hk))

  -- the view of the seat, put there, changes nothing
  other_same : (b : Bool) → is_found (find (route_to c) held.routes) ≡ b → set_view (project c room) seat (other_seat held.key b) ≡ project c room
  other_same b e = ap (set_view (project c room) seat) (sym (other_view ∙ ap (other_seat held.key) e)) ∙ ap (set_views (project c room)) (set-get_or (project c room).seats seat open_seat)

  -- routes that name C as before leave the view as it was
  other_kept : (place : ℕ) (route : Route) → find (route_to c) (set held.routes place route) ≡ find (route_to c) held.routes
      → project c (set_seat room seat (with_route (seat_at room seat) place route)) ≡ project c room
  other_kept place route e = other_set place route ∙ other_same _ (ap is_found (sym e))

  handed_packet : (p : ℕ → relay.FromRelay) → packet_at p (place_of c (project c room) held.key) ≡ handed_by c room (to_peer p (peer room seat held.key c))
  handed_packet p = packet_law c room seat held.key held sits hk p

  -- of a notice to both, C is handed what goes to the peer
  other_both : (number : ℕ) (l : Peer) → handed_by c room (tell_both seat number l) ≡ handed_by c room (to_peer relay.connect_notice l)
  unfolding handed_by handed_if tell_both to_peer to
  other_both number alone = refl
  other_both number (joined other place) = rw not_held

  -- a request for another key
  request_else : (wanted : Key) → same_key wanted c ≡ false → (o : Bool) (f lowest : Found) → find is_free held.routes ≡ lowest
      → observed (project c room) [] [] ≡ observed_of sizes c room (request_at o f lowest room seat held.key wanted) []
  unfolding request_at accept room_after apply_all apply handed_by handed_if to route_to
  request_else wanted hw true f lowest hg = observed_same refl (rw not_held) refl
  request_else wanted hw false (at place) lowest hg = observed_same refl (rw not_held) refl
  request_else wanted hw false none none hg = observed_same refl (rw not_held) refl
  request_else wanted hw false none (at place) hg =
      observed_same
      (sym (other_kept place (wants wanted) (find_set_same (route_to c) free held.routes place (wants wanted) (hw ∙ sym (free_not_to c (get_or held.routes place free) (find_hit is_free free held.routes place hg))))))
      (rw not_held (sym (other_both (number_of_place place) (peer room seat held.key wanted) ∙ not_handed c room seat held.key wanted relay.connect_notice hw)))
      refl

  -- a request for C, not answered with 0
  zero_not : {A : Type 0} (bytes : List ℕ) → client.relay_read bytes ≡ read.packet (client.routing_request c)
      → eqb (number_answered (to seat (relay.routing_response 0 c) ∷ [])) 0 ≡ false → A
  zero_not bytes e z = absurd (true≢false (sym (ap (λ (n : ℕ). eqb n 0) (zero_answered seat c (request_key_long bytes c e) [])) ∙ z))

  request_mine : (bytes : List ℕ) → client.relay_read bytes ≡ read.packet (client.routing_request c) → (o : Bool) (f lowest : Found) → find (route_to c) held.routes ≡ f → find is_free held.routes ≡ lowest
      → eqb (number_answered (request_at o f lowest room seat held.key c).sent) 0 ≡ false
      → other_asked c (project c room) held.key seat (read.packet (client.routing_request c)) ≡ observed_of sizes c room (request_at o f lowest room seat held.key c) []
  unfolding other_asked request_at accept room_after apply_all apply handed_by handed_if to is_found only route_to
  request_mine bytes e true f lowest hf hg z = zero_not bytes e z
  request_mine bytes e false (at place) lowest hf hg z = observed_same (other_same true (ap is_found hf)) (rw (names_here, hf, not_held)) refl
  request_mine bytes e false none none hf hg z = zero_not bytes e z
  request_mine bytes e false none (at place) hf hg z =
      observed_same
      (sym (other_set place (wants c) ∙ ap (λ (t : Bool). set_view (project c room) seat (other_seat held.key t)) (find_put is_free (route_to c) held.routes place (wants c) (same_refl c) hg)))
      (rw (names_here, hf, not_held) (handed_packet relay.connect_notice ∙ sym (other_both (number_of_place place) (peer room seat held.key c))))
      refl

  -- a drop of a number that names another key, or C
  drop_else : (number : ℕ) (wanted : Key) → route_at held.routes number ≡ wants wanted → same_key wanted c ≡ false
      → observed (project c room) [] [] ≡ observed_of sizes c room (drop_at (wants wanted) room seat held.key number) []
  unfolding drop_at accept room_after apply_all apply route_to
  drop_else number wanted e hw =
      observed_same
      (sym (other_kept (number - first_number) free (find_set_same (route_to c) free held.routes (number - first_number) free (sym (ap (route_to c) (wanted_place held.routes number wanted e) ∙ hw)))))
      (sym (not_handed c room seat held.key wanted relay.disconnect_notice hw)) refl

  drop_mine : (number : ℕ) → route_at held.routes number ≡ wants c
      → observe sizes c (project c room) (dropped_c held.key) ≡ observed_of sizes c room (drop_at (wants c) room seat held.key number) []
  unfolding observe other_dropped project drop_at accept room_after apply_all apply route_to is_found
  drop_mine number e =
      rw (held_law c held.key room, key_found sizes room whole seat held sits)
      (observed_same (sym (other_set (number - first_number) free ∙ ap (λ (f : Found). set_view (project c room) seat (other_seat held.key (is_found f))) cleared)) (handed_packet relay.disconnect_notice) refl)
    where
      cleared : find (route_to c) (set held.routes (number - first_number) free) ≡ none
      cleared = find_clear (route_to c) free held.routes (number - first_number) free once (ap (route_to c) (wanted_place held.routes number c e) ∙ same_refl c) refl

  -- data on a number that names another key, or C
  data_else : (bytes : List ℕ) (wanted : Key) → same_key wanted c ≡ false → (l : Peer) → peer room seat held.key wanted ≡ l
      → observed (project c room) [] [] ≡ observed_of sizes c room (carry_to l seat bytes) []
  unfolding carry_to refuse accept room_after apply_all handed_by handed_if to
  data_else bytes wanted hw alone e = refl
  data_else bytes wanted hw (joined other place) e = observed_same refl (rw (else_seat c room seat held.key wanted hw other place e)) refl

  data_mine : (bytes : List ℕ) (l : Peer) → peer room seat held.key c ≡ l
      → observe_all sizes c (project c room) (if_accepted (carry_to l seat bytes).answer (data_for_c held.key bytes ∷ [])) ≡ observed_of sizes c room (carry_to l seat bytes) []
  unfolding carry_to refuse accept if_accepted observe_all room_after apply_all handed_by observe to_peer
  data_mine bytes alone e = refl
  data_mine bytes (joined other place) e =
      observe_one sizes c (project c room) (data_for_c held.key bytes)
      ∙ observed_same refl (handed_packet (λ n. relay.routed_data n bytes) ∙ ap (λ (l : Peer). handed_by c room (to_peer (λ n. relay.routed_data n bytes) l)) e) refl

  -- out of band to another key, or to C
  oob_else : (bytes : List ℕ) (wanted : Key) → same_key wanted c ≡ false → (f : Found) → find (seat_of wanted) room.seats ≡ f
      → observed (project c room) [] [] ≡ observed_of sizes c room (oob_to f seat held.key bytes) []
  unfolding oob_to accept room_after apply_all handed_by handed_if to
  oob_else bytes wanted hw none e = refl
  oob_else bytes wanted hw (at other) e = observed_same refl (rw (held_as c wanted (seat_at room other) (found_held wanted room other e), hw)) refl

  oob_mine : (bytes : List ℕ) (f : Found) → find (seat_of c) room.seats ≡ f
      → other_asked c (project c room) held.key seat (read.packet (client.oob_send c bytes)) ≡ observed_of sizes c room (oob_to f seat held.key bytes) []
  unfolding other_asked project oob_to accept room_after apply_all handed_by handed_if to is_found only
  oob_mine bytes none e = rw (held_law c c room, e)
  oob_mine bytes (at other) e = observed_same refl (rw (held_law c c room, e, found_held c room other e)) refl

  -- ---- the entries that it adds

  module _ (bytes : List ℕ) (names : ℕ → Bool) (names-is : (number : ℕ) → names number ≡ route_to c (route_at held.routes number)) where
    -- what observing them yields
    abbrev Noted : Read client.FromClient → Outcome → Observed
    Noted r o = observe_all sizes c (project c room) (if_accepted o.answer (other_packet c held.key (packet_call seat bytes) names r))

    request_noted : (wanted : Key) (o : Bool) (f lowest : Found) (es : List Entry) → if_accepted (request_at o f lowest room seat held.key wanted).answer es ≡ es
    unfolding request_at accept if_accepted
    request_noted wanted true f lowest es = refl
    request_noted wanted false (at place) lowest es = refl
    request_noted wanted false none none es = refl
    request_noted wanted false none (at place) es = refl

    oob_noted : (payload : List ℕ) (f : Found) (es : List Entry) → if_accepted (oob_to f seat held.key payload).answer es ≡ es
    unfolding oob_to accept if_accepted
    oob_noted payload none es = refl
    oob_noted payload (at other) es = refl

    request_accepted : (wanted : Key) (o : Bool) (f lowest : Found) → is_accepted (request_at o f lowest room seat held.key wanted).answer ≡ true
    unfolding request_at accept is_accepted
    request_accepted wanted true f lowest = refl
    request_accepted wanted false (at place) lowest = refl
    request_accepted wanted false none none = refl
    request_accepted wanted false none (at place) = refl

    -- the entry of a call to C
    observe_call : (r : Read client.FromClient) → client.relay_read bytes ≡ r → observe_all sizes c (project c room) (to_c held.key (packet_call seat bytes) ∷ []) ≡ other_asked c (project c room) held.key seat r
    unfolding observe other_to_c
    observe_call r e = observe_one sizes c (project c room) (to_c held.key (packet_call seat bytes)) ∙ ap (other_asked c (project c room) held.key seat) e

    note_request : (wanted : Key) → client.relay_read bytes ≡ read.packet (client.routing_request wanted) → (t : Bool) → same_key wanted c ≡ t
        → (o : Bool) (f lowest : Found) → find (route_to wanted) held.routes ≡ f → find is_free held.routes ≡ lowest
        → (t && eqb (number_answered (request_at o f lowest room seat held.key wanted).sent) 0) ≡ false
        → observe_all sizes c (project c room) (entry_if t (to_c held.key (packet_call seat bytes)))
        ≡ observed_of sizes c room (request_at o f lowest room seat held.key wanted) []
    unfolding entry_if observe_all
    note_request wanted e true hw o f lowest hf hg z =
        let q = same_sound wanted c hw in
        observe_call _ (e ∙ ap (λ (k : Key). read.packet (client.routing_request k)) q)
        ∙ subst (λ (k : Key). other_asked c (project c room) held.key seat (read.packet (client.routing_request c)) ≡ observed_of sizes c room (request_at o f lowest room seat held.key k) []) (sym q)
        (request_mine bytes (rw q at e) o f lowest (rw q at hf) hg (rw q at z))
    note_request wanted e false hw o f lowest hf hg z = request_else wanted hw o f lowest hg

    note_drop : (number : ℕ) (route : Route) → route_at held.routes number ≡ route → Noted (read.packet (client.drop_route number)) (drop_at route room seat held.key number) ≡ observed_of sizes c room (drop_at route room seat held.key number) []
    unfolding other_packet drop_at refuse accept if_accepted observe_all room_after apply_all handed_by entry_if route_to
    note_drop number free e = refl
    note_drop number (wants wanted) e = rw (names-is number, e) (go (same_key wanted c) refl)
      where
        go : (t : Bool) → same_key wanted c ≡ t
            → observe_all sizes c (project c room) (entry_if t (dropped_c held.key)) ≡ observed_of sizes c room (drop_at (wants wanted) room seat held.key number) []
        go true hw = rw (same_sound wanted c hw) (observe_one sizes c (project c room) (dropped_c held.key) ∙ drop_mine number (rw (same_sound wanted c hw) at e))
        go false hw = drop_else number wanted e hw

    note_data : (number : ℕ) (payload : List ℕ) (route : Route) → route_at held.routes number ≡ route
        → Noted (read.packet (client.routed_data number payload)) (data_at route room seat held.key payload) ≡ observed_of sizes c room (data_at route room seat held.key payload) []
    unfolding other_packet data_at refuse if_accepted observe_all room_after apply_all handed_by entry_if route_to
    note_data number payload free e = refl
    note_data number payload (wants wanted) e = rw (names-is number, e) (go (same_key wanted c) refl)
      where
        quiet : (a : Answer) → observe_all sizes c (project c room) (if_accepted a []) ≡ observed (project c room) [] []
        quiet (accepted s n) = refl
        quiet (refused why) = refl

        go : (t : Bool) → same_key wanted c ≡ t
            → observe_all sizes c (project c room) (if_accepted (carry_to (peer room seat held.key wanted) seat payload).answer (entry_if t (data_for_c held.key payload)))
            ≡ observed_of sizes c room (carry_to (peer room seat held.key wanted) seat payload) []
        go true hw = rw (same_sound wanted c hw) (data_mine payload (peer room seat held.key c) refl)
        go false hw = quiet (carry_to (peer room seat held.key wanted) seat payload).answer ∙ data_else payload wanted hw (peer room seat held.key wanted) refl

    note_oob : (wanted : Key) (payload : List ℕ) → client.relay_read bytes ≡ read.packet (client.oob_send wanted payload) → (t : Bool) → same_key wanted c ≡ t
        → observe_all sizes c (project c room) (entry_if t (to_c held.key (packet_call seat bytes)))
        ≡ observed_of sizes c room (oob_to (find (seat_of wanted) room.seats) seat held.key payload) []
    unfolding entry_if observe_all
    note_oob wanted payload e true hw =
        let q = same_sound wanted c hw in
        observe_call _ (e ∙ ap (λ (k : Key). read.packet (client.oob_send k payload)) q) ∙ rw q (oob_mine payload (find (seat_of c) room.seats) refl)
    note_oob wanted payload e false hw = oob_else payload wanted hw (find (seat_of wanted) room.seats) refl

    -- a pong: no ping but C's own is in the view
    pong_noted : (t : Bool) → observe_all sizes c (project c room) (if_accepted (pong_at t seat).answer []) ≡ observed_of sizes c room (pong_at t seat) []
    unfolding pong_at accept if_accepted observe_all room_after apply_all apply handed_by without_ping
    pong_noted true =
        rw sits (observed_same (sym (project_set c room seat _ _ (view_other c (set_ping held (none_since held.ping.time)) hk) ∙ other_same _ refl)) refl refl)
    pong_noted false = refl

    note_act : (r : Read client.FromClient) → client.relay_read bytes ≡ r
        → ((is_accepted (act_on r room seat held).answer && asks_for c r) && eqb (number_answered (act_on r room seat held).sent) 0) ≡ false
        → Noted r (act_on r room seat held) ≡ observed_of sizes c room (act_on r room seat held) []
    unfolding act_on act other_packet refuse accept if_accepted observe_all room_after apply_all handed_by handed_if to asks_for
    note_act (read.packet (client.routing_request wanted)) e z =
        rw (request_noted wanted (same_key wanted held.key) (find (route_to wanted) held.routes) (find is_free held.routes))
        (note_request wanted e (same_key wanted c) refl (same_key wanted held.key) (find (route_to wanted) held.routes) (find is_free held.routes) refl refl (rw (request_accepted wanted (same_key wanted held.key) (find (route_to wanted) held.routes) (find is_free held.routes)) at z))
    note_act (read.packet (client.drop_route number)) e z = note_drop number (route_at held.routes number) refl
    note_act (read.packet (client.ping n)) e z = observed_same refl (rw not_held) refl
    note_act (read.packet (client.pong n)) e z = pong_noted (eqb n held.ping.number)
    note_act (read.packet (client.oob_send wanted payload)) e z = rw (oob_noted payload (find (seat_of wanted) room.seats)) (note_oob wanted payload e (same_key wanted c) refl)
    note_act (read.packet (client.routed_data number payload)) e z = note_data number payload (route_at held.routes number) refl
    note_act (read.refused why) e z = refl

  -- its departure
  other_leave : observe sizes c (project c room) (departed held.key) ≡ observed_of sizes c room (leave_from (holds held) room seat) []
  unfolding observe departed_if other_departed project leave_from accept room_after apply_all apply
  other_leave =
      rw (hk, held_law c held.key room, key_found sizes room whole seat held sits)
      (observed_same (sym (left_open c room seat)) (rw names_here (other_lost sizes room whole c seat held sits hk)) refl)

-- its arrival, where it is seated: the departure, and then the arrival in the room that it leaves
other_return : (sizes : Sizes) (c : Key) (room : Room) → Whole sizes room → (key : Key) → same_key key c ≡ false → (seat : ℕ) → find (seat_of key) room.seats ≡ at seat
    → observe_all sizes c (project c room) (departed key ∷ arrived key ∷ []) ≡ observed_of sizes c room (outcome room (arrive key)) []
unfolding observe_all observed_then observed take_seat leave_from accept room_after apply_all apply handed_by
other_return sizes c room whole key hk seat h =
    let low = some_empty room key seat h in
    let left = set_seat room seat vacant in
    let gone = observed_of sizes c room (leave_from (holds (held room key seat h)) room seat) [] in
    ap (λ (s : Observed). observed_then s (observe_all sizes c s.view (arrived key ∷ []))) (other_leave sizes room whole c seat (held room key seat h) (sits_there room key seat h) hk)
    ∙ ap (observed_then gone) (observe_one sizes c (project c left) (arrived key) ∙ other_arrival sizes c left key hk low.place low.lowest)
    ∙ observed_same refl (append-nil (handed_by c room (tell_peers room seat key (held room key seat h).routes))) refl
    ∙ sym (ap (λ (o : Outcome). observed_of sizes c room o []) (comes_back_to room key seat h low.place low.lowest))

-- ---- all calls

-- a call with its outcome
abbrev pub made : Call → Outcome → Event
made call o = record { call = call; answer = o.answer; sent = o.sent }

module _ (sizes : Sizes) (start : Start) (past : Past) (room : Room) (whole : Whole sizes room) (tie : Tied start past room) (c : Key) where
  -- the law for a call that a client made
  abbrev Law : Bool → Bool → Key → Call → Outcome → Type 0
  Law t seated key call o =
      observe_all sizes c (project c room) (made_by t seated c key (made call o) (λ number. stands start past key number c)) ≡ observed_of sizes c room o (answer_if t o.answer)

  -- an arrival of C and of another, where it is not seated
  new_by : (key : Key) → find (seat_of key) room.seats ≡ none → (t : Bool) → same_key key c ≡ t → (lowest : Found) → find is_vacant room.seats ≡ lowest
      → Law t false key (arrive key) (take_seat lowest key)
  unfolding made_by by_key entry_if answer_if take_seat refuse accept if_accepted other_call observe_all room_after apply_all handed_by
  new_by key h true hk none l =
      let q = same_sound key c hk in
      rw q (observe_own sizes c (project c room) (arrive c) ∙ own_arrival_lem sizes c room (rw q at h) ∙ rw (arrives_new room c (rw q at h), l))
  new_by key h true hk (at seat) l =
      let q = same_sound key c hk in
      rw q (observe_arrived sizes c (project c room) (arrive c) ∙ own_arrival_lem sizes c room (rw q at h) ∙ rw (arrives_new room c (rw q at h), l))
  new_by key h false hk none l = refl
  new_by key h false hk (at seat) l = observe_one sizes c (project c room) (arrived key) ∙ other_arrival sizes c room key hk seat l

  -- and where it is
  own_back : (key : Key) (seat : ℕ) → find (seat_of key) room.seats ≡ at seat → same_key key c ≡ true
      → observe_all sizes c (project c room) (departed key ∷ arrived key ∷ own (arrive key) ∷ []) ≡ observed_of sizes c room (outcome room (arrive key)) ((outcome room (arrive key)).answer ∷ [])
  own_back key seat h hk = let q = same_sound key c hk in rw q (observe_returned sizes c (project c room) (arrive c) ∙ own_return sizes c room whole seat (rw q at h))

  back_by : (key : Key) (seat : ℕ) → find (seat_of key) room.seats ≡ at seat → (t : Bool) → same_key key c ≡ t → Law t true key (arrive key) (outcome room (arrive key))
  unfolding made_by by_key entry_if answer_if if_accepted other_call accept
  back_by key seat h true hk =
      let low = some_empty room key seat h in
      let q = comes_back_to room key seat h low.place low.lowest in
      rw q (rw q at (own_back key seat h hk))
  back_by key seat h false hk =
      let low = some_empty room key seat h in
      let q = comes_back_to room key seat h low.place low.lowest in
      rw q (rw q at (other_return sizes c room whole key hk seat h))

  arrive_by : (key : Key) (f : Found) → find (seat_of key) room.seats ≡ f → Law (same_key key c) (is_found f) key (arrive key) (outcome room (arrive key))
  unfolding is_found
  arrive_by key none h = rw (arrives_new room key h) (new_by key h (same_key key c) refl (find is_vacant room.seats) refl)
  arrive_by key (at seat) h = back_by key seat h (same_key key c) refl

  leave_by : (seat : ℕ) (key : Key) (held : Held) → seat_at room seat ≡ holds (set_key held key) → (t : Bool) → same_key key c ≡ t
      → (seated : Bool) → Law t seated key (leave seat) (leave_from (holds (set_key held key)) room seat)
  unfolding made_by by_key answer_if leave_from accept if_accepted other_call
  leave_by seat key held e true h seated =
      let q = same_sound key c h in
      rw q (observe_departed sizes c (project c room) (leave seat) ∙ own_leave_lem sizes room whole c seat held (rw q at e))
  leave_by seat key held e false h seated = observe_one sizes c (project c room) (departed key) ∙ other_leave sizes room whole c seat (set_key held key) e h

  packet_by : (seat : ℕ) (bytes : List ℕ) (key : Key) (held : Held) → seat_at room seat ≡ holds (set_key held key) → (t : Bool) → same_key key c ≡ t
      → cond t false
      ((is_accepted (act_on (client.relay_read bytes) room seat (set_key held key)).answer && asks_for c (client.relay_read bytes))
      && eqb (number_answered (act_on (client.relay_read bytes) room seat (set_key held key)).sent) 0)
      ≡ false
      → (seated : Bool) → Law t seated key (packet_call seat bytes) (act_on (client.relay_read bytes) room seat (set_key held key))
  unfolding made_by by_key answer_if other_call
  packet_by seat bytes key held e true h z seated =
      let q = same_sound key c h in
      rw q (observe_own sizes c (project c room) (packet_call seat bytes) ∙ own_packet_lem sizes room whole c seat held (rw q at e) bytes)
  packet_by seat bytes key held e false h z seated =
      note_act sizes room whole c seat (set_key held key) e h bytes (λ number. stands start past key number c)
      (λ number. tied_here sizes start past room whole tie seat (set_key held key) e number c) (client.relay_read bytes) refl z

  leave_from_lem : (seat : ℕ) (s : Seat) → seat_at room seat ≡ s
      → observe_all sizes c (project c room) (entries_by (client_in s) start past c (made (leave seat) (leave_from s room seat)))
      ≡ observed_of sizes c room (leave_from s room seat) (answer_if (is_client c (client_in s)) (leave_from s room seat).answer)
  unfolding entries_by of_tick client_in is_client answer_if leave_from refuse observe_all room_after apply_all handed_by
  leave_from_lem seat vacant e = refl
  leave_from_lem seat (holds held) e = leave_by seat held.key held e (same_key held.key c) refl (is_seated start past held.key)

  packet_from_lem : (seat : ℕ) (bytes : List ℕ) (s : Seat) → seat_at room seat ≡ s
      → turns_away c (client_in s) (made (packet_call seat bytes) (packet_from s room seat bytes)) (packet_call seat bytes) ≡ false
      → observe_all sizes c (project c room) (entries_by (client_in s) start past c (made (packet_call seat bytes) (packet_from s room seat bytes)))
      ≡ observed_of sizes c room (packet_from s room seat bytes) (answer_if (is_client c (client_in s)) (packet_from s room seat bytes).answer)
  unfolding entries_by of_tick client_in is_client answer_if packet_from refuse observe_all room_after apply_all handed_by turns_away
  packet_from_lem seat bytes vacant e z = refl
  packet_from_lem seat bytes (holds held) e z = packet_by seat bytes held.key held e (same_key held.key c) refl z (is_seated start past held.key)

  -- a tick, refused or not: its one entry
  tick_by : (time number : ℕ) (zero back : Bool) → eqb number 0 ≡ zero → ltb time room.clock ≡ back
      → observe_all sizes c (project c room) (of_tick (tick time number) (put_out start past (tick time number) (tick_at zero back room time number).answer))
      ≡ observed_of sizes c room (tick_at zero back room time number) []
  unfolding of_tick observe
  tick_by time number zero back ez eb =
      observe_one sizes c (project c room) (ticked time number (put_out start past (tick time number) (tick_at zero back room time number).answer))
      ∙ tick_law sizes start past room whole tie c time number zero back ez eb

  pub one_call : (call : Call) → turns_away c (maker start past call) (event room call) call ≡ false
      → observe_all sizes c (project c room) (entries start past c (event room call))
      ≡ observed (project c (room_after sizes room (outcome room call))) (handed start past c (event room call).sent) (answer_if (is_client c (maker start past call)) (event room call).answer)
  unfolding entries entries_by event outcome maker is_client answer_if
  one_call (arrive key) z =
      rw (handed_law start past room tie c (outcome room (arrive key)).sent, seated_found start past room tie key) (arrive_by key (find (seat_of key) room.seats) refl)
  one_call (leave seat) z = rw (handed_law start past room tie c (leave_from (seat_at room seat) room seat).sent, tie.sits seat) (leave_from_lem seat (seat_at room seat) refl)
  one_call (packet_call seat bytes) z =
      rw (handed_law start past room tie c (packet_from (seat_at room seat) room seat bytes).sent, tie.sits seat) (packet_from_lem seat bytes (seat_at room seat) refl (rw (tie.sits seat) at z))
  one_call (tick time number) z =
      rw (handed_law start past room tie c (tick_at (eqb number 0) (ltb time room.clock) room time number).sent)
      (tick_by time number (eqb number 0) (ltb time room.clock) refl refl)
