-- "Clearing the peer's request at a disconnect: when the other asks again, both must be told connected." In every whole room: where a client asks for one
-- whose request for it stands, and has none for it itself and a number free, it is answered, and it and then the other are told connected, each with its own
-- number. And so when, of two connected clients, one drops its number and asks again, or leaves, comes back and asks again, or comes back without leaving and
-- asks again. Assumes nothing.
use mathlib.Core.Path.{◌≡◌, refl, sym, ap, ◌∙◌}
use mathlib.Core.Bool.{Bool, true, false, true≢false}
use mathlib.Core.List.{List, [], ◌∷◌}
use mathlib.Core.Logic.{◌≢◌}
use Prim.Native.Nat.{ℕ, zero, suc, ◌-◌, ◌<◌}
use native.Mathlib.Omega.{arith}
use lib.ListN.{get_or, length, replicate}
use lib.Seq.{get_or-set_same}
use Rattle.key.specs.Keys.{same_key}
use Rattle.key.proofs.Same.{same_refl, same_sound, not_so}
use Rattle.packet_laws.specs.Read as read
use Rattle.packet_laws.specs.FromClient as client
use Rattle.packet_laws.specs.FromRelay as relay
use Rattle.rules.specs.Room.{Sizes, Key, free, wants, Seat, vacant, holds, Room, Found, none, at, or_later, find, seat_of, is_vacant, route_to, is_free, seat_at, route_at, first_number, number_of_place, Held, newcomer, set_route, set_seat}
use Rattle.rules.specs.Whole.{Whole}
use Rattle.rules.specs.Call.{arrive, leave, packet_call, accepted}
use Rattle.rules.specs.Outcome.{Outcome, seat_emptied, seat_taken, with_route, apply, apply_all, refuse, accept, to, room_after, tell_peers, take_seat, leave_from, tell_both, request_at, drop_at, act, act_on, packet_from, outcome}
use Rattle.rules.specs.Transcript.{is_accepted}
use Rattle.after_calls.specs.Told.{BothTold}
use Rattle.rules.proofs.FindLaws.{Once, find_hit, find_miss, find_within, find_once, find_clear, find_replicate, seat_set, held_within, wanted_high, wanted_place}
use Rattle.rules.proofs.Whole.{key_found, left_nowhere, wanted_once, seats_keys_differ, whole_after}
use Rattle.rules.proofs.ComesBack as comes
use Rattle.rules.proofs.ComesBack.{arrives_new, Lowest, some_empty, comes_back_to, takes_then, comes_back}
use Rattle.rules.proofs.OutcomeLaws.{room_after_both}
use Rattle.rules.proofs.PeerLaws.{has_peer}
use Rattle.rules.proofs.OtherSeats.{packet_keeps_others, leave_keeps_others, arrive_keeps_others}

-- it has no request for the other's key, which has one for its own under `number`, and a number is free
module _ (sizes : Sizes) (room : Room) (whole : Whole sizes room) (seat other : ℕ) (ne : seat ≢ other) (held held' : Held)
    (here : seat_at room seat ≡ holds held) (there : seat_at room other ≡ holds held') (number : ℕ) (stands : route_at held'.routes number ≡ wants held.key)
    (place : ℕ) (not_asked : find (route_to held'.key) held.routes ≡ none) (lowest : find is_free held.routes ≡ at place) where
  their_number : number_of_place (number - first_number) ≡ number
  their_number = let h = wanted_high held'.routes number held.key stands in omega arith

  keys_differ : same_key held'.key held.key ≡ false
  keys_differ = not_so (λ e. (seats_keys_differ sizes room whole seat other held held' here there).0 ne (sym (same_sound held'.key held.key e)))

  pub both_told : (bytes : List ℕ) → client.relay_read bytes ≡ read.packet (client.routing_request held'.key) → BothTold (outcome room (packet_call seat bytes)) seat other number held'.key
  unfolding outcome packet_from act_on act request_at accept tell_both
  both_told bytes asks = record {
    own = number_of_place place;
    sent =
        rw (here, asks, keys_differ, not_asked, lowest, has_peer room seat held.key held'.key sizes whole other number (record { apart = ne; held = held'; sits = there; asked = stands }))
        (ap (λ (n : ℕ). to seat (relay.routing_response (number_of_place place) held'.key) ∷ to seat (relay.connect_notice (number_of_place place)) ∷ to other (relay.connect_notice n) ∷ []) their_number);
  }

-- a test that holds at some place is found to hold
find_some : {A B : Type 0} (test : A → Bool) (d : A) (l : List A) (i : ℕ) → test d ≡ false → test (get_or l i d) ≡ true → ((j : ℕ) → find test l ≡ at j → B) → B
find_some {A} {B} test d l i hd hi found = go (find test l) refl
  where
    go : (f : Found) → find test l ≡ f → B
    go none e = absurd (true≢false (sym hi ∙ find_miss test d l hd e i))
    go (at j) e = found j e

first_free : (n : ℕ) → 0 < n → find is_free (replicate n free) ≡ at 0
unfolding find or_later is_free
first_free zero h = absurd (omega arith)
first_free (suc n) h = refl

-- an arrival in the lowest empty seat
arrived : (sizes : Sizes) (room : Room) (key : Key) (seat : ℕ) → find (seat_of key) room.seats ≡ none → find is_vacant room.seats ≡ at seat
    → seat_at (room_after sizes room (outcome room (arrive key))) seat ≡ holds (newcomer sizes room.clock key)
unfolding take_seat accept room_after apply_all apply
arrived sizes room key seat e e' = rw (arrives_new room key e, e') (seat_set room seat _ (find_within is_vacant room.seats seat e'))

-- two clients are connected: `number` of the one in `seat` names the one in `other`, whose `number'` names it
module _ (sizes : Sizes) (room : Room) (whole : Whole sizes room) (seat other : ℕ) (ne : seat ≢ other) (held held' : Held)
    (here : seat_at room seat ≡ holds held) (there : seat_at room other ≡ holds held') (number number' : ℕ)
    (names : route_at held.routes number ≡ wants held'.key) (named : route_at held'.routes number' ≡ wants held.key) where
  -- it drops the number, and asks again
  module _ (drops asks : List ℕ) (isDrop : client.relay_read drops ≡ read.packet (client.drop_route number)) (isRequest : client.relay_read asks ≡ read.packet (client.routing_request held'.key)) where
    -- the room after the drop, and its routes there
    abbrev dropped : Room
    dropped = room_after sizes room (outcome room (packet_call seat drops))

    abbrev rest : Held
    rest = set_route held (number - first_number) free

    own_left : seat_at dropped seat ≡ holds rest
    unfolding outcome packet_from act_on act drop_at accept room_after apply_all apply with_route
    own_left = rw (here, isDrop, names) (seat_set room seat _ (held_within room seat held here) ∙ ap (λ (s : Seat). with_route s (number - first_number) free) here)

    once : Once (route_to held'.key) free held.routes
    once = wanted_once sizes room whole seat held here held'.key

    named_here : route_to held'.key (get_or held.routes (number - first_number) free) ≡ true
    unfolding route_to
    named_here = ap (route_to held'.key) (wanted_place held.routes number held'.key names) ∙ same_refl held'.key

    within : number - first_number < length held.routes
    unfolding route_to
    within = find_within (route_to held'.key) held.routes (number - first_number) (find_once (route_to held'.key) free held.routes (number - first_number) refl once named_here)

    pub told_again_after_drop : BothTold (outcome dropped (packet_call seat asks)) seat other number' held'.key
    unfolding route_to is_free
    told_again_after_drop =
        find_some is_free (wants held'.key) rest.routes (number - first_number) refl (ap is_free (get_or-set_same held.routes (number - first_number) free (wants held'.key) within))
        (λ place lowest. both_told sizes dropped (whole_after sizes room whole (packet_call seat drops)) seat other ne rest held' own_left
        (packet_keeps_others sizes room seat other (λ q. ne (sym q)) drops ∙ there) number' named place
        (find_clear (route_to held'.key) free held.routes (number - first_number) free once named_here refl) lowest asks isRequest)

  -- it leaves, comes back, and asks again
  module _ (some : 0 < sizes.numbers) (asks : List ℕ) (isRequest : client.relay_read asks ≡ read.packet (client.routing_request held'.key)) where
    abbrev left : Room
    left = room_after sizes room (outcome room (leave seat))

    abbrev back : Room
    back = room_after sizes left (outcome left (arrive held.key))

    left_other : seat_at left other ≡ holds held'
    left_other = leave_keeps_others sizes room seat other (λ q. ne (sym q)) ∙ there

    left_is : left ≡ set_seat room seat vacant
    unfolding outcome leave_from accept room_after apply_all apply
    left_is = rw here

    found : find (seat_of held.key) room.seats ≡ at seat
    found = key_found sizes room whole seat held here

    not_seated : find (seat_of held.key) left.seats ≡ none
    not_seated = ap (λ (r : Room). find (seat_of held.key) r.seats) left_is ∙ left_nowhere sizes room whole held.key seat found

    -- its arrival is accepted, since its old seat is empty
    pub accepted_after_leave : is_accepted (outcome left (arrive held.key)).answer ≡ true
    unfolding take_seat accept is_accepted is_vacant
    accepted_after_leave =
        find_some is_vacant (holds held) left.seats seat refl
        (ap (λ (r : Room). is_vacant (get_or r.seats seat (holds held))) left_is
        ∙ ap is_vacant (get_or-set_same room.seats seat vacant (holds held) (held_within room seat held here)))
        (λ j e. rw (arrives_new left held.key not_seated, e))

    -- in the seat that it is answered with
    module _ (again count : ℕ) (answered : (outcome left (arrive held.key)).answer ≡ accepted again count) where
      lowest_is : (f : Found) → find is_vacant left.seats ≡ f → find is_vacant left.seats ≡ at again
      unfolding take_seat accept refuse
      lowest_is none e = let h = rw (arrives_new left held.key not_seated, e) at answered in absurd (cc)
      lowest_is (at j) e = let h = rw (arrives_new left held.key not_seated, e) at answered in let q : j ≡ again = cc in e ∙ ap at q

      lowest : find is_vacant left.seats ≡ at again
      lowest = lowest_is (find is_vacant left.seats) refl

      else : again ≢ other
      unfolding is_vacant seat_at
      else q = true≢false (sym (find_hit is_vacant vacant left.seats again lowest) ∙ ap is_vacant (ap (seat_at left) q ∙ left_other))

      -- the other client has another key
      elsewhere : seat_of held.key (seat_at left other) ≡ false
      unfolding seat_of seat_at
      elsewhere = find_miss (seat_of held.key) vacant left.seats refl not_seated other

      back_here : seat_at back again ≡ holds (newcomer sizes left.clock held.key)
      back_here = arrived sizes left held.key again not_seated lowest

      pub told_again_after_leave : BothTold (outcome back (packet_call again asks)) again other number' held'.key
      unfolding route_to
      told_again_after_leave =
          both_told sizes back (whole_after sizes left (whole_after sizes room whole (leave seat)) (arrive held.key)) again other else (newcomer sizes left.clock held.key) held' back_here
          (arrive_keeps_others sizes left again other (λ q. else (sym q)) held.key count elsewhere answered ∙ left_other) number' named 0
          (find_replicate (route_to held'.key) sizes.numbers free refl) (first_free sizes.numbers some) asks isRequest

    -- it comes back without leaving, and asks again: the room is the same then
    module _ (again count : ℕ) (answered : (outcome room (arrive held.key)).answer ≡ accepted again count) where
      low : Lowest room held.key seat found
      low = some_empty room held.key seat found

      returns : outcome room (arrive held.key) ≡ accept low.place (seat_emptied seat ∷ seat_taken low.place held.key ∷ []) (tell_peers room seat held.key (comes.held room held.key seat found).routes)
      returns = comes_back_to room held.key seat found low.place low.lowest

      same_seat : low.place ≡ again
      unfolding accept
      same_seat = let h = sym (ap (λ (o : Outcome). o.answer) returns) ∙ answered in let q : low.place ≡ again = cc in q

      takes : outcome left (arrive held.key) ≡ accept low.place (seat_taken low.place held.key ∷ []) []
      takes = ap (λ (r : Room). outcome r (arrive held.key)) left_is ∙ takes_then room held.key seat found sizes whole low.place low.lowest

      same_room : room_after sizes room (outcome room (arrive held.key)) ≡ back
      unfolding is_accepted
      same_room =
          let both = comes_back room held.key seat found sizes whole in
          ap (room_after sizes room) both
          ∙ room_after_both sizes room (outcome room (leave seat)) (λ r. outcome r (arrive held.key))
          (ap (λ (o : Outcome). is_accepted o.answer) (sym both) ∙ ap is_accepted answered)

      pub told_again_after_return : BothTold (outcome (room_after sizes room (outcome room (arrive held.key))) (packet_call again asks)) again other number' held'.key
      unfolding accept
      told_again_after_return =
          rw (same_room, ← same_seat) (told_again_after_leave low.place _ (ap (λ (o : Outcome). o.answer) takes))
