-- An accepted arrival changes the room's tables just as its answer tells: its client sits in the seat answered and in no other, none of its requests stands, and no
-- ping is outstanding there. One law for a key that is seated and for one that is not: every other client sits as before, and the client takes the lowest empty
-- seat of those. Assumes nothing.
use mathlib.Core.Path.{◌≡◌, refl, sym, ap, ◌∙◌}
use mathlib.Core.Bool.{Bool, true, false, cond, true≢false}
use mathlib.Core.List.{List, [], ◌∷◌}
use Prim.Native.Nat.{ℕ, ◌<◌}
use lib.Dec.{eqb}
use lib.ListN.{get_or, set, length, length-set}
use lib.Seq.{get_or-set_other}
use Rattle.key.specs.Keys.{same_key}
use Rattle.key.proofs.Same.{same_sound}
use Rattle.rules.specs.Room.{Sizes, Key, Route, Seat, vacant, holds, Room, none_since, newcomer, set_seats, set_seat, Found, none, at, find, seat_of, is_vacant, route_to, ping_in, seat_at, route_at}
use Rattle.rules.specs.Whole.{Whole}
use Rattle.rules.specs.Call.{arrive, accepted}
use Rattle.rules.specs.Outcome.{seat_taken, seat_emptied, tell_peers, apply, apply_all, accept, Outcome, room_after, take_seat, outcome}
use Rattle.rules.specs.History.{Event}
use Rattle.rules.specs.Transcript.{Past, client_of, is_client, Start, is_accepted, clock_after, clock_of, ping_after_arrival, ping_after, ping_of, put_out, is_among, sits_after_arrival, sits_after, sitter, maker, stands_after_own, stands_after, stands}
use Rattle.rules.specs.After.{client_in, routes_in, routes_by, Tied}
use Rattle.rules.proofs.FindLaws.{find_miss, set_default, find_hit, find_within, route_none}
use Rattle.rules.proofs.Whole.{key_once, left_nowhere, whole_after}
use Rattle.rules.proofs.ComesBack.{arrives_new, held, sits_there, Lowest, some_empty, comes_back_to}
use Rattle.rules.proofs.SeatedLaws.{client_of_lem}
use Rattle.rules.proofs.SeatSet.{routes_arrived, seat_put, client_set, routes_else}

module _ (sizes : Sizes) (start : Start) (past : Past) (room : Room) (whole : Whole sizes room) (tie : Tied start past room) (key : Key) where
  -- the arrival
  abbrev arrival : Event
  arrival = record { call = arrive key; answer = (outcome room (arrive key)).answer; sent = (outcome room (arrive key)).sent }

  abbrev next : Room
  next = room_after sizes room (outcome room (arrive key))

  -- `left` are the seats without the client
  module _ (left : List Seat) (as_long : length left ≡ length room.seats) (gone : find (seat_of key) left ≡ none)
      (sit : (here : ℕ) → get_or left here vacant ≡ cond (seat_of key (seat_at room here)) vacant (seat_at room here))
      (routes : (k : Key) → same_key key k ≡ false → routes_by (set_seats room left) k ≡ routes_by room k)
      (place : ℕ) (lowest : find is_vacant left ≡ at place) where
    abbrev new : Seat
    new = holds (newcomer sizes room.clock key)

    within : place < length left
    within = find_within is_vacant left place lowest

    -- a seat without the client
    without : {A : Type 0} (f : Seat → A) (here : ℕ) → cond (is_client key (client_in (seat_at room here))) (f vacant) (f (seat_at room here)) ≡ f (seat_at (set_seats room left) here)
    unfolding seat_at
    without f here = rw (sit here, client_of_lem key (get_or room.seats here vacant)) (pick (seat_of key (get_or room.seats here vacant)) (get_or room.seats here vacant))
      where
        pick : (t : Bool) (s : Seat) → cond t (f vacant) (f s) ≡ f (cond t vacant s)
        pick true s = refl
        pick false s = refl

    tied_takes : (count : ℕ) → (outcome room (arrive key)).answer ≡ accepted place count → next ≡ set_seat (set_seats room left) place new → Tied start (arrival ∷ past) next
    unfolding sitter sits_after sits_after_arrival is_accepted stands stands_after stands_after_own maker client_in put_out is_among clock_of clock_after ping_of ping_after ping_after_arrival ping_in route_to outcome room_after
    tied_takes count answered after = rw (answered, after) (record {
      seats = tie.seats ∙ sym (length-set left place _ ∙ as_long);
      clock = tie.clock;
      pings = λ here.
          rw (tie.clock, tie.sits here, tie.pings here)
          (ap (cond (eqb place here) (none_since room.clock)) (without ping_in here) ∙ sym (seat_put (set_seats room left) place new within ping_in here));
      sits = λ here.
          rw (tie.sits here) (ap (cond (eqb place here) (client_of key)) (without client_in here) ∙ sym (client_set (set_seats room left) place new within here));
      requests = λ k number wanted. rw (tie.requests k number wanted) (on k number wanted (same_key key k) refl);
    })
      where
        moved : (k : Key) (number : ℕ) → route_at (routes_by (set_seats room left) k) number ≡ route_at (routes_by (set_seat (set_seats room left) place new) k) number
        moved k number = routes_arrived sizes (set_seats room left) place key gone lowest (rw after at (whole_after sizes room whole (arrive key))) k number

        none_left : (k : Key) → same_key key k ≡ true → routes_by (set_seats room left) k ≡ []
        none_left k q = unfold routes_by routes_in in rw (← (same_sound key k q), gone)

        on : (k : Key) (number : ℕ) (wanted : Key) (t : Bool) → same_key key k ≡ t
            → cond t false (route_to wanted (route_at (routes_by room k) number)) ≡ route_to wanted (route_at (routes_by (set_seat (set_seats room left) place new) k) number)
        on k number wanted true q =
            sym (ap (route_to wanted) (sym (moved k number) ∙ ap (λ (l : List Route). route_at l number) (none_left k q) ∙ route_none number))
        on k number wanted false q = ap (λ (l : List Route). route_to wanted (route_at l number)) (sym (routes k q)) ∙ ap (route_to wanted) (moved k number)

  -- a key that is not seated
  pub tied_new : find (seat_of key) room.seats ≡ none → (place : ℕ) → find is_vacant room.seats ≡ at place → Tied start (arrival ∷ past) next
  unfolding room_after apply_all apply take_seat accept seat_at seat_of
  tied_new nowhere place lowest =
      let q = arrives_new room key nowhere ∙ ap (λ (f : Found). take_seat f key) lowest in
      tied_takes room.seats refl nowhere (λ here. rw (find_miss (seat_of key) vacant room.seats refl nowhere here)) (λ k h. refl) place lowest _
      (ap (λ (o : Outcome). o.answer) q) (ap (room_after sizes room) q)

  -- a seated key
  pub tied_back : (seat : ℕ) → find (seat_of key) room.seats ≡ at seat → Tied start (arrival ∷ past) next
  unfolding room_after apply_all apply accept seat_at seat_of
  tied_back seat found =
      tied_takes (set room.seats seat vacant) (length-set room.seats seat vacant) (left_nowhere sizes room whole key seat found) (λ here. sit here (seat_of key (seat_at room here)) refl)
      (λ k h. routes_else room seat vacant k (apart k h) refl) low.place low.lowest _ (ap (λ (o : Outcome). o.answer) q) (ap (room_after sizes room) q)
    where
      there : seat_of key (seat_at room seat) ≡ true
      there = find_hit (seat_of key) vacant room.seats seat found

      low : Lowest room key seat found
      low = some_empty room key seat found

      q : outcome room (arrive key) ≡ accept low.place (seat_emptied seat ∷ seat_taken low.place key ∷ []) (tell_peers room seat key (held room key seat found).routes)
      q = comes_back_to room key seat found low.place low.lowest

      apart : (k : Key) → same_key key k ≡ false → seat_of k (seat_at room seat) ≡ false
      apart k h = rw (sits_there room key seat found) h

      sit : (here : ℕ) (t : Bool) → seat_of key (seat_at room here) ≡ t → get_or (set room.seats seat vacant) here vacant ≡ cond t vacant (seat_at room here)
      sit here true h = ap (λ (i : ℕ). get_or (set room.seats seat vacant) i vacant) (key_once sizes room whole key here seat h there) ∙ set_default room.seats seat vacant
      sit here false h = get_or-set_other room.seats seat here vacant vacant (λ z. true≢false (sym (rw z there) ∙ h))
