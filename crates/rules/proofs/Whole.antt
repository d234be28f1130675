-- The empty room is whole, and every call leaves a whole room whole: a key is seated only where it sits nowhere, a wanted key is given a number only where
-- it has none and is not the asker's own, and a clock that goes back is refused. Assumes nothing.
use mathlib.Core.Path.{◌≡◌, refl, sym, ap, ◌∙◌, subst}
use mathlib.Core.Bool.{Bool, true, false, cond, true≢false, false≢true}
use mathlib.Core.List.{List, [], ◌∷◌, map}
use mathlib.Core.Logic.{◌↔◌, ◌≢◌}
use Prim.Native.Nat.{ℕ, ◌-◌, ◌≤◌}
use native.Mathlib.Omega.{arith}
use lib.Dec.{eqb, ltb}
use lib.ListN.{get_or, set, length, length-set, length-replicate, length-map}
use Rattle.packet_laws.specs.Read.{Read}
use Rattle.packet_laws.specs.Read as read
use Rattle.packet_laws.specs.FromClient as client
use Rattle.key.specs.Keys.{same_key}
use Rattle.key.proofs.Same.{same_refl, same_sound, not_so}
use Rattle.rules.specs.Room.{Sizes, Key, Route, free, wants, Held, Seat, vacant, holds, Room, none_since, newcomer, set_ping, set_route, set_clock, set_seats, set_seat, empty_room, Found, none, at, find, seat_of, is_vacant, route_to, is_free, ping_in, seat_at, route_at, first_number, number_of_place, Peer, alone, joined}
use Rattle.rules.specs.Whole.{Whole}
use Rattle.rules.specs.Call.{Call, arrive, leave, packet_call, tick}
use Rattle.rules.specs.Outcome.{with_route, with_ping, without_ping, apply, apply_all, refuse, accept, room_after, join_outcomes, peer, leave_from, take_seat, arrive_from, request_at, drop_at, oob_to, carry_to, data_at, pong_at, act, act_on, packet_from, overdue, is_overdue, is_due, tick_at, outcome}
use Rattle.rules.specs.After.{room_after_all}
use borrow.Author.Tests.{ltb-false}
use Rattle.rules.proofs.TickLaws.{get_d_each, seat_after_tick, no_ping, room_after_tick}
use Rattle.rules.proofs.FindLaws.{Once, find_hit, find_miss, find_clear, find_once, get_d_all, set_all, once_set, seat_of_holds, route_to_wants, route_at_place, wanted_high, wanted_place}

-- ---- whole, by the tests that searches make

-- what a whole room asks of one seat
abbrev pub WholeSeat : Sizes → ℕ → Seat → Type 0
WholeSeat sizes clock vacant = Unit {0}
WholeSeat sizes clock (holds held) =
    (length held.routes ≡ sizes.numbers) × ((wanted : Key) → Once (route_to wanted) free held.routes)
    × ((place : ℕ) → route_to held.key (get_or held.routes place free) ≡ false) × (held.ping.time ≤ clock)

module _ (sizes : Sizes) (room : Room) (whole : Whole sizes room) where
  pub key_once : (key : Key) → Once (seat_of key) vacant room.seats
  unfolding seat_at
  key_once key i j hi hj = whole.seated i j _ _ (seat_of_holds key _ hi) (seat_of_holds key _ hj) refl

  module _ (seat : ℕ) (held : Held) (sits : seat_at room seat ≡ holds held) where
    pub wanted_once : (other : Key) → Once (route_to other) free held.routes
    wanted_once other i j hi hj =
        let q : number_of_place i ≡ number_of_place j =
        whole.wanted seat held sits other (number_of_place i) (number_of_place j) (route_at_place held.routes i ∙ route_to_wants other _ hi) (route_at_place held.routes j ∙ route_to_wants other _ hj)
        in omega arith

    -- none of its routes names its own key
    pub own_unnamed : (place : ℕ) → route_to held.key (get_or held.routes place free) ≡ false
    own_unnamed place =
        not_so (λ h. whole.not_own seat held sits (number_of_place place) (route_at_place held.routes place ∙ route_to_wants held.key _ h))

    -- its key is found there
    pub key_found : find (seat_of held.key) room.seats ≡ at seat
    unfolding seat_of seat_at
    key_found = find_once (seat_of held.key) vacant room.seats seat refl (key_once held.key) (rw sits (same_refl held.key))

  -- clients in different seats have different keys, so "connected" could ask for either
  pub seats_keys_differ : (i j : ℕ) (held held' : Held) → seat_at room i ≡ holds held → seat_at room j ≡ holds held' → (i ≢ j) ↔ (held.key ≢ held'.key)
  seats_keys_differ i j held held' hi hj = (
    λ ne q. ne (whole.seated i j held held' hi hj q),
    λ ne q. ne (let h = ap (seat_at room) q in cc),
  )

  pub whole_seat : (seat : ℕ) → WholeSeat sizes room.clock (seat_at room seat)
  whole_seat seat = go (seat_at room seat) refl
    where
      go : (s : Seat) → seat_at room seat ≡ s → WholeSeat sizes room.clock s
      go vacant e = tt
      go (holds held) e = (whole.numbers seat held e, wanted_once seat held e, own_unnamed seat held e, whole.ping_times seat held e)

module _ (sizes : Sizes) (room : Room) where
  pub make_whole : length room.seats ≡ sizes.seats → ((seat : ℕ) → WholeSeat sizes room.clock (seat_at room seat)) → ((key : Key) → Once (seat_of key) vacant room.seats) → Whole sizes room
  unfolding seat_at seat_of route_to
  make_whole long each once = record {
    seats = long;
    numbers = λ seat held e. (rw e at (each seat)).0;
    seated = λ i j held held' ei ej q. once held.key i j (rw ei (same_refl held.key)) (rw (ej, q) (same_refl held'.key));
    wanted = λ seat held e other i j hi hj.
        (let pi = wanted_high held.routes i other hi in
        let pj = wanted_high held.routes j other hj in
        let q =
        (rw e at (each seat)).1 other (i - first_number) (j - first_number) (rw (wanted_place held.routes i other hi) (same_refl other))
        (rw (wanted_place held.routes j other hj) (same_refl other)) in
        omega arith);
    not_own = λ seat held e number h.
        true≢false (sym (same_refl held.key) ∙ sym (ap (route_to held.key) (wanted_place held.routes number held.key h))
        ∙ (rw e at (each seat)).2 (number - first_number));
    ping_times = λ seat held e. (rw e at (each seat)).3;
  }

-- ---- the empty room

pub whole_empty : (sizes : Sizes) → Whole sizes (empty_room sizes)
unfolding empty_room seat_at seat_of
whole_empty sizes =
    make_whole sizes (empty_room sizes) (length-replicate sizes.seats vacant) (λ seat. rw (get_d_all sizes.seats seat vacant) tt)
    (λ key i j h. absurd (false≢true (sym (ap (seat_of key) (get_d_all sizes.seats i vacant)) ∙ h)))

-- ---- each call

module _ (sizes : Sizes) (room : Room) (whole : Whole sizes room) where
  -- one seat is replaced
  pub whole_set : (seat : ℕ) (s : Seat) → ((key : Key) → seat_of key s ≡ true → (j : ℕ) → seat_of key (get_or room.seats j vacant) ≡ true → j ≡ seat)
      → WholeSeat sizes room.clock s → Whole sizes (set_seat room seat s)
  unfolding seat_at
  whole_set seat s only good =
      make_whole sizes (set_seat room seat s) (length-set room.seats seat s ∙ whole.seats) (set_all (WholeSeat sizes room.clock) vacant room.seats seat s good (whole_seat sizes room whole))
      (λ key. once_set (seat_of key) vacant room.seats seat s (key_once sizes room whole key) (only key))

  -- a key that is not seated takes a seat
  whole_take : (key : Key) (lowest : Found) → find (seat_of key) room.seats ≡ none → Whole sizes (room_after sizes room (take_seat lowest key))
  unfolding room_after apply_all apply take_seat refuse accept seat_of route_to
  whole_take key none e = whole
  whole_take key (at seat) e =
      whole_set seat (holds (newcomer sizes room.clock key))
      (λ k h j hj. absurd (true≢false (sym hj ∙ subst (λ (x : Key). seat_of x (get_or room.seats j vacant) ≡ false) (same_sound key k h) (find_miss (seat_of key) vacant room.seats refl e j)))) (
        length-replicate sizes.numbers free,
        λ w i j h. absurd (false≢true (sym (ap (route_to w) (get_d_all sizes.numbers i free)) ∙ h)),
        λ i. ap (route_to key) (get_d_all sizes.numbers i free),
        omega arith,
      )

  whole_leave : (seat : ℕ) (s : Seat) → Whole sizes (room_after sizes room (leave_from s room seat))
  unfolding room_after apply_all apply leave_from refuse accept seat_of
  whole_leave seat vacant = whole
  whole_leave seat (holds held) = whole_set seat vacant (λ k h. absurd (false≢true h)) tt

  module _ (seat : ℕ) (held : Held) (sits : seat_at room seat ≡ holds held) where
    -- one of its routes is replaced
    whole_route : (place : ℕ) (route : Route) → ((w : Key) → route_to w route ≡ true → (j : ℕ) → route_to w (get_or held.routes j free) ≡ true → j ≡ place)
        → route_to held.key route ≡ false → Whole sizes (set_seat room seat (with_route (seat_at room seat) place route))
    unfolding with_route seat_of seat_at
    whole_route place route only others =
        rw sits
        (whole_set seat (holds (set_route held place route)) (λ k h j hj. key_once sizes room whole k j seat hj (rw sits h)) (
          length-set held.routes place route ∙ whole.numbers seat held sits,
          λ w. once_set (route_to w) free held.routes place route (wanted_once sizes room whole seat held sits w) (only w),
          set_all (λ (r : Route). route_to held.key r ≡ false) free held.routes place route others (own_unnamed sizes room whole seat held sits),
          whole.ping_times seat held sits,
        ))

    whole_request : (wanted : Key) (own : Bool) (old lowest : Found) → same_key wanted held.key ≡ own → find (route_to wanted) held.routes ≡ old
        → Whole sizes (room_after sizes room (request_at own old lowest room seat held.key wanted))
    unfolding room_after apply_all apply request_at accept route_to
    whole_request wanted true old lowest o e = whole
    whole_request wanted false (at place) lowest o e = whole
    whole_request wanted false none none o e = whole
    whole_request wanted false none (at place) o e =
        whole_route place (wants wanted)
        (λ w h j hj. absurd (true≢false (sym hj ∙ subst (λ (x : Key). route_to x (get_or held.routes j free) ≡ false) (same_sound wanted w h) (find_miss (route_to wanted) free held.routes refl e j))))
        o

    whole_drop : (number : ℕ) (route : Route) → Whole sizes (room_after sizes room (drop_at route room seat held.key number))
    unfolding room_after apply_all apply drop_at accept refuse route_to
    whole_drop number free = whole
    whole_drop number (wants wanted) = whole_route (number - first_number) free (λ w h. absurd (false≢true h)) refl

    whole_oob : (other : Found) (bytes : List ℕ) → Whole sizes (room_after sizes room (oob_to other seat held.key bytes))
    unfolding room_after apply_all oob_to accept
    whole_oob none bytes = whole
    whole_oob (at other) bytes = whole

    whole_carry : (p : Peer) (bytes : List ℕ) → Whole sizes (room_after sizes room (carry_to p seat bytes))
    unfolding room_after apply_all carry_to accept refuse
    whole_carry alone bytes = whole
    whole_carry (joined other place) bytes = whole

    whole_data : (route : Route) (bytes : List ℕ) → Whole sizes (room_after sizes room (data_at route room seat held.key bytes))
    unfolding room_after apply_all data_at refuse
    whole_data free bytes = whole
    whole_data (wants wanted) bytes = whole_carry (peer room seat held.key wanted) bytes

    -- its ping is answered: its time stays
    whole_answered : Whole sizes (set_seat room seat (without_ping (seat_at room seat)))
    unfolding without_ping seat_of seat_at
    whole_answered =
        let w = rw sits at (whole_seat sizes room whole seat) in
        rw sits (whole_set seat (holds (set_ping held (none_since held.ping.time))) (λ k h j hj. key_once sizes room whole k j seat hj (rw sits h)) w)

    whole_pong : (t : Bool) → Whole sizes (room_after sizes room (pong_at t seat))
    unfolding room_after apply_all apply pong_at accept
    whole_pong true = whole_answered
    whole_pong false = whole

    whole_act : (p : client.FromClient) → Whole sizes (room_after sizes room (act p room seat held))
    unfolding room_after apply_all act accept
    whole_act (client.routing_request wanted) =
        whole_request wanted (same_key wanted held.key) (find (route_to wanted) held.routes) (find is_free held.routes) refl refl
    whole_act (client.drop_route number) = whole_drop number (route_at held.routes number)
    whole_act (client.ping n) = whole
    whole_act (client.pong n) = whole_pong (eqb n held.ping.number)
    whole_act (client.oob_send wanted bytes) = whole_oob (find (seat_of wanted) room.seats) bytes
    whole_act (client.routed_data number bytes) = whole_data (route_at held.routes number) bytes

    whole_read : (r : Read client.FromClient) → Whole sizes (room_after sizes room (act_on r room seat held))
    unfolding room_after apply_all act_on refuse
    whole_read (read.packet p) = whole_act p
    whole_read (read.refused why) = whole

  whole_packet : (seat : ℕ) (bytes : List ℕ) (s : Seat) → seat_at room seat ≡ s → Whole sizes (room_after sizes room (packet_from s room seat bytes))
  unfolding room_after apply_all packet_from refuse
  whole_packet seat bytes vacant e = whole
  whole_packet seat bytes (holds held) e = whole_read seat held e (client.relay_read bytes)

  -- a tick: each seat for itself
  ticked_seat : (time number : ℕ) → room.clock ≤ time → (s : Seat) → WholeSeat sizes room.clock s → WholeSeat sizes time (seat_after_tick time number s)
  unfolding is_due is_overdue overdue ping_in with_ping
  ticked_seat time number later vacant w = tt
  ticked_seat time number later (holds held) w = go (is_due time (holds held)) (is_overdue time (holds held))
    where
      left : Bool → Seat
      left u = cond u vacant (holds held)

      go : (t u : Bool) → WholeSeat sizes time (cond t (with_ping (left u) time number) (left u))
      go true true = tt
      go true false = (w.0, w.1, w.2, omega arith)
      go false true = tt
      go false false = let h = w.3 in (w.0, w.1, w.2, omega arith)

  -- who sits there after a tick sat there before
  pub ticked_key : (time number : ℕ) (key : Key) (s : Seat) → seat_of key (seat_after_tick time number s) ≡ true → seat_of key s ≡ true
  unfolding seat_of with_ping
  ticked_key time number key s = go (is_due time s) (is_overdue time s) s
    where
      go : (t u : Bool) (s : Seat) → seat_of key (cond t (with_ping (cond u vacant s) time number) (cond u vacant s)) ≡ true → seat_of key s ≡ true
      go true true s h = absurd (false≢true h)
      go true false vacant h = h
      go true false (holds held) h = h
      go false true s h = absurd (false≢true h)
      go false false s h = h

  whole_tick : (zero back : Bool) (time number : ℕ) → ltb time room.clock ≡ back → Whole sizes (room_after sizes room (tick_at zero back room time number))
  unfolding room_after apply_all tick_at refuse
  whole_tick true back time number e = whole
  whole_tick false true time number e = whole
  whole_tick false false time number e = rw (room_after_tick sizes room time number) made
    where
      room' : Room
      room' = set_seats (set_clock room time) (map (seat_after_tick time number) room.seats)

      at_seat : (seat : ℕ) → get_or room'.seats seat vacant ≡ seat_after_tick time number (get_or room.seats seat vacant)
      at_seat seat = get_d_each (seat_after_tick time number) vacant (no_ping time number) room.seats seat

      made : Whole sizes room'
      made =
          make_whole sizes room' (length-map room.seats (seat_after_tick time number) ∙ whole.seats)
          (λ seat. unfold seat_at in rw (at_seat seat) (ticked_seat time number (ltb-false time room.clock e) (get_or room.seats seat vacant) (unfold seat_at in whole_seat sizes room whole seat)))
          (λ key i j hi hj. key_once sizes room whole key i j (ticked_key time number key _ (rw (at_seat i) at hi)) (ticked_key time number key _ (rw (at_seat j) at hj)))

-- a seated key leaves, and takes a seat of the room that it has left, where it sits nowhere
module _ (sizes : Sizes) (room : Room) (whole : Whole sizes room) where
  pub left_nowhere : (key : Key) (seat : ℕ) → find (seat_of key) room.seats ≡ at seat → find (seat_of key) (set room.seats seat vacant) ≡ none
  unfolding seat_of
  left_nowhere key seat e = find_clear (seat_of key) vacant room.seats seat vacant (key_once sizes room whole key) (find_hit (seat_of key) vacant room.seats seat e) refl

  whole_back : (key : Key) (seat : ℕ) → find (seat_of key) room.seats ≡ at seat → Whole sizes (room_after sizes room (arrive_from (at seat) room key))
  unfolding room_after apply_all apply arrive_from leave_from take_seat join_outcomes refuse accept
  whole_back key seat e = go (seat_at room seat) (find is_vacant (set room.seats seat vacant))
    where
      go : (s : Seat) (lowest : Found)
          → Whole sizes (room_after sizes room (join_outcomes (leave_from s room seat).answer (take_seat lowest key).answer (leave_from s room seat) (take_seat lowest key)))
      go vacant lowest = whole
      go (holds held) none = whole
      go (holds held) (at place) = whole_take sizes (set_seat room seat vacant) (whole_leave sizes room whole seat (holds held)) key (at place) (left_nowhere key seat e)

  whole_arrive : (key : Key) (seated : Found) → find (seat_of key) room.seats ≡ seated → Whole sizes (room_after sizes room (arrive_from seated room key))
  unfolding arrive_from
  whole_arrive key none e = whole_take sizes room whole key (find is_vacant room.seats) e
  whole_arrive key (at seat) e = whole_back key seat e

  -- every call leaves a whole room whole
  pub whole_after : (call : Call) → Whole sizes (room_after sizes room (outcome room call))
  unfolding outcome
  whole_after (arrive key) = whole_arrive key (find (seat_of key) room.seats) refl
  whole_after (leave seat) = whole_leave sizes room whole seat (seat_at room seat)
  whole_after (packet_call seat bytes) = whole_packet sizes room whole seat bytes (seat_at room seat) refl
  whole_after (tick time number) = whole_tick sizes room whole (eqb number 0) (ltb time room.clock) time number refl

-- ---- every history

pub whole_history : (sizes : Sizes) (room : Room) → Whole sizes room → (calls : List Call) → Whole sizes (room_after_all sizes room calls)
unfolding room_after_all
whole_history sizes room whole [] = whole
whole_history sizes room whole (call ∷ calls) = whole_history sizes (room_after sizes room (outcome room call)) (whole_after sizes room whole call) calls

pub whole_from_empty : (sizes : Sizes) (calls : List Call) → Whole sizes (room_after_all sizes (empty_room sizes) calls)
whole_from_empty sizes calls = whole_history sizes (empty_room sizes) (whole_empty sizes) calls
