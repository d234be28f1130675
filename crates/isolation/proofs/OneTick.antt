-- The law of one tick: in a whole room that says what has happened says, observing its entry yields what it does: the view of the room after it, and the packets
-- that it hands to C. The seats that go in the view are those that go in the room; each departure, from the room that the last left, hands C what it hands C
-- in the view; and of the pings only that of C's own seat is C's. C's own departure goes by its own ping and the time, so the law holds with C struck out of
-- the entry's keys. Assumes nothing.
use mathlib.Core.Path.{◌≡◌, refl, sym, ap, ap₂, ◌∙◌}
use mathlib.Core.Bool.{Bool, true, false, ◌&&◌, ◌||◌, cond, true≢false, false≢true}
use mathlib.Core.List.{List, [], ◌∷◌, ◌++◌, map}
use Prim.Native.Nat.{ℕ, suc, ◌+◌, ◌≤◌}
use native.Mathlib.Omega.{arith}
use lib.Dec.{eqb, ltb}
use lib.ListN.{get_or}
use borrow.Author.Tests.{eqb-true, eqb-false, ltb-false}
use Rattle.key.specs.Keys.{same_key}
use Rattle.key.proofs.Same.{same_sound}
use Rattle.packet_laws.specs.FromRelay as relay
use Rattle.rules.specs.Room.{Sizes, Key, Route, free, wants, Held, Seat, vacant, holds, Room, set_ping, set_clock, set_seats, set_seat, seat_of, ping_in, seat_at, place_when, places_from, Peer, alone, joined}
use Rattle.rules.specs.Whole.{Whole}
use Rattle.rules.specs.Call.{tick}
use Rattle.rules.specs.Outcome.{with_ping, apply_all, refuse, accept, to, room_after, peer, to_peer, tell_peer, tell_peers, leave_from, overdue, is_overdue, is_due, leave_each, ping_each, leavers, due_seats, tick_from, tick_at}
use Rattle.rules.specs.Transcript.{Past, Start, is_accepted, put_out, is_among}
use Rattle.rules.specs.After.{Tied}
use Rattle.isolation.specs.Record.{handed_if, key_unless, strike}
use Rattle.rules.proofs.FindLaws.{set_default, seat_set_other}
use Rattle.rules.proofs.Whole.{key_once, key_found, whole_set}
use Rattle.rules.proofs.PeerLaws.{peer_has}
use Rattle.rules.proofs.TickLaws.{set_each, remaining, seat_after_tick, due_not_overdue, room_after_departures, room_after_tick}
use Rattle.rules.proofs.TiedTick.{out_keys, put_out_lem, among_out}
use Rattle.isolation.proofs.View.{SeatView, open_seat, View, set_time, set_views, view_seat_if, view_seat, project, Observed, observed, only, goes, lost_by, seats_go, is_own_due, pinged_if, pinged_view, pings_heard, tick_seen}
use Rattle.isolation.proofs.ViewLaws.{view_at, left_open, handed_by, handed_append, lost_law, observed_of, observed_same}

-- ---- a room from which clients have gone

-- what a seat holds it held before
abbrev Left : Room → Room → Type 0
Left before room = (seat : ℕ) (held : Held) → seat_at room seat ≡ holds held → seat_at before seat ≡ holds held

module _ (before room : Room) (left : Left before room) where
  left_more : (gone : ℕ) → Left before (set_seat room gone vacant)
  unfolding seat_at
  left_more gone seat held e = left seat held (go (eqb gone seat) refl)
    where
      go : (t : Bool) → eqb gone seat ≡ t → get_or room.seats seat vacant ≡ holds held
      go true q = absurd (cc (set_default room.seats gone vacant, eqb-true gone seat q))
      go false q = sym (unfold seat_at in seat_set_other room gone vacant seat (λ s. eqb-false gone seat q (sym s))) ∙ e

  -- a notice goes to a seat that still holds who held it before: it is C's by the one room where it is by the other
  module _ (c : Key) (seat : ℕ) (key : Key) where
    notice_before : (p : Peer) (wanted : Key) → peer room seat key wanted ≡ p
        → handed_by c before (to_peer relay.disconnect_notice p) ≡ handed_by c room (to_peer relay.disconnect_notice p)
    unfolding handed_by to_peer to
    notice_before alone wanted e = refl
    notice_before (joined other place) wanted e = let has = peer_has room seat key wanted other place e in rw (has.sits, left other _ has.sits)

    tells_before : (routes : List Route) → handed_by c before (tell_peers room seat key routes) ≡ handed_by c room (tell_peers room seat key routes)
    unfolding tell_peers tell_peer handed_by
    tells_before [] = refl
    tells_before (free ∷ routes) = tells_before routes
    tells_before (wants wanted ∷ routes) =
        let notice = to_peer relay.disconnect_notice (peer room seat key wanted) in
        handed_append c before notice (tell_peers room seat key routes)
        ∙ ap₂ (λ (a b : List (List ℕ)). a ++ b) (notice_before (peer room seat key wanted) wanted refl) (tells_before routes)
        ∙ sym (handed_append c room notice (tell_peers room seat key routes))

  leave_before : (c : Key) (seat : ℕ) (s : Seat) → handed_by c before (leave_from s room seat).sent ≡ handed_by c room (leave_from s room seat).sent
  unfolding leave_from refuse accept handed_by
  leave_before c seat vacant = refl
  leave_before c seat (holds held) = tells_before c seat held.key held.routes

-- ---- departures, one after the other

whole_emptied : (sizes : Sizes) (room : Room) → Whole sizes room → (seat : ℕ) → Whole sizes (set_seat room seat vacant)
unfolding seat_of
whole_emptied sizes room whole seat = whole_set sizes room whole seat vacant (λ k h. absurd (false≢true h)) tt

-- where the clock goes on, no ping is after it
whole_clock : (sizes : Sizes) (room : Room) → Whole sizes room → (time : ℕ) → room.clock ≤ time → Whole sizes (set_clock room time)
unfolding seat_at
whole_clock sizes room whole time later = record {
  seats = whole.seats;
  numbers = whole.numbers;
  seated = whole.seated;
  wanted = whole.wanted;
  not_own = whole.not_own;
  ping_times = λ seat held e. (let h = whole.ping_times seat held e in omega arith);
}

-- what one departure hands C, by the view and by the room before them all
lost_before : (sizes : Sizes) (c : Key) (before room : Room) → Whole sizes room → Left before room → (seat : ℕ)
    → lost_by (get_or (project c room).seats seat open_seat) c (project c room) ≡ handed_by c before (leave_from (seat_at room seat) room seat).sent
lost_before sizes c before room whole left seat =
    ap (λ (s : SeatView). lost_by s c (project c room)) (seen room)
    ∙ lost_law sizes room whole c seat (seat_at room seat) refl
    ∙ sym (leave_before before room left c seat (seat_at room seat))
  where
    seen : (room : Room) → get_or (project c room).seats seat open_seat ≡ view_seat c (seat_at room seat)
    seen room = unfold project in view_at c room seat

seats_go_lem : (sizes : Sizes) (c : Key) (before room : Room) → Whole sizes room → Left before room → (seats : List ℕ)
    → seats_go c (project c room) seats ≡ observed (project c (set_each (λ s. vacant) room seats)) (handed_by c before (leave_each room seats).sent) []
unfolding seats_go set_each leave_each accept handed_by observed
seats_go_lem sizes c before room whole left [] = refl
seats_go_lem sizes c before room whole left (seat ∷ seats) =
    ap₂ (λ (l : List (List ℕ)) (rest : Observed). observed rest.view (l ++ rest.packets) [])
    (lost_before sizes c before room whole left seat)
    (ap (λ (v : View). seats_go c v seats) (sym (left_open c room seat))
    ∙ seats_go_lem sizes c before (set_seat room seat vacant) (whole_emptied sizes room whole seat) (left_more before room left seat) seats)
    ∙ observed_same refl (sym (handed_append c before (leave_from (seat_at room seat) room seat).sent (leave_each (set_seat room seat vacant) seats).sent)) refl

-- ---- who goes

-- the places of a list that is made of another, one by one
places_map : {A B : Type 0} (test' : B → Bool) (test : A → Bool) (f : A → B) (d : A) (from : ℕ) (l : List A)
    → ((i : ℕ) → test' (f (get_or l i d)) ≡ test (get_or l i d)) → places_from test' from (map f l) ≡ places_from test from l
unfolding places_from
places_map test' test f d from [] same = refl
places_map test' test f d from (x ∷ l) same = ap₂ (λ (t : Bool) (later : List ℕ). place_when t from later) (same 0) (places_map test' test f d (suc from) l (λ i. same (suc i)))

-- a key that is not C's is among the keys where it is among those without C's
among_struck : (c key : Key) → same_key key c ≡ false → (out : List Key) → is_among key (strike c out) ≡ is_among key out
unfolding is_among strike key_unless
among_struck c key hk [] = refl
among_struck c key hk (k ∷ out) = go (same_key k c) refl (same_key k key) refl (among_struck c key hk out)
  where
    go : (t : Bool) → same_key k c ≡ t → (u : Bool) → same_key k key ≡ u → is_among key (strike c out) ≡ is_among key out
        → is_among key (key_unless t k (strike c out)) ≡ (u || is_among key out)
    go true h true q later = absurd (true≢false (sym h ∙ ap (λ (x : Key). same_key x c) (same_sound k key q) ∙ hk))
    go true h false q later = later
    go false h u q later = rw (q, later)

module _ (sizes : Sizes) (room : Room) (whole : Whole sizes room) (c : Key) (time : ℕ) where
  -- those that go, but for C
  abbrev others : List Key
  others = strike c (out_keys time room.seats)

  goes_law : (seat : ℕ) (s : Seat) → seat_at room seat ≡ s → goes time others (view_seat c s) ≡ is_overdue time s
  unfolding goes view_seat view_seat_if is_overdue overdue ping_in seat_at
  goes_law seat vacant e = refl
  goes_law seat (holds held) e = go (same_key held.key c) refl
    where
      go : (t : Bool) → same_key held.key c ≡ t → goes time others (view_seat_if t c held) ≡ is_overdue time (holds held)
      go true h = refl
      go false h =
          among_struck c held.key h (out_keys time room.seats)
          ∙ among_out time held.key room.seats (key_once sizes room whole held.key)
          ∙ rw (key_found sizes room whole seat held e) (ap (is_overdue time) e)

  leavers_law : places_from (goes time others) 0 (map (view_seat c) room.seats) ≡ leavers time room
  unfolding leavers seat_at
  leavers_law = places_map (goes time others) (is_overdue time) (view_seat c) vacant 0 room.seats (λ i. goes_law i (get_or room.seats i vacant) refl)

-- ---- pings

module _ (c : Key) (time number : ℕ) where
  -- a seat that remains, in the view: pinged where it is C's and due
  view_pinged : (s : Seat) → pinged_view time number (view_seat c (remaining time s)) ≡ view_seat c (seat_after_tick time number s)
  unfolding pinged_view pinged_if view_seat view_seat_if with_ping is_due is_overdue overdue ping_in
  view_pinged vacant = refl
  view_pinged (holds held) = go (is_overdue time (holds held)) (is_due time (holds held)) refl
    where
      mine : (t b : Bool) → is_due time (holds held) ≡ t
          → pinged_view time number (view_seat_if b c held) ≡ cond t (view_seat_if b c (set_ping held (record { time = time; number = number }))) (view_seat_if b c held)
      mine true true e = rw e
      mine false true e = rw e
      mine true false e = refl
      mine false false e = refl

      seen : (t : Bool) → cond t (view_seat c (with_ping (holds held) time number)) (view_seat c (holds held)) ≡ view_seat c (cond t (with_ping (holds held) time number) (holds held))
      seen true = refl
      seen false = refl

      go : (u t : Bool) → is_due time (holds held) ≡ t
          → pinged_view time number (view_seat c (cond u vacant (holds held))) ≡ view_seat c (cond t (with_ping (cond u vacant (holds held)) time number) (cond u vacant (holds held)))
      go true true e = refl
      go true false e = refl
      go false t e = mine t (same_key held.key c) e ∙ seen t

  views_pinged : (l : List Seat) → map (pinged_view time number) (map (view_seat c) (map (remaining time) l)) ≡ map (view_seat c) (map (seat_after_tick time number) l)
  views_pinged [] = refl
  views_pinged (s ∷ l) = ap₂ (λ (v : SeatView) (t : List SeatView). v ∷ t) (view_pinged s) (views_pinged l)

  -- C's own seat, if it remains and is due
  own_due : (s : Seat) → is_own_due time (view_seat c (remaining time s)) ≡ (is_due time s && seat_of c s)
  unfolding is_own_due view_seat view_seat_if seat_of is_due is_overdue overdue ping_in
  own_due vacant = refl
  own_due (holds held) = go (is_overdue time (holds held)) (is_due time (holds held)) refl (due_not_overdue time (holds held))
    where
      mine : (t b : Bool) → is_due time (holds held) ≡ t → is_own_due time (view_seat_if b c held) ≡ (t && b)
      mine true true e = e
      mine false true e = e
      mine true false e = refl
      mine false false e = refl

      go : (u t : Bool) → is_due time (holds held) ≡ t → (t ≡ true → u ≡ false)
          → is_own_due time (view_seat c (cond u vacant (holds held))) ≡ (t && same_key held.key c)
      go true true e h = absurd (true≢false (h refl))
      go true false e h = refl
      go false t e h = mine t (same_key held.key c) e

  -- of the pings to the seats from one on, C is handed its own
  handed_pings : (room : Room) (from : ℕ) (l : List Seat) → ((i : ℕ) → seat_at room (from + i) ≡ get_or l i vacant)
      → handed_by c room (map (λ seat. to seat (relay.ping number)) (places_from (is_due time) from l)) ≡ pings_heard time number (map (view_seat c) (map (remaining time) l))
  unfolding handed_by handed_if places_from place_when pings_heard only to
  handed_pings room from [] same = refl
  handed_pings room from (s ∷ l) same =
      rw (own_due s)
      (go (is_due time s) (handed_pings room (suc from) l (λ i. ap (seat_at room) (let q : suc from + i ≡ from + suc i = omega arith in q) ∙ same (suc i))))
    where
      bytes : List ℕ
      bytes = relay.relay_bytes (relay.ping number)

      here : seat_at room from ≡ s
      here = ap (seat_at room) (let q : from ≡ from + 0 = omega arith in q) ∙ same 0

      rest : List (List ℕ)
      rest = pings_heard time number (map (view_seat c) (map (remaining time) l))

      hand : (t : Bool) → handed_if t bytes rest ≡ only t (bytes ∷ []) ++ rest
      hand true = refl
      hand false = refl

      go : (t : Bool) → handed_by c room (map (λ seat. to seat (relay.ping number)) (places_from (is_due time) (suc from) l)) ≡ rest
          → handed_by c room (map (λ seat. to seat (relay.ping number)) (place_when t from (places_from (is_due time) (suc from) l))) ≡ only (t && seat_of c s) (bytes ∷ []) ++ rest
      go true later = rw (here, later) (hand (seat_of c s))
      go false later = later

-- ---- the law

module _ (sizes : Sizes) (room : Room) (whole : Whole sizes room) (c : Key) (time number : ℕ) (later : room.clock ≤ time) where
  -- the view where the departures are made, and what C is handed by them
  departures : seats_go c (set_time (project c room) time) (places_from (goes time (others sizes room whole c time)) 0 (project c room).seats)
      ≡ observed (project c (set_seats (set_clock room time) (map (remaining time) room.seats))) (handed_by c room (leave_each (set_clock room time) (leavers time room)).sent) []
  unfolding project
  departures =
      ap (seats_go c (project c (set_clock room time))) (leavers_law sizes room whole c time)
      ∙ seats_go_lem sizes c room (set_clock room time) (whole_clock sizes room whole time later) (unfold seat_at in λ seat held e. e) (leavers time room)
      ∙ ap (λ (r : Room). observed (project c r) (handed_by c room (leave_each (set_clock room time) (leavers time room)).sent) []) (room_after_departures sizes room time number)

  tick_seen_lem : tick_seen false false c (project c room) time number (others sizes room whole c time) ≡ observed_of sizes c room (tick_from room time number) []
  unfolding tick_seen tick_from accept ping_each due_seats
  tick_seen_lem =
      ap (λ (left : Observed).
      observed (set_views left.view (map (pinged_view time number) left.view.seats)) (left.packets ++ pings_heard time number left.view.seats) [])
      departures
      ∙ observed_same
      (unfold project observed in ap (set_views (project c (set_clock room time))) (views_pinged c time number room.seats) ∙ sym (ap (project c) (room_after_tick sizes room time number)))
      (unfold project observed seat_at in
      ap (λ (l : List (List ℕ)). handed_by c room (leave_each (set_clock room time) (leavers time room)).sent ++ l)
      (sym (handed_pings c time number room 0 room.seats (λ i. ap (λ (n : ℕ). get_or room.seats n vacant) (let q : 0 + i ≡ i = omega arith in q))))
      ∙ sym (handed_append c room (leave_each (set_clock room time) (leavers time room)).sent (ping_each time number (due_seats time room)).sent))
      refl

module _ (sizes : Sizes) (start : Start) (past : Past) (room : Room) (whole : Whole sizes room) (tie : Tied start past room) (c : Key) where
  pub tick_law : (time number : ℕ) (zero back : Bool) → eqb number 0 ≡ zero → ltb time room.clock ≡ back
      → tick_seen (eqb number 0) (ltb time (project c room).clock) c (project c room) time number (strike c (put_out start past (tick time number) (tick_at zero back room time number).answer))
      ≡ observed_of sizes c room (tick_at zero back room time number) []
  unfolding project tick_seen tick_at refuse accept put_out is_accepted handed_by room_after apply_all tick_from
  tick_law time number true back ez eb = rw ez
  tick_law time number false true ez eb = rw (ez, eb)
  tick_law time number false false ez eb =
      rw (ez, eb, put_out_lem start past room tie time) (tick_seen_lem sizes room whole c time number (ltb-false time room.clock eb))
