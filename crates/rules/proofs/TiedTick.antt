-- After an accepted tick the room and what has happened say the same, where they did before. A seat is pinged exactly where a ping was sent to it, and those whom
-- the tick puts out are the clients of the seats that are overdue. Assumes nothing.
use mathlib.Core.Path.{◌≡◌, refl, sym, ap, ◌∙◌, subst}
use mathlib.Core.Bool.{Bool, true, false, ◌&&◌, ◌||◌, cond, true≢false, false≢true, and-false}
use mathlib.Core.List.{List, [], ◌∷◌, ◌++◌, map}
use Prim.Native.Nat.{ℕ, zero, suc, ◌+◌, ◌<◌}
use native.Mathlib.Omega.{arith}
use lib.Dec.{eqb}
use lib.ListN.{get_or, length, length-map}
use borrow.Author.Tests.{eq-eqb, ne_eqb}
use Rattle.packet_laws.specs.Table.{kind_of}
use Rattle.packet_laws.specs.FromRelay as relay
use Rattle.rules.specs.Room.{Sizes, Key, Route, free, wants, Seat, vacant, holds, Room, none_since, set_clock, set_seats, set_seat, Found, none, at, or_later, find, seat_of, route_to, routes_of, ping_in, seat_at, route_at, place_when, places_from, Peer, alone, joined}
use Rattle.rules.specs.Whole.{Whole}
use Rattle.rules.specs.Call.{Sent, tick}
use Rattle.rules.specs.Outcome.{with_ping, accept, refuse, to, room_after, peer, to_peer, tell_peer, tell_peers, leave_from, overdue, is_overdue, is_due, leave_each, ping_each, leavers, due_seats, tick_from}
use Rattle.rules.specs.History.{Event}
use Rattle.rules.specs.Transcript.{Past, nobody, Start, is_accepted, clock_after, clock_of, ping_sent_to, ping_after_tick, ping_after, ping_of, sits_after, sitter, key_if, overdue_from, put_out_if, put_out, is_among, maker, stands_after, stands}
use Rattle.rules.specs.After.{client_in, routes_in, routes_by, Tied}
use Rattle.rules.proofs.FindLaws.{Once, find_hit, find_miss, find_once, once_tail, once_first, route_none}
use Rattle.rules.proofs.TickLaws.{get_d_each, seat_after_tick, no_ping, due_not_overdue, room_after_tick}
use Rattle.rules.proofs.Whole.{key_once, ticked_key}

-- ---- to which seats pings are sent

or_same : (a b x y : Bool) → a ≡ x → b ≡ y → (a || b) ≡ (x || y)
or_same a b x y e d = rw (e, d)

pub pings_append : (here : ℕ) (a b : List Sent) → ping_sent_to here (a ++ b) ≡ (ping_sent_to here a || ping_sent_to here b)
unfolding ping_sent_to
pings_append here [] b = refl
pings_append here (s ∷ a) b = rw (pings_append here a b) (go (eqb s.seat here && eqb (kind_of s.bytes) 4) (ping_sent_to here a))
  where
    go : (t u : Bool) → (t || (u || ping_sent_to here b)) ≡ ((t || u) || ping_sent_to here b)
    go true u = refl
    go false u = refl

-- a departure sends none: its notices are of kind 3
module _ (here : ℕ) where
  notice_no_ping : (p : Peer) → ping_sent_to here (to_peer relay.disconnect_notice p) ≡ false
  unfolding ping_sent_to to_peer to relay.relay_bytes kind_of
  notice_no_ping alone = refl
  notice_no_ping (joined seat place) = rw (and-false (eqb seat here))

  tells_no_ping : (room : Room) (seat : ℕ) (key : Key) (routes : List Route) → ping_sent_to here (tell_peers room seat key routes) ≡ false
  unfolding tell_peers tell_peer ping_sent_to
  tells_no_ping room seat key [] = refl
  tells_no_ping room seat key (free ∷ routes) = tells_no_ping room seat key routes
  tells_no_ping room seat key (wants wanted ∷ routes) =
      pings_append here (to_peer relay.disconnect_notice (peer room seat key wanted)) (tell_peers room seat key routes)
      ∙ or_same _ _ false false (notice_no_ping (peer room seat key wanted)) (tells_no_ping room seat key routes)

  leave_no_ping : (room : Room) (seat : ℕ) (s : Seat) → ping_sent_to here (leave_from s room seat).sent ≡ false
  unfolding leave_from refuse accept ping_sent_to
  leave_no_ping room seat vacant = refl
  leave_no_ping room seat (holds held) = tells_no_ping room seat held.key held.routes

  leaves_no_ping : (room : Room) (seats : List ℕ) → ping_sent_to here (leave_each room seats).sent ≡ false
  unfolding leave_each accept ping_sent_to
  leaves_no_ping room [] = refl
  leaves_no_ping room (seat ∷ seats) =
      pings_append here (leave_from (seat_at room seat) room seat).sent (leave_each (set_seat room seat vacant) seats).sent
      ∙ or_same _ _ false false (leave_no_ping room seat (seat_at room seat)) (leaves_no_ping (set_seat room seat vacant) seats)

-- pings sent to the places that pass a test: a place is sent one exactly where it passes
module _ (number : ℕ) (test : Seat → Bool) where
  abbrev pings_to : List ℕ → List Sent
  pings_to seats = map (λ seat. to seat (relay.ping number)) seats

  one_ping : (here seat : ℕ) (later : List ℕ) → ping_sent_to here (pings_to (seat ∷ later)) ≡ (eqb seat here || ping_sent_to here (pings_to later))
  unfolding ping_sent_to to relay.relay_bytes kind_of
  one_ping here seat later = go (eqb seat here)
    where
      go : (t : Bool) → ((t && true) || ping_sent_to here (pings_to later)) ≡ (t || ping_sent_to here (pings_to later))
      go true = refl
      go false = refl

  none_below : (here from : ℕ) → here < from → (l : List Seat) → ping_sent_to here (pings_to (places_from test from l)) ≡ false
  unfolding places_from place_when ping_sent_to
  none_below here from h [] = refl
  none_below here from h (x ∷ l) = go (test x) (none_below here (suc from) (omega arith) l)
    where
      go : (t : Bool) → ping_sent_to here (pings_to (places_from test (suc from) l)) ≡ false
          → ping_sent_to here (pings_to (place_when t from (places_from test (suc from) l))) ≡ false
      go true later = one_ping here from (places_from test (suc from) l) ∙ rw (ne_eqb from here (λ q. omega arith), later)
      go false later = later

  told_at : test vacant ≡ false → (from i : ℕ) (l : List Seat) → ping_sent_to (from + i) (pings_to (places_from test from l)) ≡ test (get_or l i vacant)
  unfolding places_from place_when ping_sent_to
  told_at h from i [] = sym h
  told_at h from zero (x ∷ l) = go (test x)
    where
      below : ping_sent_to (from + 0) (pings_to (places_from test (suc from) l)) ≡ false
      below = none_below (from + 0) (suc from) (omega arith) l

      go : (t : Bool) → ping_sent_to (from + 0) (pings_to (place_when t from (places_from test (suc from) l))) ≡ t
      go true = one_ping (from + 0) from (places_from test (suc from) l) ∙ rw (eq-eqb from (from + 0) (omega arith))
      go false = below
  told_at h from (suc i) (x ∷ l) = go (test x) (told_at h (suc from) i l)
    where
      on : from + suc i ≡ suc from + i
      on = omega arith

      go : (t : Bool) → ping_sent_to (suc from + i) (pings_to (places_from test (suc from) l)) ≡ test (get_or l i vacant)
          → ping_sent_to (from + suc i) (pings_to (place_when t from (places_from test (suc from) l))) ≡ test (get_or l i vacant)
      go true later = one_ping (from + suc i) from (places_from test (suc from) l) ∙ rw (ne_eqb from (from + suc i) (λ q. omega arith), on) later
      go false later = rw on later

pub pings_told : (room : Room) (time number here : ℕ) → ping_sent_to here (tick_from room time number).sent ≡ is_due time (seat_at room here)
unfolding tick_from accept ping_each due_seats seat_at is_due
pings_told room time number here =
    pings_append here (leave_each (set_clock room time) (leavers time room)).sent (pings_to number (is_due time) (places_from (is_due time) 0 room.seats))
    ∙ or_same _ _ false (is_due time (get_or room.seats here vacant)) (leaves_no_ping here (set_clock room time) (leavers time room))
    (ap (λ (n : ℕ). ping_sent_to n (pings_to number (is_due time) (places_from (is_due time) 0 room.seats))) (let q : here ≡ 0 + here = omega arith in q)
    ∙ told_at number (is_due time) refl 0 here room.seats)

-- ---- a seat after a tick

module _ (time number : ℕ) where
  ticked_client : (s : Seat) → client_in (seat_after_tick time number s) ≡ cond (is_overdue time s) nobody (client_in s)
  unfolding client_in with_ping
  ticked_client s = go (is_due time s) (is_overdue time s) s
    where
      go : (t u : Bool) (s : Seat) → client_in (cond t (with_ping (cond u vacant s) time number) (cond u vacant s)) ≡ cond u nobody (client_in s)
      go true true s = refl
      go true false vacant = refl
      go true false (holds held) = refl
      go false true s = refl
      go false false s = refl

  ticked_ping : (s : Seat) → ping_in (seat_after_tick time number s) ≡ cond (is_due time s) (record { time = time; number = number }) (cond (is_overdue time s) (none_since 0) (ping_in s))
  unfolding ping_in with_ping is_due
  ticked_ping vacant = go (is_overdue time vacant)
    where
      go : (u : Bool) → ping_in (cond u vacant vacant) ≡ cond u (none_since 0) (none_since 0)
      go true = refl
      go false = refl
  ticked_ping (holds held) = go (is_due time (holds held)) (is_overdue time (holds held)) (due_not_overdue time (holds held))
    where
      go : (t u : Bool) → (t ≡ true → u ≡ false) → ping_in (cond t (with_ping (cond u vacant (holds held)) time number) (cond u vacant (holds held)))
          ≡ cond t (record { time = time; number = number }) (cond u (none_since 0) held.ping)
      go true true h = absurd (true≢false (h refl))
      go true false h = refl
      go false true h = refl
      go false false h = refl

  ticked_routes : (s : Seat) → is_overdue time s ≡ false → routes_of (seat_after_tick time number s) ≡ routes_of s
  unfolding routes_of with_ping
  ticked_routes s e = rw e (go (is_due time s) s)
    where
      go : (t : Bool) (s : Seat) → routes_of (cond t (with_ping s time number) s) ≡ routes_of s
      go true vacant = refl
      go true (holds held) = refl
      go false s = refl

  ticked_of : (key : Key) (s : Seat) → is_overdue time s ≡ false → seat_of key (seat_after_tick time number s) ≡ seat_of key s
  unfolding seat_of with_ping
  ticked_of key s e = rw e (go (is_due time s) s)
    where
      go : (t : Bool) (s : Seat) → seat_of key (cond t (with_ping s time number) s) ≡ seat_of key s
      go true vacant = refl
      go true (holds held) = refl
      go false s = refl

  ticked_gone : (key : Key) (s : Seat) → is_overdue time s ≡ true → seat_of key (seat_after_tick time number s) ≡ false
  unfolding seat_of with_ping
  ticked_gone key s e = rw e (go (is_due time s))
    where
      go : (t : Bool) → seat_of key (cond t vacant vacant) ≡ false
      go true = refl
      go false = refl

-- ---- whom it puts out

-- the clients of the seats that are overdue, by the table
unfoldable pub out_keys : ℕ → List Seat → List Key
out_keys time [] = []
out_keys time (s ∷ l) = key_if (is_overdue time s) (client_in s) (out_keys time l)

out_keys_lem : (start : Start) (past : Past) (room : Room) → Tied start past room → (time from : ℕ) (l : List Seat)
    → ((i : ℕ) → seat_at room (from + i) ≡ get_or l i vacant) → overdue_from start past time from (length l) ≡ out_keys time l
unfolding overdue_from out_keys is_overdue
out_keys_lem start past room tie time from [] same = refl
out_keys_lem start past room tie time from (s ∷ l) same =
    let here : seat_at room from ≡ s = ap (seat_at room) (let q : from ≡ from + 0 = omega arith in q) ∙ same 0 in
    rw (tie.pings from, tie.sits from, here)
    (ap (key_if (overdue time (ping_in s)) (client_in s))
    (out_keys_lem start past room tie time (suc from) l (λ i. ap (seat_at room) (let q : suc from + i ≡ from + suc i = omega arith in q) ∙ same (suc i))))

pub put_out_lem : (start : Start) (past : Past) (room : Room) → Tied start past room → (time : ℕ) → put_out_if true start past time ≡ out_keys time room.seats
unfolding put_out_if seat_at
put_out_lem start past room tie time =
    ap (overdue_from start past time 0) tie.seats
    ∙ out_keys_lem start past room tie time 0 room.seats (λ i. ap (λ (n : ℕ). get_or room.seats n vacant) (let q : 0 + i ≡ i = omega arith in q))

-- a client is among them exactly where the seat that it is found in is overdue
abbrev pub overdue_at : ℕ → Found → List Seat → Bool
overdue_at time none l = false
overdue_at time (at i) l = is_overdue time (get_or l i vacant)

key_among : (time : ℕ) (key : Key) (u : Bool) (s : Seat) (later : List Key) → is_among key (key_if u (client_in s) later) ≡ ((u && seat_of key s) || is_among key later)
unfolding key_if client_in is_among seat_of
key_among time key true vacant later = refl
key_among time key true (holds held) later = refl
key_among time key false s later = refl

pub among_out : (time : ℕ) (key : Key) (l : List Seat) → Once (seat_of key) vacant l → is_among key (out_keys time l) ≡ overdue_at time (find (seat_of key) l) l
unfolding out_keys find or_later is_among
among_out time key [] once = refl
among_out time key (s ∷ l) once =
    key_among time key (is_overdue time s) s (out_keys time l)
    ∙ rw (among_out time key l (once_tail (seat_of key) vacant s l once)) (go (seat_of key s) refl (find (seat_of key) l) refl (is_overdue time s) refl)
  where
    go : (t : Bool) → seat_of key s ≡ t → (f : Found) → find (seat_of key) l ≡ f → (u : Bool) → is_overdue time s ≡ u
        → ((u && t) || overdue_at time f l) ≡ overdue_at time (or_later t f) (s ∷ l)
    go true h f e true o = sym o
    go true h f e false o = rw (sym e ∙ once_first (seat_of key) vacant s l once h) (sym o)
    go false h none e u o = rw (and-false u)
    go false h (at i) e u o = rw (and-false u)

-- ---- a client's routes

module _ (sizes : Sizes) (room : Room) (whole : Whole sizes room) (time number : ℕ) where
  abbrev after : Room
  after = set_seats (set_clock room time) (map (seat_after_tick time number) room.seats)

  at_seat : (i : ℕ) → get_or after.seats i vacant ≡ seat_after_tick time number (get_or room.seats i vacant)
  at_seat i = get_d_each (seat_after_tick time number) vacant (no_ping time number) room.seats i

  -- who is found then was found before
  was : (key : Key) (i : ℕ) → seat_of key (get_or after.seats i vacant) ≡ true → seat_of key (get_or room.seats i vacant) ≡ true
  was key i h = ticked_key sizes room whole time number key (get_or room.seats i vacant) (sym (ap (seat_of key) (at_seat i)) ∙ h)

  after_once : (key : Key) → Once (seat_of key) vacant after.seats
  after_once key i j hi hj = key_once sizes room whole key i j (was key i hi) (was key j hj)

  -- found nowhere before, or in a seat that is overdue: found nowhere then
  gone : (key : Key) → ((i : ℕ) → seat_of key (get_or room.seats i vacant) ≡ true → is_overdue time (get_or room.seats i vacant) ≡ true)
      → find (seat_of key) after.seats ≡ none
  gone key all = go (find (seat_of key) after.seats) refl
    where
      go : (f : Found) → find (seat_of key) after.seats ≡ f → find (seat_of key) after.seats ≡ none
      go none e = e
      go (at i) e =
          let h = find_hit (seat_of key) vacant after.seats i e in
          absurd (true≢false (sym h ∙ ap (seat_of key) (at_seat i) ∙ ticked_gone time number key (get_or room.seats i vacant) (all i (was key i h))))

  routes_after : (key : Key) (f : Found) → find (seat_of key) room.seats ≡ f → (t : Bool) → overdue_at time f room.seats ≡ t
      → routes_by after key ≡ cond t [] (routes_by room key)
  unfolding routes_by routes_in seat_at seat_of
  routes_after key none e true h = absurd (false≢true h)
  routes_after key none e false h = rw (e, gone key (λ i hi. absurd (false≢true (sym (find_miss (seat_of key) vacant room.seats refl e i) ∙ hi))))
  routes_after key (at i) e true h =
      rw (gone key (λ j hj. ap (λ (k : ℕ). is_overdue time (get_or room.seats k vacant)) (key_once sizes room whole key j i hj (find_hit (seat_of key) vacant room.seats i e)) ∙ h))
  routes_after key (at i) e false h =
      let there = find_hit (seat_of key) vacant room.seats i e in
      rw (
        find_once (seat_of key) vacant after.seats i refl (after_once key) (ap (seat_of key) (at_seat i) ∙ ticked_of time number key (get_or room.seats i vacant) h ∙ there),
        e,
        at_seat i,
      ) (ticked_routes time number (get_or room.seats i vacant) h)

-- ---- the tie

module _ (sizes : Sizes) (start : Start) (past : Past) (room : Room) (whole : Whole sizes room) (tie : Tied start past room) (time number : ℕ) where
  abbrev ticks : Event
  ticks = record { call = tick time number; answer = (tick_from room time number).answer; sent = (tick_from room time number).sent }

  among : (key : Key) → is_among key (put_out_if true start past time) ≡ overdue_at time (find (seat_of key) room.seats) room.seats
  among key = ap (is_among key) (put_out_lem start past room tie time) ∙ among_out time key room.seats (key_once sizes room whole key)

  keeps : Tied start (ticks ∷ past) (after sizes room whole time number)
  unfolding tick_from accept is_accepted clock_of clock_after ping_of ping_after ping_after_tick sitter sits_after stands stands_after maker put_out seat_at is_overdue
  keeps = record {
    seats = tie.seats ∙ sym (length-map room.seats (seat_after_tick time number));
    clock = refl;
    pings = λ here.
        rw (pings_told room time number here, tie.pings here)
        (sym (ap ping_in (at_seat sizes room whole time number here) ∙ ticked_ping time number (get_or room.seats here vacant)));
    sits = λ here.
        rw (tie.pings here, tie.sits here)
        (sym (ap client_in (at_seat sizes room whole time number here) ∙ ticked_client time number (get_or room.seats here vacant)));
    requests = λ key n wanted. rw (among key, tie.requests key n wanted) (go key n wanted (overdue_at time (find (seat_of key) room.seats) room.seats) refl);
  }
    where
      go : (key : Key) (n : ℕ) (wanted : Key) (t : Bool) → overdue_at time (find (seat_of key) room.seats) room.seats ≡ t
          → cond t false (route_to wanted (route_at (routes_by room key) n)) ≡ route_to wanted (route_at (routes_by (after sizes room whole time number) key) n)
      go key n wanted true h = unfold route_to in rw (routes_after sizes room whole time number key _ refl true h, route_none n)
      go key n wanted false h = rw (routes_after sizes room whole time number key _ refl false h)

  pub tied_tick : Tied start (ticks ∷ past) (room_after sizes room (tick_from room time number))
  tied_tick = subst (Tied start (ticks ∷ past)) (sym (room_after_tick sizes room time number)) keeps
