-- For every history, by what has happened alone: what a tick is answered, that a refused one does nothing, and what an accepted one does. Every seat whose ping
-- has stood unanswered for 10 seconds or more leaves, as if it had called, one after the other in rising seat order; then every remaining client with none
-- outstanding, last pinged 30 seconds ago or more, is pinged in that order; and nothing else happens but that the clock is its
-- time. Assumes nothing.
use mathlib.Core.Path.{◌≡◌, refl, sym, ap, ◌∙◌}
use mathlib.Core.Bool.{Bool, true, false, ◌&&◌, ◌||◌, not, cond, true≢false, false≢true}
use mathlib.Core.Logic.{◌↔◌, ◌≢◌}
use Prim.Native.Nat.{ℕ, zero, suc, ◌+◌, ◌-◌, ◌<◌, ◌≤◌}
use native.Mathlib.Omega.{arith}
use lib.Dec.{eqb, leb, ltb}
use borrow.Author.Tests.{eqb-true, eqb-false, eq-eqb, ne_eqb, leb-true, le-leb, ltb-true, ltb-false}
use Rattle.key.specs.Keys.{same_key}
use Rattle.key.proofs.Same.{same_refl, same_sound}
use Rattle.rules.specs.Room.{Sizes, Key, Ping, Seat, vacant, holds, Room, none_since, ping_in, seat_at}
use Rattle.rules.specs.Whole.{Whole}
use Rattle.rules.specs.Call.{tick}
use Rattle.rules.specs.Outcome.{refuse, accept, overdue, is_due, tick_from, tick_at, outcome}
use Rattle.rules.specs.History.{Event, event}
use Rattle.rules.specs.Transcript.{Past, Maker, nobody, client_of, Start, is_accepted, clock_after, clock_of, ping_sent_to, ping_after_tick, ping_after, ping_of, sits_after, sitter, key_if, overdue_from, put_out_if, put_out, is_among, maker, stands_after, stands}
use Rattle.rules.specs.After.{client_in, Tied}
use Rattle.after_calls.specs.Ticks.{TickAnswered, zero_ping, clock_back, ticks, AsBefore, Overdue, Due, EmptyThen, nobody_sat, it_left, TickLeaves, TickPings}
use Rattle.rules.proofs.FindLaws.{held_within}
use Rattle.rules.proofs.TiedTick.{pings_told}
use Rattle.rules.proofs.Tied.{both_true, seat_holds}

-- ---- ages

-- 10 seconds old or more
pub overdue_is : (time : ℕ) (ping : Ping) → overdue time ping ≡ true → (ping.number ≢ 0) × (ping.time + 10 ≤ time)
unfolding overdue
overdue_is time ping h = go (eqb ping.number 0) refl h
  where
    go : (t : Bool) → eqb ping.number 0 ≡ t → (not t && leb 10 (time - ping.time)) ≡ true → (ping.number ≢ 0) × (ping.time + 10 ≤ time)
    go true e q = absurd (false≢true q)
    go false e q = (eqb-false ping.number 0 e, let a = leb-true 10 (time - ping.time) q in omega arith)

pub is_overdue_lem : (time : ℕ) (ping : Ping) → ping.number ≢ 0 → ping.time + 10 ≤ time → overdue time ping ≡ true
unfolding overdue
is_overdue_lem time ping h a = rw (ne_eqb ping.number 0 h) (le-leb 10 (time - ping.time) (omega arith))

-- a seat that holds a client with none outstanding, 30 seconds old or more
module _ (time : ℕ) where
  pub record DueSeat (s : Seat) : Type 0 where
    pub key : Key
    pub sits : client_in s ≡ client_of key
    pub none_outstanding : (ping_in s).number ≡ 0
    pub old : (ping_in s).time + 30 ≤ time

  due_is : (s : Seat) → is_due time s ≡ true → DueSeat s
  unfolding is_due client_in ping_in
  due_is vacant h = absurd (false≢true h)
  due_is (holds held) h =
      let b = both_true (eqb held.ping.number 0) (leb 30 (time - held.ping.time)) h in
      let a = leb-true 30 (time - held.ping.time) b.1 in
      record { key = held.key; sits = refl; none_outstanding = eqb-true held.ping.number 0 b.0; old = omega arith }

  is_due_lem : (s : Seat) → DueSeat s → is_due time s ≡ true
  unfolding is_due client_in ping_in
  is_due_lem vacant d = let q = d.sits in absurd (cc)
  is_due_lem (holds held) d =
      let a = d.old in
      rw (eq-eqb held.ping.number 0 d.none_outstanding) (le-leb 30 (time - held.ping.time) (omega arith))

-- ---- one tick

module _ (sizes : Sizes) (start : Start) (past : Past) (room : Room) (whole : Whole sizes room) (tie : Tied start past room) (time number : ℕ) where
  -- what it is answered
  answered : (none back : Bool) → eqb number 0 ≡ none → ltb time room.clock ≡ back → (e : Event)
      → e.answer ≡ (tick_at none back room time number).answer → e.sent ≡ (tick_at none back room time number).sent → TickAnswered start past time number e
  unfolding tick_at refuse tick_from accept
  answered true back z b e a s = zero_ping (eqb-true number 0 z) a
  answered false true z b e a s = clock_back (eqb-false number 0 z) (let c = tie.clock in let l = ltb-true time room.clock b in omega arith) a
  answered false false z b e a s = ticks (eqb-false number 0 z) (let c = tie.clock in let l = ltb-false time room.clock b in omega arith) (rw s a)

  pub tick_answered : TickAnswered start past time number (event room (tick time number))
  unfolding event outcome
  tick_answered = answered (eqb number 0) (ltb time room.clock) refl refl (event room (tick time number)) refl refl

  -- a refused one
  refused_does : (none back : Bool) → is_accepted (tick_at none back room time number).answer ≡ false
      → AsBefore start past (record { call = tick time number; answer = (tick_at none back room time number).answer; sent = (tick_at none back room time number).sent })
  unfolding tick_at refuse tick_from accept is_accepted clock_of clock_after ping_of ping_after sitter sits_after stands stands_after maker put_out put_out_if is_among
  refused_does true back h = record { sent = refl; clock = refl; seats = λ seat. refl; pings = λ seat. refl; requests = λ key n wanted. refl }
  refused_does false true h = record { sent = refl; clock = refl; seats = λ seat. refl; pings = λ seat. refl; requests = λ key n wanted. refl }
  refused_does false false h = absurd (true≢false h)

  pub refused_tick : is_accepted (event room (tick time number)).answer ≡ false → AsBefore start past (event room (tick time number))
  unfolding event outcome
  refused_tick = refused_does (eqb number 0) (ltb time room.clock)

  -- an accepted one does what `tick_from` says
  abbrev pub tick_event : Event
  tick_event = record { call = tick time number; answer = (tick_from room time number).answer; sent = (tick_from room time number).sent }

  accepted_at : (none back : Bool) → is_accepted (tick_at none back room time number).answer ≡ true → tick_at none back room time number ≡ tick_from room time number
  unfolding tick_at refuse is_accepted
  accepted_at true back h = absurd (false≢true h)
  accepted_at false true h = absurd (false≢true h)
  accepted_at false false h = refl

  pub accepted_tick : is_accepted (event room (tick time number)).answer ≡ true → event room (tick time number) ≡ tick_event
  unfolding event outcome
  accepted_tick h = rw (accepted_at (eqb number 0) (ltb time room.clock) h)

  -- ---- who leaves

  -- the seats that `overdue` tells
  pub seat_overdue : (seat : ℕ) → overdue time (ping_of start past seat) ≡ true → Overdue start past time seat
  seat_overdue seat h = let o = overdue_is time (ping_of start past seat) h in record { outstanding = o.0; old = o.1 }

  pub seat_not : (seat : ℕ) → overdue time (ping_of start past seat) ≡ false → Overdue start past time seat → ⊥
  seat_not seat h o = true≢false (sym (is_overdue_lem time (ping_of start past seat) o.outstanding o.old) ∙ h)

  -- the keys of the clients that it puts out, of so many seats from one on
  module _ (key : Key) where
    pub record OutFrom (from : ℕ) : Type 0 where
      pub seat : ℕ
      pub sits : sitter start past seat ≡ client_of key
      pub out : overdue time (ping_of start past seat) ≡ true

    among_out : (from many : ℕ) → is_among key (overdue_from start past time from many) ≡ true → OutFrom from
    unfolding overdue_from is_among key_if
    among_out from zero h = absurd (false≢true h)
    among_out from (suc many) h = go (overdue time (ping_of start past from)) refl (sitter start past from) refl (among_out (suc from) many) h
      where
        later : OutFrom (suc from) → OutFrom from
        later o = record { seat = o.seat; sits = o.sits; out = o.out }

        go : (t : Bool) → overdue time (ping_of start past from) ≡ t → (who : Maker) → sitter start past from ≡ who
            → (is_among key (overdue_from start past time (suc from) many) ≡ true → OutFrom (suc from))
            → is_among key (key_if t who (overdue_from start past time (suc from) many)) ≡ true → OutFrom from
        go true o nobody w rest q = later (rest q)
        go true o (client_of k) w rest q = pick (same_key k key) refl q
          where
            pick : (t : Bool) → same_key k key ≡ t → (t || is_among key (overdue_from start past time (suc from) many)) ≡ true → OutFrom from
            pick true s q = record { seat = from; sits = w ∙ ap client_of (same_sound k key s); out = o }
            pick false s q = later (rest q)
        go false o who w rest q = later (rest q)

    out_among : (from many i : ℕ) → i < many → sitter start past (from + i) ≡ client_of key → overdue time (ping_of start past (from + i)) ≡ true
        → is_among key (overdue_from start past time from many) ≡ true
    unfolding overdue_from is_among key_if
    out_among from zero i l w o = absurd (omega arith)
    out_among from (suc many) zero l w o =
        let q : from + 0 ≡ from = omega arith in
        rw (rw q at o, rw q at w, same_refl key)
    out_among from (suc many) (suc i) l w o =
        let q : from + suc i ≡ suc from + i = omega arith in
        go (overdue time (ping_of start past from)) (sitter start past from) (out_among (suc from) many i (omega arith) (rw q at w) (rw q at o))
      where
        go : (t : Bool) (who : Maker) → is_among key (overdue_from start past time (suc from) many) ≡ true
            → is_among key (key_if t who (overdue_from start past time (suc from) many)) ≡ true
        go true nobody h = h
        go true (client_of k) h = rw h (or-true (same_key k key))
          where
            or-true : (t : Bool) → (t || true) ≡ true
            or-true true = refl
            or-true false = refl
        go false who h = h

  -- a client sits in one of the seats
  within : (seat : ℕ) (key : Key) → sitter start past seat ≡ client_of key → seat < start.seats
  within seat key w =
      let l = held_within room seat _ (seat_holds sizes start past room whole tie seat key w) in
      let q = tie.seats in
      omega arith

  out_here : (seat : ℕ) (key : Key) → sitter start past seat ≡ client_of key → overdue time (ping_of start past seat) ≡ true
      → is_among key (overdue_from start past time 0 start.seats) ≡ true
  out_here seat key w o =
      let q : 0 + seat ≡ seat = omega arith in
      out_among key 0 start.seats seat (within seat key w) (rw q w) (rw q o)

  pub tick_leaves : TickLeaves start past time tick_event
  unfolding sitter sits_after stands stands_after maker put_out put_out_if tick_from accept is_accepted
  tick_leaves = record {
    empty = λ seat. (now_empty seat (overdue time (ping_of start past seat)) refl, then_empty seat);
    stays = λ seat h. kept_seat seat (overdue time (ping_of start past seat)) refl h;
    ended = λ seat key w o n wanted.
        rw (out_here seat key w (is_overdue_lem time (ping_of start past seat) o.outstanding o.old));
    kept = λ key h n wanted. kept_request key h n wanted (is_among key (overdue_from start past time 0 start.seats)) refl;
  }
    where
      now_empty : (seat : ℕ) (t : Bool) → overdue time (ping_of start past seat) ≡ t → cond t nobody (sitter start past seat) ≡ nobody → EmptyThen start past time seat
      now_empty seat true e h = it_left (seat_overdue seat e)
      now_empty seat false e h = nobody_sat h

      then_empty : (seat : ℕ) → EmptyThen start past time seat → cond (overdue time (ping_of start past seat)) nobody (sitter start past seat) ≡ nobody
      then_empty seat (nobody_sat h) = go (overdue time (ping_of start past seat))
        where
          go : (t : Bool) → cond t nobody (sitter start past seat) ≡ nobody
          go true = refl
          go false = h
      then_empty seat (it_left o) = rw (is_overdue_lem time (ping_of start past seat) o.outstanding o.old)

      kept_seat : (seat : ℕ) (t : Bool) → overdue time (ping_of start past seat) ≡ t → (Overdue start past time seat → ⊥) → cond t nobody (sitter start past seat) ≡ sitter start past seat
      kept_seat seat true e h = absurd (h (seat_overdue seat e))
      kept_seat seat false e h = refl

      kept_request : (key : Key) → ((seat : ℕ) → sitter start past seat ≡ client_of key → Overdue start past time seat → ⊥) → (n : ℕ) (wanted : Key)
          → (t : Bool) → is_among key (overdue_from start past time 0 start.seats) ≡ t → cond t false (stands start past key n wanted) ≡ stands start past key n wanted
      kept_request key h n wanted true e = let o = among_out key 0 start.seats e in absurd (h o.seat o.sits (seat_overdue o.seat o.out))
      kept_request key h n wanted false e = refl

  -- ---- who is pinged

  pub seat_due : (seat : ℕ) → is_due time (seat_at room seat) ≡ true → Due start past time seat
  seat_due seat h =
      let d = due_is time (seat_at room seat) h in
      let p = tie.pings seat in
      record {
        key = d.key;
        sits = tie.sits seat ∙ d.sits;
        none_outstanding = ap (λ (x : Ping). x.number) p ∙ d.none_outstanding;
        old = rw p d.old;
      }

  pub due_seat : (seat : ℕ) → Due start past time seat → is_due time (seat_at room seat) ≡ true
  due_seat seat d =
      let p = tie.pings seat in
      is_due_lem time (seat_at room seat) (record {
        key = d.key;
        sits = sym (tie.sits seat) ∙ d.sits;
        none_outstanding = ap (λ (x : Ping). x.number) (sym p) ∙ d.none_outstanding;
        old = rw p at d.old;
      })

  pub sent_ping : (seat : ℕ) → (ping_sent_to seat (tick_from room time number).sent ≡ true) ↔ Due start past time seat
  sent_ping seat = (
    λ h. seat_due seat (sym (pings_told room time number seat) ∙ h),
    λ d. pings_told room time number seat ∙ due_seat seat d,
  )

  pub tick_pings : TickPings start past time number tick_event
  unfolding ping_of ping_after ping_after_tick tick_from accept is_accepted
  tick_pings = record {
    told = sent_ping;
    pinged = λ seat d. rw ((sent_ping seat).1 d);
    not_pinged = λ seat noDue stay. other seat (ping_sent_to seat (tick_from room time number).sent) refl (overdue time (ping_of start past seat)) refl noDue stay;
    left = λ seat o. rw (pings_told room time number seat, not_due seat o, is_overdue_lem time (ping_of start past seat) o.outstanding o.old);
  }
    where
      other : (seat : ℕ) (t : Bool) → ping_sent_to seat (tick_from room time number).sent ≡ t → (u : Bool) → overdue time (ping_of start past seat) ≡ u
          → (Due start past time seat → ⊥) → (Overdue start past time seat → ⊥)
          → cond t (record { time = time; number = number }) (cond u (none_since 0) (ping_of start past seat)) ≡ ping_of start past seat
      other seat true e u o noDue stay = absurd (noDue ((sent_ping seat).0 e))
      other seat false e true o noDue stay = absurd (stay (seat_overdue seat o))
      other seat false e false o noDue stay = refl

      not_due : (seat : ℕ) → Overdue start past time seat → is_due time (seat_at room seat) ≡ false
      not_due seat o = go (is_due time (seat_at room seat)) refl
        where
          go : (t : Bool) → is_due time (seat_at room seat) ≡ t → is_due time (seat_at room seat) ≡ false
          go true e = absurd (o.outstanding (seat_due seat e).none_outstanding)
          go false e = e
