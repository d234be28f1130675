-- For every history: what an accepted tick does, and what it sends, in order. "First, in rising seat order, every seat whose ping has stood unanswered for 10
-- seconds or more leaves as if it had called": the records are those of the Leave calls, each made after the last. "Then every remaining seat with none
-- outstanding, last pinged 30 seconds ago or more, is pinged in that order." Assumes nothing.
use mathlib.Core.Path.{◌≡◌, refl, sym, ap, ◌∙◌, subst}
use mathlib.Core.Bool.{Bool, true, false, true≢false, false≢true}
use mathlib.Core.List.{List, [], ◌∷◌, ◌++◌, map}
use Prim.Native.Nat.{ℕ, suc, ◌+◌}
use native.Mathlib.Omega.{arith}
use lib.ListN.{get_or, length}
use Rattle.packet_laws.specs.FromRelay as relay
use Rattle.rules.specs.Room.{Sizes, Held, Seat, vacant, holds, Room, set_clock, set_seat, ping_in, seat_at, place_when, places_from}
use Rattle.rules.specs.Whole.{Whole}
use Rattle.rules.specs.Call.{Call, leave, tick}
use Rattle.rules.specs.Outcome.{apply, apply_all, accept, to, room_after, leave_from, overdue, is_overdue, is_due, leave_each, ping_each, leavers, due_seats, tick_from, outcome}
use Rattle.rules.specs.History.{Event, event, happens}
use Rattle.rules.specs.Transcript.{Past, Start, from_empty, is_accepted, clock_after, clock_of, ping_of}
use Rattle.rules.specs.After.{past_after, Tied}
use Rattle.after_calls.specs.Told.{Parts}
use Rattle.after_calls.specs.Ticks.{TickAnswered, AsBefore, Overdue, leave_event, LeavesFrom, PingsFrom, done, leaves, stays, pings, passes, TickDoes}
use Rattle.rules.proofs.FindLaws.{seat_set_other, held_of}
use Rattle.rules.proofs.Whole.{whole_after}
use Rattle.rules.proofs.TickInTurn.{leave_clock}
use Rattle.rules.proofs.Tied.{tied_after}
use Rattle.rules.proofs.EachEvent.{from_empty_lem}
use Rattle.after_calls.proofs.Told.{leave_tells}
use Rattle.after_calls.proofs.Ticks.{tick_answered, refused_tick, accepted_tick, tick_event, seat_overdue, seat_not, seat_due, due_seat, tick_leaves, tick_pings}

-- the first of the seats from one on, and the others
module _ {A : Type 0} (f : ℕ → A) (from : ℕ) (g : ℕ → A) (same : (i : ℕ) → f (from + i) ≡ g i) where
  first : f from ≡ g 0
  first = ap f (let q : from ≡ from + 0 = omega arith in q) ∙ same 0

  others : (i : ℕ) → f (suc from + i) ≡ g (suc i)
  others i = ap f (let q : suc from + i ≡ from + suc i = omega arith in q) ∙ same (suc i)

-- ---- the pings

module _ (sizes : Sizes) (start : Start) (past : Past) (room : Room) (whole : Whole sizes room) (tie : Tied start past room) (time number : ℕ) where
  pings_from : (from : ℕ) (l : List Seat) → ((i : ℕ) → seat_at room (from + i) ≡ get_or l i vacant)
      → PingsFrom start past time number from (length l) (map (λ seat. to seat (relay.ping number)) (places_from (is_due time) from l))
  unfolding places_from
  pings_from from [] same = done
  pings_from from (s ∷ l) same = go (is_due time s) refl (pings_from (suc from) l (others (seat_at room) from (λ i. get_or (s ∷ l) i vacant) same))
    where
      here : seat_at room from ≡ s
      here = first (seat_at room) from (λ i. get_or (s ∷ l) i vacant) same

      go : (t : Bool) → is_due time s ≡ t
          → PingsFrom start past time number (suc from) (length l) (map (λ seat. to seat (relay.ping number)) (places_from (is_due time) (suc from) l))
          → PingsFrom start past time number from (suc (length l)) (map (λ seat. to seat (relay.ping number)) (place_when t from (places_from (is_due time) (suc from) l)))
      go true e rest = unfold place_when in pings (seat_due sizes start past room whole tie time number from (ap (is_due time) here ∙ e)) rest
      go false e rest =
          unfold place_when in passes (λ d. true≢false (sym (due_seat sizes start past room whole tie time number from d) ∙ ap (is_due time) here ∙ e)) rest

-- ---- the departures

overdue_held : (time : ℕ) (s : Seat) → is_overdue time s ≡ true → s ≡ holds (held_of s)
unfolding is_overdue overdue ping_in
overdue_held time vacant h = absurd (false≢true h)
overdue_held time (holds held) h = refl

-- the room after the Leave of a client, by what has happened
left_tied : (sizes : Sizes) (start : Start) (now : Past) (room : Room) → Whole sizes room → Tied start now room → (seat : ℕ) (held : Held) → seat_at room seat ≡ holds held
    → Tied start (leave_event seat (event room (leave seat)).sent ∷ now) (set_seat room seat vacant)
unfolding event outcome leave_from accept room_after apply_all apply
left_tied sizes start now room whole tie seat held sits = rw sits (rw sits at (tied_after sizes start now room whole tie (leave seat)))

left_whole : (sizes : Sizes) (room : Room) → Whole sizes room → (seat : ℕ) (held : Held) → seat_at room seat ≡ holds held → Whole sizes (set_seat room seat vacant)
unfolding outcome leave_from accept room_after apply_all apply
left_whole sizes room whole seat held sits = rw sits at (whole_after sizes room whole (leave seat))

module _ (sizes : Sizes) (start : Start) (past : Past) (room₀ : Room) (whole₀ : Whole sizes room₀) (tie₀ : Tied start past room₀) (time : ℕ) where
  -- what the departures tell, of so many seats from one on, in the room that those before them left
  abbrev Tells : Past → Room → ℕ → List Seat → List ℕ → Type 0
  Tells now room from l goers = LeavesFrom sizes start past time now from (length l) (leave_each (set_clock room time) goers).sent

  module _ (now : Past) (room : Room) (whole : Whole sizes room) (tie : Tied start now room) (from : ℕ) (l : List Seat) where
    one_leaves : (held : Held) → seat_at room from ≡ holds held → Overdue start past time from → (goers : List ℕ)
        → Tells (leave_event from (event room (leave from)).sent ∷ now) (set_seat room from vacant) (suc from) l goers
        → LeavesFrom sizes start past time now from (suc (length l)) (leave_each (set_clock room time) (from ∷ goers)).sent
    unfolding leave_each accept event outcome
    one_leaves held sits o goers rest =
        rw (leave_clock room time from) (leaves _ o (leave_tells sizes start now room whole tie from) rest)

  leaves_from : (now : Past) (room : Room) → Whole sizes room → Tied start now room → (from : ℕ) (l : List Seat)
      → ((i : ℕ) → seat_at room (from + i) ≡ get_or l i vacant) → ((i : ℕ) → ping_of start past (from + i) ≡ ping_in (get_or l i vacant))
      → Tells now room from l (places_from (is_overdue time) from l)
  unfolding places_from leave_each accept
  leaves_from now room whole tie from [] same asked = done
  leaves_from now room whole tie from (s ∷ l) same asked = go (λ now room whole tie. leaves_from now room whole tie (suc from) l) (is_overdue time s) refl
    where
      here : seat_at room from ≡ s
      here = first (seat_at room) from (λ i. get_or (s ∷ l) i vacant) same

      -- one that leaves holds a client
      holder : is_overdue time s ≡ true → seat_at room from ≡ holds (held_of s)
      holder e = here ∙ overdue_held time s e

      ping_here : ping_of start past from ≡ ping_in s
      ping_here = first (ping_of start past) from (λ i. ping_in (get_or (s ∷ l) i vacant)) asked

      same' : (i : ℕ) → seat_at room (suc from + i) ≡ get_or l i vacant
      same' = others (seat_at room) from (λ i. get_or (s ∷ l) i vacant) same

      asked' : (i : ℕ) → ping_of start past (suc from + i) ≡ ping_in (get_or l i vacant)
      asked' = others (ping_of start past) from (λ i. ping_in (get_or (s ∷ l) i vacant)) asked

      -- the others, in whichever room
      Onward : Type 0
      Onward = (now : Past) (room : Room) → Whole sizes room → Tied start now room → ((i : ℕ) → seat_at room (suc from + i) ≡ get_or l i vacant)
          → ((i : ℕ) → ping_of start past (suc from + i) ≡ ping_in (get_or l i vacant)) → Tells now room (suc from) l (places_from (is_overdue time) (suc from) l)

      go : Onward → (t : Bool) → is_overdue time s ≡ t
          → LeavesFrom sizes start past time now from (suc (length l)) (leave_each (set_clock room time) (place_when t from (places_from (is_overdue time) (suc from) l))).sent
      go onward true e =
          unfold place_when in
          one_leaves now room whole tie from l (held_of s) (holder e)
          (seat_overdue sizes start past room₀ whole₀ tie₀ time 0 from (unfold is_overdue in ap (overdue time) ping_here ∙ e)) (places_from (is_overdue time) (suc from) l)
          (onward (leave_event from (event room (leave from)).sent ∷ now) (set_seat room from vacant) (left_whole sizes room whole from (held_of s) (holder e))
          (left_tied sizes start now room whole tie from (held_of s) (holder e))
          (λ i. seat_set_other room from vacant (suc from + i) (λ q. omega arith) ∙ same' i) asked')
      go onward false e =
          unfold place_when in
          stays (seat_not sizes start past room₀ whole₀ tie₀ time 0 from (unfold is_overdue in ap (overdue time) ping_here ∙ e))
          (onward now room whole tie same' asked')

-- ---- one tick

module _ (sizes : Sizes) (start : Start) (past : Past) (room : Room) (whole : Whole sizes room) (tie : Tied start past room) (time number : ℕ) where
  -- the seats of the room, from the first on
  from_first : {A : Type 0} (f : Seat → A) (i : ℕ) → f (seat_at room (0 + i)) ≡ f (get_or room.seats i vacant)
  unfolding seat_at
  from_first f i = ap (λ (n : ℕ). f (get_or room.seats n vacant)) (let q : 0 + i ≡ i = omega arith in q)

  tick_sends : Parts (LeavesFrom sizes start past time past 0 sizes.seats) (PingsFrom start past time number 0 sizes.seats) (tick_from room time number).sent
  unfolding tick_from accept ping_each leavers due_seats
  tick_sends = record {
    front = (leave_each (set_clock room time) (leavers time room)).sent;
    back = (ping_each time number (due_seats time room)).sent;
    both = refl;
    first =
        subst (λ (n : ℕ). LeavesFrom sizes start past time past 0 n (leave_each (set_clock room time) (leavers time room)).sent) whole.seats
        (leaves_from sizes start past room whole tie time past room whole tie 0 room.seats (from_first (λ s. s)) (λ i. tie.pings (0 + i) ∙ from_first ping_in i));
    rest =
        subst (λ (n : ℕ). PingsFrom start past time number 0 n (ping_each time number (due_seats time room)).sent) whole.seats
        (pings_from sizes start past room whole tie time number 0 room.seats (from_first (λ s. s)));
  }

  -- THE THEOREM, of one tick
  pub tick_does : is_accepted (event room (tick time number)).answer ≡ true → TickDoes sizes start past time number (event room (tick time number))
  tick_does h = subst (TickDoes sizes start past time number) (sym (accepted_tick sizes start past room whole tie time number h)) does
    where
      does : TickDoes sizes start past time number (tick_event sizes start past room whole tie time number)
      does = record {
        clock = unfold clock_of clock_after tick_from accept is_accepted in refl;
        leaves = tick_leaves sizes start past room whole tie time number;
        pings = tick_pings sizes start past room whole tie time number;
        sent = tick_sends;
      }

-- ---- every history, from the empty room

module _ (sizes : Sizes) (calls : List Call) (before : List Event) (e : Event) (later : List Event) (t : happens sizes calls ≡ before ++ (e ∷ later))
    (time number : ℕ) (c : e.call ≡ tick time number) where
  of_each : (P : Past → Event → Type 0)
      → ((past : Past) (room : Room) → Whole sizes room → Tied (from_empty sizes) past room → P past (event room (tick time number))) → P (past_after [] before) e
  unfolding event
  of_each P each =
      from_empty_lem sizes (λ past e. e.call ≡ tick time number → P past e)
      (λ past room whole tie call c. subst (λ (x : Call). P past (event room x)) (sym c) (each past room whole tie)) calls before e later t c

  pub tick_answered_from_empty : TickAnswered (from_empty sizes) (past_after [] before) time number e
  tick_answered_from_empty =
      of_each (λ past e. TickAnswered (from_empty sizes) past time number e) (λ past room whole tie. tick_answered sizes (from_empty sizes) past room whole tie time number)

  pub refused_tick_from_empty : is_accepted e.answer ≡ false → AsBefore (from_empty sizes) (past_after [] before) e
  refused_tick_from_empty =
      of_each (λ past e. is_accepted e.answer ≡ false → AsBefore (from_empty sizes) past e)
      (λ past room whole tie. refused_tick sizes (from_empty sizes) past room whole tie time number)

  pub tick_does_from_empty : is_accepted e.answer ≡ true → TickDoes sizes (from_empty sizes) (past_after [] before) time number e
  tick_does_from_empty =
      of_each (λ past e. is_accepted e.answer ≡ true → TickDoes sizes (from_empty sizes) past time number e)
      (λ past room whole tie. tick_does sizes (from_empty sizes) past room whole tie time number)
