-- What a tick makes of a whole room fits it: the clock does not go back, each seat that leaves holds a client then, and so does each that is pinged, at a time
-- that is the clock's. Assumes nothing.
use mathlib.Core.Path.{◌≡◌, refl, sym, ap, ◌∙◌, subst}
use mathlib.Core.Bool.{Bool, true, false, cond, true≢false, false≢true}
use mathlib.Core.List.{List, [], ◌∷◌, ◌++◌, map}
use Prim.Native.Nat.{ℕ, suc, ◌+◌, ◌^◌, ◌≤◌, ◌<◌}
use native.Mathlib.Omega.{arith}
use lib.Dec.{eqb, ltb}
use lib.ListN.{get_or}
use borrow.Author.Tests.{ltb-false, eqb-true, eqb-false}
use Rattle.rules.specs.Room.{sizes_of, Seat, vacant, holds, Room, set_clock, set_seats, set_seat, is_vacant, seat_at, place_when, places_from}
use Rattle.rules.specs.Outcome.{Change, ping_sent, with_ping, apply, apply_all, refuse, accept, leave_from, is_overdue, is_due, leave_each, ping_each, leavers, due_seats, tick_from, tick_at}
use Rattle.rules.proofs.FindLaws.{seat_set, seat_set_other, held_within}
use Rattle.rules.proofs.TickLaws.{get_d_each, remaining, due_not_overdue, leave_room, leaves_room, room_after_departures}
use Rattle.room_laws.specs.Layout.{word_bytes}
use Rattle.room_laws.specs.Fits.{Fit, empties, sets, pings, FitAll}

-- ---- several changes

fit_append : (s n : ℕ) (room : Room) (a b : List Change) → FitAll s n room a → FitAll s n (apply_all (sizes_of s n) room a) b → FitAll s n room (a ++ b)
unfolding apply_all
fit_append s n room [] b fa fb = fb
fit_append s n room (change ∷ a) b fa fb = (fa.0, fit_append s n (apply (sizes_of s n) room change) a b fa.1 fb)

-- ---- the departures

leave_fits_room : (s n : ℕ) (room : Room) (seat : ℕ) (x : Seat) → seat_at room seat ≡ x → FitAll s n room (leave_from x room seat).changes
unfolding leave_from refuse accept
leave_fits_room s n room seat vacant e = tt
leave_fits_room s n room seat (holds held) e = (empties e, tt)

pub leaves_fit : (s n : ℕ) (room : Room) (seats : List ℕ) → FitAll s n room (leave_each room seats).changes
unfolding leave_each accept
leaves_fit s n room [] = tt
leaves_fit s n room (seat ∷ seats) =
    fit_append s n room (leave_from (seat_at room seat) room seat).changes (leave_each (set_seat room seat vacant) seats).changes
    (leave_fits_room s n room seat (seat_at room seat) refl)
    (subst (λ (r : Room). FitAll s n r (leave_each (set_seat room seat vacant) seats).changes) (sym (leave_room (sizes_of s n) room seat (seat_at room seat) refl))
    (leaves_fit s n (set_seat room seat vacant) seats))

-- ---- the pings

-- each of these seats is taken
abbrev Taken : Room → List ℕ → Type 0
Taken room [] = Unit {0}
Taken room (seat ∷ seats) = (is_vacant (seat_at room seat) ≡ false) × Taken room seats

-- a seat that is pinged stays taken, and an empty one empty
pinged_taken : (room : Room) (seat time number here : ℕ) → is_vacant (seat_at room here) ≡ false → is_vacant (seat_at room seat) ≡ false
    → is_vacant (seat_at (set_seat room seat (with_ping (seat_at room seat) time number)) here) ≡ false
unfolding is_vacant with_ping
pinged_taken room seat time number here h k = go (seat_at room seat) refl (eqb seat here) refl
  where
    go : (s : Seat) → seat_at room seat ≡ s → (t : Bool) → eqb seat here ≡ t → is_vacant (seat_at (set_seat room seat (with_ping s time number)) here) ≡ false
    go vacant e t q = absurd (true≢false (sym (ap is_vacant e) ∙ k))
    go (holds held) e true q =
        ap (λ (i : ℕ). is_vacant (seat_at (set_seat room seat (with_ping (holds held) time number)) i)) (sym (eqb-true seat here q))
        ∙ ap is_vacant (seat_set room seat (with_ping (holds held) time number) (held_within room seat held e))
    go (holds held) e false q = ap is_vacant (seat_set_other room seat (with_ping (holds held) time number) here (λ z. eqb-false seat here q (sym z))) ∙ h

all_taken : (room : Room) (seat time number : ℕ) → is_vacant (seat_at room seat) ≡ false → (seats : List ℕ) → Taken room seats
    → Taken (set_seat room seat (with_ping (seat_at room seat) time number)) seats
all_taken room seat time number k [] t = tt
all_taken room seat time number k (here ∷ seats) t = (pinged_taken room seat time number here t.0 k, all_taken room seat time number k seats t.1)

pings_fit : (s n : ℕ) (room : Room) (time number : ℕ) → time ≤ room.clock → time < 256 ^ word_bytes → number < 256 ^ word_bytes → (seats : List ℕ) → Taken room seats
    → FitAll s n room (map (λ seat. ping_sent seat time number) seats)
unfolding apply is_vacant
pings_fit s n room time number late small few [] t = tt
pings_fit s n room time number late small few (seat ∷ seats) t =
    (fits (seat_at room seat) refl, pings_fit s n (set_seat room seat (with_ping (seat_at room seat) time number)) time number late small few seats (all_taken room seat time number t.0 seats t.1))
  where
    fits : (x : Seat) → seat_at room seat ≡ x → Fit s n room (ping_sent seat time number)
    fits vacant e = absurd (true≢false (sym (ap is_vacant e) ∙ t.0))
    fits (holds held) e = pings e late small few

-- what holds of each place that passes a test
taken_places : (test : Seat → Bool) (room : Room) (from : ℕ) (l : List Seat)
    → ((i : ℕ) → test (get_or l i vacant) ≡ true → is_vacant (seat_at room (from + i)) ≡ false) → Taken room (places_from test from l)
unfolding places_from place_when
taken_places test room from [] h = tt
taken_places test room from (x ∷ l) h = go (test x) refl (taken_places test room (suc from) l (λ i e. subst (λ (k : ℕ). is_vacant (seat_at room k) ≡ false) (let q : from + suc i ≡ suc from + i = omega arith in q) (h (suc i) e)))
  where
    go : (t : Bool) → test x ≡ t → Taken room (places_from test (suc from) l) → Taken room (place_when t from (places_from test (suc from) l))
    go true e later = (subst (λ (k : ℕ). is_vacant (seat_at room k) ≡ false) (let q : from + 0 ≡ from = omega arith in q) (h 0 e), later)
    go false e later = later

-- ---- the tick

module _ (s n : ℕ) (room : Room) (time number : ℕ) (small : time < 256 ^ word_bytes) (few : number < 256 ^ word_bytes) where
  -- the room that the departures leave
  abbrev left : Room
  left = set_seats (set_clock room time) (map (remaining time) room.seats)

  due_taken : (i : ℕ) → is_due time (get_or room.seats i vacant) ≡ true → is_vacant (seat_at left (0 + i)) ≡ false
  unfolding seat_at is_vacant is_due
  due_taken i e =
      ap (λ (k : ℕ). is_vacant (get_or left.seats k vacant)) (let q : 0 + i ≡ i = omega arith in q)
      ∙ ap is_vacant (get_d_each (remaining time) vacant (no_one (is_overdue time vacant)) room.seats i)
      ∙ go (get_or room.seats i vacant) e
    where
      no_one : (u : Bool) → cond u vacant vacant ≡ vacant
      no_one true = refl
      no_one false = refl

      go : (x : Seat) → is_due time x ≡ true → is_vacant (remaining time x) ≡ false
      go vacant d = absurd (false≢true d)
      go (holds held) d = rw (due_not_overdue time (holds held) d)

  tick_from_fits : room.clock ≤ time → FitAll s n room (tick_from room time number).changes
  unfolding tick_from accept ping_each due_seats apply
  tick_from_fits later = (
    sets later small,
    fit_append s n (set_clock room time) (leave_each (set_clock room time) (leavers time room)).changes (map (λ seat. ping_sent seat time number) (places_from (is_due time) 0 room.seats))
        (leaves_fit s n (set_clock room time) (leavers time room))
        (subst (λ (r : Room). FitAll s n r (map (λ seat. ping_sent seat time number) (places_from (is_due time) 0 room.seats)))
        (sym (leaves_room (sizes_of s n) (set_clock room time) (leavers time room) ∙ room_after_departures (sizes_of s n) room time number))
        (pings_fit s n left time number (omega arith) small few (places_from (is_due time) 0 room.seats) (taken_places (is_due time) left 0 room.seats due_taken))),
  )

  pub tick_fits : (zero back : Bool) → ltb time room.clock ≡ back → FitAll s n room (tick_at zero back room time number).changes
  unfolding tick_at refuse
  tick_fits true back e = tt
  tick_fits false true e = tt
  tick_fits false false e = tick_from_fits (ltb-false time room.clock e)
