-- What an accepted tick makes of a room: the clock is its time, and each seat is what it makes of that seat alone. A seat that is overdue is emptied, one that
-- is due is pinged, and every other stays. So a tick is leaves and then pings. Assumes nothing.
use mathlib.Core.Path.{◌≡◌, refl, sym, ap, ap₂, ◌∙◌}
use mathlib.Core.Bool.{Bool, true, false, ◌&&◌, not, cond}
use mathlib.Core.List.{List, [], ◌∷◌, ◌++◌, map, append_assoc}
use Prim.Native.Nat.{ℕ, zero, suc, ◌-◌}
use native.Mathlib.Omega.{arith}
use lib.Dec.{eqb, leb}
use lib.ListN.{get_or, set, length, length-append}
use lib.Seq.{set-get_or}
use Rattle.rules.specs.Room.{Sizes, Seat, vacant, holds, Room, set_clock, set_seats, set_seat, ping_in, seat_at, place_when, places_from}
use Rattle.rules.specs.Outcome.{with_ping, apply, apply_all, refuse, accept, room_after, leave_from, ping_sent, overdue, is_overdue, is_due, leave_each, ping_each, leavers, due_seats, tick_from}
use Rattle.rules.proofs.OutcomeLaws.{changes_append}

-- ---- a list in two parts

module _ {A : Type 0} where
  one_more : (pre : List A) (x : A) (rest : List A) → (pre ++ (x ∷ [])) ++ rest ≡ pre ++ (x ∷ rest)
  one_more pre x rest = append_assoc pre (x ∷ []) rest

  length_more : (pre : List A) (x : A) → suc (length pre) ≡ length (pre ++ (x ∷ []))
  length_more pre x = omega (arith, length-append pre (x ∷ []))

  get_d_behind : (pre : List A) (x : A) (rest : List A) (d : A) → get_or (pre ++ (x ∷ rest)) (length pre) d ≡ x
  get_d_behind [] x rest d = refl
  get_d_behind (y ∷ pre) x rest d = get_d_behind pre x rest d

  set_behind : (pre : List A) (x y : A) (rest : List A) → set (pre ++ (x ∷ rest)) (length pre) y ≡ pre ++ (y ∷ rest)
  set_behind [] x y rest = refl
  set_behind (z ∷ pre) x y rest = ap (λ (l : List A). z ∷ l) (set_behind pre x y rest)

  map_self : (l : List A) → map (λ x. x) l ≡ l
  map_self [] = refl
  map_self (x ∷ l) = ap (λ (t : List A). x ∷ t) (map_self l)

  -- an element of a list that is made of another's, one by one, where the missing one is made of the missing one
  pub get_d_each : (f : A → A) (d : A) → f d ≡ d → (l : List A) (i : ℕ) → get_or (map f l) i d ≡ f (get_or l i d)
  get_d_each f d e [] i = sym e
  get_d_each f d e (x ∷ l) zero = refl
  get_d_each f d e (x ∷ l) (suc i) = get_d_each f d e l i

-- ---- seats replaced one after the other

unfoldable pub set_each : (Seat → Seat) → Room → List ℕ → Room
set_each f room [] = room
set_each f room (seat ∷ seats) = set_each f (set_seat room seat (f (seat_at room seat))) seats

-- those that pass a test: each seat for itself. The test is made of the seats that the room's were made of
set_each_lem : (f g : Seat → Seat) (test : Seat → Bool) (room : Room) (pre rest : List Seat)
    → set_each f (set_seats room (pre ++ map g rest)) (places_from test (length pre) rest)
    ≡ set_seats room (pre ++ map (λ (x : Seat). cond (test x) (f (g x)) (g x)) rest)
unfolding set_each places_from place_when seat_at
set_each_lem f g test room pre [] = refl
set_each_lem f g test room pre (x ∷ rest) = go (λ (y : Seat). set_each_lem f g test room (pre ++ (y ∷ [])) rest) (test x)
  where
    made : Seat → Seat
    made s = cond (test s) (f (g s)) (g s)

    -- the rest, behind what became of this seat
    Behind : Seat → List ℕ → List Seat → Type 0
    Behind y seats l = set_each f (set_seats room ((pre ++ (y ∷ [])) ++ map g rest)) seats ≡ set_seats room ((pre ++ (y ∷ [])) ++ l)

    onward : (y : Seat) → Behind y (places_from test (length (pre ++ (y ∷ []))) rest) (map made rest)
        → set_each f (set_seats room (pre ++ (y ∷ map g rest))) (places_from test (suc (length pre)) rest) ≡ set_seats room (pre ++ (y ∷ map made rest))
    onward y later =
        ap₂ (λ (l : List Seat) (k : ℕ). set_each f (set_seats room l) (places_from test k rest)) (sym (one_more pre y (map g rest))) (length_more pre y)
        ∙ later
        ∙ ap (set_seats room) (one_more pre y (map made rest))

    go : ((y : Seat) → Behind y (places_from test (length (pre ++ (y ∷ []))) rest) (map made rest)) → (t : Bool)
        → set_each f (set_seats room (pre ++ (g x ∷ map g rest))) (place_when t (length pre) (places_from test (suc (length pre)) rest))
        ≡ set_seats room (pre ++ (cond t (f (g x)) (g x) ∷ map made rest))
    go later true =
        ap (λ (l : List Seat). set_each f (set_seats room l) (places_from test (suc (length pre)) rest))
        (ap (λ (s : Seat). set (pre ++ (g x ∷ map g rest)) (length pre) (f s)) (get_d_behind pre (g x) (map g rest) vacant)
        ∙ set_behind pre (g x) (f (g x)) (map g rest))
        ∙ onward (f (g x)) (later (f (g x)))
    go later false = onward (g x) (later (g x))

-- ---- the changes of a tick

pub leave_room : (sizes : Sizes) (room : Room) (seat : ℕ) (s : Seat) → seat_at room seat ≡ s → apply_all sizes room (leave_from s room seat).changes ≡ set_seat room seat vacant
unfolding leave_from refuse accept apply_all apply seat_at
leave_room sizes room seat vacant e = ap (set_seats room) (sym (set-get_or room.seats seat vacant) ∙ ap (set room.seats seat) e)
leave_room sizes room seat (holds held) e = refl

pub leaves_room : (sizes : Sizes) (room : Room) (seats : List ℕ) → apply_all sizes room (leave_each room seats).changes ≡ set_each (λ s. vacant) room seats
unfolding leave_each accept apply_all set_each
leaves_room sizes room [] = refl
leaves_room sizes room (seat ∷ seats) =
    changes_append sizes room (leave_from (seat_at room seat) room seat).changes (leave_each (set_seat room seat vacant) seats).changes
    ∙ ap (λ (r : Room). apply_all sizes r (leave_each (set_seat room seat vacant) seats).changes) (leave_room sizes room seat (seat_at room seat) refl)
    ∙ leaves_room sizes (set_seat room seat vacant) seats

pings_room : (sizes : Sizes) (time number : ℕ) (room : Room) (seats : List ℕ)
    → apply_all sizes room (map (λ seat. ping_sent seat time number) seats) ≡ set_each (λ (s : Seat). with_ping s time number) room seats
unfolding apply_all apply set_each
pings_room sizes time number room [] = refl
pings_room sizes time number room (seat ∷ seats) = pings_room sizes time number (set_seat room seat (with_ping (seat_at room seat) time number)) seats

-- ---- a seat after a tick

-- emptied where it is overdue
abbrev pub remaining : ℕ → Seat → Seat
remaining time s = cond (is_overdue time s) vacant s

-- and pinged where it is due
abbrev pub seat_after_tick : ℕ → ℕ → Seat → Seat
seat_after_tick time number s = cond (is_due time s) (with_ping (remaining time s) time number) (remaining time s)

-- an empty seat stays empty
pub no_ping : (time number : ℕ) → seat_after_tick time number vacant ≡ vacant
unfolding is_due is_overdue overdue ping_in
no_ping time number = refl

pub due_not_overdue : (time : ℕ) (s : Seat) → is_due time s ≡ true → is_overdue time s ≡ false
unfolding is_due is_overdue overdue ping_in
due_not_overdue time vacant h = refl
due_not_overdue time (holds held) h = go (eqb held.ping.number 0) (leb 30 (time - held.ping.time)) h
  where
    go : (t u : Bool) → (t && u) ≡ true → (not t && leb 10 (time - held.ping.time)) ≡ false
    go true u h = refl
    go false u h = cc

-- THE LAW
module _ (sizes : Sizes) (room : Room) (time number : ℕ) where
  pub room_after_departures : set_each (λ s. vacant) (set_clock room time) (leavers time room) ≡ set_seats (set_clock room time) (map (remaining time) room.seats)
  unfolding leavers
  room_after_departures =
      ap (λ (l : List Seat). set_each (λ s. vacant) (set_seats (set_clock room time) l) (places_from (is_overdue time) 0 room.seats)) (sym (map_self room.seats))
      ∙ set_each_lem (λ s. vacant) (λ s. s) (is_overdue time) (set_clock room time) [] room.seats

  pub room_after_tick : room_after sizes room (tick_from room time number) ≡ set_seats (set_clock room time) (map (seat_after_tick time number) room.seats)
  unfolding room_after tick_from accept ping_each due_seats apply_all apply
  room_after_tick =
      changes_append sizes (set_clock room time) (leave_each (set_clock room time) (leavers time room)).changes (map (λ seat. ping_sent seat time number) (due_seats time room))
      ∙ ap (λ (r : Room). apply_all sizes r (map (λ seat. ping_sent seat time number) (due_seats time room)))
      (leaves_room sizes (set_clock room time) (leavers time room) ∙ room_after_departures)
      ∙ pings_room sizes time number (set_seats (set_clock room time) (map (remaining time) room.seats)) (due_seats time room)
      ∙ set_each_lem (λ (s : Seat). with_ping s time number) (remaining time) (is_due time) (set_clock room time) [] room.seats

  pub seat_after_tick_lem : (here : ℕ) → seat_at (room_after sizes room (tick_from room time number)) here ≡ seat_after_tick time number (seat_at room here)
  unfolding seat_at
  seat_after_tick_lem here = ap (λ (r : Room). get_or r.seats here vacant) room_after_tick ∙ get_d_each (seat_after_tick time number) vacant (no_ping time number) room.seats here
