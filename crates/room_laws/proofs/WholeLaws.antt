-- Bytes that are a whole room: they fit, the header is right, the table of seats is whole, and so is the table of routes of each seat that is
-- listed, which does not list the seat's own key; and the seat's ping time is not after the clock. The room that they are is whole as the rules mean it: seated
-- keys differ, the wanted keys of one seat differ, no seat names its own key, and no ping time is after the clock.
use mathlib.Core.Path.{◌≡◌, refl, sym, ap, ap₂, ◌∙◌}
use mathlib.Core.Bool.{Bool, true, false, ◌&&◌, ◌||◌, or-true, true≢false}
use mathlib.Core.List.{List, [], ◌∷◌}
use Prim.Native.Nat.{ℕ, ◌-◌, ◌≤◌, ◌<◌}
use native.Mathlib.Omega.{arith}
use lib.ListN.{length, take, drop, get_or}
use lib.Dec.{eqb, leb}
use borrow.Author.Tests.{eq-eqb, eqb-true, leb-true}
use Rattle.key.proofs.Same.{not_so}
use Rattle.table_laws.specs.Bytes.{member}
use Rattle.table_laws.specs.Table.{Table, listed, record_at, key_at, table_whole, table_without}
use Rattle.table_laws.proofs.KeyOrder.{no, both, rising_below}
use Rattle.table_laws.proofs.Listed.{whole_rising}
use Rattle.table_laws.proofs.TableLaws.{keys_apart, key_record}
use Rattle.table_laws.proofs.WithoutLaws.{without_whole}
use Rattle.rules.specs.Room.{Key, Route, free, wants, Ping, Held, holds, none, find, route_to, seat_at, route_at, first_number, sizes_of}
use Rattle.rules.specs.Whole.{Whole}
use Rattle.rules.proofs.FindLaws.{find_miss, wanted_high, wanted_place}
use Rattle.room_laws.specs.Layout.{key_bytes, routes_in_seat, seat_bytes, fits_room, seat_table, routes_table}
use Rattle.room_laws.specs.View.{clock_in, record_ping, view_routes, view_room}
use Rattle.room_laws.specs.Whole.{header_right, seat_routes_whole, seat_ping_whole, seat_whole, seats_whole, room_whole}
use Rattle.room_laws.proofs.LayoutLaws.{few_seats, few_numbers, seats_table, routes_table_lem}
use Rattle.room_laws.proofs.TablesLaws.{seat_ping_stands, routes_in_record}
use Rattle.room_laws.proofs.ViewLaws.{wants_passes, view_routes_length, route_wants, view_room_length, seat_holds}
use Rattle.room_laws.proofs.RouteFinds.{without_finds_none}

-- what a whole room whose clock is `clock` asks of the record of a seat: its ping time is not after the clock, and its table of routes is whole and does not
-- list the key that the record begins with
abbrev pub seat_record_whole : ℕ → ℕ → List ℕ → Bool
seat_record_whole n clock r = leb (record_ping r).time clock && table_without n key_bytes (drop routes_in_seat r) (take key_bytes r)

abbrev pub SeatRecordWhole : ℕ → ℕ → List ℕ → Type 0
SeatRecordWhole n clock r = seat_record_whole n clock r ≡ true

-- ---- several seats, by membership

module _ (s n : ℕ) (b : List ℕ) where
  seats_of : (is : List ℕ) → seats_whole s n b is ≡ true → (i : ℕ) → member i is ≡ true → seat_whole s n b i ≡ true
  unfolding seats_whole member
  seats_of [] h i m = absurd (no m)
  seats_of (j ∷ is) h i m =
      let q = both (seat_whole s n b j) _ h in
      go (eqb j i) refl m q.0 (seats_of is q.1 i)
    where
      go : (t : Bool) → eqb j i ≡ t → (t || member i is) ≡ true → seat_whole s n b j ≡ true → (member i is ≡ true → seat_whole s n b i ≡ true) → seat_whole s n b i ≡ true
      go true e m a ih = rw (← eqb-true j i e) a
      go false e m a ih = ih m

  seats_made : (is : List ℕ) → ((i : ℕ) → member i is ≡ true → seat_whole s n b i ≡ true) → seats_whole s n b is ≡ true
  unfolding seats_whole member
  seats_made [] h = refl
  seats_made (j ∷ is) h = rw (h j (rw (eq-eqb j j refl))) (seats_made is (λ i m. h i (rw (m, or-true (eqb j i)))))

  -- a seat is whole where its record is
  pub seat_by_record : (i : ℕ) → i < s → seat_whole s n b i ≡ seat_record_whole n (clock_in b) (record_at s (seat_bytes n) (seat_table s n b) i)
  unfolding seat_whole seat_ping_whole seat_routes_whole
  seat_by_record i below =
      ap₂ (λ (x y : Bool). x && y) (ap (λ (p : Ping). leb p.time (clock_in b)) (sym (seat_ping_stands s n b i below)))
      (ap₂ (table_without n key_bytes) (routes_in_record s n b i below) (key_record s (seat_bytes n) (seat_table s n b) i (omega arith)))

  -- bytes are a whole room where all of this is so
  pub make_whole : fits_room s n b ≡ true → header_right s n b ≡ true → table_whole s (seat_bytes n) (seat_table s n b) ≡ true
      → ((i : ℕ) → member i (listed s (seat_table s n b)) ≡ true → seat_whole s n b i ≡ true) → room_whole s n b ≡ true
  unfolding room_whole
  make_whole f h t r = rw (f, h, t) (seats_made (listed s (seat_table s n b)) r)

-- ---- what a whole room is

module _ (s n : ℕ) (b : List ℕ) (o : room_whole s n b ≡ true) where
  parts : (fits_room s n b ≡ true) × (header_right s n b ≡ true) × (table_whole s (seat_bytes n) (seat_table s n b) ≡ true)
      × (seats_whole s n b (listed s (seat_table s n b)) ≡ true)
  unfolding room_whole
  parts =
      let q = both (fits_room s n b) _ o in
      let r = both (header_right s n b) _ q.1 in
      let t = both (table_whole s (seat_bytes n) (seat_table s n b)) _ r.1 in
      (q.0, r.0, t.0, t.1)

  pub whole_fits : fits_room s n b ≡ true
  whole_fits = parts.0

  -- a room has 40 seats and 240 numbers at most
  pub whole_few_seats : s ≤ 40
  whole_few_seats = few_seats s n b whole_fits

  pub whole_few : n ≤ 240
  whole_few = few_numbers s n b whole_fits

  pub whole_header : header_right s n b ≡ true
  whole_header = parts.1

  pub whole_seats : table_whole s (seat_bytes n) (seat_table s n b) ≡ true
  whole_seats = parts.2

  pub whole_seat_table : Table s (seat_bytes n) (seat_table s n b)
  whole_seat_table = seats_table s n b whole_fits

  pub listed_below : (i : ℕ) → member i (listed s (seat_table s n b)) ≡ true → i < s
  listed_below =
      rising_below s (key_at s (seat_bytes n) (seat_table s n b)) (listed s (seat_table s n b)) (whole_rising s (seat_bytes n) (seat_table s n b) whole_seats)

  pub whole_seat : (i : ℕ) → member i (listed s (seat_table s n b)) ≡ true → seat_whole s n b i ≡ true
  whole_seat = seats_of s n b (listed s (seat_table s n b)) parts.3

  pub whole_without : (i : ℕ) → member i (listed s (seat_table s n b)) ≡ true
      → table_without n key_bytes (routes_table s n b i) (key_at s (seat_bytes n) (seat_table s n b) i) ≡ true
  unfolding seat_whole seat_routes_whole
  whole_without i m = (both (seat_ping_whole s n b i) _ (whole_seat i m)).1

  pub whole_routes : (i : ℕ) → member i (listed s (seat_table s n b)) ≡ true → table_whole n key_bytes (routes_table s n b i) ≡ true
  whole_routes i m = without_whole n key_bytes (routes_table s n b i) (key_at s (seat_bytes n) (seat_table s n b) i) (whole_without i m)

  -- and so by the seat's record
  pub whole_record : (i : ℕ) → member i (listed s (seat_table s n b)) ≡ true → SeatRecordWhole n (clock_in b) (record_at s (seat_bytes n) (seat_table s n b) i)
  whole_record i m = sym (seat_by_record s n b i (listed_below i m)) ∙ whole_seat i m

  -- the ping time of a seat that holds a key is not after the clock
  pub held_ping : (i : ℕ) (held : Held) → seat_at (view_room s n b) i ≡ holds held → held.ping.time ≤ clock_in b
  held_ping i held e =
      let q = seat_holds s n b i held e in
      let kept = record_at s (seat_bytes n) (seat_table s n b) i in
      let t : (record_ping kept).time ≡ held.ping.time = ap (λ (h : Held). h.ping.time) q.2 in
      let l = leb-true (record_ping kept).time (clock_in b) (both (leb (record_ping kept).time (clock_in b)) _ (whole_record i q.1)).0 in
      omega arith

  pub whole_routes_table : (i : ℕ) → member i (listed s (seat_table s n b)) ≡ true → Table n key_bytes (routes_table s n b i)
  whole_routes_table i m = routes_table_lem s n b whole_fits i (listed_below i m)

  -- a seat that holds a key: its table of routes is whole, and has its routes
  pub held_routes : (i : ℕ) (held : Held) → seat_at (view_room s n b) i ≡ holds held
      → (table_whole n key_bytes (routes_table s n b i) ≡ true) × (view_routes n (routes_table s n b i) ≡ held.routes)
  held_routes i held e =
      let q = seat_holds s n b i held e in
      (whole_routes i q.1, ap (view_routes n) (routes_in_record s n b i q.0) ∙ ap (λ (h : Held). h.routes) q.2)

  -- none of its routes wants its key
  pub held_others : (i : ℕ) (held : Held) → seat_at (view_room s n b) i ≡ holds held → find (route_to held.key) held.routes ≡ none
  held_others i held e =
      let q = seat_holds s n b i held e in
      let own : key_at s (seat_bytes n) (seat_table s n b) i ≡ held.key = key_record s (seat_bytes n) (seat_table s n b) i (omega arith) ∙ ap (λ (h : Held). h.key) q.2 in
      ap₂ (λ (k : Key) (l : List Route). find (route_to k) l) (sym own) (sym (held_routes i held e).1)
      ∙ without_finds_none n (routes_table s n b i) (whole_routes_table i q.1) (whole_routes i q.1) (key_at s (seat_bytes n) (seat_table s n b) i) (whole_without i q.1)

-- in a whole table of routes a key is wanted at one place
wanted_once : (n : ℕ) (r : List ℕ) → table_whole n key_bytes r ≡ true → (key : Key) (i j : ℕ)
    → get_or (view_routes n r) i free ≡ wants key → get_or (view_routes n r) j free ≡ wants key → i ≡ j
wanted_once n r o key i j ei ej =
    let a = route_wants n r i key ei in
    let c = route_wants n r j key ej in
    keys_apart n key_bytes r o (omega arith) i j a.1 c.1 (ap (take 32) (a.2 ∙ sym c.2))

-- THE LAW: the room that whole bytes are is whole
pub whole_view : (s n : ℕ) (b : List ℕ) → room_whole s n b ≡ true → Whole (sizes_of s n) (view_room s n b)
whole_view s n b o = record {
  seats = view_room_length s n b;
  numbers = λ i held e. ap length (sym (held_routes s n b o i held e).1) ∙ view_routes_length n (routes_table s n b i);
  seated = λ i j held held' ei ej same.
      let a = seat_holds s n b i held ei in
      let c = seat_holds s n b j held' ej in
      keys_apart s (seat_bytes n) (seat_table s n b) (whole_seats s n b o) (omega arith) i j a.1 c.1
      (ap (λ (h : Held). h.key) a.2 ∙ same ∙ sym (ap (λ (h : Held). h.key) c.2));
  wanted = λ i held e other x y ex ey.
      let q = held_routes s n b o i held e in
      let hx = wanted_high held.routes x other ex in
      let hy = wanted_high held.routes y other ey in
      let z : x - first_number ≡ y - first_number
      = wanted_once n (routes_table s n b i) q.0 other (x - first_number) (y - first_number)
      (ap (λ (l : List Route). get_or l (x - first_number) free) q.1 ∙ wanted_place held.routes x other ex)
      (ap (λ (l : List Route). get_or l (y - first_number) free) q.1 ∙ wanted_place held.routes y other ey) in
      omega arith;
  not_own = λ i held e x ex.
      true≢false
      (sym (wants_passes held.key (get_or held.routes (x - first_number) free) (wanted_place held.routes x held.key ex))
      ∙ find_miss (route_to held.key) free held.routes (unfold route_to in refl) (held_others s n b o i held e) (x - first_number));
  ping_times = λ i held e. unfold view_room in held_ping s n b o i held e;
}

-- so bytes are not whole that are a room where a seat's ping time is after the clock: "A ping time after the clock makes a room not whole."
pub pinged_later : (s n : ℕ) (b : List ℕ) (i : ℕ) (held : Held) → seat_at (view_room s n b) i ≡ holds held → (view_room s n b).clock < held.ping.time
    → room_whole s n b ≡ false
pinged_later s n b i held sits later = not_so (λ o. let q = (whole_view s n b o).ping_times i held sits in omega arith)

-- and that are a room where a seat names its own key: "A room where a seat names its own key is no longer whole."
pub names_itself : (s n : ℕ) (b : List ℕ) (i : ℕ) (held : Held) (number : ℕ) → seat_at (view_room s n b) i ≡ holds held
    → route_at held.routes number ≡ wants held.key → room_whole s n b ≡ false
names_itself s n b i held number sits names = not_so (λ o. (whole_view s n b o).not_own i held sits number names)
