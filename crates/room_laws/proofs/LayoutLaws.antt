-- Where things stand: memory that fits a room has room for each of its parts, and a part that is lent is the table that the layout names.
use mathlib.Core.Path.{◌≡◌, ap}
use mathlib.Core.Bool.{true, false}
use mathlib.Core.List.{List}
use Prim.Native.Nat.{ℕ, ◌+◌, ◌*◌, ◌-◌, ◌≤◌, ◌<◌}
use native.Mathlib.Nat.{mul-le-mul, add-sub_cancel_left}
use native.Mathlib.Omega.{arith}
use lib.ListN.{length, take, drop, length-drop}
use lib.Seq.{length-take-le}
use lib.Dec.{leb}
use borrow.Author.Tests.{leb-true, le-leb, lt-leb}
use Rattle.table_laws.specs.Table.{Table, fits_table}
use Rattle.table_laws.proofs.KeyOrder.{both}
use Rattle.table_laws.proofs.Listed.{row_fits}
use Rattle.table_laws.proofs.FitsLaws.{table_fits}
use Rattle.room_laws.specs.Layout.{room_header, key_bytes, routes_bytes, seat_bytes, seats_bytes, room_bytes, sizes_right, fits_room, seat_table, seat_start, routes_start, routes_table}

-- ---- sizes

module _ (s n : ℕ) where
  pub sizes_facts : sizes_right s n ≡ true → (s ≤ 40) × (n ≤ 240)
  unfolding sizes_right
  sizes_facts h = let q = both (leb s 40) _ h in (leb-true s 40 q.0, leb-true n 240 q.1)

  pub sizes_is : s ≤ 40 → sizes_right s n ≡ leb n 240
  unfolding sizes_right
  sizes_is h = rw (le-leb s 40 h)

  pub sizes_many : 40 < s → sizes_right s n ≡ false
  unfolding sizes_right
  sizes_many h = rw (lt-leb s 40 h)

  -- the bytes of the seats are counted in a word
  pub seats_area : s ≤ 40 → n ≤ 240 → s * seat_bytes n ≤ 40 * 7969
  seats_area h k = let q : seat_bytes n ≤ 7969 = omega arith in mul-le-mul h q

  -- and so is where a seat ends
  pub seat_end_small : (i : ℕ) → s ≤ 40 → n ≤ 240 → i < s → seat_start s n i + seat_bytes n ≤ 51 + 40 * 7969
  seat_end_small i h k l = let q = seats_area h k in let r = row_fits s (seat_bytes n) i l in omega arith

module _ (s n : ℕ) (b : List ℕ) where
  pub fits_facts : fits_room s n b ≡ true → (s ≤ 40) × (n ≤ 240) × (room_bytes s n ≤ length b)
  unfolding fits_room
  fits_facts h =
      let q = both (sizes_right s n) _ h in
      let r = sizes_facts s n q.0 in
      (r.0, r.1, leb-true (room_bytes s n) (length b) q.1)

  pub fits_is : sizes_right s n ≡ true → fits_room s n b ≡ leb (room_bytes s n) (length b)
  unfolding fits_room
  fits_is h = rw h

  pub fits_not : sizes_right s n ≡ false → fits_room s n b ≡ false
  unfolding fits_room
  fits_not h = rw h

-- ---- parts of memory that fits

module _ (s n : ℕ) (b : List ℕ) (f : fits_room s n b ≡ true) where
  pub few_seats : s ≤ 40
  few_seats = (fits_facts s n b f).0

  pub few_numbers : n ≤ 240
  few_numbers = (fits_facts s n b f).1

  pub room_long : room_bytes s n ≤ length b
  room_long = (fits_facts s n b f).2

  -- the table of seats, as it is lent
  pub seats_cut : room_bytes s n - room_header ≡ seats_bytes s n
  seats_cut = add-sub_cancel_left room_header (seats_bytes s n)

  pub seats_lent : take (room_bytes s n - room_header) (drop room_header b) ≡ seat_table s n b
  unfolding seat_table
  seats_lent = ap (λ (k : ℕ). take k (drop room_header b)) seats_cut

  pub length_seats : length (seat_table s n b) ≡ seats_bytes s n
  unfolding seat_table
  length_seats = length-take-le (seats_bytes s n) (drop room_header b) (rw length-drop (let l = room_long in omega arith))

  pub seats_table : Table s (seat_bytes n) (seat_table s n b)
  seats_table = let a = few_numbers in let q = few_seats in record { small = omega arith; key = omega arith; narrow = omega arith; long = length_seats }

  pub seats_fit : fits_table s (seat_bytes n) (seat_table s n b) ≡ true
  seats_fit = table_fits s (seat_bytes n) (seat_table s n b) seats_table

  module _ (i : ℕ) (h : i < s) where
    -- the table of routes of a seat stands within the room
    pub routes_within : routes_start s n i + routes_bytes n ≤ room_bytes s n
    routes_within = let r = row_fits s (seat_bytes n) i h in omega arith

    pub routes_end : routes_start s n i + routes_bytes n ≤ length b
    routes_end = let r = routes_within in let l = room_long in omega arith

    pub routes_lent : take (routes_start s n i + routes_bytes n - routes_start s n i) (drop (routes_start s n i) b) ≡ routes_table s n b i
    unfolding routes_table
    routes_lent = ap (λ (k : ℕ). take k (drop (routes_start s n i) b)) (add-sub_cancel_left (routes_start s n i) (routes_bytes n))

    pub length_routes : length (routes_table s n b i) ≡ routes_bytes n
    unfolding routes_table
    length_routes = length-take-le (routes_bytes n) (drop (routes_start s n i) b) (rw length-drop (let l = routes_end in omega arith))

    pub routes_table_lem : Table n key_bytes (routes_table s n b i)
    routes_table_lem = let a = few_numbers in record { small = omega arith; key = omega arith; narrow = omega arith; long = length_routes }

    pub routes_fit : fits_table n key_bytes (routes_table s n b i) ≡ true
    routes_fit = table_fits n key_bytes (routes_table s n b i) routes_table_lem
