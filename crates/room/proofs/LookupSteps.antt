-- The lookups' definitions, case by case: where the memory fits and has such a seat, and what stands at a place of its routes.
use mathlib.Core.Path.{◌≡◌}
use mathlib.Core.Bool.{true, false}
use mathlib.Core.List.{List}
use Prim.Native.Nat.{ℕ, ◌-◌, ◌≤◌, ◌<◌}
use borrow.Author.Tests.{lt-ltb, le-ltb, ltb-true}
use Rattle.table_laws.specs.Table.{fits_table, key_of_place, key_at, record_at, is_used}
use Rattle.table_laws.proofs.KeyOrder.{both}
use Rattle.rules.specs.Room.{free, wants, first_number}
use Rattle.room_laws.specs.Layout.{key_bytes, seat_bytes, fits_room, seat_table, routes_table}
use Rattle.room_laws.specs.View.{route_in}
use Rattle.room_laws.specs.Lookup.{has_seat, key_in, route_of_place, route_at_place}
use Rattle.room.specs.Numbers.{route_numbered}

module _ (s n : ℕ) (b : List ℕ) (i : ℕ) where
  pub has_seat_facts : has_seat s n b i ≡ true → (fits_room s n b ≡ true) × (i < s)
  unfolding has_seat
  has_seat_facts h = let q = both (fits_room s n b) _ h in (q.0, ltb-true i s q.1)

  pub key_in_seat : has_seat s n b i ≡ true → key_in s n b i ≡ key_of_place s (seat_bytes n) (seat_table s n b) i
  unfolding key_in
  key_in_seat h = rw h

-- ---- what stands at a place of a table of routes

module _ (n : ℕ) (t : List ℕ) where
  pub route_no_place : (j : ℕ) → n ≤ j → route_of_place n t j ≡ free
  unfolding route_of_place
  route_no_place j h = rw (le-ltb j n h)

  pub route_unused : (j : ℕ) → j < n → is_used n t j ≡ false → route_of_place n t j ≡ free
  unfolding route_of_place route_in
  route_unused j l h = rw (lt-ltb j n l, h)

  pub route_used : fits_table n key_bytes t ≡ true → (j : ℕ) → j < n → is_used n t j ≡ true → route_of_place n t j ≡ wants (key_of_place n key_bytes t j)
  unfolding route_of_place route_in key_of_place record_at key_at
  route_used f j l h = rw (lt-ltb j n l, h, f)

module _ (s n : ℕ) (b : List ℕ) (i number : ℕ) where
  pub numbered_in : first_number ≤ number → has_seat s n b i ≡ true → route_numbered s n b i number ≡ route_of_place n (routes_table s n b i) (number - first_number)
  unfolding route_numbered route_at_place
  numbered_in l h = rw (le-ltb number first_number l, h)
