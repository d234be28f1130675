-- A seat and a route of the room that bytes are: what its table lists, by its record. A seat that holds a key and a route that wants one are
-- listed; one that is empty or free is not.
use mathlib.Core.Path.{◌≡◌, refl, sym, ◌∙◌}
use mathlib.Core.Bool.{Bool, true, false}
use mathlib.Core.List.{List}
use Prim.Native.Nat.{ℕ, ◌≤◌, ◌<◌}
use lib.ListN.{length, get_or}
use lib.Dec.{ltb}
use borrow.Author.Tests.{ltb-true, ltb-false}
use Rattle.key.proofs.Same.{same_refl}
use Rattle.table_laws.specs.Bytes.{member}
use Rattle.table_laws.specs.Table.{listed, record_at, view}
use Rattle.table_laws.proofs.TableLaws.{view_at, length_view, view_past}
use Rattle.rules.specs.Room.{Key, Route, free, wants, Held, vacant, holds, route_to, seat_at}
use Rattle.room_laws.specs.Layout.{key_bytes, seat_bytes, seat_table}
use Rattle.room_laws.specs.View.{route_in, view_routes, held_in, seat_in, view_room}

-- ---- one route and one seat, by whether it is listed

-- a route that wants a key passes the test for it
pub wants_passes : (key : Key) (y : Route) → y ≡ wants key → route_to key y ≡ true
unfolding route_to
wants_passes key y e = rw e (same_refl key)

route_listed : (t : Bool) (r : List ℕ) (k : Key) → route_in t r ≡ wants k → (t ≡ true) × (r ≡ k)
unfolding route_in
route_listed true r k e = (refl, cc)
route_listed false r k e = cc

route_unlisted : (t : Bool) (r : List ℕ) → route_in t r ≡ free → t ≡ false
unfolding route_in
route_unlisted true r e = cc
route_unlisted false r e = refl

seat_listed : (n : ℕ) (t : Bool) (r : List ℕ) (held : Held) → seat_in n t r ≡ holds held → (t ≡ true) × (held_in n r ≡ held)
unfolding seat_in
seat_listed n true r held e = (refl, cc)
seat_listed n false r held e = cc

seat_unlisted : (n : ℕ) (t : Bool) (r : List ℕ) → seat_in n t r ≡ vacant → t ≡ false
unfolding seat_in
seat_unlisted n true r e = cc
seat_unlisted n false r e = refl

-- ---- the routes of a table

module _ (n : ℕ) (r : List ℕ) where
  pub view_routes_length : length (view_routes n r) ≡ n
  unfolding view_routes
  view_routes_length = length_view n key_bytes route_in r

  pub route_at : (j : ℕ) → j < n → get_or (view_routes n r) j free ≡ route_in (member j (listed n r)) (record_at n key_bytes r j)
  unfolding view_routes
  route_at j h = view_at n key_bytes route_in r j free h

  pub route_past : (j : ℕ) → n ≤ j → get_or (view_routes n r) j free ≡ free
  unfolding view_routes
  route_past j h = view_past n key_bytes route_in r j free h

  pub route_free : (j : ℕ) → j < n → get_or (view_routes n r) j free ≡ free → member j (listed n r) ≡ false
  route_free j h e = route_unlisted (member j (listed n r)) (record_at n key_bytes r j) (sym (route_at j h) ∙ e)

  pub route_wants : (j : ℕ) (k : Key) → get_or (view_routes n r) j free ≡ wants k → (j < n) × (member j (listed n r) ≡ true) × (record_at n key_bytes r j ≡ k)
  route_wants j k e = go (ltb j n) refl
    where
      go : (t : Bool) → ltb j n ≡ t → (j < n) × (member j (listed n r) ≡ true) × (record_at n key_bytes r j ≡ k)
      go true h =
          let l = ltb-true j n h in
          let q = route_listed (member j (listed n r)) (record_at n key_bytes r j) k (sym (route_at j l) ∙ e) in
          (l, q.0, q.1)
      go false h = let q = route_past j (ltb-false j n h) in cc

-- ---- the seats of a room

module _ (s n : ℕ) (b : List ℕ) where
  -- the room is what the table of seats says
  pub view_is : view s (seat_bytes n) (seat_in n) (seat_table s n b) ≡ (view_room s n b).seats
  unfolding view_room
  view_is = refl

  pub view_room_length : length (view_room s n b).seats ≡ s
  unfolding view_room
  view_room_length = length_view s (seat_bytes n) (seat_in n) (seat_table s n b)

  pub seat_at_lem : (i : ℕ) → i < s → seat_at (view_room s n b) i ≡ seat_in n (member i (listed s (seat_table s n b))) (record_at s (seat_bytes n) (seat_table s n b) i)
  unfolding view_room seat_at
  seat_at_lem i h = view_at s (seat_bytes n) (seat_in n) (seat_table s n b) i vacant h

  pub seat_past : (i : ℕ) → s ≤ i → seat_at (view_room s n b) i ≡ vacant
  unfolding view_room seat_at
  seat_past i h = view_past s (seat_bytes n) (seat_in n) (seat_table s n b) i vacant h

  pub seat_vacant : (i : ℕ) → i < s → seat_at (view_room s n b) i ≡ vacant → member i (listed s (seat_table s n b)) ≡ false
  seat_vacant i h e = seat_unlisted n (member i (listed s (seat_table s n b))) (record_at s (seat_bytes n) (seat_table s n b) i) (sym (seat_at_lem i h) ∙ e)

  pub seat_holds : (i : ℕ) (held : Held) → seat_at (view_room s n b) i ≡ holds held
      → (i < s) × (member i (listed s (seat_table s n b)) ≡ true) × (held_in n (record_at s (seat_bytes n) (seat_table s n b) i) ≡ held)
  seat_holds i held e = go (ltb i s) refl
    where
      go : (t : Bool) → ltb i s ≡ t
          → (i < s) × (member i (listed s (seat_table s n b)) ≡ true) × (held_in n (record_at s (seat_bytes n) (seat_table s n b) i) ≡ held)
      go true h =
          let l = ltb-true i s h in
          let q = seat_listed n (member i (listed s (seat_table s n b))) (record_at s (seat_bytes n) (seat_table s n b) i) held (sym (seat_at_lem i l) ∙ e) in
          (l, q.0, q.1)
      go false h = let q = seat_past i (ltb-false i s h) in cc
