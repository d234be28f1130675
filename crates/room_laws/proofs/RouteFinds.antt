-- The routes of one seat, by its table: the search for a key among them finds the place listed under the key; and a table is whole without a key exactly
-- where none of its routes wants it.
use mathlib.Core.Path.{◌≡◌, refl, sym, ap, ◌∙◌}
use mathlib.Core.Bool.{Bool, true, false, not}
use mathlib.Core.List.{List}
use Prim.Native.Nat.{ℕ}
use native.Mathlib.Omega.{arith}
use lib.Dec.{eqb, ltb}
use borrow.Author.Tests.{eq-eqb, eqb-true, ltb-false, le-ltb}
use Rattle.key.specs.Keys.{same_key}
use Rattle.table_laws.specs.Table.{Table, listed, record_at, key_at, table_whole, find_key, found, table_without}
use Rattle.table_laws.proofs.KeyOrder.{both, rising_below}
use Rattle.table_laws.proofs.Listed.{whole_rising}
use Rattle.table_laws.proofs.FitsLaws.{table_fits, found_fits}
use Rattle.table_laws.proofs.FoundLaws.{found_most}
use Rattle.rules.specs.Room.{Key, free, none, at, find, route_to, is_free}
use Rattle.rules.proofs.FindLaws.{free_not_to}
use Rattle.room_laws.specs.Layout.{key_bytes}
use Rattle.room_laws.specs.View.{route_in, view_routes}
use Rattle.room_laws.specs.Lookup.{place_in}
use Rattle.room_laws.proofs.ViewFinds.{finds_by_key}

-- ---- the tests, on what a place is

pub free_unlisted : (u : Bool) (r : List ℕ) → is_free (route_in u r) ≡ not u
unfolding is_free route_in
free_unlisted true r = refl
free_unlisted false r = refl

-- a route's record is its key
route_keyed : (n : ℕ) (table : List ℕ) (key : Key) (m : ℕ) → route_to key (route_in true (record_at n 32 table m)) ≡ same_key (key_at n 32 table m) key
unfolding route_to route_in record_at key_at
route_keyed n table key m = refl

module _ (n : ℕ) (r : List ℕ) (t : Table n key_bytes r) (o : table_whole n key_bytes r ≡ true) (key : Key) where
  pub finds_route : find (route_to key) (view_routes n r) ≡ place_in n (found n key_bytes r key)
  unfolding view_routes
  finds_route =
      finds_by_key n 32 r t o route_in free (route_to key) key
      (λ x. free_not_to key (route_in false x) (free_unlisted false x)) (λ m l. route_keyed n r key m)

  -- ---- whole without a key

  abbrev place : ℕ
  place = find_key n (key_at n key_bytes r) key (listed n r)

  finds_place : find (route_to key) (view_routes n r) ≡ place_in n place
  finds_place = finds_route ∙ ap (place_in n) (found_fits n key_bytes r key (table_fits n key_bytes r t))

  pub none_without : find (route_to key) (view_routes n r) ≡ none → table_without n key_bytes r key ≡ true
  unfolding table_without place_in
  none_without e = rw o (go (ltb place n) refl (sym finds_place ∙ e))
    where
      go : (u : Bool) → ltb place n ≡ u → place_in n place ≡ none → eqb place n ≡ true
      go true h q = let z : at place ≡ none = rw h at q in cc
      go false h q =
          let least = ltb-false place n h in
          let most = found_most n (key_at n key_bytes r) key (listed n r) (rising_below n (key_at n key_bytes r) (listed n r) (whole_rising n key_bytes r o)) in
          eq-eqb place n (omega arith)

  pub without_finds_none : table_without n key_bytes r key ≡ true → find (route_to key) (view_routes n r) ≡ none
  unfolding table_without place_in
  without_finds_none h =
      let e : place ≡ n = eqb-true place n (both (table_whole n key_bytes r) _ h).1 in
      finds_place ∙ rw (le-ltb place n (omega arith))
