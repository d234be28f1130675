-- What a search among p places answers: the number found where it is a place, and none else.
use mathlib.Core.Path.{◌≡◌, refl, sym, ap}
use mathlib.Core.Bool.{Bool, true, false, cond, not}
use Prim.Native.Nat.{ℕ, ◌≤◌, ◌<◌}
use Rattle.std.proofs.Common.{Some, None}
use Rattle.std.specs.Option.{is_some}
use native.Mathlib.Omega.{arith}
use lib.Dec.{eqb, ltb}
use borrow.Author.Tests.{lt-ltb, le-ltb, ltb-true, ltb-false, eq-eqb, ne_eqb}
use Rattle.table_laws.specs.Table.{place_below}

module _ (p n : ℕ) where
  pub place_in : n < p → place_below p n ≡ Some n
  unfolding place_below
  place_in h = rw (lt-ltb n p h)

  pub place_past : p ≤ n → place_below p n ≡ None
  unfolding place_below
  place_past h = rw (le-ltb n p h)

  -- what an answer tells
  pub below_some : (x : ℕ) → Some x ≡ place_below p n → (n < p) × (x ≡ n)
  unfolding place_below
  below_some x e = go (ltb n p) refl e
    where
      go : (t : Bool) → ltb n p ≡ t → Some x ≡ cond t (Some n) None → (n < p) × (x ≡ n)
      go true h e = (ltb-true n p h, cc)
      go false h e = cc

  pub below_none : None ≡ place_below p n → p ≤ n
  unfolding place_below
  below_none e = go (ltb n p) refl e
    where
      go : (t : Bool) → ltb n p ≡ t → None ≡ cond t (Some n) None → p ≤ n
      go true h e = cc
      go false h e = ltb-false n p h

  pub some_below : n ≤ p → is_some (place_below p n) ≡ not (eqb n p)
  unfolding place_below
  some_below h = go (ltb n p) refl
    where
      go : (t : Bool) → ltb n p ≡ t → is_some (cond t (Some n) None) ≡ not (eqb n p)
      go true e = let l = ltb-true n p e in ap not (sym (ne_eqb n p (λ z. omega arith)))
      go false e = let l = ltb-false n p e in ap not (sym (eq-eqb n p (omega arith)))
