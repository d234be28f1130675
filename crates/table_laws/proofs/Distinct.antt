-- What rises lists each place once, so a place that is not listed leaves room in the order.
use mathlib.Core.Path.{◌≡◌, refl}
use mathlib.Core.Bool.{Bool, true, false, ◌||◌}
use Prim.Native.Nat.{ℕ, suc, ◌≤◌, ◌<◌}
use native.Mathlib.Omega.{arith}
use mathlib.Core.List.{List, [], ◌∷◌}
use lib.ListN.{length}
use lib.Dec.{eqb, ltb}
use borrow.Author.Tests.{eqb-true}
use Rattle.lists.specs.Find.{member}
pub use Rattle.lists.proofs.Members.{member_less}
use Rattle.lists.proofs.Members.{Distinct, distinct_few}
use Rattle.table_laws.specs.Table.{count, listed, key_at, rising, rising_after, table_whole}
use Rattle.table_laws.proofs.KeyOrder.{both, clash, key_before_irrefl, rising_all, rising_tail, rising_below}
use Rattle.table_laws.proofs.Listed.{length_listed, whole_count, whole_rising}

pub rising_distinct : (p : ℕ) (f : ℕ → List ℕ) (ns : List ℕ) → rising p f ns ≡ true → Distinct ns
unfolding rising
rising_distinct p f [] c = tt
rising_distinct p f (n ∷ ns) c =
    let q = (both (ltb n p) _ c).1 in
    (none p f n ns q (member n ns) refl, rising_distinct p f ns (rising_tail p f n ns q))
  where
    none : (p : ℕ) (f : ℕ → List ℕ) (n : ℕ) (ns : List ℕ) → rising_after p f n ns ≡ true → (t : Bool) → member n ns ≡ t → member n ns ≡ false
    none p f n ns q true e = absurd (clash (rising_all p f n ns q n e) (key_before_irrefl (f n)))
    none p f n ns q false e = e

-- THE LAW: a place that is not listed leaves room in the order
pub unlisted_leaves_room : (p w : ℕ) (b : List ℕ) → p < length b → table_whole p w b ≡ true → (n : ℕ) → n < p → member n (listed p b) ≡ false → count b < p
unlisted_leaves_room p w b l o n h e =
    let c = whole_rising p w b o in
    let q = length_listed p b l (whole_count p w b o) in
    let z : suc (length (listed p b)) ≤ p = distinct_few p (n ∷ listed p b) (e, rising_distinct p (key_at p w b) (listed p b) c) below in
    omega arith
  where
    below : (x : ℕ) → member x (n ∷ listed p b) ≡ true → x < p
    below x m = go (eqb n x) refl (unfold member in m)
      where
        go : (t : Bool) → eqb n x ≡ t → (t || member x (listed p b)) ≡ true → x < p
        go true e m = let q = eqb-true n x e in omega arith
        go false e m = rising_below p (key_at p w b) (listed p b) (whole_rising p w b o) x m
