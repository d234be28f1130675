-- Lists of nodes in which no key stands twice: two lists put together, and the nodes at the places of a list. Assumes nothing.
use mathlib.Core.Path.{◌≡◌, ◌∙◌, refl, sym, ap}
use mathlib.Core.Bool.{true, or-true}
use mathlib.Core.Logic.{inl, inr, ⊎_elim}
use mathlib.Core.List.{List, [], ◌∷◌, ◌++◌, map}
use Prim.Native.Nat.{ℕ}
use lib.Dec.{eqb}
use borrow.Author.Tests.{eq-eqb}
use Rattle.lists.specs.Find.{member}
use Rattle.lists.proofs.Members.{Distinct}
use Rattle.node.specs.declared.Node.{Node}
use Rattle.nearest.specs.Lists.{node_key}
use Rattle.nearest.specs.Sequence.{In}
use Rattle.nearest.proofs.Members.{free_in, in_free}
use Rattle.nearest_first.specs.NearestFirst.{Apart}
use Rattle.table_laws.proofs.KeyOrder.{clash}
use Rattle.buckets_laws.proofs.NodeLists.{in_either, in_place}

-- no key stands twice in either, and none in both
pub apart_append : (a b : List Node) → Apart a → Apart b → ((x y : Node) → In x a → In y b → node_key x ≡ node_key y → ⊥) → Apart (a ++ b)
apart_append [] b p q d = q
apart_append (n ∷ a) b p q d = (
  in_free (node_key n) (a ++ b)
      (λ x i e. ⊎_elim (λ (j : In x a). free_in (node_key n) a p.0 x j e) (λ (j : In x b). d n x (inl refl) j (sym e)) (in_either a b x i)),
  apart_append a b p.1 q (λ x y i j. d x y (inr i) j),
)

-- each place stands once, and a key tells its place
pub apart_places : (g : ℕ → Node) (xs : List ℕ) → Distinct xs
    → ((x y : ℕ) → member x xs ≡ true → member y xs ≡ true → node_key (g x) ≡ node_key (g y) → x ≡ y) → Apart (map g xs)
unfolding member
apart_places g [] d same = tt
apart_places g (x ∷ xs) d same = (
  in_free (node_key (g x)) (map g xs)
      (λ q i e.
      let w = in_place g xs q i in
      let s : x ≡ w.0 = same x w.0 (rw (eq-eqb x x refl)) (rw (w.1, or-true (eqb x w.0))) (sym e ∙ ap node_key w.2) in
      clash (ap (λ (y : ℕ). member y xs) s ∙ w.1) d.0),
  apart_places g xs d.1 (λ y z i j. same y z (rw (i, or-true (eqb x y))) (rw (j, or-true (eqb x z)))),
)
