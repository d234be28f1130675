-- Document 02, Req 05: "Prove that this equals offering every held node to a nearest list of size 4." Here it is shown for every size from 1 to 16, of any
-- nodes of known family among which no key stands twice. The idea: what is asked for is the k nearest in the sense of document 01 (`Nearest`), and there is
-- one list of nodes that is (`nearest_is_held`). Assumes nothing.
use mathlib.Core.Path.{◌≡◌, ◌∙◌, refl, sym, ap, subst}
use mathlib.Core.Bool.{true}
use mathlib.Core.Logic.{inl, inr}
use mathlib.Core.List.{List, [], ◌∷◌}
use Prim.Native.Nat.{ℕ, ◌≤◌}
use Rattle.key.specs.declared.Key.{Key}
use Rattle.key.specs.Keys.{IsKey}
use Rattle.node.specs.declared.Node.{Node}
use Rattle.node.specs.Families.{known_family}
use Rattle.nearest.specs.Lists.{node_key, held, all_known}
use Rattle.nearest.specs.Effect.{holds}
use Rattle.nearest.specs.Calls.{begun}
use Rattle.nearest.specs.Sequence.{offers, In, Last, Nearest, Keyed, known_ones}
use Rattle.nearest.proofs.Steps.{known_one}
use Rattle.nearest.proofs.Order.{Up, both_true, up_rising}
use Rattle.nearest.proofs.LastLaws.{last_in_all}
use Rattle.nearest.proofs.KNearest.{ones_one}
use Rattle.nearest.proofs.Uses.{nearest_is_held}
use Rattle.nearest_first.specs.NearestFirst.{nearest_first, nearest_of, Apart}
use Rattle.nearest_first.proofs.Arranged.{arranged_in, up_take, up_arranged, behind_front}
use Rattle.nearest_first.proofs.NearestLaws.{nearest_short, nearest_in}

-- where no key stands twice, each node is the last of its key
pub apart_last : (ns : List Node) → Apart ns → (x : Node) → In x ns → Last x ns
apart_last [] a x i = absurd i
apart_last (n ∷ ns) a x (inl p) = inl (p, ap (λ (z : Node). holds (node_key z) ns) p ∙ a.0)
apart_last (n ∷ ns) a x (inr i) = inr (apart_last ns a.1 x i)

-- where all families are known, no node is left out
pub known_ones_lem : (ns : List Node) → all_known ns ≡ true → known_ones ns ≡ ns
unfolding known_ones
known_ones_lem [] f = refl
known_ones_lem (n ∷ ns) f =
    let w = both_true (known_family n.family) (all_known ns) (sym (known_one n ns (known_family n.family) refl) ∙ f) in
    ones_one n ns true w.0 ∙ ap (λ (x : List Node). n ∷ x) (known_ones_lem ns w.1)

module _ (t : List ℕ) (ns : List Node) (ht : IsKey t) (hs : Keyed ns) (a : Apart ns) where
  pub nearest_first_rises : Up t (nearest_first t ns)
  nearest_first_rises = up_arranged t ht [] ns (λ x i. absurd i) hs tt a (λ x y i j e. i)

  -- document 01's k nearest, for every k
  pub nearest_of_is_nearest : (k : ℕ) → Nearest t k ns (nearest_of k t ns)
  nearest_of_is_nearest k = record {
    rises = up_rising t (nearest_of k t ns) (up_take t k (nearest_first t ns) nearest_first_rises);
    short = nearest_short k t ns;
    last = λ x i. apart_last ns a x (nearest_in k t ns x i);
    nearest = λ x l. behind_front t k (nearest_first t ns) nearest_first_rises x (arranged_in t [] ns x (inr (last_in_all ns x l)));
  }

-- the theorem
module _ (target : Key) (size : ℕ) (lo : 1 ≤ size) (hi : size ≤ 16) (ht : IsKey target.0) where
  pub offers_hold_nearest_of : (ns : List Node) → Keyed ns → all_known ns ≡ true → Apart ns
      → held (offers (begun target size).list ns) ≡ nearest_of size target.0 ns
  offers_hold_nearest_of ns hs f a =
      nearest_is_held target size lo hi ht ns (nearest_of size target.0 ns) hs
      (subst (λ (x : List Node). Nearest target.0 size x (nearest_of size target.0 ns)) (sym (known_ones_lem ns f))
      (nearest_of_is_nearest target.0 ns ht hs a size))
