-- The families of the nodes held: each change keeps them known. Assumes nothing.
use mathlib.Core.Path.{◌≡◌, ◌∙◌, refl, sym, ap}
use mathlib.Core.Bool.{true}
use mathlib.Core.Logic.{◌⊎◌, inl, inr, ⊎_elim}
use mathlib.Core.List.{List, [], ◌∷◌}
use Prim.Native.Nat.{ℕ}
use Rattle.node.specs.declared.Node.{Node}
use Rattle.node.specs.Families.{known_family}
use Rattle.nearest.specs.Lists.{all_known}
use Rattle.nearest.specs.Effect.{Effect, added, replaced, put_out, too_far, without, after_effect}
use Rattle.nearest.specs.Sequence.{In}
use Rattle.nearest.proofs.Steps.{known_none, known_one}
use Rattle.nearest.proofs.Members.{in_without, in_insert, in_replace}
use Rattle.nearest.proofs.Order.{both_true}

pub known_each : (ns : List Node) → all_known ns ≡ true → (x : Node) → In x ns → known_family x.family ≡ true
known_each [] e x i = absurd i
known_each (n ∷ ns) e x (inl p) =
    ap (λ (z : Node). known_family z.family) p
    ∙ (both_true (known_family n.family) (all_known ns) (sym (known_one n ns (known_family n.family) refl) ∙ e)).0
known_each (n ∷ ns) e x (inr i) =
    known_each ns (both_true (known_family n.family) (all_known ns) (sym (known_one n ns (known_family n.family) refl) ∙ e)).1 x i

pub each_known : (ns : List Node) → ((x : Node) → In x ns → known_family x.family ≡ true) → all_known ns ≡ true
each_known [] f = known_none
each_known (n ∷ ns) f = known_one n ns true (f n (inl refl)) ∙ each_known ns (λ x i. f x (inr i))

-- each node after an offer is the node offered, or was held before
pub after_from : (w : Effect) (t : List ℕ) (n : Node) (ns : List Node) (x : Node) → In x (after_effect w t n ns) → (x ≡ n) ⊎ In x ns
unfolding after_effect
after_from added t n ns x i = in_insert t n ns x i
after_from replaced t n ns x i = ⊎_elim (λ p. inl p) (λ v. inr v.0) (in_replace n ns x i)
after_from (put_out k) t n ns x i = ⊎_elim (λ p. inl p) (λ j. inr (in_without k ns x j).0) (in_insert t n (without k ns) x i)
after_from too_far t n ns x i = inr i

pub after_known : (w : Effect) (t : List ℕ) (n : Node) (ns : List Node) → known_family n.family ≡ true → all_known ns ≡ true → all_known (after_effect w t n ns) ≡ true
after_known w t n ns f h =
    each_known (after_effect w t n ns)
    (λ x i. ⊎_elim (λ (p : x ≡ n). ap (λ (z : Node). known_family z.family) p ∙ f) (known_each ns h x) (after_from w t n ns x i))

pub without_known : (k : List ℕ) (ns : List Node) → all_known ns ≡ true → all_known (without k ns) ≡ true
without_known k ns h = each_known (without k ns) (λ x i. known_each ns h x (in_without k ns x i).0)
