-- The order of offers matters only within a key: two sequences with the same offers of each key, in the same order, end in equal lists.
-- The idea: which node is the last of its key is a matter of that key's offers alone. Assumes nothing.
use mathlib.Core.Path.{◌≡◌, ◌∙◌, refl, sym, ap, subst}
use mathlib.Core.Bool.{Bool, true, false, cond}
use mathlib.Core.Logic.{inl, inr}
use mathlib.Core.List.{List, [], ◌∷◌}
use Prim.Native.Nat.{ℕ, ◌≤◌}
use Rattle.key.specs.declared.Key.{Key}
use Rattle.key.specs.Keys.{IsKey, same_key}
use Rattle.key.proofs.Cancel.{same_differs}
use Rattle.node.specs.declared.Node.{Node}
use Rattle.node.specs.Families.{known_family}
use Rattle.nearest.specs.Lists.{node_key}
use Rattle.nearest.specs.Effect.{holds}
use Rattle.nearest.specs.Calls.{begun}
use Rattle.nearest.specs.Sequence.{offers, Last, Keyed, known_ones, of_key}
use Rattle.nearest.proofs.Steps.{holds_one}
use Rattle.nearest.proofs.KNearest.{ones_one}
use Rattle.nearest.proofs.Uses.{same_last_same_list}

of_one : (k : List ℕ) (m : Node) (ms : List Node) (b : Bool) → same_key (node_key m) k ≡ b → of_key k (m ∷ ms) ≡ cond b (m ∷ of_key k ms) (of_key k ms)
unfolding of_key
of_one k m ms b e = ap (λ (x : Bool). cond x (m ∷ of_key k ms) (of_key k ms)) e

-- ---- the last node of a key

held_step : (k : List ℕ) (m : Node) (ms : List Node) (b : Bool) → same_key (node_key m) k ≡ b → holds k (of_key k ms) ≡ holds k ms
    → holds k (of_key k (m ∷ ms)) ≡ holds k (m ∷ ms)
held_step k m ms true e ih = ap (holds k) (of_one k m ms true e) ∙ holds_one k m (of_key k ms) true e ∙ sym (holds_one k m ms true e)
held_step k m ms false e ih = ap (holds k) (of_one k m ms false e) ∙ ih ∙ sym (holds_one k m ms false e)

holds_of : (k : List ℕ) (ms : List Node) → holds k (of_key k ms) ≡ holds k ms
unfolding of_key
holds_of k [] = refl
holds_of k (m ∷ ms) = held_step k m ms (same_key (node_key m) k) refl (holds_of k ms)

module _ (n : Node) where
  to_step : (m : Node) (ms : List Node) (b : Bool) → same_key (node_key m) (node_key n) ≡ b → (Last n ms → Last n (of_key (node_key n) ms))
      → Last n (m ∷ ms) → Last n (cond b (m ∷ of_key (node_key n) ms) (of_key (node_key n) ms))
  to_step m ms true e ih (inl w) = inl (w.0, holds_of (node_key n) ms ∙ w.1)
  to_step m ms true e ih (inr l) = inr (ih l)
  to_step m ms false e ih (inl w) = absurd (same_differs (node_key m) (node_key n) e (ap node_key (sym w.0)))
  to_step m ms false e ih (inr l) = ih l

  last_of : (ms : List Node) → Last n ms → Last n (of_key (node_key n) ms)
  last_of [] l = absurd l
  last_of (m ∷ ms) l =
      subst (Last n) (sym (of_one (node_key n) m ms (same_key (node_key m) (node_key n)) refl))
      (to_step m ms (same_key (node_key m) (node_key n)) refl (last_of ms) l)

  from_step : (m : Node) (ms : List Node) (b : Bool) → (Last n (of_key (node_key n) ms) → Last n ms)
      → Last n (cond b (m ∷ of_key (node_key n) ms) (of_key (node_key n) ms)) → Last n (m ∷ ms)
  from_step m ms true ih (inl w) = inl (w.0, sym (holds_of (node_key n) ms) ∙ w.1)
  from_step m ms true ih (inr l) = inr (ih l)
  from_step m ms false ih l = inr (ih l)

  of_last : (ms : List Node) → Last n (of_key (node_key n) ms) → Last n ms
  unfolding of_key
  of_last [] l = absurd l
  of_last (m ∷ ms) l =
      from_step m ms (same_key (node_key m) (node_key n)) (of_last ms) (subst (Last n) (of_one (node_key n) m ms (same_key (node_key m) (node_key n)) refl) l)

-- ---- the nodes of known family

known_step : (k : List ℕ) (m : Node) (ms : List Node) (a b : Bool) → same_key (node_key m) k ≡ a → known_family m.family ≡ b
    → of_key k (known_ones ms) ≡ known_ones (of_key k ms) → of_key k (known_ones (m ∷ ms)) ≡ known_ones (of_key k (m ∷ ms))
known_step k m ms true true e f ih =
    ap (of_key k) (ones_one m ms true f) ∙ of_one k m (known_ones ms) true e ∙ ap (λ (x : List Node). m ∷ x) ih
    ∙ sym (ap known_ones (of_one k m ms true e) ∙ ones_one m (of_key k ms) true f)
known_step k m ms true false e f ih =
    ap (of_key k) (ones_one m ms false f) ∙ ih ∙ sym (ap known_ones (of_one k m ms true e) ∙ ones_one m (of_key k ms) false f)
known_step k m ms false true e f ih =
    ap (of_key k) (ones_one m ms true f) ∙ of_one k m (known_ones ms) false e ∙ ih ∙ sym (ap known_ones (of_one k m ms false e))
known_step k m ms false false e f ih = ap (of_key k) (ones_one m ms false f) ∙ ih ∙ sym (ap known_ones (of_one k m ms false e))

known_of : (k : List ℕ) (ms : List Node) → of_key k (known_ones ms) ≡ known_ones (of_key k ms)
unfolding of_key known_ones
known_of k [] = refl
known_of k (m ∷ ms) = known_step k m ms (same_key (node_key m) k) (known_family m.family) refl refl (known_of k ms)

-- ---- the theorem

same_last : (xs ys : List Node) → ((k : List ℕ) → of_key k xs ≡ of_key k ys) → (n : Node) → Last n (known_ones xs) → Last n (known_ones ys)
same_last xs ys e n l =
    of_last n (known_ones ys)
    (subst (Last n) (known_of (node_key n) xs ∙ ap known_ones (e (node_key n)) ∙ sym (known_of (node_key n) ys)) (last_of n (known_ones xs) l))

pub order_of_offers : (target : Key) (size : ℕ) → 1 ≤ size → size ≤ 16 → IsKey target.0 → (xs ys : List Node) → Keyed xs → Keyed ys
    → ((k : List ℕ) → of_key k xs ≡ of_key k ys) → offers (begun target size).list xs ≡ offers (begun target size).list ys
order_of_offers target size lo hi ht xs ys hx hy e =
    same_last_same_list target size lo hi ht xs ys hx hy (same_last xs ys e) (same_last ys xs (λ k. sym (e k)))
