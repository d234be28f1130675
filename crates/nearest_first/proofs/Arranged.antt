-- Nodes put in one by one: which stand there in the end, how many, and in which order. Assumes nothing.
use mathlib.Core.Path.{◌≡◌, ◌∙◌, refl, sym, ap, subst}
use mathlib.Core.Bool.{Bool, true, false, cond}
use mathlib.Core.Logic.{◌⊎◌, inl, inr, ⊎_elim}
use mathlib.Core.List.{List, [], ◌∷◌}
use Prim.Native.Nat.{ℕ, zero, suc, ◌+◌}
use native.Mathlib.Omega.{arith}
use lib.ListN.{length, take}
use Rattle.key.specs.Keys.{IsKey, nearer}
use Rattle.key.proofs.Cancel.{nearer_lt, not_nearer_le, lt_nearer}
use Rattle.node.specs.declared.Node.{Node}
use Rattle.nearest.specs.Lists.{node_key}
use Rattle.nearest.specs.Effect.{insert}
use Rattle.nearest.specs.Sequence.{In, Keyed}
use Rattle.nearest.proofs.Steps.{insert_none, insert_one}
use Rattle.nearest.proofs.Members.{in_take, free_in, in_insert, insert_in, length_insert}
use Rattle.nearest.proofs.Order.{far, Up, up_insert}
use Rattle.nearest_first.specs.NearestFirst.{arranged_onto, Apart}
use Rattle.nearest_first.specs.Kept.{Sorted}

module _ (t : List ℕ) where
  -- ---- which, and how many

  pub length_arranged : (done ns : List Node) → length (arranged_onto t done ns) ≡ length done + length ns
  length_arranged done [] = omega arith
  length_arranged done (n ∷ ns) = let a = length_arranged (insert t n done) ns in let b = length_insert t n done in omega arith

  pub in_arranged : (done ns : List Node) (x : Node) → In x (arranged_onto t done ns) → In x done ⊎ In x ns
  in_arranged done [] x i = inl i
  in_arranged done (n ∷ ns) x i =
      ⊎_elim (λ (j : In x (insert t n done)). ⊎_elim (λ (p : x ≡ n). inr (inl p)) (λ (h : In x done). inl h) (in_insert t n done x j))
      (λ (j : In x ns). inr (inr j)) (in_arranged (insert t n done) ns x i)

  pub arranged_in : (done ns : List Node) (x : Node) → In x done ⊎ In x ns → In x (arranged_onto t done ns)
  arranged_in done [] x (inl i) = i
  arranged_in done [] x (inr i) = absurd i
  arranged_in done (n ∷ ns) x (inl i) = arranged_in (insert t n done) ns x (inl (insert_in t n done x (inr i)))
  arranged_in done (n ∷ ns) x (inr (inl p)) = arranged_in (insert t n done) ns x (inl (insert_in t n done x (inl p)))
  arranged_in done (n ∷ ns) x (inr (inr i)) = arranged_in (insert t n done) ns x (inr i)

  -- ---- none further than one behind it, whatever the keys

  insert_step : (n m : Node) (ms : List Node) → Sorted t (m ∷ ms) → Sorted t (insert t n ms) → (b : Bool) → nearer t (node_key m) (node_key n) ≡ b
      → Sorted t (cond b (m ∷ insert t n ms) (n ∷ m ∷ ms))
  insert_step n m ms s v true e = (
    λ q i. ⊎_elim (λ (p : q ≡ n). omega (arith, ap (far t) p, nearer_lt t (node_key m) (node_key n) e)) (λ (j : In q ms). s.0 q j) (in_insert t n ms q i),
    v,
  )
  insert_step n m ms s v false e =
      let le = not_nearer_le t (node_key m) (node_key n) e in
      (λ q i. ⊎_elim (λ (p : q ≡ m). omega (arith, ap (far t) p, le)) (λ (j : In q ms). omega (arith, s.0 q j, le)) i, s)

  pub sorted_insert : (n : Node) (ms : List Node) → Sorted t ms → Sorted t (insert t n ms)
  sorted_insert n [] s = subst (Sorted t) (sym (insert_none t n)) (λ q i. absurd i, tt)
  sorted_insert n (m ∷ ms) s =
      subst (Sorted t) (sym (insert_one t n m ms (nearer t (node_key m) (node_key n)) refl))
      (insert_step n m ms s (sorted_insert n ms s.1) (nearer t (node_key m) (node_key n)) refl)

  pub sorted_take : (k : ℕ) (ms : List Node) → Sorted t ms → Sorted t (take k ms)
  sorted_take zero ms s = tt
  sorted_take (suc k) [] s = tt
  sorted_take (suc k) (m ∷ ms) s = (λ q i. s.0 q (in_take k ms q i), sorted_take k ms s.1)

  pub sorted_arranged : (done ns : List Node) → Sorted t done → Sorted t (arranged_onto t done ns)
  sorted_arranged done [] s = s
  sorted_arranged done (n ∷ ns) s = sorted_arranged (insert t n done) ns (sorted_insert n done s)

  -- ---- each nearer than the next, where no key stands twice

  pub up_take : (k : ℕ) (ms : List Node) → Up t ms → Up t (take k ms)
  up_take zero ms u = tt
  up_take (suc k) [] u = tt
  up_take (suc k) (m ∷ ms) u = (λ q i. u.0 q (in_take k ms q i), up_take k ms u.1)

  pub up_arranged : IsKey t → (done ns : List Node) → Keyed done → Keyed ns → Up t done → Apart ns
      → ((x y : Node) → In x done → In y ns → node_key x ≡ node_key y → ⊥) → Up t (arranged_onto t done ns)
  up_arranged ht done [] hd hs u a d = u
  up_arranged ht done (n ∷ ns) hd hs u a d =
      let hn = hs n (inl refl) in
      up_arranged ht (insert t n done) ns
      (λ x i. ⊎_elim (λ (p : x ≡ n). subst (λ (z : Node). IsKey (node_key z)) (sym p) hn) (hd x) (in_insert t n done x i))
      (λ x i. hs x (inr i))
      (up_insert t n ht hn done hd u (λ q i. d q n i (inl refl)))
      a.1
      (λ x y i j e. ⊎_elim (λ (p : x ≡ n). free_in (node_key n) ns a.0 y j (sym e ∙ ap node_key p)) (λ (h : In x done). d x y h (inr j) e)
      (in_insert t n done x i))

  -- what stands behind the first k is further than all of these, and they are k
  pub behind_front : (k : ℕ) (ms : List Node) → Up t ms → (x : Node) → In x ms
      → In x (take k ms) ⊎ ((length (take k ms) ≡ k) × ((m : Node) → In m (take k ms) → nearer t (node_key m) (node_key x) ≡ true))
  behind_front zero ms u x i = inr (refl, λ m j. absurd j)
  behind_front (suc k) [] u x i = absurd i
  behind_front (suc k) (m ∷ ms) u x (inl p) = inl (inl p)
  behind_front (suc k) (m ∷ ms) u x (inr i) =
      ⊎_elim (λ j. inl (inr j))
      (λ w. inr (
        ap suc w.0,
        λ q j. ⊎_elim (λ (p : q ≡ m). lt_nearer t (node_key q) (node_key x) (omega (arith, ap (far t) p, u.0 x i))) (w.1 q) j,
      ))
      (behind_front k ms u.1 x i)
