-- `Nearest` leaves nothing free: of what was offered there is one list of nodes that it holds of. Assumes nothing.
use mathlib.Core.Path.{◌≡◌, refl, sym, ap, ap₂, subst}
use mathlib.Core.Bool.{true}
use mathlib.Core.Logic.{◌⊎◌, inl, inr, ⊎_elim}
use mathlib.Core.List.{List, [], ◌∷◌}
use Prim.Native.Nat.{ℕ, suc, ◌<◌, ◌≤◌}
use native.Mathlib.Omega.{arith}
use lib.ListN.{length}
use Rattle.key.specs.Keys.{nearer}
use Rattle.key.proofs.Cancel.{nearer_lt}
use Rattle.node.specs.declared.Node.{Node}
use Rattle.nearest.specs.Lists.{node_key}
use Rattle.nearest.specs.Sequence.{In, Nearest}
use Rattle.nearest.proofs.Order.{far, Up, rising_up}

module _ (t : List ℕ) where
  abbrev Sub : List Node → List Node → Type 0
  Sub a b = (x : Node) → In x a → In x b

  -- the tail of the one is in the tail of the other, where the heads are the same
  tails : (x y : Node) (xs ys : List Node) → Up t (x ∷ xs) → Sub (x ∷ xs) (y ∷ ys) → x ≡ y → Sub xs ys
  tails x y xs ys u s p q i =
      ⊎_elim (λ (e : q ≡ y). absurd (omega (arith, u.0 q i, ap (far t) e, ap (far t) p))) (λ j. j) (s q (inr i))

  -- the whole of it is, where the head stands further back
  below : (x y : Node) (xs ys : List Node) → Up t (x ∷ xs) → Up t (y ∷ ys) → Sub (x ∷ xs) (y ∷ ys) → In x ys → Sub (x ∷ xs) ys
  below x y xs ys u v s i q (inl e) = subst (λ (z : Node). In z ys) (sym e) i
  below x y xs ys u v s i q (inr j) =
      ⊎_elim (λ (e : q ≡ y). absurd (omega (arith, u.0 q j, v.0 x i, ap (far t) e))) (λ h. h) (s q (inr j))

  -- what lies in another list, in which one more node is further than all of it, is shorter
  shorter : (b a : List Node) (n : Node) → Up t a → Up t b → Sub a b → In n b → ((m : Node) → In m a → far t m < far t n) → suc (length a) ≤ length b
  shorter [] a n u v s i f = absurd i
  shorter (y ∷ ys) [] n u v s i f = omega arith
  shorter (y ∷ ys) (x ∷ xs) n u v s i f =
      ⊎_elim
      (λ (p : x ≡ y). ⊎_elim (λ (e : n ≡ y). absurd (omega (arith, f x (inl refl), ap (far t) e, ap (far t) p)))
      (λ (j : In n ys).
      let h = shorter ys xs n u.1 v.1 (tails x y xs ys u s p) j (λ m k. f m (inr k)) in
      omega arith) i)
      (λ (k : In x ys). ⊎_elim (λ (e : n ≡ y). absurd (omega (arith, f x (inl refl), v.0 x k, ap (far t) e)))
      (λ (j : In n ys).
      let h = shorter ys (x ∷ xs) n u v.1 (below x y xs ys u v s k) j f in
      omega arith) i)
      (s x (inl refl))

  heads : (x y : Node) (xs ys : List Node) → Up t (x ∷ xs) → Up t (y ∷ ys) → (x ≡ y) ⊎ In x ys → (y ≡ x) ⊎ In y xs → x ≡ y
  heads x y xs ys u v (inl p) q = p
  heads x y xs ys u v (inr i) (inl q) = sym q
  heads x y xs ys u v (inr i) (inr j) = absurd (omega (arith, u.0 y j, v.0 x i))

  -- rising lists of the same nodes are the same
  pub same_nodes : (a b : List Node) → Up t a → Up t b → Sub a b → Sub b a → a ≡ b
  same_nodes [] [] u v s r = refl
  same_nodes [] (y ∷ ys) u v s r = absurd (r y (inl refl))
  same_nodes (x ∷ xs) [] u v s r = absurd (s x (inl refl))
  same_nodes (x ∷ xs) (y ∷ ys) u v s r =
      let p = heads x y xs ys u v (s x (inl refl)) (r y (inl refl)) in
      ap₂ (λ (m : Node) (l : List Node). m ∷ l) p
      (same_nodes xs ys u.1 v.1 (tails x y xs ys u s p) (tails y x ys xs v r (sym p)))

  module _ (k : ℕ) (past : List Node) where
    within : (h g : List Node) → Nearest t k past h → Nearest t k past g → Sub h g
    within h g H G n i =
        ⊎_elim (λ j. j)
        (λ (w : (length g ≡ k) × ((m : Node) → In m g → nearer t (node_key m) (node_key n) ≡ true)).
        absurd
        (let sub : Sub g h
        = λ m j. ⊎_elim (λ l. l)
        (λ (v : (length h ≡ k) × ((q : Node) → In q h → nearer t (node_key q) (node_key m) ≡ true)).
        absurd (omega (arith, nearer_lt t (node_key n) (node_key m) (v.1 n i), nearer_lt t (node_key m) (node_key n) (w.1 m j))))
        (H.nearest m (G.last m j)) in
        let c = shorter h g n (rising_up t g G.rises) (rising_up t h H.rises) sub i (λ m j. nearer_lt t (node_key m) (node_key n) (w.1 m j)) in
        let d = H.short in
        let e = w.0 in
        omega arith))
        (G.nearest n (H.last n i))

    pub one_nearest : (h g : List Node) → Nearest t k past h → Nearest t k past g → h ≡ g
    one_nearest h g H G = same_nodes h g (rising_up t h H.rises) (rising_up t g G.rises) (within h g H G) (within g h G H)
