-- Strictly rising in distance, said of every pair of nodes; and each change of a list keeps it. Assumes nothing.
use mathlib.Core.Path.{◌≡◌, ◌∙◌, refl, sym, ap, subst}
use mathlib.Core.Bool.{Bool, true, false, ◌&&◌, cond}
use mathlib.Core.Logic.{inl, inr, ⊎_elim}
use mathlib.Core.List.{List, [], ◌∷◌}
use Prim.Native.Nat.{ℕ, zero, suc, ◌+◌, ◌<◌, ◌≤◌}
use native.Mathlib.Numerals.{add-one}
use native.Mathlib.Nat.{le_of_suc-le-suc, not-suc-le-zero}
use native.Mathlib.Omega.{arith}
use lib.ListN.{length, get_or, take}
use Rattle.key.specs.Keys.{IsKey, same_key, distance, nearer}
use Rattle.key.proofs.Same.{same_refl, same_sound}
use Rattle.key.proofs.Cancel.{differs_same, distance_cancels, nearer_lt, not_nearer_le, lt_nearer}
use Rattle.node.specs.declared.Node.{Node}
use Rattle.nearest.specs.Lists.{node_key, rising, rising_after}
use Rattle.nearest.specs.Effect.{replace, insert, without, last_key}
use Rattle.nearest.specs.Sequence.{In, Keyed}
use Rattle.nearest.proofs.Front.{no_node}
use Rattle.nearest.proofs.Steps.{rising_none, rising_one, after_none, after_one, insert_none, insert_one, replace_none, replace_one, without_none, without_one}
use Rattle.nearest.proofs.Members.{in_without, in_insert}

-- how far a node is
abbrev pub far : List ℕ → Node → ℕ
far t n = distance t (node_key n)

pub both_true : (a b : Bool) → (a && b) ≡ true → (a ≡ true) × (b ≡ true)
both_true true b e = (refl, e)
both_true false b e = (e, let z : ◌≡◌ {A = Bool} b true = cc in z)

module _ (t : List ℕ) where
  pub far_same : (x y : Node) → node_key x ≡ node_key y → far t x ≡ far t y
  far_same x y e = ap (distance t) e

  abbrev pub Up : List Node → Type 0
  Up [] = Unit {0}
  Up (n ∷ ns) = ((m : Node) → In m ns → far t n < far t m) × Up ns

  -- ---- neighbours decide

  after_up : (n : Node) (ns : List Node) → ((m : Node) → In m ns → far t n < far t m) → Up ns → rising_after t n ns ≡ true
  after_up n [] h u = after_none t n
  after_up n (m ∷ ns) h u = after_one t n m ns true (lt_nearer t (node_key n) (node_key m) (h m (inl refl))) ∙ after_up m ns u.0 u.1

  pub up_rising : (ns : List Node) → Up ns → rising t ns ≡ true
  up_rising [] u = rising_none t
  up_rising (n ∷ ns) u = rising_one t n ns ∙ after_up n ns u.0 u.1

  pairs_after : (n : Node) (ns : List Node)
      → ((k : ℕ) → suc k < length (n ∷ ns) → nearer t (node_key (get_or (n ∷ ns) k no_node)) (node_key (get_or (n ∷ ns) (suc k) no_node)) ≡ true) → rising_after t n ns ≡ true
  pairs_after n [] h = after_none t n
  pairs_after n (m ∷ ns) h = after_one t n m ns true (h 0 (omega arith)) ∙ pairs_after m ns (λ k l. h (suc k) (omega arith))

  pairs_rising : (ns : List Node) → ((k : ℕ) → suc k < length ns → nearer t (node_key (get_or ns k no_node)) (node_key (get_or ns (suc k) no_node)) ≡ true) → rising t ns ≡ true
  pairs_rising [] h = rising_none t
  pairs_rising (n ∷ ns) h = rising_one t n ns ∙ pairs_after n ns h

  false_behind : (b c : Bool) → c ≡ false → (b && c) ≡ false
  false_behind true c e = e
  false_behind false c e = refl

  broken_after : (n : Node) (ns : List Node) (k : ℕ) → suc k < length (n ∷ ns) → nearer t (node_key (get_or (n ∷ ns) k no_node)) (node_key (get_or (n ∷ ns) (suc k) no_node)) ≡ false
      → rising_after t n ns ≡ false
  broken_after n [] k h e = absurd (omega arith)
  broken_after n (m ∷ ns) zero h e = after_one t n m ns false e
  broken_after n (m ∷ ns) (suc k) h e =
      after_one t n m ns (nearer t (node_key n) (node_key m)) refl
      ∙ false_behind (nearer t (node_key n) (node_key m)) (rising_after t m ns) (broken_after m ns k (le_of_suc-le-suc h) e)

  broken_rising : (ns : List Node) (k : ℕ) → suc k < length ns → nearer t (node_key (get_or ns k no_node)) (node_key (get_or ns (suc k) no_node)) ≡ false → rising t ns ≡ false
  broken_rising [] k h e = absurd (not-suc-le-zero h)
  broken_rising (n ∷ ns) k h e = rising_one t n ns ∙ broken_after n ns k h e

  -- so a test of each two neighbours answers it
  pub neighbours_decide : (b : Bool) (ns : List Node)
      → (b ≡ true → (k : ℕ) → k + 1 < length ns → nearer t (node_key (get_or ns k no_node)) (node_key (get_or ns (k + 1) no_node)) ≡ true)
      → (b ≡ false → (k : ℕ) × (k + 1 < length ns) × (nearer t (node_key (get_or ns k no_node)) (node_key (get_or ns (k + 1) no_node)) ≡ false)) → b ≡ rising t ns
  neighbours_decide true ns every some = sym (pairs_rising ns (λ k h. rw add-one at (every refl k (omega arith))))
  neighbours_decide false ns every some = let w = some refl in let h = w.1 in sym (broken_rising ns w.0 (omega arith) (rw add-one at w.2))

  up_after : (n : Node) (ns : List Node) → rising_after t n ns ≡ true → ((m : Node) → In m ns → far t n < far t m) × Up ns
  up_after n [] h = (λ m i. absurd i, tt)
  up_after n (m ∷ ns) h =
      let w = both_true (nearer t (node_key n) (node_key m)) (rising_after t m ns) (sym (after_one t n m ns (nearer t (node_key n) (node_key m)) refl) ∙ h) in
      let lt = nearer_lt t (node_key n) (node_key m) w.0 in
      let v = up_after m ns w.1 in
      (λ q i. ⊎_elim (λ (p : q ≡ m). omega (arith, lt, ap (far t) p)) (λ (j : In q ns). omega (arith, lt, v.0 q j)) i, v)

  pub rising_up : (ns : List Node) → rising t ns ≡ true → Up ns
  rising_up [] h = tt
  rising_up (n ∷ ns) h = up_after n ns (sym (rising_one t n ns) ∙ h)

  -- ---- no key twice

  -- what stands behind a node has another key
  pub behind_differs : (m : Node) (ms : List Node) → Up (m ∷ ms) → (q : Node) → In q ms → node_key q ≡ node_key m → ⊥
  behind_differs m ms u q i e = omega (arith, u.0 q i, far_same q m e)

  -- the last is the furthest, and a held one
  pub last_in : (m : Node) (ms : List Node) → (q : Node) × In q (m ∷ ms) × (last_key m ms ≡ node_key q)
  unfolding last_key
  last_in m [] = (m, inl refl, refl)
  last_in m (n ∷ ms) = let w = last_in n ms in (w.0, inr w.1, w.2)

  pub last_furthest : (m : Node) (ms : List Node) → Up (m ∷ ms) → (q : Node) → In q (m ∷ ms) → far t q ≤ distance t (last_key m ms)
  unfolding last_key
  last_furthest m [] u q (inl p) = omega (arith, ap (far t) p)
  last_furthest m [] u q (inr i) = absurd i
  last_furthest m (n ∷ ms) u q (inl p) = omega (arith, ap (far t) p, u.0 n (inl refl), last_furthest n ms u.1 n (inl refl))
  last_furthest m (n ∷ ms) u q (inr i) = last_furthest n ms u.1 q i

  -- without the furthest, all but the last are left
  pub without_last : (m : Node) (ms : List Node) → Up (m ∷ ms) → without (last_key m ms) (m ∷ ms) ≡ take (length ms) (m ∷ ms)
  unfolding last_key
  without_last m [] u = without_one (node_key m) m [] true (same_refl (node_key m)) ∙ without_none (node_key m)
  without_last m (n ∷ ms) u =
      let w = last_in n ms in
      let d : node_key m ≡ last_key n ms → ⊥ = λ e. behind_differs m (n ∷ ms) u w.0 w.1 (sym (e ∙ w.2)) in
      without_one (last_key n ms) m (n ∷ ms) false (differs_same (node_key m) (last_key n ms) d) ∙ ap (λ (x : List Node). m ∷ x) (without_last n ms u.1)

  -- ---- each change keeps the order

  less_step : (k : List ℕ) (m : Node) (ms : List Node) (b : Bool) → Up (m ∷ ms) → Up (without k ms) → Up (cond b (without k ms) (m ∷ without k ms))
  less_step k m ms true u v = v
  less_step k m ms false u v = (λ q i. u.0 q (in_without k ms q i).0, v)

  pub up_without : (k : List ℕ) (ms : List Node) → Up ms → Up (without k ms)
  up_without k [] u = subst Up (sym (without_none k)) tt
  up_without k (m ∷ ms) u =
      subst Up (sym (without_one k m ms (same_key (node_key m) k) refl)) (less_step k m ms (same_key (node_key m) k) u (up_without k ms u.1))

  module _ (n : Node) where
    -- each key after a replacement was held before it
    key_step : (m : Node) (ms : List Node) (x : Node) (b : Bool) → same_key (node_key m) (node_key n) ≡ b
        → (In x (replace n ms) → (q : Node) × In q ms × (node_key q ≡ node_key x)) → In x (cond b n m ∷ replace n ms)
        → (q : Node) × In q (m ∷ ms) × (node_key q ≡ node_key x)
    key_step m ms x true e ih (inl p) = (m, inl refl, same_sound (node_key m) (node_key n) e ∙ ap node_key (sym p))
    key_step m ms x false e ih (inl p) = (m, inl refl, ap node_key (sym p))
    key_step m ms x true e ih (inr i) = let w = ih i in (w.0, inr w.1, w.2)
    key_step m ms x false e ih (inr i) = let w = ih i in (w.0, inr w.1, w.2)

    pub replace_keys : (ms : List Node) (x : Node) → In x (replace n ms) → (q : Node) × In q ms × (node_key q ≡ node_key x)
    replace_keys [] x i = absurd (subst (In x) (replace_none n) i)
    replace_keys (m ∷ ms) x i =
        key_step m ms x (same_key (node_key m) (node_key n)) refl (replace_keys ms x) (subst (In x) (replace_one n m ms (same_key (node_key m) (node_key n)) refl) i)

    far_step : (m : Node) (b : Bool) → same_key (node_key m) (node_key n) ≡ b → far t (cond b n m) ≡ far t m
    far_step m true e = far_same n m (sym (same_sound (node_key m) (node_key n) e))
    far_step m false e = refl

    pub up_replace : (ms : List Node) → Up ms → Up (replace n ms)
    up_replace [] u = subst Up (sym (replace_none n)) tt
    up_replace (m ∷ ms) u =
        subst Up (sym (replace_one n m ms (same_key (node_key m) (node_key n)) refl)) (
          λ q i.
              let w = replace_keys ms q i in
              omega (arith, u.0 w.0 w.1, far_same w.0 q w.2, far_step m (same_key (node_key m) (node_key n)) refl),
          up_replace ms u.1,
        )

    -- of two nodes of different keys one is nearer
    pub apart : (m : Node) → IsKey t → IsKey (node_key n) → IsKey (node_key m) → (node_key m ≡ node_key n → ⊥) → nearer t (node_key m) (node_key n) ≡ false → far t n < far t m
    apart m ht hn hm d h =
        let le = not_nearer_le t (node_key m) (node_key n) h in
        let ne : far t n ≡ far t m → ⊥ = λ e. d (distance_cancels t (node_key m) (node_key n) ht hm hn (sym e)) in
        omega (arith, le, ne)

    module _ (ht : IsKey t) (hn : IsKey (node_key n)) where
      more_step : (m : Node) (ms : List Node) → IsKey (node_key m) → (node_key m ≡ node_key n → ⊥) → Up (m ∷ ms) → Up (insert t n ms)
          → (b : Bool) → nearer t (node_key m) (node_key n) ≡ b → Up (cond b (m ∷ insert t n ms) (n ∷ m ∷ ms))
      more_step m ms hm d u v true e = (
        λ q i. ⊎_elim (λ (p : q ≡ n). omega (arith, ap (far t) p, nearer_lt t (node_key m) (node_key n) e)) (λ (j : In q ms). u.0 q j) (in_insert t n ms q i),
        v,
      )
      more_step m ms hm d u v false e =
          let lt = apart m ht hn hm d e in
          (λ q i. ⊎_elim (λ (p : q ≡ m). omega (arith, ap (far t) p, lt)) (λ (j : In q ms). omega (arith, u.0 q j, lt)) i, u)

      pub up_insert : (ms : List Node) → Keyed ms → Up ms → ((q : Node) → In q ms → node_key q ≡ node_key n → ⊥) → Up (insert t n ms)
      up_insert [] hs u d = subst Up (sym (insert_none t n)) (λ q i. absurd i, tt)
      up_insert (m ∷ ms) hs u d =
          subst Up (sym (insert_one t n m ms (nearer t (node_key m) (node_key n)) refl))
          (more_step m ms (hs m (inl refl)) (d m (inl refl)) u (up_insert ms (λ q i. hs q (inr i)) u.1 (λ q i. d q (inr i)))
          (nearer t (node_key m) (node_key n)) refl)
