-- Where a node's place is among nodes that rise in distance, and what stands there: a held key stands just at its place, and a key that is not
-- held is put in there. Assumes nothing.
use mathlib.Core.Path.{◌≡◌, ◌∙◌, refl, sym, ap}
use mathlib.Core.Bool.{Bool, true, false}
use mathlib.Core.Logic.{◌⊎◌, inl, inr}
use mathlib.Core.List.{List, [], ◌∷◌}
use Prim.Native.Nat.{ℕ, zero, suc, ◌<◌, ◌≤◌}
use native.Mathlib.Nat.{le_of_suc-le-suc, not-suc-le-zero}
use native.Mathlib.Omega.{arith}
use lib.ListN.{length, get_or, take, set}
use Rattle.key.specs.Keys.{IsKey, same_key, distance, nearer}
use Rattle.key.proofs.Same.{same_sound}
use Rattle.key.proofs.Cancel.{same_differs, nearer_lt, not_nearer_le, lt_nearer, le_not_nearer}
use Rattle.lists.specs.Insert.{insert_at, remove_at}
use Rattle.lists.proofs.Found.{leading_le, leading_take}
use Rattle.node.specs.declared.Node.{Node}
use Rattle.nearest.specs.Lists.{node_key}
use Rattle.nearest.specs.Effect.{holds, replace, insert, without, last_key}
use Rattle.nearest.specs.Sequence.{In, Keyed}
use Rattle.nearest.specs.Slots.{position, index_of}
use Rattle.nearest.proofs.Front.{no_node}
use Rattle.nearest.proofs.Steps.{position_none, position_one, insert_none, insert_one, replace_one, holds_none, holds_one, index_one, without_one}
use Rattle.nearest.proofs.Members.{replace_free, without_free}
use Rattle.nearest.proofs.Order.{far, far_same, Up, apart, behind_differs, last_in, last_furthest}

module _ (t : List ℕ) (n : Node) where
  pub place_le : (ms : List Node) → position t (node_key n) ms ≤ length ms
  place_le = leading_le (λ (m : Node). nearer t (node_key m) (node_key n))

  -- ---- put in at the place

  at_step : (m : Node) (ms : List Node) (b : Bool) → nearer t (node_key m) (node_key n) ≡ b → insert t n ms ≡ insert_at (position t (node_key n) ms) n ms
      → insert t n (m ∷ ms) ≡ insert_at (position t (node_key n) (m ∷ ms)) n (m ∷ ms)
  at_step m ms true e ih =
      insert_one t n m ms true e ∙ ap (λ (x : List Node). m ∷ x) ih ∙ sym (ap (λ (p : ℕ). insert_at p n (m ∷ ms)) (position_one t (node_key n) m ms true e))
  at_step m ms false e ih = insert_one t n m ms false e ∙ sym (ap (λ (p : ℕ). insert_at p n (m ∷ ms)) (position_one t (node_key n) m ms false e))

  pub insert_at_lem : (ms : List Node) → insert t n ms ≡ insert_at (position t (node_key n) ms) n ms
  insert_at_lem [] = insert_none t n ∙ sym (ap (λ (p : ℕ). insert_at p n []) (position_none t (node_key n)))
  insert_at_lem (m ∷ ms) = at_step m ms (nearer t (node_key m) (node_key n)) refl (insert_at_lem ms)

  -- what stands behind the place has no say in it
  pub place_front : (ms : List Node) (j : ℕ) → position t (node_key n) ms ≤ j → position t (node_key n) (take j ms) ≡ position t (node_key n) ms
  place_front = leading_take (λ (m : Node). nearer t (node_key m) (node_key n))

  -- ---- held: the key stands at its place

  abbrev Stands : List Node → ℕ → Type 0
  Stands ms p =
      Up t ms → position t (node_key n) ms ≡ p → p < length ms → same_key (node_key (get_or ms p no_node)) (node_key n) ≡ true
      → (holds (node_key n) ms ≡ true) × (replace n ms ≡ set ms p n)

  stands_step : (m : Node) (ms : List Node) (b : Bool) → nearer t (node_key m) (node_key n) ≡ b → ((p : ℕ) → Stands ms p) → (p : ℕ) → Stands (m ∷ ms) p
  stands_step m ms true e ih zero u q h s = absurd (let r = position_one t (node_key n) m ms true e in omega arith)
  stands_step m ms true e ih (suc p) u q h s =
      let r = position_one t (node_key n) m ms true e in
      let w = ih p u.1 (omega arith) (le_of_suc-le-suc h) s in
      let d = not_same (same_key (node_key m) (node_key n)) refl in
      (holds_one (node_key n) m ms false d ∙ w.0, replace_one n m ms false d ∙ ap (λ (x : List Node). m ∷ x) w.1)
    where
      not_same : (b : Bool) → same_key (node_key m) (node_key n) ≡ b → same_key (node_key m) (node_key n) ≡ false
      not_same true f = absurd (omega (arith, nearer_lt t (node_key m) (node_key n) e, far_same t m n (same_sound (node_key m) (node_key n) f)))
      not_same false f = f
  stands_step m ms false e ih zero u q h s = (
    holds_one (node_key n) m ms true s,
    replace_one n m ms true s
        ∙ ap (λ (x : List Node). n ∷ x) (replace_free n ms (λ x i z. behind_differs t m ms u x i (z ∙ sym (same_sound (node_key m) (node_key n) s)))),
  )
  stands_step m ms false e ih (suc p) u q h s = absurd (let r = position_one t (node_key n) m ms false e in omega arith)

  pub held_at_place : (ms : List Node) (p : ℕ) → Stands ms p
  held_at_place [] p u q h s = absurd (not-suc-le-zero h)
  held_at_place (m ∷ ms) p u q h s = stands_step m ms (nearer t (node_key m) (node_key n)) refl (held_at_place ms) p u q h s

  -- ---- not held: no node has the key where none has it at the place

  abbrev Free : List Node → ℕ → Type 0
  Free ms p =
      Up t ms → position t (node_key n) ms ≡ p → (length ms ≤ p) ⊎ (same_key (node_key (get_or ms p no_node)) (node_key n) ≡ false)
      → (q : Node) → In q ms → node_key q ≡ node_key n → ⊥

  free_step : (m : Node) (ms : List Node) (b : Bool) → nearer t (node_key m) (node_key n) ≡ b → ((p : ℕ) → Free ms p) → (p : ℕ) → Free (m ∷ ms) p
  free_step m ms true e ih zero u q s x i z = absurd (let r = position_one t (node_key n) m ms true e in omega arith)
  free_step m ms true e ih (suc p) u q s x (inl y) z = omega (arith, nearer_lt t (node_key m) (node_key n) e, far_same t m n (ap node_key (sym y) ∙ z))
  free_step m ms true e ih (suc p) u q (inl h) x (inr i) z =
      let r = position_one t (node_key n) m ms true e in
      ih p u.1 (omega arith) (inl (le_of_suc-le-suc h)) x i z
  free_step m ms true e ih (suc p) u q (inr s) x (inr i) z =
      let r = position_one t (node_key n) m ms true e in
      ih p u.1 (omega arith) (inr s) x i z
  free_step m ms false e ih zero u q (inl h) x i z = not-suc-le-zero h
  free_step m ms false e ih zero u q (inr s) x (inl y) z = same_differs (node_key m) (node_key n) s (ap node_key (sym y) ∙ z)
  free_step m ms false e ih zero u q (inr s) x (inr i) z = omega (arith, u.0 x i, not_nearer_le t (node_key m) (node_key n) e, far_same t x n z)
  free_step m ms false e ih (suc p) u q s x i z = absurd (let r = position_one t (node_key n) m ms false e in omega arith)

  pub free_at_place : (ms : List Node) (p : ℕ) → Free ms p
  free_at_place [] p u q s x i z = absurd i
  free_at_place (m ∷ ms) p u q s x i z = free_step m ms (nearer t (node_key m) (node_key n)) refl (free_at_place ms) p u q s x i z

  -- ---- nearer than the furthest: the place is before the end

  -- the nodes before the place are nearer: at the end, all are
  all_step : (m : Node) (ms : List Node) (b : Bool) → nearer t (node_key m) (node_key n) ≡ b
      → (length ms ≤ position t (node_key n) ms → (q : Node) → In q ms → far t q < far t n)
      → suc (length ms) ≤ position t (node_key n) (m ∷ ms) → (q : Node) → In q (m ∷ ms) → far t q < far t n
  all_step m ms true e ih h q (inl p) = omega (arith, nearer_lt t (node_key m) (node_key n) e, ap (far t) p)
  all_step m ms true e ih h q (inr i) = let r = position_one t (node_key n) m ms true e in ih (omega arith) q i
  all_step m ms false e ih h q i = absurd (let r = position_one t (node_key n) m ms false e in omega arith)

  pub all_nearer : (ms : List Node) → length ms ≤ position t (node_key n) ms → (q : Node) → In q ms → far t q < far t n
  all_nearer [] h q i = absurd i
  all_nearer (m ∷ ms) h q i = all_step m ms (nearer t (node_key m) (node_key n)) refl (all_nearer ms) h q i

  -- before the end, one is not nearer
  some_step : (m : Node) (ms : List Node) (b : Bool) → nearer t (node_key m) (node_key n) ≡ b
      → (position t (node_key n) ms < length ms → (q : Node) × In q ms × (nearer t (node_key q) (node_key n) ≡ false))
      → position t (node_key n) (m ∷ ms) < suc (length ms) → (q : Node) × In q (m ∷ ms) × (nearer t (node_key q) (node_key n) ≡ false)
  some_step m ms true e ih h = let r = position_one t (node_key n) m ms true e in let w = ih (omega arith) in (w.0, inr w.1, w.2)
  some_step m ms false e ih h = (m, inl refl, e)

  pub some_not_nearer : (ms : List Node) → position t (node_key n) ms < length ms → (q : Node) × In q ms × (nearer t (node_key q) (node_key n) ≡ false)
  some_not_nearer [] h = absurd (not-suc-le-zero h)
  some_not_nearer (m ∷ ms) h = some_step m ms (nearer t (node_key m) (node_key n)) refl (some_not_nearer ms) h

  module _ (m : Node) (ms : List Node) (u : Up t (m ∷ ms)) where
    pub nearer_than_furthest : IsKey t → IsKey (node_key n) → Keyed (m ∷ ms) → ((q : Node) → In q (m ∷ ms) → node_key q ≡ node_key n → ⊥)
        → position t (node_key n) (m ∷ ms) < length (m ∷ ms) → nearer t (node_key n) (last_key m ms) ≡ true
    nearer_than_furthest ht hn hs d h =
        let w = some_not_nearer (m ∷ ms) h in
        let lt = apart t n w.0 ht hn (hs w.0 w.1) (d w.0 w.1) w.2 in
        lt_nearer t (node_key n) (last_key m ms) (omega (arith, lt, last_furthest t m ms u w.0 w.1))

    pub behind_furthest : length (m ∷ ms) ≤ position t (node_key n) (m ∷ ms) → nearer t (node_key n) (last_key m ms) ≡ false
    behind_furthest h =
        let w = last_in t m ms in
        le_not_nearer t (node_key n) (last_key m ms) (omega (arith, all_nearer (m ∷ ms) h w.0 w.1, ap (distance t) w.2))

-- ---- a key looked for

module _ (k : List ℕ) where
  absent_step : (m : Node) (ms : List Node) (b : Bool) → same_key (node_key m) k ≡ b → (length ms ≤ index_of k ms → holds k ms ≡ false)
      → suc (length ms) ≤ index_of k (m ∷ ms) → holds k (m ∷ ms) ≡ false
  absent_step m ms true e ih h = absurd (let q = index_one k m ms true e in omega arith)
  absent_step m ms false e ih h = holds_one k m ms false e ∙ ih (let q = index_one k m ms false e in omega arith)

  pub not_found : (ms : List Node) → length ms ≤ index_of k ms → holds k ms ≡ false
  not_found [] h = holds_none k
  not_found (m ∷ ms) h = absent_step m ms (same_key (node_key m) k) refl (not_found ms) h

  -- taking out what stands where the key is found takes out that key, since no key stands twice
  abbrev Found : List ℕ → List Node → ℕ → Type 0
  Found t ms p = Up t ms → index_of k ms ≡ p → p < length ms → (holds k ms ≡ true) × (without k ms ≡ remove_at p ms)

  found_step : (t : List ℕ) (m : Node) (ms : List Node) (b : Bool) → same_key (node_key m) k ≡ b → ((p : ℕ) → Found t ms p) → (p : ℕ) → Found t (m ∷ ms) p
  found_step t m ms true e ih zero u q h = (
    holds_one k m ms true e,
    without_one k m ms true e ∙ without_free k ms (λ x i z. behind_differs t m ms u x i (z ∙ sym (same_sound (node_key m) k e))),
  )
  found_step t m ms true e ih (suc p) u q h = absurd (let r = index_one k m ms true e in omega arith)
  found_step t m ms false e ih zero u q h = absurd (let r = index_one k m ms false e in omega arith)
  found_step t m ms false e ih (suc p) u q h =
      let r = index_one k m ms false e in
      let w = ih p u.1 (omega arith) (le_of_suc-le-suc h) in
      (holds_one k m ms false e ∙ w.0, without_one k m ms false e ∙ ap (λ (x : List Node). m ∷ x) w.1)

  pub found : (t : List ℕ) (ms : List Node) (p : ℕ) → Found t ms p
  found t [] p u q h = absurd (not-suc-le-zero h)
  found t (m ∷ ms) p u q h = found_step t m ms (same_key (node_key m) k) refl (found t ms) p u q h
