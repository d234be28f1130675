-- Where a node is put in among those kept, and when nothing changes. Assumes nothing.
use mathlib.Core.Path.{◌≡◌, ◌∙◌, refl, ap}
use mathlib.Core.Bool.{true}
use mathlib.Core.Logic.{inl, inr}
use mathlib.Core.List.{List, [], ◌∷◌}
use Prim.Native.Nat.{ℕ, zero, suc, ◌<◌, ◌≤◌}
use native.Mathlib.Nat.{le_of_suc-le-suc, not-suc-le-zero}
use native.Mathlib.Omega.{arith}
use lib.ListN.{length, get_or, take}
use lib.Seq.{take_all}
use Rattle.key.specs.Keys.{nearer}
use Rattle.key.proofs.Cancel.{nearer_lt, lt_nearer}
use Rattle.lists.specs.Insert.{insert_at}
use Rattle.node.specs.declared.Node.{Node}
use Rattle.nearest.specs.Lists.{node_key}
use Rattle.nearest.specs.Effect.{insert}
use Rattle.nearest.specs.Sequence.{In}
use Rattle.nearest.specs.Slots.{position}
use Rattle.nearest.proofs.Steps.{position_one}
use Rattle.nearest.proofs.Place.{place_le, insert_at_lem}
use Rattle.nearest_first.specs.Kept.{Sorted}

-- ---- put in at its place, and k kept

module _ (t : List ℕ) (n : Node) where
  kept_at : (k p : ℕ) (b : List Node) → position t (node_key n) b ≡ p → take k (insert t n b) ≡ take k (insert_at p n b)
  kept_at k p b e = ap (take k) (insert_at_lem t n b ∙ ap (λ (x : ℕ). insert_at x n b) e)

-- ---- nothing changes

take_before : (k p : ℕ) (n : Node) (b : List Node) → k ≤ p → p ≤ length b → take k (insert_at p n b) ≡ take k b
take_before zero p n b h l = refl
take_before (suc k) zero n b h l = absurd (not-suc-le-zero h)
take_before (suc k) (suc p) n [] h l = absurd (not-suc-le-zero l)
take_before (suc k) (suc p) n (m ∷ b) h l = ap (λ (x : List Node). m ∷ x) (take_before k p n b (le_of_suc-le-suc h) (le_of_suc-le-suc l))

in_at : (b : List Node) (j : ℕ) (d : Node) → j < length b → In (get_or b j d) b
in_at [] j d h = absurd (not-suc-le-zero h)
in_at (m ∷ b) zero d h = inl refl
in_at (m ∷ b) (suc j) d h = inr (in_at b j d (le_of_suc-le-suc h))

module _ (t : List ℕ) (n d : Node) where
  -- its place is behind the k that are kept
  pub behind_stays : (k : ℕ) (b : List Node) → length b ≤ k → k ≤ position t (node_key n) b → take k (insert t n b) ≡ b
  behind_stays k b h l =
      kept_at t n k (position t (node_key n) b) b refl ∙ take_before k (position t (node_key n) b) n b l (place_le t n b) ∙ take_all k b h

  -- where the last is nearer, all are
  pub last_nearer : (b : List Node) (j : ℕ) → length b ≡ suc j → nearer t (node_key (get_or b j d)) (node_key n) ≡ true → Sorted t b
      → length b ≤ position t (node_key n) b
  last_nearer [] j l e s = omega arith
  last_nearer (m ∷ b) zero l e s = let r = position_one t (node_key n) m b true e in omega arith
  last_nearer (m ∷ b) (suc j) l e s =
      let h : j < length b = omega arith in
      let a = nearer_lt t (node_key (get_or b j d)) (node_key n) e in
      let c = s.0 (get_or b j d) (in_at b j d h) in
      let r = position_one t (node_key n) m b true (lt_nearer t (node_key m) (node_key n) (omega arith)) in
      let ih = last_nearer b j (omega arith) e s.1 in
      omega arith
