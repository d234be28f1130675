-- The k nearest found by keeping k on the way. The idea: what stands behind the first k has no say in which are the first k once one more is put in, so it
-- may be dropped at each step. Assumes nothing.
use mathlib.Core.Path.{◌≡◌, ◌∙◌, refl, sym, ap}
use mathlib.Core.Bool.{Bool, true, false}
use mathlib.Core.List.{List, [], ◌∷◌, ◌++◌}
use Prim.Native.Nat.{ℕ, zero, suc}
use native.Mathlib.Omega.{arith}
use lib.ListN.{take}
use lib.Seq.{take-nil, take-take}
use Rattle.key.specs.Keys.{nearer}
use Rattle.node.specs.declared.Node.{Node}
use Rattle.nearest.specs.Lists.{node_key}
use Rattle.nearest.specs.Effect.{insert}
use Rattle.nearest.proofs.Steps.{insert_one}
use Rattle.nearest_first.specs.NearestFirst.{arranged_onto, nearest_of}
use Rattle.nearest_first.specs.Kept.{kept_onto}

module _ (t : List ℕ) (n : Node) where
  front_step : (k : ℕ) (m : Node) (ms : List Node) (b : Bool) → nearer t (node_key m) (node_key n) ≡ b → take k (insert t n (take k ms)) ≡ take k (insert t n ms)
      → take (suc k) (insert t n (m ∷ take k ms)) ≡ take (suc k) (insert t n (m ∷ ms))
  front_step k m ms true e ih =
      ap (take (suc k)) (insert_one t n m (take k ms) true e) ∙ ap (λ (x : List Node). m ∷ x) ih ∙ sym (ap (take (suc k)) (insert_one t n m ms true e))
  front_step k m ms false e ih =
      ap (take (suc k)) (insert_one t n m (take k ms) false e) ∙ ap (λ (x : List Node). n ∷ x) (take-take k (suc k) (m ∷ ms) (omega arith))
      ∙ sym (ap (take (suc k)) (insert_one t n m ms false e))

  pub front_decides : (k : ℕ) (ms : List Node) → take k (insert t n (take k ms)) ≡ take k (insert t n ms)
  front_decides zero ms = refl
  front_decides (suc k) [] = refl
  front_decides (suc k) (m ∷ ms) = front_step k m ms (nearer t (node_key m) (node_key n)) refl (front_decides k ms)

module _ (k : ℕ) (t : List ℕ) where
  pub kept_is_front : (done ns : List Node) → kept_onto k t (take k done) ns ≡ take k (arranged_onto t done ns)
  kept_is_front done [] = refl
  kept_is_front done (n ∷ ns) = ap (λ (x : List Node). kept_onto k t x ns) (front_decides t n k done) ∙ kept_is_front (insert t n done) ns

  -- what is kept in the end is what is asked for
  pub kept_is_nearest : (ns : List Node) → kept_onto k t [] ns ≡ nearest_of k t ns
  kept_is_nearest ns = ap (λ (x : List Node). kept_onto k t x ns) (sym (take-nil k)) ∙ kept_is_front [] ns

  -- ---- on the way

  pub kept_append : (best xs ys : List Node) → kept_onto k t best (xs ++ ys) ≡ kept_onto k t (kept_onto k t best xs) ys
  kept_append best [] ys = refl
  kept_append best (x ∷ xs) ys = kept_append (take k (insert t x best)) xs ys
