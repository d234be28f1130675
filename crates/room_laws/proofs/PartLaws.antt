-- Parts of bytes: a part of a beginning, and what stands before, in and behind a part that is replaced.
use mathlib.Core.Path.{◌≡◌, sym, ap, ◌∙◌}
use mathlib.Core.List.{List, ◌++◌}
use Prim.Native.Nat.{ℕ, ◌+◌, ◌-◌, ◌≤◌}
use native.Mathlib.Omega.{arith}
use lib.ListN.{length, take, drop}
use lib.Seq.{length-take-le, take_at, drop_at, take-take, drop-drop}
use Rattle.std.proofs.lemmas.List.{drop-take}
use Rattle.table_laws.specs.Bytes.{splice}

-- a part that ends within a list's beginning is that part of the list
pub part_of_take : (a w c : ℕ) (l : List ℕ) → a + w ≤ c → take w (drop a (take c l)) ≡ take w (drop a l)
part_of_take a w c l h =
    ap (λ (x : ℕ). take w (drop a (take x l))) (let q : c ≡ a + (c - a) = omega arith in q)
    ∙ ap (take w) (drop-take a (c - a) l)
    ∙ take-take w (c - a) (drop a l) (omega arith)

-- ---- the w bytes from `at` on replaced by `new`

module _ (l new : List ℕ) (at w : ℕ) (within : at ≤ length l) where
  front : length (take at l) ≡ at
  front = length-take-le at l within

  -- a part that ends before them stays
  pub splice_before : (a k : ℕ) → a + k ≤ at → take k (drop a (splice l at new w)) ≡ take k (drop a l)
  splice_before a k h =
      sym (part_of_take a k at (splice l at new w) h)
      ∙ ap (λ (x : List ℕ). take k (drop a x)) (take_at (take at l) (new ++ drop w (drop at l)) at front)
      ∙ part_of_take a k at l h

  pub splice_from : drop at (splice l at new w) ≡ new ++ drop w (drop at l)
  splice_from = drop_at (take at l) (new ++ drop w (drop at l)) at front

  -- what stands behind them stays
  pub splice_behind : length new ≡ w → (k : ℕ) → k ≡ at + w → drop k (splice l at new w) ≡ drop k l
  splice_behind e k q =
      rw q
      (sym (drop-drop w at (splice l at new w)) ∙ ap (drop w) splice_from ∙ drop_at new (drop w (drop at l)) w e ∙ drop-drop w at l)
