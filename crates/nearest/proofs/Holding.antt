-- A list with other nodes held: what then stands in its slots. Assumes nothing.
use mathlib.Core.Path.{◌≡◌, ◌∙◌, refl, sym, ap, ap₂}
use mathlib.Core.List.{List, [], ◌∷◌, ◌++◌}
use Prim.Native.Nat.{ℕ, zero, suc, ◌≤◌}
use native.Mathlib.Nat.{le_of_suc-le-suc, not-suc-le-zero}
use lib.ListN.{length, drop, replicate}
use lib.Seq.{length-take-le, take-append_seam}
use Rattle.node.specs.declared.Node.{Node}
use Rattle.nearest.specs.declared.NearestList.{NearestList}
use Rattle.nearest.specs.Lists.{held, holding}
use Rattle.node.specs.Values.{blank_node}

module _ {A : Type 0} (b : A) where
  -- behind the slots that are blanked, the slots are as they were
  pub behind_blanked : (c j : ℕ) (ns : List A) → c ≤ j → c ≤ length ns → drop j (replicate c b ++ drop c ns) ≡ drop j ns
  behind_blanked zero j ns h k = refl
  behind_blanked (suc c) zero ns h k = absurd (not-suc-le-zero h)
  behind_blanked (suc c) (suc j) [] h k = absurd (not-suc-le-zero k)
  behind_blanked (suc c) (suc j) (n ∷ ns) h k = behind_blanked c j ns (le_of_suc-le-suc h) (le_of_suc-le-suc k)

  -- the last slot that is blanked
  pub last_blanked : (c : ℕ) (ns : List A) → drop c (replicate (suc c) b ++ ns) ≡ b ∷ ns
  last_blanked zero ns = refl
  last_blanked (suc c) ns = last_blanked c ns

module _ (l : NearestList) where
  pub held_length : l.count ≤ length l.nodes → length (held l) ≡ l.count
  held_length h = length-take-le l.count l.nodes h

  pub held_holding : (ns : List Node) → held (holding l ns) ≡ ns
  unfolding holding
  held_holding ns = take-append_seam ns (drop (length ns) (replicate l.count blank_node ++ drop l.count l.nodes))

  module _ (fits : l.count ≤ length l.nodes) (h : List Node) (c : ℕ) (ns : List Node) (count : c ≡ length h) where
    -- no slot is freed
    pub holding_more : l.count ≤ c → ns ≡ h ++ drop c l.nodes → record { target = l.target; size = l.size; count = c; nodes = ns } ≡ holding l h
    unfolding holding
    holding_more k e =
        ap₂ (λ (x : ℕ) (y : List Node). record { target = l.target; size = l.size; count = x; nodes = y }) count
        (e
        ∙ ap (λ (x : List Node). h ++ x) (sym (behind_blanked blank_node l.count c l.nodes k fits))
        ∙ ap (λ (x : ℕ). h ++ drop x (replicate l.count blank_node ++ drop l.count l.nodes)) count)

    -- one slot is freed
    pub holding_less : l.count ≡ suc c → ns ≡ h ++ (blank_node ∷ drop l.count l.nodes)
        → record { target = l.target; size = l.size; count = c; nodes = ns } ≡ holding l h
    unfolding holding
    holding_less k e =
        ap₂ (λ (x : ℕ) (y : List Node). record { target = l.target; size = l.size; count = x; nodes = y }) count
        (e
        ∙ ap (λ (x : List Node). h ++ x) (sym (last_blanked blank_node c (drop l.count l.nodes)))
        ∙ ap₂ (λ (x y : ℕ). h ++ drop x (replicate y blank_node ++ drop l.count l.nodes)) count (sym k))
