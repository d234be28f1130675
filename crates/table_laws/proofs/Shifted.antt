-- An order opened and closed by moving a part of it at once: what is left is an element put in, or taken out.
use mathlib.Core.Path.{◌≡◌, sym, ap, ap₂, ◌∙◌}
use mathlib.Core.List.{List, [], ◌∷◌, ◌++◌, append_assoc}
use Prim.Native.Nat.{ℕ, ◌+◌, ◌-◌, ◌≤◌, ◌<◌}
use native.Mathlib.Numerals.{add-one}
use native.Mathlib.Omega.{arith}
use lib.ListN.{length, take, drop, get_or, set}
use lib.Seq.{take-suc, set_at, length-take-le}
use Rattle.std.specs.List.{copy_within}
use Rattle.lists.specs.Insert.{insert_at, remove_at}
use Rattle.lists.proofs.Shift.{front_in, front_out}

module _ {A : Type 0} (l : List A) (i m : ℕ) (h : i ≤ m) where
  -- those from i on, up to m, moved up by one, and n put at i
  pub moved_up : (n d : A) → m < length l → set (copy_within l i m (i + 1)) i n ≡ take (m + 1) (insert_at i n l) ++ drop (m + 1) l
  moved_up n d k =
      let x : List A = take (m - i) (drop i l) in
      let e : i + 1 + (m - i) ≡ m + 1 = omega arith in
      let f : take (i + 1) l ≡ take i l ++ (get_or l i d ∷ []) = rw add-one (take-suc l i d (omega arith)) in
      ap₂ (λ (a : List A) (z : ℕ). set ((a ++ x) ++ drop z l) i n) f e
      ∙ ap (λ (a : List A). set a i n) (append_assoc (take i l ++ (get_or l i d ∷ [])) x (drop (m + 1) l) ∙ append_assoc (take i l) (get_or l i d ∷ []) (x ++ drop (m + 1) l))
      ∙ set_at (take i l) (get_or l i d) (x ++ drop (m + 1) l) n i (length-take-le i l (omega arith))
      ∙ sym (append_assoc (take i l) (n ∷ x) (drop (m + 1) l))
      ∙ ap (λ (a : List A). a ++ drop (m + 1) l) (sym (rw add-one (front_in i m n l h (omega arith))))

  -- those behind i, up to m, moved down by one
  pub moved_down : copy_within l (i + 1) (m + 1) i ≡ take m (remove_at i l) ++ drop m l
  moved_down =
      let e : m + 1 - (i + 1) ≡ m - i = omega arith in
      let f : i + (m - i) ≡ m = omega arith in
      ap (λ (k : ℕ). (take i l ++ take k (drop (i + 1) l)) ++ drop (i + k) l) e
      ∙ ap (λ (k : ℕ). (take i l ++ take (m - i) (drop (i + 1) l)) ++ drop k l) f
      ∙ ap (λ (a : List A). a ++ drop m l) (sym (front_out i m l h ∙ ap (λ (k : ℕ). take i l ++ take (m - i) (drop k l)) (sym (add-one i))))
