-- Slots rotated by one: what then stands in them, once the slot at the place, or the last, is given another node. Assumes nothing.
use Rattle.std.proofs.Common.{◌≡◌, ◌∙◌, refl, sym, ap, ℕ, zero, suc, ◌-◌, ◌<◌, ◌≤◌, List, [], ◌∷◌, ◌++◌, length, take, drop, set, get_or, arith}
use Rattle.std.specs.List.{remove}
use Rattle.std.proofs.lemmas.Slice.{put_mid-rotated}
use borrow.Rule.Slice.PartMut.{mid_of, put_mid}
use Rattle.std.proofs.lemmas.List.{append-nil}
use Rattle.std.proofs.lemmas.List.Edits.{length-remove}
use lib.ListN.{drop_of_length-le, length-drop}
use lib.Seq.{length-take-le, take_all, take-take, set_at}
use native.Mathlib.Numerals.{unary_clauses}
use native.Mathlib.Nat.{not-suc-le-zero}
use Rattle.lists.specs.Insert.{insert_at, remove_at}
use Rattle.lists.proofs.Shift.{front_in, take_more_in}

module _ {A : Type 0} where
  -- the last element of a list that has one
  last_alone : (l : List A) (d : A) → 0 < length l → drop (length l - 1) l ≡ get_or l (length l - 1) d ∷ []
  last_alone [] d h = absurd (not-suc-le-zero h)
  last_alone (m ∷ []) d h = refl
  last_alone (m ∷ n ∷ l) d h = simp unary_clauses (simp unary_clauses at (last_alone (n ∷ l) d (omega arith)))

  removed_is : (p : ℕ) (l : List A) → remove_at p l ≡ remove l p
  removed_is zero [] = refl
  removed_is (suc p) [] = refl
  removed_is zero (m ∷ l) = refl
  removed_is (suc p) (m ∷ l) = ap (λ (x : List A). m ∷ x) (removed_is p l)

  -- the part from the place on, rotated back by one, with an element put at the place
  pub opened : (p : ℕ) (n : A) (l after : List A) → p < length l
      → after ≡ drop (length (mid_of p (length l - p) l) - 1) (mid_of p (length l - p) l) ++ take (length (mid_of p (length l - p) l) - 1) (mid_of p (length l - p) l)
      → set (put_mid p (length l - p) l after) p n ≡ take (length l) (insert_at p n l)
  opened p n l after h r =
      let k : length (drop p l) ≡ length l - p = length-drop p l in
      let m : mid_of p (length l - p) l ≡ drop p l = take_all (length l - p) (drop p l) (omega arith) in
      let z : A = get_or (drop p l) (length (drop p l) - 1) n in
      let q : List A = take (length (drop p l) - 1) (drop p l) in
      let e : after ≡ z ∷ q = rw m at r ∙ ap (λ (x : List A). x ++ q) (last_alone (drop p l) n (omega arith)) in
      ap (λ (x : List A). set (put_mid p (length l - p) l x) p n) e
      ∙ ap (λ (x : List A). set (take p l ++ (z ∷ (q ++ x))) p n) (drop_of_length-le (drop p l) {i = length l - p} (omega arith))
      ∙ ap (λ (x : List A). set (take p l ++ (z ∷ x)) p n) (append-nil q)
      ∙ set_at (take p l) z q n p (length-take-le p l (omega arith))
      ∙ ap (λ (x : ℕ). take p l ++ (n ∷ take x (drop p l))) (let g : length (drop p l) - 1 ≡ length l - 1 - p = omega arith in g)
      ∙ sym (front_in p (length l - 1) n l (omega arith) (omega arith))
      ∙ ap (λ (x : ℕ). take x (insert_at p n l)) (let g : suc (length l - 1) ≡ length l = omega arith in g)

  -- the part from the place on, rotated forward by one, with an element put at the end
  pub closed : (p : ℕ) (b : A) (l after : List A) → p < length l → after ≡ drop 1 (mid_of p (length l - p) l) ++ take 1 (mid_of p (length l - p) l)
      → set (put_mid p (length l - p) l after) (length l - 1) b ≡ remove_at p l ++ (b ∷ [])
  closed p b l after h r =
      let g = length-remove l p h in
      ap (λ (x : List A). set x (length l - 1) b) (put_mid-rotated p (length l - p) l after b h (omega arith) r)
      ∙ set_at (remove l p) (get_or l p b) [] b (length l - 1) (omega arith)
      ∙ ap (λ (x : List A). x ++ (b ∷ [])) (sym (removed_is p l))

  -- of the slots up to one more place, the same is the front of the whole
  pub opened_front : (p m : ℕ) (n : A) (l : List A) → p ≤ m → m ≤ length l → take (length (take m l)) (insert_at p n (take m l)) ≡ take m (insert_at p n l)
  opened_front p m n l h g =
      ap (λ (x : ℕ). take x (insert_at p n (take m l))) (length-take-le m l g)
      ∙ ap (take m) (sym (take_more_in p m n l h g))
      ∙ take-take m (suc m) (insert_at p n l) (omega arith)
