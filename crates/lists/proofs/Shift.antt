-- An element put into a list or taken out of it.
use mathlib.Core.Path.{◌≡◌, refl, sym, ap}
use mathlib.Core.List.{List, [], ◌∷◌, ◌++◌}
use Prim.Native.Nat.{ℕ, zero, suc, ◌+◌, ◌-◌, ◌<◌, ◌≤◌}
use native.Mathlib.Nat.{le_of_suc-le-suc, not-suc-le-zero, sub-zero, suc-sub-suc}
use native.Mathlib.Omega.{arith}
use native.Mathlib.Numerals.{add-one}
use lib.ListN.{length, get_or, take, drop}
use lib.Seq.{take-nil}
use Rattle.lists.specs.Insert.{insert_at, remove_at}

module _ {A : Type 0} where
  -- ---- put in

  pub length_in : (p : ℕ) (n : A) (l : List A) → length (insert_at p n l) ≡ suc (length l)
  length_in zero n l = refl
  length_in (suc p) n [] = refl
  length_in (suc p) n (m ∷ l) = ap suc (length_in p n l)

  pub at_in : (p : ℕ) (n : A) (l : List A) (d : A) → p ≤ length l → get_or (insert_at p n l) p d ≡ n
  at_in zero n l d h = refl
  at_in (suc p) n [] d h = absurd (not-suc-le-zero h)
  at_in (suc p) n (m ∷ l) d h = at_in p n l d (le_of_suc-le-suc h)

  pub take_more_in : (p m : ℕ) (n : A) (l : List A) → p ≤ m → m ≤ length l → take (suc m) (insert_at p n l) ≡ insert_at p n (take m l)
  take_more_in zero m n l hp h = refl
  take_more_in (suc p) zero n l hp h = absurd (not-suc-le-zero hp)
  take_more_in (suc p) (suc m) n [] hp h = absurd (not-suc-le-zero h)
  take_more_in (suc p) (suc m) n (x ∷ l) hp h = ap (λ (y : List A). x ∷ y) (take_more_in p m n l (le_of_suc-le-suc hp) (le_of_suc-le-suc h))

  -- the front, taken apart at the place
  pub front_in : (p m : ℕ) (n : A) (l : List A) → p ≤ m → m ≤ length l → take (suc m) (insert_at p n l) ≡ take p l ++ (n ∷ take (m - p) (drop p l))
  front_in zero m n l hp h = rw sub-zero
  front_in (suc p) zero n l hp h = absurd (not-suc-le-zero hp)
  front_in (suc p) (suc m) n [] hp h = absurd (not-suc-le-zero h)
  front_in (suc p) (suc m) n (x ∷ l) hp h = rw suc-sub-suc (ap (λ (y : List A). x ∷ y) (front_in p m n l (le_of_suc-le-suc hp) (le_of_suc-le-suc h)))

  -- ---- taken out

  pub length_out : (p : ℕ) (l : List A) → p < length l → length (remove_at p l) + 1 ≡ length l
  length_out p [] h = absurd (not-suc-le-zero h)
  length_out zero (m ∷ l) h = add-one (length l)
  length_out (suc p) (m ∷ l) h = let e = length_out p l (le_of_suc-le-suc h) in omega arith

  pub take_less_out : (p m : ℕ) (l : List A) → p ≤ m → take m (remove_at p l) ≡ remove_at p (take (suc m) l)
  take_less_out zero zero [] h = refl
  take_less_out zero (suc m) [] h = refl
  take_less_out (suc p) zero l h = absurd (not-suc-le-zero h)
  take_less_out (suc p) (suc m) [] h = refl
  take_less_out zero m (x ∷ l) h = refl
  take_less_out (suc p) (suc m) (x ∷ l) h = ap (λ (y : List A). x ∷ y) (take_less_out p m l (le_of_suc-le-suc h))

  pub front_out : (p m : ℕ) (l : List A) → p ≤ m → take m (remove_at p l) ≡ take p l ++ take (m - p) (drop (suc p) l)
  front_out zero m [] h = rw sub-zero
  front_out zero m (x ∷ l) h = rw sub-zero
  front_out (suc p) zero l h = absurd (not-suc-le-zero h)
  front_out (suc p) (suc m) [] h = sym (take-nil (suc m - suc p))
  front_out (suc p) (suc m) (x ∷ l) h = rw suc-sub-suc (ap (λ (y : List A). x ∷ y) (front_out p m l (le_of_suc-le-suc h)))
