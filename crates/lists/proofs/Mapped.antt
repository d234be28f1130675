-- A function on every element of a list: what is put in, and the first elements.
use mathlib.Core.Path.{◌≡◌, refl, ap}
use mathlib.Core.List.{List, [], ◌∷◌, map}
use Prim.Native.Nat.{ℕ, zero, suc}
use lib.ListN.{take}
use Rattle.lists.specs.Insert.{insert_at}

module _ {A B : Type 0} (f : A → B) where
  pub map_in : (p : ℕ) (n : A) (l : List A) → map f (insert_at p n l) ≡ insert_at p (f n) (map f l)
  map_in zero n l = refl
  map_in (suc p) n [] = refl
  map_in (suc p) n (m ∷ l) = ap (λ (x : List B). f m ∷ x) (map_in p n l)

  pub map_take : (k : ℕ) (l : List A) → map f (take k l) ≡ take k (map f l)
  map_take zero l = refl
  map_take (suc k) [] = refl
  map_take (suc k) (m ∷ l) = ap (λ (x : List B). f m ∷ x) (map_take k l)
