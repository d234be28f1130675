-- An element put into a list at a place, and one taken out of it.
use Rattle.std.specs.Prelude.{List, [], ◌∷◌, ℕ, zero, suc}

abbrev pub insert_at : {A : Type 0} → ℕ → A → List A → List A
insert_at zero n l = n ∷ l
insert_at (suc p) n [] = n ∷ []
insert_at (suc p) n (m ∷ l) = m ∷ insert_at p n l

abbrev pub remove_at : {A : Type 0} → ℕ → List A → List A
remove_at p [] = []
remove_at zero (m ∷ l) = l
remove_at (suc p) (m ∷ l) = m ∷ remove_at p l
