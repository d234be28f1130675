-- Elements of a list found by a test, and a number found in a list.
use Rattle.std.specs.Prelude.{Bool, false, ◌||◌, cond, List, [], ◌∷◌, ℕ, suc, eqb}

-- how many, from the front, pass the test
unfoldable pub leading : {A : Type 0} → (A → Bool) → List A → ℕ
leading t [] = 0
leading t (m ∷ ms) = cond (t m) (suc (leading t ms)) 0

-- where the first that passes the test stands, or the length
unfoldable pub first_of : {A : Type 0} → (A → Bool) → List A → ℕ
first_of t [] = 0
first_of t (m ∷ ms) = cond (t m) 0 (suc (first_of t ms))

unfoldable pub member : ℕ → List ℕ → Bool
member n [] = false
member n (m ∷ ms) = eqb m n || member n ms

-- where n first stands, or the length
abbrev pub index_of : ℕ → List ℕ → ℕ
index_of n = first_of (λ (m : ℕ). eqb m n)
