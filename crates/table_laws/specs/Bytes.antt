-- Lists of bytes: the order of keys, a part replaced. Which numbers a list has is said in `lists`.
use Rattle.std.specs.Prelude.{ℕ, Bool, false, cond, List, [], ◌∷◌, ◌++◌, take, drop, eqb, ltb}
pub use Rattle.lists.specs.Find.{index_of}
unfoldable pub use Rattle.lists.specs.Find.{leading, first_of, member}

-- the w elements from index `at` on replaced: the form in which a lent part comes back
abbrev pub splice : List ℕ → ℕ → List ℕ → ℕ → List ℕ
splice l at new w = take at l ++ (new ++ drop w (drop at l))

-- key a comes before key b: the first byte that differs decides
unfoldable pub key_before : List ℕ → List ℕ → Bool
key_before [] ys = false
key_before (x ∷ xs) [] = false
key_before (x ∷ xs) (y ∷ ys) = cond (eqb x y) (key_before xs ys) (ltb x y)
