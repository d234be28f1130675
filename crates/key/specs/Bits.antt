-- The leading bits that two keys share. Document 02: "A key's bucket is the number of leading bits it shares with the base key."
use Rattle.std.specs.Prelude.{cond, List, [], ◌∷◌, ◌++◌, ℕ, zero, suc, ◌/◌, ◌%◌, eqb}

-- the k lowest bits of a number, the highest of them first
unfoldable pub bits_of : ℕ → ℕ → List ℕ
bits_of zero n = []
bits_of (suc k) n = bits_of k (n / 2) ++ (n % 2 ∷ [])

-- the bits of bytes: 8 of each byte, one byte behind the other
unfoldable pub bits : List ℕ → List ℕ
bits [] = []
bits (byte ∷ bytes) = bits_of 8 byte ++ bits bytes

-- how many of two lists are the same from the front on, before the first that differs or an end
unfoldable pub alike : List ℕ → List ℕ → ℕ
alike [] ys = 0
alike (x ∷ xs) [] = 0
alike (x ∷ xs) (y ∷ ys) = cond (eqb x y) (suc (alike xs ys)) 0

-- "the number of leading bits it shares with the base key"
unfoldable pub shared_bits : List ℕ → List ℕ → ℕ
shared_bits a b = alike (bits a) (bits b)
