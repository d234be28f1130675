-- Keys as their bytes. Document 01, "Relay packets" and "The nearest list".
use Rattle.std.specs.Prelude.{Bool, true, false, ◌&&◌, cond, List, [], ◌∷◌, ◌++◌, ℕ, ◌≡◌, eqb, ltb, leb, length, take, drop, replicate}
use Rattle.std.specs.Int.Bits.{bit_xor}
use Rattle.wire.specs.Numbers.{Bytes, number_of}

-- "A key is 32 bytes."
pub record IsKey (key : List ℕ) : Type 0 where
  pub long : length key ≡ 32
  pub bytes : Bytes key

-- two keys are the same: byte by byte
unfoldable pub same_key : List ℕ → List ℕ → Bool
same_key [] [] = true
same_key [] (y ∷ ys) = false
same_key (x ∷ xs) [] = false
same_key (x ∷ xs) (y ∷ ys) = eqb x y && same_key xs ys

-- the XOR of two keys: byte by byte
unfoldable pub xor_bytes : List ℕ → List ℕ → List ℕ
xor_bytes [] ys = []
xor_bytes (x ∷ xs) [] = []
xor_bytes (x ∷ xs) (y ∷ ys) = bit_xor x y ∷ xor_bytes xs ys

-- "The distance of two keys is their XOR read as one 256-bit number."
unfoldable pub distance : List ℕ → List ℕ → ℕ
distance a b = number_of (xor_bytes a b)

-- a is nearer to the target than b
unfoldable pub nearer : List ℕ → List ℕ → List ℕ → Bool
nearer target a b = ltb (distance target a) (distance target b)

-- what a comparison of two distances answers: whether a is nearer to the target than b
pub record Compares (target a b : List ℕ) (answer : Bool) : Type 0 where
  -- the three are keys
  pub target_key : IsKey target
  pub a_key : IsKey a
  pub b_key : IsKey b
  pub answers : answer ≡ nearer target a b

-- the key that stands at the front of bytes; zeros where they are too few
unfoldable pub key_of : List ℕ → List ℕ
key_of bytes = cond (leb 32 (length bytes)) (take 32 bytes) (replicate 32 0)

-- bytes with a key put over their front; as they were where they are too few
unfoldable pub with_key : List ℕ → List ℕ → List ℕ
with_key key out = cond (leb 32 (length out)) (key ++ drop 32 out) out
