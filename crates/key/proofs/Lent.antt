-- Laws of a key's bytes in lent memory. Assumes nothing.
use mathlib.Core.Path.{◌≡◌, ◌∙◌, refl, ap}
use mathlib.Core.Bool.{Bool, true, false, cond}
use mathlib.Core.List.{List, ◌++◌, append-nil}
use Prim.Native.Nat.{ℕ, zero, suc, ◌≤◌}
use native.Mathlib.Omega.{arith}
use lib.Dec.{leb}
use lib.ListN.{length, take, replicate, drop_of_length-le}
use lib.Seq.{length-take-le, take_all}
use borrow.Author.Tests.{le-leb, leb-true}
use Rattle.wire.specs.Numbers.{Bytes}
use Rattle.wire.proofs.Numbers.{bytes_take}
use Rattle.key.specs.Keys.{key_of, with_key}

-- enough bytes hold a key
pub key_whole : (bytes : List ℕ) → 32 ≤ length bytes → key_of bytes ≡ take 32 bytes
unfolding key_of
key_whole bytes h = simp (le-leb 32 (length bytes) h)

-- 32 bytes are the key
pub key_itself : (bytes : List ℕ) → length bytes ≡ 32 → key_of bytes ≡ bytes
key_itself bytes e = key_whole bytes (omega arith) ∙ take_all 32 bytes (omega arith)

-- whatever the bytes, what is read is a key
pub length_key : (bytes : List ℕ) → length (key_of bytes) ≡ 32
unfolding key_of
length_key bytes = by (leb 32 (length bytes)) refl
  where
    by : (t : Bool) → leb 32 (length bytes) ≡ t → length (cond t (take 32 bytes) (replicate 32 0)) ≡ 32
    by true e = length-take-le 32 bytes (leb-true 32 (length bytes) e)
    by false e = refl

zeros : (n : ℕ) → Bytes (replicate n 0)
zeros zero = tt
zeros (suc n) = (omega arith, zeros n)

pub bytes_key : (bytes : List ℕ) → Bytes bytes → Bytes (key_of bytes)
unfolding key_of
bytes_key bytes s = by (leb 32 (length bytes))
  where
    by : (t : Bool) → Bytes (cond t (take 32 bytes) (replicate 32 0))
    by true = bytes_take 32 bytes s
    by false = zeros 32

-- a part of 32 bytes becomes the key
pub with_key_whole : (key out : List ℕ) → length out ≡ 32 → with_key key out ≡ key
unfolding with_key
with_key_whole key out e =
    simp (le-leb 32 (length out) (omega arith)) (ap (λ (l : List ℕ). key ++ l) (drop_of_length-le out {i = 32} (omega arith)) ∙ append-nil key)
