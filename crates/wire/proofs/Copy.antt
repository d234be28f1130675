-- A list copied over a part, an output that is written piece by piece, and parts of a list. Assumes nothing.
use mathlib.Core.Path.{◌≡◌, ◌∙◌, refl, sym, ap, ap₂}
use mathlib.Core.List.{List, [], ◌∷◌, ◌++◌, append_assoc, append-nil}
use Prim.Native.Nat.{ℕ, zero, suc, ◌+◌, ◌-◌, ◌<◌, ◌≤◌}
use native.Mathlib.Omega.{arith}
use native.Mathlib.Nat.{not-suc-le-zero, sub-zero, zero-sub, suc-sub-suc}
use native.Mathlib.Numerals.{add-one}
use lib.ListN.{length, get_or, take, drop, set, length-append, length-drop, drop_of_length-le}
use lib.Seq.{take-length, take-nil, take-take, length-take-le, drop-cons, drop-drop, set_at, take_at, drop_at}

-- all of a part copied over
pub copy_whole : (src part : List ℕ) → length part ≡ length src → take (length src) src ++ drop (length src) part ≡ src
copy_whole src part e =
    ap₂ (λ (a b : List ℕ). a ++ b) (take-length src) (drop_of_length-le part {i = length src} (omega arith)) ∙ append-nil src

-- ---- an output written from the front: what is written, then what stood behind it

-- its first byte
pub written_first : (out : List ℕ) (b : ℕ) → 0 < length out → set out 0 b ≡ (b ∷ []) ++ drop 1 out
written_first [] b h = absurd (not-suc-le-zero h)
written_first (x ∷ out) b h = refl

-- one byte more
pub written_byte : (w out : List ℕ) (a b : ℕ) → length w ≡ a → a < length out → set (w ++ drop a out) a b ≡ (w ++ (b ∷ [])) ++ drop (a + 1) out
written_byte w out a b e h =
    ap (λ (l : List ℕ). set (w ++ l) a b) (drop-cons out a 0 h) ∙ set_at w (get_or out a 0) (drop (suc a) out) b a e
    ∙ rw add-one (sym (append_assoc w (b ∷ []) (drop (suc a) out)))

-- a part more, as it comes back from a call that it was lent to
pub written_part : (w new out : List ℕ) (a k : ℕ) → length w ≡ a
    → take a (w ++ drop a out) ++ (new ++ drop k (drop a (w ++ drop a out))) ≡ (w ++ new) ++ drop (a + k) out
written_part w new out a k e =
    ap₂ (λ (x y : List ℕ). x ++ (new ++ drop k y)) (take_at w (drop a out) a e) (drop_at w (drop a out) a e)
    ∙ ap (λ (l : List ℕ). w ++ (new ++ l)) (drop-drop k a out) ∙ sym (append_assoc w new (drop (a + k) out))

-- the part that is lent has the length asked
pub length_lent : (l : List ℕ) (a k : ℕ) → a + k ≤ length l → length (take k (drop a l)) ≡ k
length_lent l a k h = length-take-le k (drop a l) (let e = length-drop a l in omega arith)

-- writing keeps the length
pub length_written : (w out : List ℕ) (n : ℕ) → length w ≡ n → n ≤ length out → length (w ++ drop n out) ≡ length out
length_written w out n e h = length-append w (drop n out) ∙ (let d = length-drop n out in omega arith)

-- ---- a part of a part

pub drop_take : (m n : ℕ) (l : List ℕ) → drop m (take n l) ≡ take (n - m) (drop m l)
drop_take zero n l = rw sub-zero
drop_take (suc m) zero l = rw zero-sub
drop_take (suc m) (suc n) [] = rw take-nil
drop_take (suc m) (suc n) (x ∷ xs) = rw suc-sub-suc (drop_take m n xs)

-- is a part of the whole
pub part_of_part : (w k n : ℕ) (l : List ℕ) → k + w ≤ n → take w (drop k (take n l)) ≡ take w (drop k l)
part_of_part w k n l h = ap (take w) (drop_take k n l) ∙ take-take w (n - k) (drop k l) (omega arith)
