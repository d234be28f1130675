-- Laws of the distance: the first byte in which two keys differ decides which is nearer. Assumes nothing.
use mathlib.Core.Path.{◌≡◌, ◌∙◌, refl, sym, ap, ap₂}
use mathlib.Core.Bool.{Bool, true, false}
use mathlib.Core.List.{List, [], ◌∷◌}
use Prim.Native.Nat.{ℕ, zero, suc, ◌+◌, ◌-◌, ◌*◌, ◌^◌, ◌<◌, ◌≤◌}
use lib.Pow.{pow-add}
use native.Mathlib.Nat.{pow-suc, mul-le-mul_right, le_of_suc-le-suc, not-suc-le-zero}
use native.Mathlib.Omega.{arith}
use native.Mathlib.Numerals.{add-one}
use lib.Dec.{ltb}
use lib.Bits.{bit_xor, xor_block, xor_lt}
use lib.ListN.{length, get_or, drop, length-drop, drop_of_length-le}
use borrow.Author.Tests.{lt-ltb, le-ltb, ltb-true, ltb-false}
use Rattle.wire.specs.Numbers.{Bytes, number_of}
use Rattle.wire.proofs.Numbers.{number_lt, bytes_drop}
use Rattle.key.specs.Keys.{IsKey, xor_bytes, distance, nearer}

-- ---- the XOR of two keys

pub xor_drop : (i : ℕ) (a b : List ℕ) → i < length a → i < length b
    → drop i (xor_bytes a b) ≡ bit_xor (get_or a i 0) (get_or b i 0) ∷ drop (suc i) (xor_bytes a b)
unfolding xor_bytes
xor_drop i [] b h k = absurd (not-suc-le-zero h)
xor_drop i (x ∷ a) [] h k = absurd (not-suc-le-zero k)
xor_drop zero (x ∷ a) (y ∷ b) h k = refl
xor_drop (suc i) (x ∷ a) (y ∷ b) h k = xor_drop i a b (le_of_suc-le-suc h) (le_of_suc-le-suc k)

pub length_xor : (a b : List ℕ) → length a ≡ length b → length (xor_bytes a b) ≡ length a
unfolding xor_bytes
length_xor [] b e = refl
length_xor (x ∷ a) [] e = absurd (omega arith)
length_xor (x ∷ a) (y ∷ b) e = ap suc (length_xor a b (omega arith))

pub bytes_xor : (a b : List ℕ) → Bytes a → Bytes b → Bytes (xor_bytes a b)
unfolding xor_bytes
bytes_xor [] b s t = tt
bytes_xor (x ∷ a) [] s t = tt
bytes_xor (x ∷ a) (y ∷ b) s t = (xor_lt 8 x y s.0 t.0, bytes_xor a b s.1 t.1)

-- ---- the order of two numbers by their bytes

lead_lt : (B x y r s : ℕ) → r < B → x < y → x * B + r < y * B + s
lead_lt B x y r s hr h = omega (arith, mul-le-mul_right B h)

-- leading bytes that differ decide
pub lead_differs : (x y : ℕ) (xs ys : List ℕ) → length xs ≡ length ys → Bytes xs → Bytes ys → (x ≡ y → ⊥)
    → ltb (number_of (x ∷ xs)) (number_of (y ∷ ys)) ≡ ltb x y
unfolding number_of
lead_differs x y xs ys e sx sy ne =
    ap (λ (n : ℕ). ltb (x * 256 ^ length xs + number_of xs) (y * 256 ^ n + number_of ys)) (sym e) ∙ go (ltb x y) refl
  where
    ry : number_of ys < 256 ^ length xs
    ry = rw e (number_lt ys sy)

    go : (t : Bool) → ltb x y ≡ t → ltb (x * 256 ^ length xs + number_of xs) (y * 256 ^ length xs + number_of ys) ≡ ltb x y
    go true p = lt-ltb _ _ (lead_lt (256 ^ length xs) x y (number_of xs) (number_of ys) (number_lt xs sx) (ltb-true x y p)) ∙ sym p
    go false p =
        let h : y < x = let k = ltb-false x y p in omega arith in
        let l = lead_lt (256 ^ length xs) y x (number_of ys) (number_of xs) ry h in
        le-ltb (x * 256 ^ length xs + number_of xs) (y * 256 ^ length xs + number_of ys) (omega arith) ∙ sym p

-- leading bytes that are the same leave it to the rest
pub lead_same : (x y : ℕ) (xs ys : List ℕ) → length xs ≡ length ys → x ≡ y → ltb (number_of (x ∷ xs)) (number_of (y ∷ ys)) ≡ ltb (number_of xs) (number_of ys)
unfolding number_of
lead_same x y xs ys e p =
    ap₂ (λ (m n : ℕ). ltb (x * 256 ^ length xs + number_of xs) (m * 256 ^ n + number_of ys)) (sym p) (sym e) ∙ go (ltb (number_of xs) (number_of ys)) refl
  where
    go : (t : Bool) → ltb (number_of xs) (number_of ys) ≡ t
        → ltb (x * 256 ^ length xs + number_of xs) (x * 256 ^ length xs + number_of ys) ≡ ltb (number_of xs) (number_of ys)
    go true q = let h = ltb-true (number_of xs) (number_of ys) q in lt-ltb (x * 256 ^ length xs + number_of xs) (x * 256 ^ length xs + number_of ys) (omega arith) ∙ sym q
    go false q = let h = ltb-false (number_of xs) (number_of ys) q in le-ltb (x * 256 ^ length xs + number_of xs) (x * 256 ^ length xs + number_of ys) (omega arith) ∙ sym q

-- ---- three keys, byte by byte

-- the distances from a byte on
unfoldable pub nearer_from : ℕ → List ℕ → List ℕ → List ℕ → Bool
nearer_from i t a b = ltb (number_of (drop i (xor_bytes t a))) (number_of (drop i (xor_bytes t b)))

pub from_start : (t a b : List ℕ) → nearer t a b ≡ nearer_from 0 t a b
unfolding nearer nearer_from distance
from_start t a b = refl

module _ (t a b : List ℕ) (ea : length t ≡ length a) (eb : length t ≡ length b) where
  lengths : (i : ℕ) → length (drop i (xor_bytes t a)) ≡ length (drop i (xor_bytes t b))
  lengths i =
      length-drop i (xor_bytes t a)
      ∙ ap (λ (n : ℕ). n - i) (length_xor t a ea ∙ sym (length_xor t b eb))
      ∙ sym (length-drop i (xor_bytes t b))

  module _ (i : ℕ) (lt : i < length t) where
    opened : nearer_from i t a b
        ≡ ltb (number_of (bit_xor (get_or t i 0) (get_or a i 0) ∷ drop (suc i) (xor_bytes t a))) (number_of (bit_xor (get_or t i 0) (get_or b i 0) ∷ drop (suc i) (xor_bytes t b)))
    unfolding nearer_from
    opened = ap₂ (λ (p q : List ℕ). ltb (number_of p) (number_of q)) (xor_drop i t a lt (omega arith)) (xor_drop i t b lt (omega arith))

    pub byte_decides : Bytes t → Bytes a → Bytes b → (bit_xor (get_or t i 0) (get_or a i 0) ≡ bit_xor (get_or t i 0) (get_or b i 0) → ⊥)
        → nearer_from i t a b ≡ ltb (bit_xor (get_or t i 0) (get_or a i 0)) (bit_xor (get_or t i 0) (get_or b i 0))
    byte_decides st sa sb ne =
        opened
        ∙ lead_differs _ _ (drop (suc i) (xor_bytes t a)) (drop (suc i) (xor_bytes t b)) (lengths (suc i))
        (bytes_drop (suc i) (xor_bytes t a) (bytes_xor t a st sa)) (bytes_drop (suc i) (xor_bytes t b) (bytes_xor t b st sb)) ne

    pub byte_same : bit_xor (get_or t i 0) (get_or a i 0) ≡ bit_xor (get_or t i 0) (get_or b i 0) → nearer_from i t a b ≡ nearer_from (i + 1) t a b
    unfolding nearer_from
    byte_same e = rw add-one (opened ∙ lead_same _ _ (drop (suc i) (xor_bytes t a)) (drop (suc i) (xor_bytes t b)) (lengths (suc i)) e)

  pub bytes_end : (i : ℕ) → length t ≤ i → nearer_from i t a b ≡ false
  unfolding nearer_from
  bytes_end i h =
      let x = length_xor t a ea in
      let y = length_xor t b eb in
      ap₂ (λ (p q : List ℕ). ltb (number_of p) (number_of q)) (drop_of_length-le (xor_bytes t a) {i = i} (omega arith))
      (drop_of_length-le (xor_bytes t b) {i = i} (omega arith))
      ∙ le-ltb (number_of []) (number_of []) (omega arith)

  -- up to the first byte in which the two differ, nothing is decided
  same_front : (i : ℕ) → i ≤ length t → ((j : ℕ) → j < i → get_or a j 0 ≡ get_or b j 0) → nearer t a b ≡ nearer_from i t a b
  same_front zero h e = from_start t a b
  same_front (suc i) h e =
      same_front i (omega arith) (λ (j : ℕ) (k : j < i). e j (omega arith))
      ∙ rw add-one at (byte_same i h (ap (bit_xor (get_or t i 0)) (e i (omega arith))))

  -- and that byte decides
  pub difference_decides : (i : ℕ) → i < length t → ((j : ℕ) → j < i → get_or a j 0 ≡ get_or b j 0) → Bytes t → Bytes a → Bytes b
      → (bit_xor (get_or t i 0) (get_or a i 0) ≡ bit_xor (get_or t i 0) (get_or b i 0) → ⊥)
      → nearer t a b ≡ ltb (bit_xor (get_or t i 0) (get_or a i 0)) (bit_xor (get_or t i 0) (get_or b i 0))
  difference_decides i h e st sa sb ne = same_front i (omega arith) e ∙ byte_decides i h st sa sb ne

-- the first byte in which two keys differ decides which is nearer: nothing after it is looked at
pub first_difference_decides : (t a b : List ℕ) → IsKey t → IsKey a → IsKey b → (i : ℕ) → i < 32 → ((j : ℕ) → j < i → get_or a j 0 ≡ get_or b j 0)
    → (bit_xor (get_or t i 0) (get_or a i 0) ≡ bit_xor (get_or t i 0) (get_or b i 0) → ⊥)
    → nearer t a b ≡ ltb (bit_xor (get_or t i 0) (get_or a i 0)) (bit_xor (get_or t i 0) (get_or b i 0))
first_difference_decides t a b ht ha hb i h e ne =
    let l = ht.long in
    difference_decides t a b (ht.long ∙ sym ha.long) (ht.long ∙ sym hb.long) i (omega arith) e ht.bytes ha.bytes hb.bytes ne

-- ---- the number itself

power : (n : ℕ) → 256 ^ n ≡ 2 ^ (8 * n)
power zero = refl
power (suc n) =
    pow-suc 256 n ∙ ap (λ (m : ℕ). m * 256) (power n) ∙ sym (pow-add 2 (8 * n) 8) ∙ ap (λ (m : ℕ). 2 ^ m) (omega arith)

-- the XOR byte by byte is the XOR of the two numbers: the distance is the XOR of the keys as 256-bit numbers
pub distance_is_xor : (a b : List ℕ) → length a ≡ length b → Bytes a → Bytes b → distance a b ≡ bit_xor (number_of a) (number_of b)
unfolding distance xor_bytes number_of
distance_is_xor [] [] e s t = refl
distance_is_xor [] (y ∷ b) e s t = absurd (omega arith)
distance_is_xor (x ∷ a) [] e s t = absurd (omega arith)
distance_is_xor (x ∷ a) (y ∷ b) e s t =
    let l : length a ≡ length b = omega arith in
    let ha : number_of a < 2 ^ (8 * length a) = rw (← power (length a)) (number_lt a s.1) in
    let hb : number_of b < 2 ^ (8 * length a) = rw (← power (length a), l) (number_lt b t.1) in
    ap₂ (λ (n m : ℕ). bit_xor x y * 256 ^ n + m) (length_xor a b l) (distance_is_xor a b l s.1 t.1)
    ∙ ap (λ (n : ℕ). bit_xor x y * n + bit_xor (number_of a) (number_of b)) (power (length a))
    ∙ sym (xor_block (8 * length a) x y (number_of a) (number_of b) ha hb)
    ∙ ap (λ (n : ℕ). bit_xor (x * n + number_of a) (y * n + number_of b)) (sym (power (length a)))
    ∙ ap (λ (n : ℕ). bit_xor (x * 256 ^ length a + number_of a) (y * 256 ^ n + number_of b)) l
