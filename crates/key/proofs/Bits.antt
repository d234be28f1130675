-- Laws of the leading bits that two keys share: bytes that are the same count 8 each, the first that differs counts the leading zeros of the XOR, and
-- only equal keys share all. Assumes nothing.
use mathlib.Core.Path.{◌≡◌, ◌∙◌, refl, sym, ap, ap₂}
use mathlib.Core.Bool.{Bool, true, false}
use mathlib.Core.List.{List, [], ◌∷◌, ◌++◌}
use Prim.Native.Nat.{ℕ, zero, suc, ◌+◌, ◌*◌, ◌/◌, ◌%◌, ◌^◌, ◌<◌, ◌≤◌}
use native.Mathlib.Omega.{arith}
use native.Mathlib.Numerals.{add-one}
use lib.Bits.{bit_xor, xor_self, xor_lt, xor_shr}
use lib.Count.{count_leading_zeros, leading_of_zero, leading_top}
use lib.Dec.{eqb}
use lib.ListN.{length, get_or, drop, length-append}
use lib.Seq.{drop-cons}
use borrow.Author.Tests.{eq-eqb, ne_eqb, eqb-true, eqb-false}
use Rattle.wire.specs.Numbers.{Bytes}
use Rattle.key.specs.Keys.{IsKey, same_key}
use Rattle.key.specs.Bits.{bits_of, bits, alike, shared_bits}
use Rattle.key.proofs.Same.{same_sound, same_apart}
use Rattle.key.proofs.Cancel.{xor_cancels}

-- ---- two lists, from the front on

module _ (x y : ℕ) (xs ys : List ℕ) where
  alike_first : x ≡ y → alike (x ∷ xs) (y ∷ ys) ≡ suc (alike xs ys)
  unfolding alike
  alike_first e = rw (eq-eqb x y e)

  alike_not : (x ≡ y → ⊥) → alike (x ∷ xs) (y ∷ ys) ≡ 0
  unfolding alike
  alike_not ne = rw (ne_eqb x y ne)

alike_end : (ys : List ℕ) → alike [] ys ≡ 0
unfolding alike
alike_end ys = refl

alike_end_right : (x : ℕ) (xs : List ℕ) → alike (x ∷ xs) [] ≡ 0
unfolding alike
alike_end_right x xs = refl

-- fronts that are the same count whole
alike_same : (p s t : List ℕ) → alike (p ++ s) (p ++ t) ≡ length p + alike s t
alike_same [] s t = omega arith
alike_same (x ∷ p) s t = alike_first x x (p ++ s) (p ++ t) refl ∙ (let i = alike_same p s t in omega arith)

-- after fronts of one length that differ, nothing counts
alike_differ : (p q s t : List ℕ) → length p ≡ length q → alike p q < length p → alike (p ++ s) (q ++ t) ≡ alike p q
alike_differ [] q s t e h = absurd (omega arith)
alike_differ (x ∷ p) [] s t e h = absurd (omega arith)
alike_differ (x ∷ p) (y ∷ q) s t e h = by (alike_differ p q s t (omega arith)) (eqb x y) refl
  where
    by : (alike p q < length p → alike (p ++ s) (q ++ t) ≡ alike p q) → (b : Bool) → eqb x y ≡ b → alike (x ∷ (p ++ s)) (y ∷ (q ++ t)) ≡ alike (x ∷ p) (y ∷ q)
    by rest true u =
        let f = alike_first x y p q (eqb-true x y u) in
        alike_first x y (p ++ s) (q ++ t) (eqb-true x y u) ∙ ap suc (rest (omega arith)) ∙ sym f
    by rest false u = alike_not x y (p ++ s) (q ++ t) (eqb-false x y u) ∙ sym (alike_not x y p q (eqb-false x y u))

alike_self : (p : List ℕ) → alike p p ≡ length p
alike_self [] = alike_end []
alike_self (x ∷ p) = alike_first x x p p refl ∙ ap suc (alike_self p)

alike_le : (p q : List ℕ) → alike p q ≤ length p
alike_le [] q = let e = alike_end q in omega arith
alike_le (x ∷ p) [] = let e = alike_end_right x p in omega arith
alike_le (x ∷ p) (y ∷ q) = by (alike_le p q) (eqb x y) refl
  where
    by : alike p q ≤ length p → (b : Bool) → eqb x y ≡ b → alike (x ∷ p) (y ∷ q) ≤ suc (length p)
    by i true u = let f = alike_first x y p q (eqb-true x y u) in omega arith
    by i false u = let f = alike_not x y p q (eqb-false x y u) in omega arith

-- ---- numbers of k bits

length_bits_of : (k n : ℕ) → length (bits_of k n) ≡ k
unfolding bits_of
length_bits_of zero n = refl
length_bits_of (suc k) n = omega (arith, length-append (bits_of k (n / 2)) (n % 2 ∷ []), length_bits_of k (n / 2))

module _ (k x y : ℕ) (hx : x < 2 ^ k) (hy : y < 2 ^ k) where
  -- an XOR of 0 is that of equal numbers
  pub xor_none : bit_xor x y ≡ 0 → x ≡ y
  xor_none e = xor_cancels k x x y hx hy (xor_self x ∙ sym e)

  module _ (ne : x ≡ y → ⊥) where
    xor_some : 0 < bit_xor x y
    xor_some = let h : bit_xor x y ≡ 0 → ⊥ = λ (e : bit_xor x y ≡ 0). ne (xor_none e) in omega arith

    pub leading_fewer : count_leading_zeros k (bit_xor x y) < k
    leading_fewer = let t = leading_top k (bit_xor x y) xor_some (xor_lt k x y hx hy) in omega arith

leading_half : (k n : ℕ) → 0 < n → count_leading_zeros (suc k) n ≡ count_leading_zeros k (n / 2)
unfolding count_leading_zeros
leading_half k zero h = absurd (omega arith)
leading_half k (suc n) h = refl

all_shared : (k x y : ℕ) → x ≡ y → alike (bits_of k x) (bits_of k y) ≡ count_leading_zeros k (bit_xor x y)
all_shared k x y e =
    ap (λ (n : ℕ). alike (bits_of k x) (bits_of k n)) (sym e) ∙ alike_self (bits_of k x) ∙ length_bits_of k x
    ∙ sym (ap (λ (n : ℕ). count_leading_zeros k (bit_xor x n)) (sym e) ∙ ap (count_leading_zeros k) (xor_self x) ∙ leading_of_zero k)

-- numbers that differ: without their last bits they share as many, whether those differ or not
module _ (k x y : ℕ) (hx : x < 2 ^ suc k) (hy : y < 2 ^ suc k) (ne : x ≡ y → ⊥) where
  leading_step : count_leading_zeros (suc k) (bit_xor x y) ≡ count_leading_zeros k (bit_xor (x / 2) (y / 2))
  leading_step = leading_half k (bit_xor x y) (xor_some (suc k) x y hx hy ne) ∙ ap (count_leading_zeros k) (xor_shr x y 1)

  bits_step : alike (bits_of k (x / 2)) (bits_of k (y / 2)) ≡ count_leading_zeros k (bit_xor (x / 2) (y / 2))
      → alike (bits_of (suc k) x) (bits_of (suc k) y) ≡ count_leading_zeros k (bit_xor (x / 2) (y / 2))
  unfolding bits_of
  bits_step i = by (eqb (x / 2) (y / 2)) refl
    where
      by : (b : Bool) → eqb (x / 2) (y / 2) ≡ b
          → alike (bits_of k (x / 2) ++ (x % 2 ∷ [])) (bits_of k (y / 2) ++ (y % 2 ∷ [])) ≡ count_leading_zeros k (bit_xor (x / 2) (y / 2))
      by true u =
          let e = eqb-true (x / 2) (y / 2) u in
          let l = length_bits_of k (x / 2) in
          let s = alike_self (bits_of k (x / 2)) in
          let a = ap (λ (n : ℕ). alike (bits_of k (x / 2)) (bits_of k n)) e in
          let z = alike_not (x % 2) (y % 2) [] [] (λ (v : x % 2 ≡ y % 2). ne (omega arith)) in
          ap (λ (n : ℕ). alike (bits_of k (x / 2) ++ (x % 2 ∷ [])) (bits_of k n ++ (y % 2 ∷ []))) (sym e)
          ∙ alike_same (bits_of k (x / 2)) (x % 2 ∷ []) (y % 2 ∷ []) ∙ (omega arith)
      by false u =
          let f = leading_fewer k (x / 2) (y / 2) (omega arith) (omega arith) (eqb-false (x / 2) (y / 2) u) in
          let l = length_bits_of k (x / 2) in
          let m = length_bits_of k (y / 2) in
          alike_differ (bits_of k (x / 2)) (bits_of k (y / 2)) (x % 2 ∷ []) (y % 2 ∷ []) (omega arith) (omega arith) ∙ i

-- the bits that two numbers share, counted from the highest, are the leading zeros of their XOR
pub bits_shared : (k x y : ℕ) → x < 2 ^ k → y < 2 ^ k → alike (bits_of k x) (bits_of k y) ≡ count_leading_zeros k (bit_xor x y)
bits_shared zero x y hx hy = all_shared 0 x y (omega arith)
bits_shared (suc k) x y hx hy = by (bits_shared k (x / 2) (y / 2) (omega arith) (omega arith)) (eqb x y) refl
  where
    by : alike (bits_of k (x / 2)) (bits_of k (y / 2)) ≡ count_leading_zeros k (bit_xor (x / 2) (y / 2)) → (b : Bool) → eqb x y ≡ b
        → alike (bits_of (suc k) x) (bits_of (suc k) y) ≡ count_leading_zeros (suc k) (bit_xor x y)
    by i true u = all_shared (suc k) x y (eqb-true x y u)
    by i false u = bits_step k x y hx hy (eqb-false x y u) i ∙ sym (leading_step k x y hx hy (eqb-false x y u))

-- ---- bytes

-- a byte that is the same counts 8, and the rest goes on
pub shared_same : (x : ℕ) (xs ys : List ℕ) → shared_bits (x ∷ xs) (x ∷ ys) ≡ 8 + shared_bits xs ys
unfolding shared_bits bits
shared_same x xs ys = alike_same (bits_of 8 x) (bits xs) (bits ys) ∙ ap (λ (n : ℕ). n + alike (bits xs) (bits ys)) (length_bits_of 8 x)

-- a byte that differs counts the leading zeros of the XOR, and nothing after it counts
pub shared_differ : (x y : ℕ) (xs ys : List ℕ) → x < 256 → y < 256 → (x ≡ y → ⊥) → shared_bits (x ∷ xs) (y ∷ ys) ≡ count_leading_zeros 8 (bit_xor x y)
unfolding shared_bits bits
shared_differ x y xs ys hx hy ne =
    let i = bits_shared 8 x y hx hy in
    let f = leading_fewer 8 x y hx hy ne in
    let l = length_bits_of 8 x in
    let m = length_bits_of 8 y in
    alike_differ (bits_of 8 x) (bits_of 8 y) (bits xs) (bits ys) (omega arith) (omega arith) ∙ i

-- the same at any place of two lists of bytes
module _ (a b : List ℕ) (i : ℕ) (ha : i < length a) (hb : i < length b) where
  opened : shared_bits (drop i a) (drop i b) ≡ shared_bits (get_or a i 0 ∷ drop (suc i) a) (get_or b i 0 ∷ drop (suc i) b)
  opened = ap₂ shared_bits (drop-cons a i 0 ha) (drop-cons b i 0 hb)

  pub shared_same_at : get_or a i 0 ≡ get_or b i 0 → shared_bits (drop i a) (drop i b) ≡ 8 + shared_bits (drop (i + 1) a) (drop (i + 1) b)
  shared_same_at e =
      rw add-one (opened ∙ ap (λ (n : ℕ). shared_bits (get_or a i 0 ∷ drop (suc i) a) (n ∷ drop (suc i) b)) (sym e)
      ∙ shared_same (get_or a i 0) (drop (suc i) a) (drop (suc i) b))

  pub shared_differ_at : get_or a i 0 < 256 → get_or b i 0 < 256 → (get_or a i 0 ≡ get_or b i 0 → ⊥)
      → shared_bits (drop i a) (drop i b) ≡ count_leading_zeros 8 (bit_xor (get_or a i 0) (get_or b i 0))
  shared_differ_at sa sb ne = opened ∙ shared_differ (get_or a i 0) (get_or b i 0) (drop (suc i) a) (drop (suc i) b) sa sb ne

-- up to the first byte in which two lists differ, each byte counts 8
shared_front : (a b : List ℕ) (i : ℕ) → i ≤ length a → i ≤ length b → ((j : ℕ) → j < i → get_or a j 0 ≡ get_or b j 0)
    → shared_bits a b ≡ 8 * i + shared_bits (drop i a) (drop i b)
shared_front a b zero ha hb e = omega arith
shared_front a b (suc i) ha hb e =
    let h = shared_front a b i (omega arith) (omega arith) (λ j (k : j < i). e j (omega arith)) in
    let s = rw add-one at (shared_same_at a b i ha hb (e i (omega arith))) in
    omega arith

-- and that byte the leading zeros of the XOR
pub shared_first : (a b : List ℕ) (i : ℕ) → i < length a → i < length b → ((j : ℕ) → j < i → get_or a j 0 ≡ get_or b j 0)
    → get_or a i 0 < 256 → get_or b i 0 < 256 → (get_or a i 0 ≡ get_or b i 0 → ⊥)
    → shared_bits a b ≡ 8 * i + count_leading_zeros 8 (bit_xor (get_or a i 0) (get_or b i 0))
shared_first a b i ha hb e sa sb ne =
    shared_front a b i (omega arith) (omega arith) e ∙ ap (λ (n : ℕ). 8 * i + n) (shared_differ_at a b i ha hb sa sb ne)

-- ---- lists of bytes

length_bits : (a : List ℕ) → length (bits a) ≡ 8 * length a
unfolding bits
length_bits [] = refl
length_bits (x ∷ a) = length-append (bits_of 8 x) (bits a) ∙ (let l = length_bits_of 8 x in let i = length_bits a in omega arith)

pub shared_self : (a : List ℕ) → shared_bits a a ≡ 8 * length a
unfolding shared_bits
shared_self a = alike_self (bits a) ∙ length_bits a

pub shared_le : (a b : List ℕ) → shared_bits a b ≤ 8 * length a
unfolding shared_bits
shared_le a b = let h = alike_le (bits a) (bits b) in let l = length_bits a in omega arith

-- bytes that share all bits are the same
pub shared_all : (a b : List ℕ) → length a ≡ length b → Bytes a → Bytes b → shared_bits a b ≡ 8 * length a → a ≡ b
shared_all [] [] e sa sb h = refl
shared_all [] (y ∷ b) e sa sb h = absurd (omega arith)
shared_all (x ∷ a) [] e sa sb h = absurd (omega arith)
shared_all (x ∷ a) (y ∷ b) e sa sb h = by (shared_all a b (omega arith) sa.1 sb.1) (eqb x y) refl
  where
    by : (shared_bits a b ≡ 8 * length a → a ≡ b) → (t : Bool) → eqb x y ≡ t → ◌≡◌ {A = List ℕ} (x ∷ a) (y ∷ b)
    by rest true u =
        let v = eqb-true x y u in
        let f = ap (λ (n : ℕ). shared_bits (x ∷ a) (n ∷ b)) v in
        let g = shared_same x a b in
        ap₂ (λ (n : ℕ) (l : List ℕ). n ∷ l) v (rest (omega arith))
    by rest false u =
        let f = leading_fewer 8 x y sa.0 sb.0 (eqb-false x y u) in
        let g = shared_differ x y a b sa.0 sb.0 (eqb-false x y u) in
        absurd (omega arith)

-- ---- keys

module _ (a b : List ℕ) (ha : IsKey a) (hb : IsKey b) where
  shares_all_same : shared_bits a b ≡ 256 → a ≡ b
  shares_all_same e = let l = ha.long in shared_all a b (ha.long ∙ sym hb.long) ha.bytes hb.bytes (omega arith)

  -- the base key, and no other, shares all 256 bits with the base key
  pub base_shares_all : eqb (shared_bits a b) 256 ≡ same_key a b
  base_shares_all = by (same_key a b) refl
    where
      by : (t : Bool) → same_key a b ≡ t → eqb (shared_bits a b) 256 ≡ same_key a b
      by true e =
          let l = ha.long in
          let f = shared_self a in
          let g = ap (shared_bits a) (same_sound a b e) in
          eq-eqb (shared_bits a b) 256 (omega arith) ∙ sym e
      by false e = ne_eqb (shared_bits a b) 256 (λ (h : shared_bits a b ≡ 256). same_apart a b e (shares_all_same h)) ∙ sym e

  -- so there is a bucket for each other key
  pub others_share_fewer : (a ≡ b → ⊥) → shared_bits a b < 256
  others_share_fewer ne =
      let l = ha.long in
      let f = shared_le a b in
      let g : shared_bits a b ≡ 256 → ⊥ = λ (h : shared_bits a b ≡ 256). ne (shares_all_same h) in
      omega arith
