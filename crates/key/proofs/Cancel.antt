-- The order that the distance to a target makes of keys: XOR with one number can be undone, so keys that differ are at different distances,
-- of two different keys one is nearer, and a key is nearer to itself than every other. Assumes nothing.
use mathlib.Core.Path.{◌≡◌, ◌∙◌, refl, sym, ap, ap₂}
use mathlib.Core.Bool.{Bool, true, false, not}
use mathlib.Core.List.{List, [], ◌∷◌}
use Prim.Native.Nat.{ℕ, zero, suc, ◌/◌, ◌%◌, ◌^◌, ◌<◌, ◌≤◌}
use native.Mathlib.Omega.{arith}
use lib.Bits.{bit_xor, differ, xor_step, xor_self}
use lib.ListN.{length}
use borrow.Author.Tests.{lt-ltb, le-ltb, ltb-true, ltb-false}
use Rattle.wire.specs.Numbers.{Bytes, number_of}
use Rattle.wire.proofs.Numbers.{number_injective}
use Rattle.key.specs.Keys.{IsKey, same_key, xor_bytes, distance, nearer}
use Rattle.key.proofs.Same.{same_refl, same_sound}
use Rattle.key.proofs.Distance.{length_xor, bytes_xor, distance_is_xor}

-- ---- one bit, a number, a list of bytes

differ_lt : (x y : ℕ) → x < 2 → y < 2 → differ x y < 2
differ_lt zero y hx hy = hy
differ_lt (suc x) zero hx hy = hx
differ_lt (suc x) (suc y) hx hy = differ_lt x y (omega arith) (omega arith)

differ_cancels : (x y z : ℕ) → x < 2 → y < 2 → z < 2 → differ x y ≡ differ x z → y ≡ z
differ_cancels zero y z hx hy hz e = e
differ_cancels (suc zero) zero zero hx hy hz e = refl
differ_cancels (suc zero) zero (suc z) hx hy hz e = absurd (omega arith)
differ_cancels (suc zero) (suc y) zero hx hy hz e = absurd (omega arith)
differ_cancels (suc zero) (suc y) (suc z) hx hy hz e = omega arith
differ_cancels (suc (suc x)) y z hx hy hz e = absurd (omega arith)

-- numbers of k bits
pub xor_cancels : (k a b c : ℕ) → b < 2 ^ k → c < 2 ^ k → bit_xor a b ≡ bit_xor a c → b ≡ c
xor_cancels zero a b c hb hc e = omega arith
xor_cancels (suc k) a b c hb hc e =
    let p = xor_step a b in
    let q = xor_step a c in
    let u = differ_lt (a % 2) (b % 2) (omega arith) (omega arith) in
    let v = differ_lt (a % 2) (c % 2) (omega arith) (omega arith) in
    let h : bit_xor (a / 2) (b / 2) ≡ bit_xor (a / 2) (c / 2) = omega arith in
    let d : differ (a % 2) (b % 2) ≡ differ (a % 2) (c % 2) = omega arith in
    let i = xor_cancels k (a / 2) (b / 2) (c / 2) (omega arith) (omega arith) h in
    let j = differ_cancels (a % 2) (b % 2) (c % 2) (omega arith) (omega arith) (omega arith) d in
    omega arith

heads : (x y : ℕ) (xs ys : List ℕ) → ◌≡◌ {A = List ℕ} (x ∷ xs) (y ∷ ys) → (x ≡ y) × (xs ≡ ys)
heads x y xs ys e = (cc, cc)

pub xor_bytes_cancels : (t a b : List ℕ) → length t ≡ length a → length t ≡ length b → Bytes a → Bytes b → xor_bytes t a ≡ xor_bytes t b → a ≡ b
unfolding xor_bytes
xor_bytes_cancels [] [] [] p q sa sb e = refl
xor_bytes_cancels [] (y ∷ a) b p q sa sb e = absurd (omega arith)
xor_bytes_cancels [] [] (z ∷ b) p q sa sb e = absurd (omega arith)
xor_bytes_cancels (x ∷ t) [] b p q sa sb e = absurd (omega arith)
xor_bytes_cancels (x ∷ t) (y ∷ a) [] p q sa sb e = absurd (omega arith)
xor_bytes_cancels (x ∷ t) (y ∷ a) (z ∷ b) p q sa sb e =
    let h = heads (bit_xor x y) (bit_xor x z) (xor_bytes t a) (xor_bytes t b) e in
    ap₂ (λ (n : ℕ) (l : List ℕ). n ∷ l) (xor_cancels 8 x y z sa.0 sb.0 h.0) (xor_bytes_cancels t a b (omega arith) (omega arith) sa.1 sb.1 h.1)

-- ---- keys

pub same_differs : (a b : List ℕ) → same_key a b ≡ false → a ≡ b → ⊥
same_differs a b h e =
    let p = same_refl a in
    let q = ap (same_key a) e ∙ h in
    let z : ◌≡◌ {A = ℕ} 0 1 = cc in
    omega arith

pub differs_same : (a b : List ℕ) → (a ≡ b → ⊥) → same_key a b ≡ false
differs_same a b h = by (same_key a b) refl
  where
    by : (s : Bool) → same_key a b ≡ s → s ≡ false
    by true e = absurd (h (same_sound a b e))
    by false e = refl

-- keys at one distance from a target are the same key
pub distance_cancels : (t a b : List ℕ) → IsKey t → IsKey a → IsKey b → distance t a ≡ distance t b → a ≡ b
unfolding distance
distance_cancels t a b ht ha hb e =
    let p = ht.long ∙ sym ha.long in
    let q = ht.long ∙ sym hb.long in
    xor_bytes_cancels t a b p q ha.bytes hb.bytes
    (number_injective (xor_bytes t a) (xor_bytes t b) (length_xor t a p ∙ sym (length_xor t b q)) (bytes_xor t a ht.bytes ha.bytes)
    (bytes_xor t b ht.bytes hb.bytes) e)

-- nearer is less in distance
module _ (t a b : List ℕ) where
  pub nearer_lt : nearer t a b ≡ true → distance t a < distance t b
  unfolding nearer
  nearer_lt h = ltb-true (distance t a) (distance t b) h

  pub not_nearer_le : nearer t a b ≡ false → distance t b ≤ distance t a
  unfolding nearer
  not_nearer_le h = ltb-false (distance t a) (distance t b) h

  pub lt_nearer : distance t a < distance t b → nearer t a b ≡ true
  unfolding nearer
  lt_nearer h = lt-ltb (distance t a) (distance t b) h

  pub le_not_nearer : distance t b ≤ distance t a → nearer t a b ≡ false
  unfolding nearer
  le_not_nearer h = le-ltb (distance t a) (distance t b) h

-- a key is nearer to itself than every other key is
pub nearer_to_itself : (a b : List ℕ) → IsKey a → IsKey b → not (nearer a a b) ≡ same_key a b
nearer_to_itself a b ha hb = by (same_key a b) refl
  where
    none : distance a a ≡ 0
    none = distance_is_xor a a refl ha.bytes ha.bytes ∙ xor_self (number_of a)

    by : (s : Bool) → same_key a b ≡ s → not (nearer a a b) ≡ same_key a b
    by true e = ap not (le_not_nearer a a b (let p = ap (distance a) (same_sound a b e) in omega arith)) ∙ sym e
    by false e =
        let differ : distance a a ≡ distance a b → ⊥ = λ h. same_differs a b e (distance_cancels a a b ha ha hb h) in
        ap not (lt_nearer a a b (omega (arith, none))) ∙ sym e
