-- Laws of bytes and of the numbers that they make: a number's bytes make that number again, bytes are those of their number, and leading
-- bytes decide an order. Assumes nothing.
use mathlib.Core.Path.{◌≡◌, ◌∙◌, refl, sym, ap, ap₂}
use mathlib.Core.List.{List, [], ◌∷◌, ◌++◌, append_assoc}
use Prim.Native.Nat.{ℕ, zero, suc, ◌+◌, ◌*◌, ◌/◌, ◌%◌, ◌^◌, ◌<◌, ◌≤◌}
use native.Mathlib.Nat.{mul-le-mul_left, mul-le-mul_right, pow-suc, pow-le-pow_right, mod-eq_of_lt, mod-one}
use native.Mathlib.Omega.{arith}
use native.Mathlib.Numerals.{add-one}
use lib.Arith.{digits_div, digits_mod, mod-mul}
use lib.ListN.{length, get_or, take, drop, set, length-append}
use lib.Seq.{set_split, drop_at, length-take-le}
use Rattle.std.proofs.lemmas.List.{length-take}
use Rattle.wire.specs.Numbers.{Bytes, number_of, bytes_of}

-- ---- bytes

pub bytes_append : (a b : List ℕ) → Bytes a → Bytes b → Bytes (a ++ b)
bytes_append [] b p q = q
bytes_append (x ∷ a) b p q = (p.0, bytes_append a b p.1 q)

pub bytes_take : (n : ℕ) (a : List ℕ) → Bytes a → Bytes (take n a)
bytes_take zero a p = tt
bytes_take (suc n) [] p = tt
bytes_take (suc n) (x ∷ a) p = (p.0, bytes_take n a p.1)

pub bytes_drop : (n : ℕ) (a : List ℕ) → Bytes a → Bytes (drop n a)
bytes_drop zero a p = p
bytes_drop (suc n) [] p = tt
bytes_drop (suc n) (x ∷ a) p = bytes_drop n a p.1

pub bytes_get_d : (i : ℕ) (a : List ℕ) → Bytes a → get_or a i 0 < 256
bytes_get_d i [] p = omega arith
bytes_get_d zero (x ∷ a) p = p.0
bytes_get_d (suc i) (x ∷ a) p = bytes_get_d i a p.1

-- what a lent slice tells of its elements, one by one
pub bytes_each : (a : List ℕ) → ((i : ℕ) → get_or a i 0 < 256) → Bytes a
bytes_each [] h = tt
bytes_each (x ∷ a) h = (h 0, bytes_each a (λ i. h (suc i)))

-- ---- the number that bytes make

below : (b P z : ℕ) → b < 256 → z < P → b * P + z < P * 256
below b P z hb hz = omega (arith, mul-le-mul_right P hb)

pub number_lt : (bs : List ℕ) → Bytes bs → number_of bs < 256 ^ length bs
unfolding number_of
number_lt [] s = omega arith
number_lt (b ∷ bs) s = rw (pow-suc 256 (length bs)) (below b (256 ^ length bs) (number_of bs) s.0 (number_lt bs s.1))

shifted : (x P m b n : ℕ) → n ≡ m * 256 + b → x * (P * 256) + n ≡ (x * P + m) * 256 + b
shifted x P m b n e = omega arith

-- one byte more behind: what stood before counts 256 times as much
pub number_snoc : (bs : List ℕ) (b : ℕ) → number_of (bs ++ (b ∷ [])) ≡ number_of bs * 256 + b
unfolding number_of
number_snoc [] b = omega arith
number_snoc (x ∷ bs) b =
    ap (λ (n : ℕ). x * 256 ^ n + number_of (bs ++ (b ∷ []))) (length-append bs (b ∷ []) ∙ add-one (length bs))
    ∙ rw (pow-suc 256 (length bs)) (shifted x (256 ^ length bs) (number_of bs) b (number_of (bs ++ (b ∷ []))) (number_snoc bs b))

-- bytes of one length that make the same number are the same
pub number_injective : (xs ys : List ℕ) → length xs ≡ length ys → Bytes xs → Bytes ys → number_of xs ≡ number_of ys → xs ≡ ys
unfolding number_of
number_injective [] [] e s t p = refl
number_injective [] (y ∷ ys) e s t p = absurd (omega arith)
number_injective (x ∷ xs) [] e s t p = absurd (omega arith)
number_injective (x ∷ xs) (y ∷ ys) e s t p =
    let l : length xs ≡ length ys = omega arith in
    let hx : number_of xs < 256 ^ length xs = number_lt xs s.1 in
    let hy : number_of ys < 256 ^ length xs = rw l (number_lt ys t.1) in
    let q : x * 256 ^ length xs + number_of xs ≡ y * 256 ^ length xs + number_of ys = p ∙ ap (λ (n : ℕ). y * 256 ^ n + number_of ys) (sym l) in
    let a : x ≡ y = sym (digits_div x hx) ∙ ap (λ (n : ℕ). n / 256 ^ length xs) q ∙ digits_div y hy in
    let b : number_of xs ≡ number_of ys = sym (digits_mod x hx) ∙ ap (λ (n : ℕ). n % 256 ^ length xs) q ∙ digits_mod y hy in
    ap₂ (λ (h : ℕ) (r : List ℕ). h ∷ r) a (number_injective xs ys l s.1 t.1 b)

-- ---- the bytes of a number

pub length_bytes_of : (k n : ℕ) → length (bytes_of k n) ≡ k
unfolding bytes_of
length_bytes_of zero n = refl
length_bytes_of (suc k) n = length-append (bytes_of k (n / 256)) (n % 256 ∷ []) ∙ ap (λ (m : ℕ). m + 1) (length_bytes_of k (n / 256)) ∙ add-one k

pub bytes_bytes_of : (k n : ℕ) → Bytes (bytes_of k n)
unfolding bytes_of
bytes_bytes_of zero n = tt
bytes_bytes_of (suc k) n = bytes_append (bytes_of k (n / 256)) (n % 256 ∷ []) (bytes_bytes_of k (n / 256)) (omega arith, tt)

pow_positive : (k : ℕ) → 0 < 256 ^ k
pow_positive k = pow-le-pow_right (omega arith) {i = 0} {j = k} (omega arith)

-- k bytes hold a number's remainder by 256 ^ k
pub number_bytes_of_mod : (k n : ℕ) → number_of (bytes_of k n) ≡ n % 256 ^ k
unfolding number_of bytes_of
number_bytes_of_mod zero n = sym (mod-one n)
number_bytes_of_mod (suc k) n =
    number_snoc (bytes_of k (n / 256)) (n % 256)
    ∙ ap (λ (m : ℕ). m * 256 + n % 256) (number_bytes_of_mod k (n / 256))
    ∙ sym (ap (λ (m : ℕ). n % m) (pow-suc 256 k) ∙ mod-mul n (pow_positive k) (omega arith))

-- so a number below 256 ^ k is that of its k bytes
pub number_bytes_of : (k n : ℕ) → n < 256 ^ k → number_of (bytes_of k n) ≡ n
number_bytes_of k n h = number_bytes_of_mod k n ∙ mod-eq_of_lt h

-- bytes are those of their number
pub bytes_of_number : (bs : List ℕ) → Bytes bs → bytes_of (length bs) (number_of bs) ≡ bs
bytes_of_number bs s =
    number_injective (bytes_of (length bs) (number_of bs)) bs (length_bytes_of (length bs) (number_of bs)) (bytes_bytes_of (length bs) (number_of bs)) s
    (number_bytes_of (length bs) (number_of bs) (number_lt bs s))

-- ---- one byte at a time

-- what is read of bytes so far, and the bytes left to read: their number is that of all
abbrev pub Left : ℕ → List ℕ → ℕ → Type 0
Left n bs all = n * 256 ^ length bs + number_of bs ≡ all

taken : (n b P z : ℕ) → n * (P * 256) + (b * P + z) ≡ (n * 256 + b) * P + z
taken n b P z = omega arith

-- the next byte is taken in
pub left_next : (n b : ℕ) (bs : List ℕ) (all : ℕ) → Left n (b ∷ bs) all → Left (n * 256 + b) bs all
unfolding number_of
left_next n b bs all e = sym (ap (λ (p : ℕ). n * p + (b * 256 ^ length bs + number_of bs)) (pow-suc 256 (length bs)) ∙ taken n b (256 ^ length bs) (number_of bs)) ∙ e

pub left_none : (n all : ℕ) → Left n [] all → n ≡ all
unfolding number_of
left_none n all e = omega arith

-- and what is read so far of eight bytes or fewer fits 64 bits
pub left_fits : (n : ℕ) (bs all : List ℕ) → Bytes all → Left n bs (number_of (take 8 all)) → n < 2 ^ 64
left_fits n bs all s e =
    let p : 1 ≤ 256 ^ length bs = pow_positive (length bs) in
    let l : length (take 8 all) ≤ 8 = omega (arith, length-take 8 all) in
    let q : 256 ^ length (take 8 all) ≤ 256 ^ 8 = pow-le-pow_right (omega arith) l in
    omega (arith, mul-le-mul_left n p, number_lt (take 8 all) (bytes_take 8 all s))

-- the last byte but j of a number goes to its place, and the higher ones are left to write
pub bytes_of_store : (j n : ℕ) (out : List ℕ) → j < length out → bytes_of (suc j) n ++ drop (suc j) out ≡ bytes_of j (n / 256) ++ drop j (set out j (n % 256))
unfolding bytes_of
bytes_of_store j n out h =
    append_assoc (bytes_of j (n / 256)) (n % 256 ∷ []) (drop (suc j) out)
    ∙ ap (λ (l : List ℕ). bytes_of j (n / 256) ++ l)
    (sym (ap (drop j) (set_split out j (n % 256) h) ∙ drop_at (take j out) (n % 256 ∷ drop (suc j) out) j (length-take-le j out (omega arith))))
