-- What `{:016x}` writes of the number that eight bytes make: each byte in two hexadecimal digits. Assumes nothing.
use mathlib.Core.Path.{◌≡◌, ◌∙◌, refl, sym, ap, subst}
use mathlib.Core.Bool.{Bool, true, false, cond}
use mathlib.Core.List.{List, [], ◌∷◌, ◌++◌, append_assoc, append-nil}
use Prim.Native.Nat.{ℕ, zero, suc, ◌+◌, ◌-◌, ◌*◌, ◌/◌, ◌%◌, ◌^◌, ◌<◌, ◌≤◌}
use native.Mathlib.Omega.{arith}
use native.Mathlib.Nat.{pow-suc}
use lib.Dec.{eqb}
use lib.ListN.{length, take, replicate}
use lib.Seq.{length-take-le}
use borrow.Author.Tests.{eqb-true, eqb-false}
use Rattle.std.specs.Fmt.{digit_glyph, digits_onto, digits, format_spec, padded_integral, char_count}
use Rattle.std.specs.List.{flat_map}
use Rattle.std.proofs.lemmas.Grind.{flat_map-append}
use Rattle.wire.specs.Numbers.{Bytes, number_of, bytes_of}
use Rattle.wire.proofs.Numbers.{bytes_take, number_lt, bytes_of_number}
use Rattle.key.specs.Keys.{IsKey}
use Rattle.key.specs.Text.{two_digits}

-- the last k hexadecimal digits of a number, zeros too, before acc
abbrev last_digits : ℕ → ℕ → List ℕ → List ℕ
last_digits zero n acc = acc
last_digits (suc k) n acc = last_digits k (n / 16) (digit_glyph false (n % 16) ∷ acc)

zero_behind : (k : ℕ) (acc : List ℕ) → replicate k 48 ++ (48 ∷ acc) ≡ 48 ∷ (replicate k 48 ++ acc)
zero_behind zero acc = refl
zero_behind (suc k) acc = ap (λ (l : List ℕ). 48 ∷ l) (zero_behind k acc)

-- those of 0 are zeros
of_zero : (k : ℕ) (acc : List ℕ) → last_digits k 0 acc ≡ replicate k 48 ++ acc
of_zero zero acc = refl
of_zero (suc k) acc = of_zero k (48 ∷ acc) ∙ zero_behind k acc

-- digits with zeros before them up to k are the last k digits
filled : (k i n : ℕ) (acc : List ℕ) → 0 < k → k ≤ i → n < 16 ^ k
    → replicate (k + length acc - length (digits_onto i 16 false n acc)) 48 ++ digits_onto i 16 false n acc ≡ last_digits k n acc
filled zero i n acc some long small = absurd (omega arith)
filled (suc k) zero n acc some long small = absurd (omega arith)
filled (suc k) (suc i) n acc some long small = by (eqb (n / 16) 0) refl
    (λ left. filled k i (n / 16) (digit_glyph false (n % 16) ∷ acc) (positive k below left) (omega arith) (omega (arith, below)))
  where
    more : List ℕ
    more = digit_glyph false (n % 16) ∷ acc

    below : n < 16 ^ k * 16
    below = subst (λ (p : ℕ). n < p) (pow-suc 16 k) small

    positive : (j : ℕ) → n < 16 ^ j * 16 → (n / 16 ≡ 0 → ⊥) → 0 < j
    positive zero low left = absurd (left (omega arith))
    positive (suc j) low left = omega arith

    onto : List ℕ
    onto = digits_onto i 16 false (n / 16) more

    by : (last : Bool) → eqb (n / 16) 0 ≡ last
        → ((n / 16 ≡ 0 → ⊥) → replicate (k + length more - length onto) 48 ++ onto ≡ last_digits k (n / 16) more)
        → replicate (suc k + length acc - length (cond last more onto)) 48 ++ cond last more onto ≡ last_digits k (n / 16) more
    by true e rest =
        ap (λ (m : ℕ). replicate m 48 ++ more) {x = suc k + length acc - suc (length acc)} {y = k} (omega arith)
        ∙ sym (of_zero k more) ∙ ap (λ (m : ℕ). last_digits k m more) (sym (eqb-true _ _ e))
    by false e rest =
        ap (λ (m : ℕ). replicate (m - length onto) 48 ++ onto) {x = suc k + length acc} {y = k + suc (length acc)} (omega arith) ∙ rest (eqb-false _ _ e)

-- twice a number
abbrev double : ℕ → ℕ
double zero = zero
double (suc k) = suc (suc (double k))

-- two digits for each byte
in_pairs : (k n : ℕ) (acc : List ℕ) → last_digits (double k) n acc ≡ flat_map two_digits (bytes_of k n) ++ acc
unfolding bytes_of
in_pairs zero n acc = refl
in_pairs (suc k) n acc =
    let rest : n / 16 / 16 ≡ n / 256 = omega arith in
    let high : n / 16 % 16 ≡ n % 256 / 16 = omega arith in
    let low : n % 16 ≡ n % 256 % 16 = omega arith in
    in_pairs k (n / 16 / 16) (digit_glyph false (n / 16 % 16) ∷ digit_glyph false (n % 16) ∷ acc)
    ∙ (λ t. flat_map two_digits (bytes_of k (rest t)) ++ (digit_glyph false (high t) ∷ digit_glyph false (low t) ∷ acc))
    ∙ sym (append_assoc (flat_map two_digits (bytes_of k (n / 256))) (two_digits (n % 256)) acc)
    ∙ ap (λ (l : List ℕ). l ++ acc) (sym (flat_map-append two_digits (bytes_of k (n / 256)) (n % 256 ∷ [])))

-- a number's digits as `{:016x}` lays them out
spelled : (n : ℕ) → n < 16 ^ 16 → padded_integral (format_spec 32 0 4 16 (2 ^ 64 - 1)) false [] (digits 16 false n) ≡ last_digits 16 n []
unfolding padded_integral char_count digits
spelled n small =
    let ds : List ℕ = digits_onto 64 16 false n [] in
    ap (λ (m : ℕ). replicate m 48 ++ (ds ++ [])) {x = 16 - length ds - 0 - 0} {y = 16 - length ds} (omega arith)
    ∙ ap (λ (l : List ℕ). replicate (16 - length ds) 48 ++ l) (append-nil ds)
    ∙ filled 16 64 n [] (omega arith) (omega arith) small

of_bytes : (bs : List ℕ) → length bs ≡ 8 → Bytes bs
    → padded_integral (format_spec 32 0 4 16 (2 ^ 64 - 1)) false [] (digits 16 false (number_of bs)) ≡ flat_map two_digits bs
of_bytes bs long fit =
    let small : number_of bs < 256 ^ 8 = subst (λ (k : ℕ). number_of bs < 256 ^ k) long (number_lt bs fit) in
    spelled (number_of bs) small ∙ in_pairs 8 (number_of bs) [] ∙ append-nil (flat_map two_digits (bytes_of 8 (number_of bs)))
    ∙ ap (flat_map two_digits) (ap (λ (k : ℕ). bytes_of k (number_of bs)) (sym long) ∙ bytes_of_number bs fit)

-- so of a key's first eight
pub of_key : (key : List ℕ) → IsKey key
    → padded_integral (format_spec 32 0 4 16 (2 ^ 64 - 1)) false [] (digits 16 false (number_of (take 8 key))) ≡ flat_map two_digits (take 8 key)
of_key key is = of_bytes (take 8 key) (length-take-le 8 key (omega (arith, is.long))) (bytes_take 8 key is.bytes)
