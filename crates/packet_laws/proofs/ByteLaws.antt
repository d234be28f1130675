-- Laws of the bytes of a packet: its first byte and the rest, and lists of few bytes. Assumes nothing.
use mathlib.Core.Path.{◌≡◌, ◌∙◌, refl, sym, ap}
use mathlib.Core.List.{List, [], ◌∷◌}
use Prim.Native.Nat.{ℕ, ◌-◌, ◌<◌, ◌≤◌, ◌^◌}
use native.Mathlib.Omega.{arith}
use lib.ListN.{length, get_or, take, length-drop}
use lib.Seq.{take_all}
use Rattle.wire.specs.Numbers.{Bytes, number_of, bytes_of}
use Rattle.wire.proofs.Numbers.{bytes_of_number, number_bytes_of, length_bytes_of, number_lt, bytes_get_d}
use Rattle.packet_laws.specs.Table.{kind_of, body_of}

pub kind_and_body : (bytes : List ℕ) → 1 ≤ length bytes → bytes ≡ kind_of bytes ∷ body_of bytes
unfolding kind_of body_of
kind_and_body [] h = absurd (omega arith)
kind_and_body (b ∷ bs) h = refl

pub length_body : (bytes : List ℕ) → length (body_of bytes) ≡ length bytes - 1
unfolding body_of
length_body bytes = length-drop 1 bytes

pub one_byte : (bytes : List ℕ) → length bytes ≡ 1 → bytes ≡ get_or bytes 0 0 ∷ []
one_byte [] e = absurd (omega arith)
one_byte (x ∷ []) e = refl
one_byte (x ∷ y ∷ bytes) e = absurd (omega arith)

-- eight bytes are those of their number, and a number of 64 bits is that of its eight bytes
pub word_bytes : (bytes : List ℕ) → length bytes ≡ 8 → Bytes bytes → bytes_of 8 (number_of (take 8 bytes)) ≡ bytes
word_bytes bytes e s =
    ap (λ (l : List ℕ). bytes_of 8 (number_of l)) (take_all 8 bytes (omega arith))
    ∙ ap (λ (n : ℕ). bytes_of n (number_of bytes)) (sym e) ∙ bytes_of_number bytes s

pub word_number : (n : ℕ) → n < 2 ^ 64 → number_of (take 8 (bytes_of 8 n)) ≡ n
word_number n h = ap number_of (take_all 8 (bytes_of 8 n) (let e = length_bytes_of 8 n in omega arith)) ∙ number_bytes_of 8 n h

pub word_fits : (bytes : List ℕ) → length bytes ≡ 8 → Bytes bytes → number_of (take 8 bytes) < 2 ^ 64
word_fits bytes e s =
    rw (take_all 8 bytes (omega arith)) (let h = number_lt bytes s in let q : number_of bytes < 256 ^ 8 = rw e at h in q)

pub kind_byte : (bytes : List ℕ) → Bytes bytes → kind_of bytes < 256
unfolding kind_of
kind_byte bytes s = bytes_get_d 0 bytes s
