-- Document 02: "nothing after the first byte in which the two keys differ, in them or the target, changes one." Assumes nothing.
use mathlib.Core.Path.{◌≡◌, ◌∙◌, sym, ap₂}
use mathlib.Core.Bool.{Bool, false}
use mathlib.Core.List.{List}
use Prim.Native.Nat.{ℕ}
use native.Mathlib.Omega.{arith}
use lib.Bits.{bit_xor}
use lib.Dec.{ltb}
use lib.ListN.{get_or}
use Rattle.wire.proofs.Numbers.{bytes_get_d}
use Rattle.key.specs.Keys.{IsKey, nearer, Compares}
use Rattle.key.specs.First.{SameTo, FirstDiffers}
use Rattle.key.proofs.Cancel.{xor_cancels, le_not_nearer}
use Rattle.key.proofs.Distance.{first_difference_decides}

-- the first byte in which two keys differ decides which is nearer
decided : (t a b : List ℕ) → IsKey t → IsKey a → IsKey b → (i : ℕ) → FirstDiffers i a b
    → nearer t a b ≡ ltb (bit_xor (get_or t i 0) (get_or a i 0)) (bit_xor (get_or t i 0) (get_or b i 0))
decided t a b ht ha hb i d =
    first_difference_decides t a b ht ha hb i d.within (λ j h. d.before j (omega arith))
    (λ e. d.there (xor_cancels 8 (get_or t i 0) (get_or a i 0) (get_or b i 0) (bytes_get_d i a ha.bytes) (bytes_get_d i b hb.bytes) e))

-- two triples of keys with the same bytes up to and with that one have one answer
pub tail_changes_nothing : (t a b t' a' b' : List ℕ) → IsKey t → IsKey a → IsKey b → IsKey t' → IsKey a' → IsKey b'
    → (i : ℕ) → FirstDiffers i a b → SameTo i t t' → SameTo i a a' → SameTo i b b' → nearer t a b ≡ nearer t' a' b'
tail_changes_nothing t a b t' a' b' ht ha hb ht' ha' hb' i d st sa sb =
    let d' : FirstDiffers i a' b' = record {
      within = d.within;
      before = λ j h. sym (sa j (omega arith)) ∙ d.before j (omega arith) ∙ sb j (omega arith);
      there = λ e. d.there (sa i (omega arith) ∙ e ∙ sym (sb i (omega arith)));
    } in
    decided t a b ht ha hb i d
    ∙ ap₂ ltb (ap₂ bit_xor (st i (omega arith)) (sa i (omega arith))) (ap₂ bit_xor (st i (omega arith)) (sb i (omega arith)))
    ∙ sym (decided t' a' b' ht' ha' hb' i d')

-- so of two comparisons
pub compared_by_the_front : (t a b t' a' b' : List ℕ) (answer answer' : Bool) → Compares t a b answer → Compares t' a' b' answer'
    → (i : ℕ) → FirstDiffers i a b → SameTo i t t' → SameTo i a a' → SameTo i b b' → answer ≡ answer'
compared_by_the_front t a b t' a' b' answer answer' c c' i d st sa sb =
    c.answers
    ∙ tail_changes_nothing t a b t' a' b' c.target_key c.a_key c.b_key c'.target_key c'.a_key c'.b_key i d st sa sb
    ∙ sym c'.answers

-- and where there is no first difference, neither is nearer
pub same_compared : (t a : List ℕ) (answer : Bool) → Compares t a a answer → answer ≡ false
same_compared t a answer c = c.answers ∙ le_not_nearer t a a (omega arith)
