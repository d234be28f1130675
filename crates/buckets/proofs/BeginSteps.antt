-- Buckets begun: zeros behind the first 32 bytes, and then the base key over those. Assumes nothing.
use Rattle.std.proofs.Common.{Ok, Err}
use mathlib.Core.Path.{◌≡◌, ◌∙◌, sym, ap, ap₂}
use mathlib.Core.List.{List, ◌++◌}
use Prim.Native.Nat.{ℕ, ◌+◌, ◌≤◌, ◌<◌}
use lib.ListN.{length, take, drop, replicate}
use lib.Seq.{length-take-le, take_at, drop_at, drop-drop}
use borrow.Rule.Slice.PartMut.{post_of, put_mid}
use borrow.Author.Tests.{le-leb, lt-leb}
use Rattle.wire.specs.Numbers.{Bytes}
use Rattle.refusal.specs.declared.Refusal.TheVariants.{OutputTooShort}
use Rattle.key.specs.declared.Key.{Key}
use Rattle.key.specs.Keys.{IsKey, with_key}
use Rattle.key.proofs.Lent.{with_key_whole}
use Rattle.buckets_laws.specs.Calls.{zeros, begun_answer, begun_memory, Begins}

-- what stands behind the first a bytes, of which the next k were written
pub behind_written : (a k n : ℕ) (m f : List ℕ) → a ≤ length m → n ≡ a + k → post_of 0 a (put_mid a k m f) ≡ f ++ drop n m
behind_written a k n m f h e =
    drop_at (take a m) (f ++ drop k (drop a m)) a (length-take-le a m h) ∙ ap (λ (x : List ℕ). f ++ x) (drop-drop k a m ∙ ap (λ (x : ℕ). drop x m) (sym e))

pub front_length : (a k : ℕ) (m f : List ℕ) → a ≤ length m → length (take a (put_mid a k m f)) ≡ a
front_length a k m f h = ap length (take_at (take a m) (f ++ drop k (drop a m)) a (length-take-le a m h)) ∙ length-take-le a m h

-- zeros as they are filled in
pub zeros_filled : (n k : ℕ) (f : List ℕ) → f ≡ replicate n 0 → n ≡ k → f ≡ zeros k
unfolding zeros
zeros_filled n k f e q = e ∙ ap (λ (x : ℕ). replicate x 0) q

module _ (m : List ℕ) (long : 106784 ≤ length m) (base : Key) (bytes : Bytes m) (key : IsKey base.0) where
  -- zeros behind the first 32 bytes, and then the base key over those
  pub begun_done : (filled last part : List ℕ) → filled ≡ zeros 106752 → length part ≡ 32 → last ≡ with_key base.0 part
      → Begins base m (last ++ (filled ++ drop 106784 m)) (Ok tt)
  unfolding begun_answer begun_memory
  begun_done filled last part f e w =
      record {
        bytes = bytes;
        key = key;
        answers = rw (le-leb 106784 (length m) long);
        leaves =
            rw (le-leb 106784 (length m) long)
            (ap₂ (λ (x y : List ℕ). x ++ y) (w ∙ with_key_whole base.0 part e) (ap (λ (x : List ℕ). x ++ drop 106784 m) f));
      }

pub begun_short : (base : Key) (m : List ℕ) → Bytes m → IsKey base.0 → length m < 106784 → Begins base m m (Err OutputTooShort)
unfolding begun_answer begun_memory
begun_short base m bytes key h = record { bytes = bytes; key = key; answers = rw (lt-leb 106784 (length m) h); leaves = rw (lt-leb 106784 (length m) h) }
