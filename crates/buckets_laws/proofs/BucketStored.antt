-- Memory with the bytes of one bucket replaced: that bucket is what was put there; the base key, every other bucket, the length and what stands behind the
-- buckets stay. Assumes nothing.
use mathlib.Core.Path.{◌≡◌, ◌∙◌, refl, sym, ap}
use mathlib.Core.Bool.{Bool, true, false}
use mathlib.Core.List.{List, ◌++◌, append_assoc}
use Prim.Native.Nat.{ℕ, ◌+◌, ◌*◌, ◌-◌, ◌≤◌, ◌<◌}
use native.Mathlib.Omega.{arith}
use lib.Dec.{eqb}
use lib.ListN.{length, take, drop, length-append, length-drop}
use lib.Seq.{length-take-le, take_at, drop_at, drop-drop}
use borrow.Author.Tests.{eqb-true, eqb-false}
use Rattle.wire.specs.Numbers.{Bytes}
use Rattle.wire.proofs.Numbers.{bytes_take, bytes_drop}
use Rattle.key.specs.Keys.{IsKey}
use Rattle.table_laws.specs.Bytes.{splice}
use Rattle.table_laws.proofs.Stores.{splice_add, length_splice}
use Rattle.table_laws.proofs.Places.{part, part_same, part_other}
use Rattle.table_laws.proofs.BytesKept.{bytes_splice}
use Rattle.buckets_laws.specs.Layout.{base_of, bucket_at, with_bucket}

-- the base key is a key
pub base_key_lem : (m : List ℕ) → Bytes m → 106784 ≤ length m → IsKey (base_of m)
base_key_lem m b l = record { long = length-take-le 32 m (omega arith); bytes = bytes_take 32 m b }

pub bucket_bytes : (m : List ℕ) (b : ℕ) → Bytes m → Bytes (bucket_at m b)
unfolding bucket_at
bucket_bytes m b g = bytes_take 417 (drop (32 + b * 417) m) (bytes_drop (32 + b * 417) m g)

-- a bucket is one of the parts of 417 bytes behind the base key
bucket_part : (m : List ℕ) (c : ℕ) → bucket_at m c ≡ part 417 c (drop 32 m)
unfolding bucket_at
bucket_part m c = ap (take 417) (sym (drop-drop (c * 417) 32 m))

-- ---- one bucket replaced

module _ (m : List ℕ) (b : ℕ) (t : List ℕ) where
  pub stored_bytes : Bytes m → Bytes t → Bytes (with_bucket m b t)
  unfolding with_bucket
  stored_bytes g h = bytes_splice m (32 + b * 417) t 417 g h

  stored_is : with_bucket m b t ≡ take 32 m ++ splice (drop 32 m) (b * 417) t 417
  unfolding with_bucket
  stored_is = splice_add m t 32 (b * 417) 417

  module _ (long : 106784 ≤ length m) where
    first : length (take 32 m) ≡ 32
    first = length-take-le 32 m (omega arith)

    pub stored_base : base_of (with_bucket m b t) ≡ base_of m
    stored_base = ap (take 32) stored_is ∙ take_at (take 32 m) (splice (drop 32 m) (b * 417) t 417) 32 first

    stored_parts : drop 32 (with_bucket m b t) ≡ splice (drop 32 m) (b * 417) t 417
    stored_parts = ap (drop 32) stored_is ∙ drop_at (take 32 m) (splice (drop 32 m) (b * 417) t 417) 32 first

    inside : (c : ℕ) → c < 256 → c * 417 + 417 ≤ length (drop 32 m)
    inside c h = rw length-drop (omega arith)

    module _ (low : b < 256) (size : length t ≡ 417) where
      pub stored_length : length (with_bucket m b t) ≡ length m
      unfolding with_bucket
      stored_length = length_splice m (32 + b * 417) t 417 (omega arith) size

      pub stored_own : bucket_at (with_bucket m b t) b ≡ t
      stored_own = bucket_part (with_bucket m b t) b ∙ ap (part 417 b) stored_parts ∙ part_same 417 b (drop 32 m) t (inside b low) size

      pub stored_other : (c : ℕ) → c < 256 → (c ≡ b → ⊥) → bucket_at (with_bucket m b t) c ≡ bucket_at m c
      stored_other c h d =
          bucket_part (with_bucket m b t) c ∙ ap (part 417 c) stored_parts
          ∙ part_other 417 b c (drop 32 m) t d (inside b low) (inside c h) size ∙ sym (bucket_part m c)

      -- what holds of the bucket put there, and of each other as it was
      pub stored_each : (P : ℕ → List ℕ → Type 0) → P b t → ((c : ℕ) → c < 256 → P c (bucket_at m c)) → (c : ℕ) → c < 256 → P c (bucket_at (with_bucket m b t) c)
      stored_each P own rest c h = go (eqb c b) refl
        where
          go : (u : Bool) → eqb c b ≡ u → P c (bucket_at (with_bucket m b t) c)
          go true e = rw (eqb-true c b e, stored_own) own
          go false e = rw (stored_other c h (eqb-false c b e)) (rest c h)

      past : drop (32 + b * 417 + 417) (with_bucket m b t) ≡ drop (32 + b * 417 + 417) m
      unfolding with_bucket
      past =
          ap (drop (32 + b * 417 + 417)) (sym (append_assoc (take (32 + b * 417) m) t (drop 417 (drop (32 + b * 417) m))))
          ∙ drop_at (take (32 + b * 417) m ++ t) (drop 417 (drop (32 + b * 417) m)) (32 + b * 417 + 417)
          (rw (length-append, length-take-le (32 + b * 417) m (omega arith)) (omega arith))
          ∙ drop-drop 417 (32 + b * 417) m

      -- what stands behind the buckets
      pub stored_behind : drop 106784 (with_bucket m b t) ≡ drop 106784 m
      stored_behind = sym (reach (with_bucket m b t)) ∙ ap (drop (106784 - (32 + b * 417 + 417))) past ∙ reach m
        where
          reach : (l : List ℕ) → drop (106784 - (32 + b * 417 + 417)) (drop (32 + b * 417 + 417) l) ≡ drop 106784 l
          reach l =
              drop-drop (106784 - (32 + b * 417 + 417)) (32 + b * 417 + 417) l
              ∙ ap (λ (k : ℕ). drop k l) (let e : 32 + b * 417 + 417 + (106784 - (32 + b * 417 + 417)) ≡ 106784 = omega arith in e)
