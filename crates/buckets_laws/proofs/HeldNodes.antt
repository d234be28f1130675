-- The nodes that all buckets hold, by what each holds: a node is held where a bucket holds it, and a key that stays held in each bucket stays held. Of whole
-- buckets: each node that one holds belongs to it, and has the fields of a value where the memory is bytes. Assumes nothing.
use mathlib.Core.Path.{◌≡◌, ◌∙◌, refl, sym}
use mathlib.Core.Bool.{Bool, true, false, ◌||◌}
use mathlib.Core.List.{List, ◌++◌}
use mathlib.Core.Logic.{◌⊎◌, inl, inr}
use Prim.Native.Nat.{ℕ, zero, suc, ◌<◌}
use native.Mathlib.Nat.{not-suc-le-zero}
use native.Mathlib.Omega.{arith}
use lib.Dec.{eqb}
use borrow.Author.Tests.{eqb-true, eqb-false}
use Rattle.wire.specs.Numbers.{Bytes}
use Rattle.node.specs.declared.Node.{Node}
use Rattle.nearest.specs.Effect.{holds}
use Rattle.nearest.specs.Sequence.{In}
use Rattle.lent_list_laws.specs.Layout.{Fits}
use Rattle.table_laws.proofs.KeyOrder.{no}
use Rattle.buckets_laws.specs.Layout.{base_of, bucket_at, held_in, held_below, held_nodes}
use Rattle.buckets_laws.specs.Whole.{belongs, buckets_whole}
use Rattle.buckets_laws.proofs.WholeLaws.{whole_bucket, bucket_table, bucket_belong}
use Rattle.buckets_laws.proofs.NodeLists.{in_front, in_behind, in_either, holds_append, belong_each}
use Rattle.buckets_laws.proofs.BucketLaws.{nodes_fit}
use Rattle.buckets_laws.proofs.BucketStored.{bucket_bytes}

-- ---- held, and held in a bucket

module _ (m : List ℕ) where
  held_below_in : (i : ℕ) (x : Node) (b : ℕ) → b < i → In x (held_in m b) → In x (held_below m i)
  unfolding held_below
  held_below_in zero x b h j = absurd (not-suc-le-zero h)
  held_below_in (suc i) x b h j = go (eqb b i) refl (held_below_in i x b)
    where
      go : (u : Bool) → eqb b i ≡ u → (b < i → In x (held_in m b) → In x (held_below m i)) → In x (held_below m i ++ held_in m i)
      go true e ih = in_behind (held_below m i) (held_in m i) x (rw (eqb-true b i e) at j)
      go false e ih = let d = eqb-false b i e in in_front (held_below m i) (held_in m i) x (ih (omega (arith, d, h)) j)

  -- what one bucket holds is held
  pub in_bucket_held : (x : Node) (b : ℕ) → b < 256 → In x (held_in m b) → In x (held_nodes m)
  unfolding held_nodes
  in_bucket_held x b h j = held_below_in 256 x b h j

  below_in_held : (i : ℕ) (x : Node) → In x (held_below m i) → (b : ℕ) × (b < i) × In x (held_in m b)
  unfolding held_below
  below_in_held zero x j = absurd j
  below_in_held (suc i) x j = go (in_either (held_below m i) (held_in m i) x j) (below_in_held i x)
    where
      go : In x (held_below m i) ⊎ In x (held_in m i) → (In x (held_below m i) → (b : ℕ) × (b < i) × In x (held_in m b)) → (b : ℕ) × (b < suc i) × In x (held_in m b)
      go (inl j) ih = let w = ih j in let l = w.1 in (w.0, omega arith, w.2)
      go (inr j) ih = (i, omega arith, j)

  -- what is held is held in a bucket
  pub held_in_bucket : (x : Node) → In x (held_nodes m) → (b : ℕ) × (b < 256) × In x (held_in m b)
  unfolding held_nodes
  held_in_bucket x j = below_in_held 256 x j

module _ (m l : List ℕ) (k : List ℕ) where
  below_holds : (i : ℕ) → ((b : ℕ) → b < i → holds k (held_in m b) ≡ true → holds k (held_in l b) ≡ true)
      → holds k (held_below m i) ≡ true → holds k (held_below l i) ≡ true
  unfolding held_below
  below_holds zero each h = h
  below_holds (suc i) each h =
      holds_append k (held_below l i) (held_in l i)
      ∙ go (holds k (held_below m i)) (holds k (held_in m i)) (holds k (held_below l i)) (below_holds i (λ b q. each b (omega arith))) (each i (omega arith))
      (sym (holds_append k (held_below m i) (held_in m i)) ∙ h)
    where
      go : (a c x : Bool) {y : Bool} → (a ≡ true → x ≡ true) → (c ≡ true → y ≡ true) → (a || c) ≡ true → (x || y) ≡ true
      go a c true f g e = refl
      go true c false f g e = absurd (no (f refl))
      go false c false f g e = g e

  -- a key held stays held where it does in each bucket
  pub held_each : ((b : ℕ) → b < 256 → holds k (held_in m b) ≡ true → holds k (held_in l b) ≡ true) → holds k (held_nodes m) ≡ true → holds k (held_nodes l) ≡ true
  unfolding held_nodes
  held_each = below_holds 256

-- ---- in whole buckets

module _ (m : List ℕ) (w : buckets_whole m ≡ true) where
  -- a node that bucket b holds belongs to it
  pub bucket_belongs : (b : ℕ) → b < 256 → (x : Node) → In x (held_in m b) → belongs (base_of m) b x ≡ true
  bucket_belongs b h x i = belong_each (base_of m) b (held_in m b) (bucket_belong (base_of m) b (bucket_at m b) (whole_bucket m w b h)) x i

  pub bucket_fits : Bytes m → (b : ℕ) → b < 256 → (x : Node) → In x (held_in m b) → Fits x
  bucket_fits g b h x i = nodes_fit (bucket_at m b) (bucket_table (base_of m) b (bucket_at m b) (whole_bucket m w b h)) (bucket_bytes m b g) x i

  -- a node that is held has the fields of a value: its key is a key
  pub held_fits : Bytes m → (x : Node) → In x (held_nodes m) → Fits x
  held_fits g x i = let q = held_in_bucket m x i in bucket_fits g q.0 q.1 x q.2
