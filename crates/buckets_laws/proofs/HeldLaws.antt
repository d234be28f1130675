-- What whole buckets hold. Document 02, request 05: "256 buckets by a base key, each of up to 8 nodes", "A key's bucket is the number of leading bits it shares
-- with the base key", "The base key is never held". Each node held stands in its key's bucket and is of known family, no key is held twice, and a bucket has at
-- most 8. Assumes nothing.
use mathlib.Core.Path.{◌≡◌, ◌∙◌, sym, ap, subst}
use mathlib.Core.Bool.{true, false}
use mathlib.Core.Logic.{⊎_elim}
use mathlib.Core.List.{List}
use Prim.Native.Nat.{ℕ, zero, suc, ◌<◌, ◌≤◌}
use native.Mathlib.Omega.{arith}
use lib.Dec.{eqb}
use lib.ListN.{length}
use lib.Seq.{length-take-le}
use borrow.Author.Tests.{eqb-true}
use Rattle.wire.specs.Numbers.{Bytes}
use Rattle.key.specs.Bits.{shared_bits}
use Rattle.key.proofs.Bits.{shared_self}
use Rattle.node.specs.declared.Node.{Node}
use Rattle.node.specs.Families.{known_family}
use Rattle.nearest.specs.Lists.{node_key, all_known}
use Rattle.nearest.specs.Effect.{holds}
use Rattle.nearest.specs.Sequence.{In, Keyed}
use Rattle.nearest.proofs.Members.{in_free}
use Rattle.nearest.proofs.Known.{each_known}
use Rattle.nearest_first.specs.NearestFirst.{Apart}
use Rattle.table_laws.specs.Table.{listed, record_at, key_at, is_table}
use Rattle.table_laws.proofs.KeyOrder.{both}
use Rattle.table_laws.proofs.Listed.{whole_rising}
use Rattle.table_laws.proofs.Distinct.{rising_distinct}
use Rattle.table_laws.proofs.TableLaws.{keys_apart}
use Rattle.buckets_laws.specs.Layout.{base_of, bucket_at, bucket_nodes, held_in, held_below, held_nodes}
use Rattle.buckets_laws.specs.Whole.{belongs, buckets_whole}
use Rattle.buckets_laws.proofs.WholeLaws.{bucket_table, table_facts, whole_long, whole_bucket}
use Rattle.buckets_laws.proofs.RecordNodes.{record_key}
use Rattle.buckets_laws.proofs.NodeLists.{in_either}
use Rattle.buckets_laws.proofs.ApartLists.{apart_append, apart_places}
use Rattle.buckets_laws.proofs.BucketLaws.{node_at, nodes_are, nodes_few}
use Rattle.buckets_laws.proofs.HeldNodes.{held_in_bucket, bucket_belongs, held_fits}

-- what it is to belong to bucket b
pub belongs_facts : (base : List ℕ) (b : ℕ) (n : Node) → belongs base b n ≡ true → (shared_bits base (node_key n) ≡ b) × (known_family n.family ≡ true)
unfolding belongs
belongs_facts base b n h = let q = both (eqb (shared_bits base (node_key n)) b) _ h in (eqb-true (shared_bits base (node_key n)) b q.0, q.1)

-- the keys that a table lists strictly rise, so none stands twice
pub bucket_apart : (t : List ℕ) → is_table 8 51 t ≡ true → Apart (bucket_nodes t)
bucket_apart t h =
    let w = (table_facts t h).1 in
    subst Apart (sym (nodes_are t))
    (apart_places (node_at t) (listed 8 t) (rising_distinct 8 (key_at 8 51 t) (listed 8 t) (whole_rising 8 51 t w))
    (λ x y i j e. keys_apart 8 51 t w (omega arith) x y i j (sym (record_key (record_at 8 51 t x)) ∙ e ∙ record_key (record_at 8 51 t y))))

module _ (m : List ℕ) (whole : buckets_whole m ≡ true) where
  is_table_lem : (b : ℕ) → b < 256 → is_table 8 51 (bucket_at m b) ≡ true
  is_table_lem b l = bucket_table (base_of m) b (bucket_at m b) (whole_bucket m whole b l)

  -- "A key's bucket is the number of leading bits it shares with the base key."
  pub held_shares : (b : ℕ) → b < 256 → (n : Node) → In n (held_in m b) → shared_bits (base_of m) (node_key n) ≡ b
  held_shares b l n i = (belongs_facts (base_of m) b n (bucket_belongs m whole b l n i)).0

  pub held_where : (n : Node) → In n (held_nodes m) → In n (held_in m (shared_bits (base_of m) (node_key n)))
  held_where n i =
      let w = held_in_bucket m n i in
      subst (λ (b : ℕ). In n (held_in m b)) (sym (held_shares w.0 w.1 n w.2)) w.2

  -- "each of up to 8 nodes"
  pub held_few : (b : ℕ) → b < 256 → length (held_in m b) ≤ 8
  held_few b l = nodes_few (bucket_at m b) (is_table_lem b l)

  pub held_known : all_known (held_nodes m) ≡ true
  held_known =
      each_known (held_nodes m)
      (λ n i. let w = held_in_bucket m n i in (belongs_facts (base_of m) w.0 n (bucket_belongs m whole w.0 w.1 n w.2)).1)

  -- the nodes of the first k buckets share fewer than k bits with the base key
  below_shares : (k : ℕ) → k ≤ 256 → (n : Node) → In n (held_below m k) → shared_bits (base_of m) (node_key n) < k
  unfolding held_below
  below_shares zero h n i = absurd i
  below_shares (suc k) h n i =
      ⊎_elim (λ (j : In n (held_below m k)). let r = below_shares k (omega arith) n j in omega arith)
      (λ (j : In n (held_in m k)). let r = held_shares k h n j in omega arith) (in_either (held_below m k) (held_in m k) n i)

  -- so their keys differ from those of the next
  apart_below : (k : ℕ) → k ≤ 256 → Apart (held_below m k)
  unfolding held_below
  apart_below zero h = tt
  apart_below (suc k) h =
      apart_append (held_below m k) (held_in m k) (apart_below k (omega arith)) (bucket_apart (bucket_at m k) (is_table_lem k h))
      (λ x y i j e.
      let p = below_shares k (omega arith) x i in
      let q = held_shares k h y j in
      let s = ap (shared_bits (base_of m)) e in
      omega arith)

  -- no key is held twice
  pub held_apart : Apart (held_nodes m)
  unfolding held_nodes
  held_apart = apart_below 256 (omega arith)

  -- "The base key is never held": it shares 256 bits with itself
  pub base_not_held : holds (base_of m) (held_nodes m) ≡ false
  base_not_held =
      in_free (base_of m) (held_nodes m)
      (λ n i e.
      let w = held_in_bucket m n i in
      let l = w.1 in
      let p = held_shares w.0 l n w.2 in
      let s = ap (shared_bits (base_of m)) e in
      let f = shared_self (base_of m) in
      let k = length-take-le 32 m (let z = whole_long m whole in omega arith) in
      omega arith)

  -- each key is a key
  pub held_keyed : Bytes m → Keyed (held_nodes m)
  held_keyed bytes n i = (held_fits m whole bytes n i).1.key
