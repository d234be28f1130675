-- One bucket after a node is offered to it, whatever the offer does there: its bytes are a table of the same length, its nodes belong to it, each key that it
-- held is still held, each node of another key stays, and a node that is kept stands in it. Assumes nothing.
use mathlib.Core.Path.{◌≡◌, ◌∙◌, refl, sym, ap, subst}
use mathlib.Core.Bool.{Bool, true, false, cond}
use mathlib.Core.Logic.{◌⊎◌, inl, inr}
use mathlib.Core.List.{List}
use Prim.Native.Nat.{ℕ, ◌≤◌, ◌<◌}
use native.Mathlib.Omega.{arith}
use lib.Dec.{ltb}
use lib.ListN.{length}
use borrow.Author.Tests.{ltb-true, ltb-false}
use Rattle.wire.specs.Numbers.{Bytes}
use Rattle.node.specs.declared.Node.{Node}
use Rattle.nearest.specs.Lists.{node_key}
use Rattle.nearest.specs.Effect.{holds}
use Rattle.nearest.specs.Sequence.{In}
use Rattle.nearest.proofs.Members.{in_replace, replace_in, replaced_in}
use Rattle.lent_list_laws.specs.Layout.{Fits}
use Rattle.table_laws.specs.Table.{is_table, place_of}
use Rattle.table_laws.proofs.KeyOrder.{no}
use Rattle.buckets_laws.specs.Layout.{bucket_nodes}
use Rattle.buckets_laws.specs.Whole.{belongs, all_belong}
use Rattle.buckets_laws.specs.Effect.{BucketEffect, added, replaced, full, taken_by, is_kept, bucket_after}
use Rattle.buckets_laws.proofs.NodeLists.{in_put, put_in, holds_put, holds_replace, belong_each, each_belong}
use Rattle.buckets_laws.proofs.BucketLaws.{bucket_length, added_long, added_table, added_nodes, added_bytes}
use Rattle.buckets_laws.proofs.BucketLaws.{replaced_long, replaced_table, replaced_nodes, replaced_bytes}

-- ---- what a bucket does with a node, by its nodes

module _ (n : Node) (ns : List Node) where
  -- the three ways
  pub taken_ways : (P : BucketEffect → Type 0) → (holds (node_key n) ns ≡ false → length ns < 8 → P added) → (holds (node_key n) ns ≡ true → P replaced)
      → (holds (node_key n) ns ≡ false → 8 ≤ length ns → P full) → P (taken_by n ns)
  unfolding taken_by
  taken_ways P a r f = go (holds (node_key n) ns) refl
    where
      by_room : holds (node_key n) ns ≡ false → (u : Bool) → ltb (length ns) 8 ≡ u → P (cond u added full)
      by_room e true l = a e (ltb-true (length ns) 8 l)
      by_room e false l = f e (ltb-false (length ns) 8 l)

      go : (u : Bool) → holds (node_key n) ns ≡ u → P (cond u replaced (cond (ltb (length ns) 8) added full))
      go true e = r e
      go false e = by_room e (ltb (length ns) 8) refl

  -- a node that a bucket does not keep finds it full
  pub not_kept_full : is_kept (taken_by n ns) ≡ false → taken_by n ns ≡ full
  unfolding is_kept
  not_kept_full =
      taken_ways (λ (e : BucketEffect). is_kept e ≡ false → e ≡ full) (λ h l k. absurd (no (sym k))) (λ h k. absurd (no (sym k))) (λ h l k. refl)

  -- what each effect tells of the nodes

  pub taken_added : taken_by n ns ≡ added → (holds (node_key n) ns ≡ false) × (length ns < 8)
  taken_added =
      taken_ways (λ (e : BucketEffect). e ≡ added → (holds (node_key n) ns ≡ false) × (length ns < 8)) (λ h l e. (h, l))
      (λ h e. let z : ◌≡◌ {A = ℕ} 0 1 = cc in absurd (omega arith)) (λ h l e. let z : ◌≡◌ {A = ℕ} 0 1 = cc in absurd (omega arith))

  pub taken_replaced : taken_by n ns ≡ replaced → holds (node_key n) ns ≡ true
  taken_replaced =
      taken_ways (λ (e : BucketEffect). e ≡ replaced → holds (node_key n) ns ≡ true) (λ h l e. let z : ◌≡◌ {A = ℕ} 0 1 = cc in absurd (omega arith)) (λ h e. h)
      (λ h l e. let z : ◌≡◌ {A = ℕ} 0 1 = cc in absurd (omega arith))

-- ---- what an effect leaves

pub full_leaves : (n : Node) (t : List ℕ) → bucket_after full n t ≡ t
unfolding bucket_after
full_leaves n t = refl

module _ (t : List ℕ) (is : is_table 8 51 t ≡ true) (n : Node) (fits : Fits n) where
  -- the bucket afterwards
  abbrev after : BucketEffect → List ℕ
  after e = bucket_after e n t

  abbrev own : BucketEffect
  own = taken_by n (bucket_nodes t)

  pub after_table : is_table 8 51 (bucket_after own n t) ≡ true
  after_table =
      taken_ways n (bucket_nodes t) (λ (e : BucketEffect). is_table 8 51 (after e) ≡ true) (added_table t is n fits) (replaced_table t is n fits)
      (λ h l. ap (is_table 8 51) (full_leaves n t) ∙ is)

  pub after_long : length (bucket_after own n t) ≡ 417
  after_long =
      taken_ways n (bucket_nodes t) (λ (e : BucketEffect). length (after e) ≡ 417) (added_long t is n fits) (replaced_long t is n fits)
      (λ h l. ap length (full_leaves n t) ∙ bucket_length t is)

  pub after_bytes : Bytes t → Bytes (bucket_after own n t)
  after_bytes b =
      taken_ways n (bucket_nodes t) (λ (e : BucketEffect). Bytes (after e)) (λ h l. added_bytes t b n fits) (λ h. replaced_bytes t b n fits)
      (λ h l. subst Bytes (sym (full_leaves n t)) b)

  -- what stands in it was in it before, or is the node
  pub after_in : (x : Node) → In x (bucket_nodes (bucket_after own n t)) → (x ≡ n) ⊎ In x (bucket_nodes t)
  after_in x =
      taken_ways n (bucket_nodes t) (λ (e : BucketEffect). In x (bucket_nodes (after e)) → (x ≡ n) ⊎ In x (bucket_nodes t))
      (λ h l i. in_put (place_of 8 51 t (node_key n)) n (bucket_nodes t) x (subst (In x) (added_nodes t is n fits h l) i))
      (λ h i. by (in_replace n (bucket_nodes t) x (subst (In x) (replaced_nodes t is n fits h) i)))
      (λ h l i. inr (subst (λ (b : List ℕ). In x (bucket_nodes b)) (full_leaves n t) i))
    where
      by : (x ≡ n) ⊎ (In x (bucket_nodes t) × (node_key x ≡ node_key n → ⊥)) → (x ≡ n) ⊎ In x (bucket_nodes t)
      by (inl e) = inl e
      by (inr w) = inr w.0

  -- a node of another key that was in it is in it
  pub after_others : (x : Node) → In x (bucket_nodes t) → (node_key x ≡ node_key n → ⊥) → In x (bucket_nodes (bucket_after own n t))
  after_others x i d =
      taken_ways n (bucket_nodes t) (λ (e : BucketEffect). In x (bucket_nodes (after e)))
      (λ h l. subst (In x) (sym (added_nodes t is n fits h l)) (put_in (place_of 8 51 t (node_key n)) n (bucket_nodes t) x (inr i)))
      (λ h. subst (In x) (sym (replaced_nodes t is n fits h)) (replace_in n (bucket_nodes t) x i d))
      (λ h l. subst (λ (b : List ℕ). In x (bucket_nodes b)) (sym (full_leaves n t)) i)

  pub after_belong : (base : List ℕ) (b : ℕ) → all_belong base b (bucket_nodes t) ≡ true → belongs base b n ≡ true
      → all_belong base b (bucket_nodes (bucket_after own n t)) ≡ true
  after_belong base b h k = each_belong base b (bucket_nodes (bucket_after own n t)) (λ x i. by x (after_in x i))
    where
      by : (x : Node) → (x ≡ n) ⊎ In x (bucket_nodes t) → belongs base b x ≡ true
      by x (inl e) = ap (belongs base b) e ∙ k
      by x (inr i) = belong_each base b (bucket_nodes t) h x i

  -- a key that was held is held
  pub after_holds : (k : List ℕ) → holds k (bucket_nodes t) ≡ true → holds k (bucket_nodes (bucket_after own n t)) ≡ true
  after_holds k was =
      taken_ways n (bucket_nodes t) (λ (e : BucketEffect). holds k (bucket_nodes (after e)) ≡ true)
      (λ h l. ap (holds k) (added_nodes t is n fits h l) ∙ holds_put (place_of 8 51 t (node_key n)) n (bucket_nodes t) k was)
      (λ h. ap (holds k) (replaced_nodes t is n fits h) ∙ holds_replace n (bucket_nodes t) k h was)
      (λ h l. ap (λ (b : List ℕ). holds k (bucket_nodes b)) (full_leaves n t) ∙ was)

  -- a node that is kept stands in it
  pub after_kept : is_kept own ≡ true → In n (bucket_nodes (bucket_after own n t))
  unfolding is_kept
  after_kept =
      taken_ways n (bucket_nodes t) (λ (e : BucketEffect). is_kept e ≡ true → In n (bucket_nodes (after e)))
      (λ h l k. subst (In n) (sym (added_nodes t is n fits h l)) (put_in (place_of 8 51 t (node_key n)) n (bucket_nodes t) n (inl refl)))
      (λ h k. subst (In n) (sym (replaced_nodes t is n fits h)) (replaced_in n (bucket_nodes t) h))
      (λ h l k. absurd (no k))
