-- What a bucket does with a node, by what is found in it. Assumes nothing.
use Rattle.std.proofs.Common.{Some, None}
use mathlib.Core.Path.{◌≡◌, ◌∙◌, refl, sym, ap, ap₂}
use mathlib.Core.Bool.{true, false}
use mathlib.Core.List.{List}
use Prim.Native.Nat.{ℕ}
use native.Mathlib.Omega.{arith}
use lib.ListN.{length, take, drop}
use lib.Seq.{drop_at, take_all}
use borrow.Author.Tests.{lt-ltb, le-ltb}
use Rattle.node.specs.declared.Node.{Node}
use Rattle.node.specs.Values.{IsNode}
use Rattle.nearest.specs.Lists.{node_key}
use Rattle.nearest.specs.Effect.{holds}
use Rattle.table_laws.specs.Table.{is_table, found, place_below, lowest_free, put_in, overwritten_in}
use Rattle.buckets_laws.specs.Layout.{bucket_nodes, node_fields, node_record}
use Rattle.buckets_laws.specs.Effect.{BucketEffect, added, replaced, full, taken_by, is_kept, bucket_after}
use Rattle.buckets_laws.proofs.RecordNodes.{length_fields}
use Rattle.buckets_laws.proofs.BucketLaws.{found_holds, free_room, free_none}
use Rattle.buckets.specs.Entered.{Enters}
use Rattle.table_laws.proofs.PlaceBelow.{below_some, below_none}

-- behind the key of a node's record stand its fields
fields_part : (n : Node) → IsNode n → take 19 (drop 32 (node_record n)) ≡ node_fields n
unfolding node_record
fields_part n is =
    ap (take 19) (drop_at (node_key n) (node_fields n) 32 is.key.long) ∙ take_all 19 (node_fields n) (let l = length_fields n is in omega arith)

module _ (n : Node) (t : List ℕ) (is : is_table 8 51 t ≡ true) where
  -- the answer and the bytes of an effect
  by_effect : (e : BucketEffect) → taken_by n (bucket_nodes t) ≡ e → (left : List ℕ) → left ≡ bucket_after e n t → Enters n t left (is_kept e)
  by_effect e q left l = record { answers = ap is_kept (sym q); leaves = l ∙ ap (λ (x : BucketEffect). bucket_after x n t) (sym q) }

  -- the key is found
  pub enters_held : IsNode n → (place : ℕ) → Some place ≡ place_below 8 (found 8 51 t (node_key n)) → (rec left : List ℕ) → rec ≡ node_record n
      → left ≡ overwritten_in 8 51 t place 32 (take 19 (drop 32 rec)) → Enters n t left true
  unfolding taken_by is_kept bucket_after
  enters_held node place at rec left r l =
      let f = below_some 8 (found 8 51 t (node_key n)) place at in
      by_effect replaced (rw (sym (found_holds t is (node_key n)) ∙ lt-ltb (found 8 51 t (node_key n)) 8 f.0)) left
      (l ∙ ap₂ (λ (p : ℕ) (x : List ℕ). overwritten_in 8 51 t p 32 x) f.1 (ap (λ (x : List ℕ). take 19 (drop 32 x)) r ∙ fields_part n node))

  -- it is not
  module _ (missed : None ≡ place_below 8 (found 8 51 t (node_key n))) where
    not_held : holds (node_key n) (bucket_nodes t) ≡ false
    not_held = sym (found_holds t is (node_key n)) ∙ le-ltb (found 8 51 t (node_key n)) 8 (below_none 8 (found 8 51 t (node_key n)) missed)

    pub enters_full : None ≡ place_below 8 (lowest_free 8 t) → Enters n t t false
    unfolding taken_by is_kept bucket_after
    enters_full e = by_effect full (rw (not_held, le-ltb (length (bucket_nodes t)) 8 (free_none t is (below_none 8 (lowest_free 8 t) e)))) t refl

    pub enters_new : (free : ℕ) → Some free ≡ place_below 8 (lowest_free 8 t) → (rec left : List ℕ) → rec ≡ node_record n → left ≡ put_in 8 51 t free rec → Enters n t left true
    unfolding taken_by is_kept bucket_after
    enters_new free e rec left r l =
        let f = below_some 8 (lowest_free 8 t) free e in
        by_effect added (rw (not_held, lt-ltb (length (bucket_nodes t)) 8 (free_room t is f.0))) left (l ∙ ap₂ (λ (p : ℕ) (x : List ℕ). put_in 8 51 t p x) f.1 r)
