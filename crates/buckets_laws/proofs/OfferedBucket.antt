-- What an offer to whole buckets makes of the key's own bucket, by its effect: a node that is added stands at its place in the order of keys, one that is
-- replaced where the node of its key stood, and of a full bucket and of the base key nothing is changed. Assumes nothing.
use Rattle.std.proofs.Common.{Result, Ok}
use Rattle.refusal.specs.declared.Refusal.{Refusal}
use mathlib.Core.Path.{◌≡◌, ◌∙◌, refl, sym, ap}
use mathlib.Core.Bool.{Bool, true, false}
use mathlib.Core.List.{List}
use Prim.Native.Nat.{ℕ, ◌<◌}
use lib.ListN.{length}
use Rattle.key.specs.Keys.{same_key}
use Rattle.lists.specs.Insert.{insert_at}
use Rattle.node.specs.declared.Node.{Node}
use Rattle.node.specs.Families.{known_family}
use Rattle.nearest.specs.Lists.{node_key}
use Rattle.nearest.specs.Effect.{replace}
use Rattle.table_laws.specs.Table.{is_table, place_of}
use Rattle.buckets_laws.specs.Layout.{base_of, bucket_at, bucket_nodes, held_in}
use Rattle.buckets_laws.specs.Whole.{buckets_whole}
use Rattle.buckets_laws.specs.Effect.{BucketEffect, added, replaced, full, base_key, effect_on, is_kept, bucket_after}
use Rattle.buckets_laws.specs.Calls.{Offers}
use Rattle.buckets_laws.proofs.WholeLaws.{whole_long, whole_bucket, bucket_table}
use Rattle.buckets_laws.proofs.BucketLaws.{added_long, added_nodes, replaced_long, replaced_nodes}
use Rattle.buckets_laws.proofs.AfterLaws.{taken_added, taken_replaced}
use Rattle.buckets_laws.proofs.BucketStored.{stored_own}
use Rattle.buckets_laws.proofs.OfferWays.{own_bucket, own_effect, effect_base, effect_own, own_low, known_answer, unkept_answer, unkept_left, kept_left}

-- an effect other than that of the base key is that of a key other than it
not_base : (m : List ℕ) (n : Node) (e : BucketEffect) → effect_on m n ≡ e → (base_key ≡ e → ⊥) → same_key (base_of m) (node_key n) ≡ false
not_base m n e is d = go (same_key (base_of m) (node_key n)) refl
  where
    go : (u : Bool) → same_key (base_of m) (node_key n) ≡ u → u ≡ false
    go true s = absurd (d (sym (effect_base m n s) ∙ is))
    go false s = refl

module _ {n : Node} {m left : List ℕ} {said : Result Bool Refusal} (o : Offers n m left said) (w : buckets_whole m ≡ true) (k : known_family n.family ≡ true) where
  -- the answer is yes just where the effect is that of a node kept
  pub offered_answer : said ≡ Ok (is_kept (effect_on m n))
  offered_answer = o.answers ∙ known_answer m n w k

  pub offered_unkept : is_kept (effect_on m n) ≡ false → (left ≡ m) × (said ≡ Ok false)
  offered_unkept h = (o.leaves ∙ unkept_left m n w k (effect_on m n) refl h, o.answers ∙ unkept_answer m n w k (effect_on m n) refl h)

  pub offered_full : effect_on m n ≡ full → (left ≡ m) × (said ≡ Ok false)
  unfolding is_kept
  offered_full e = offered_unkept (ap is_kept e)

  -- "The base key is never held; offering it answers no."
  pub offered_base : same_key (base_of m) (node_key n) ≡ true → (left ≡ m) × (said ≡ Ok false)
  unfolding is_kept
  offered_base s = offered_unkept (ap is_kept (effect_base m n s))

  -- ---- the key's own bucket

  abbrev before : List ℕ
  before = bucket_at m (own_bucket m n)

  module _ (e : BucketEffect) (is : effect_on m n ≡ e) (d : base_key ≡ e → ⊥) where
    own_effect_lem : own_effect m n ≡ e
    own_effect_lem = sym (effect_own m n (not_base m n e is d)) ∙ is

    low : own_bucket m n < 256
    low = own_low m n o.bytes o.node w (not_base m n e is d)

    own_table : is_table 8 51 before ≡ true
    own_table = bucket_table (base_of m) (own_bucket m n) before (whole_bucket m w (own_bucket m n) low)

    own_bucket_lem : is_kept e ≡ true → length (bucket_after e n before) ≡ 417 → bucket_at left (own_bucket m n) ≡ bucket_after e n before
    own_bucket_lem q l =
        ap (λ (x : List ℕ). bucket_at x (own_bucket m n)) (o.leaves ∙ kept_left m n w k e is q)
        ∙ stored_own m (own_bucket m n) (bucket_after e n before) (whole_long m w) low l

  added_not_base : base_key ≡ added → ⊥
  added_not_base e = cc

  replaced_not_base : base_key ≡ replaced → ⊥
  replaced_not_base e = cc

  pub offered_added : effect_on m n ≡ added
      → held_in left (own_bucket m n) ≡ insert_at (place_of 8 51 (bucket_at m (own_bucket m n)) (node_key n)) n (held_in m (own_bucket m n))
  unfolding is_kept
  offered_added e =
      let t = own_table added e added_not_base in
      let q = taken_added n (held_in m (own_bucket m n)) (own_effect_lem added e added_not_base) in
      ap bucket_nodes (own_bucket_lem added e added_not_base refl (added_long before t n o.node q.0 q.1)) ∙ added_nodes before t n o.node q.0 q.1

  pub offered_replaced : effect_on m n ≡ replaced → held_in left (own_bucket m n) ≡ replace n (held_in m (own_bucket m n))
  unfolding is_kept
  offered_replaced e =
      let t = own_table replaced e replaced_not_base in
      let q = taken_replaced n (held_in m (own_bucket m n)) (own_effect_lem replaced e replaced_not_base) in
      ap bucket_nodes (own_bucket_lem replaced e replaced_not_base refl (replaced_long before t n o.node q)) ∙ replaced_nodes before t n o.node q
