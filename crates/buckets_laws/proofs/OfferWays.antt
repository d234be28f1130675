-- The ways that an offer to buckets can go, for all memory: refused for the buckets, refused for the family, not kept for the base key, not kept by a full
-- bucket, or kept. What holds of each way holds of the offer. Assumes nothing.
use Rattle.std.proofs.Common.{Result, Ok, Err}
use Rattle.refusal.specs.declared.Refusal.{Refusal}
use mathlib.Core.Path.{◌≡◌, ◌∙◌, refl, sym, ap, subst}
use mathlib.Core.Bool.{Bool, true, false}
use mathlib.Core.List.{List}
use Prim.Native.Nat.{ℕ, ◌<◌}
use Rattle.wire.specs.Numbers.{Bytes}
use Rattle.refusal.specs.declared.Refusal.TheVariants.{UnknownFamily, BucketsNotWhole}
use Rattle.key.specs.Keys.{same_key}
use Rattle.key.proofs.Same.{same_apart}
use Rattle.key.proofs.Bits.{others_share_fewer}
use Rattle.node.specs.declared.Node.{Node}
use Rattle.node.specs.Families.{known_family}
use Rattle.nearest.specs.Lists.{node_key}
use Rattle.lent_list_laws.specs.Layout.{Fits}
use Rattle.buckets_laws.specs.Layout.{base_of, bucket_at, held_in, with_bucket}
use Rattle.buckets_laws.specs.Whole.{bucket_of, buckets_whole}
use Rattle.buckets_laws.specs.Effect.{BucketEffect, full, base_key, taken_by, bucket_effect, effect_on, is_kept, bucket_after, memory_after}
use Rattle.buckets_laws.specs.Calls.{offer_answered, offer_left, Offers}
use Rattle.buckets_laws.proofs.WholeLaws.{whole_long}
use Rattle.buckets_laws.proofs.AfterLaws.{not_kept_full}
use Rattle.buckets_laws.proofs.BucketStored.{base_key_lem}

-- the bucket of a node's key
abbrev pub own_bucket : List ℕ → Node → ℕ
own_bucket m n = bucket_of (base_of m) (node_key n)

-- what that bucket does with the node
abbrev pub own_effect : List ℕ → Node → BucketEffect
own_effect m n = taken_by n (held_in m (own_bucket m n))

-- memory with that bucket as the node leaves it
abbrev pub kept_in : List ℕ → Node → List ℕ
kept_in m n = with_bucket m (own_bucket m n) (bucket_after (own_effect m n) n (bucket_at m (own_bucket m n)))

module _ (m : List ℕ) (n : Node) where
  -- ---- the effect

  pub effect_base : same_key (base_of m) (node_key n) ≡ true → effect_on m n ≡ base_key
  unfolding effect_on bucket_effect
  effect_base e = rw e

  pub effect_own : same_key (base_of m) (node_key n) ≡ false → effect_on m n ≡ own_effect m n
  unfolding effect_on bucket_effect
  effect_own e = rw e

  -- a key other than the base key has a bucket
  pub own_low : Bytes m → Fits n → buckets_whole m ≡ true → same_key (base_of m) (node_key n) ≡ false → own_bucket m n < 256
  own_low b fits w e =
      others_share_fewer (base_of m) (node_key n) (base_key_lem m b (whole_long m w)) fits.1.key (same_apart (base_of m) (node_key n) e)

  -- ---- the memory, by the effect

  pub not_kept_memory : (e : BucketEffect) → is_kept e ≡ false → memory_after e m n ≡ m
  unfolding memory_after
  not_kept_memory e h = rw h

  pub kept_memory : (e : BucketEffect) → is_kept e ≡ true
      → memory_after e m n ≡ with_bucket m (own_bucket m n) (bucket_after e n (bucket_at m (own_bucket m n)))
  unfolding memory_after
  kept_memory e h = rw h

  -- ---- the answer and the memory of each way

  module _ (h : buckets_whole m ≡ false) where
    pub not_whole_answer : offer_answered m n ≡ Err BucketsNotWhole
    unfolding offer_answered
    not_whole_answer = rw h

    pub not_whole_left : offer_left m n ≡ m
    unfolding offer_left
    not_whole_left = rw h

  module _ (h : buckets_whole m ≡ true) where
    module _ (k : known_family n.family ≡ false) where
      pub unknown_answer : offer_answered m n ≡ Err UnknownFamily
      unfolding offer_answered
      unknown_answer = rw (h, k)

      pub unknown_left : offer_left m n ≡ m
      unfolding offer_left
      unknown_left = rw (h, k)

    module _ (k : known_family n.family ≡ true) where
      pub known_answer : offer_answered m n ≡ Ok (is_kept (effect_on m n))
      unfolding offer_answered
      known_answer = rw (h, k)

      pub known_left : offer_left m n ≡ memory_after (effect_on m n) m n
      unfolding offer_left
      known_left = rw (h, k)

      -- by what the effect is
      module _ (e : BucketEffect) (is : effect_on m n ≡ e) where
        pub unkept_answer : is_kept e ≡ false → offer_answered m n ≡ Ok false
        unkept_answer q = known_answer ∙ ap (λ (x : BucketEffect). Ok (is_kept x)) is ∙ ap Ok q

        pub unkept_left : is_kept e ≡ false → offer_left m n ≡ m
        unkept_left q = known_left ∙ ap (λ (x : BucketEffect). memory_after x m n) is ∙ not_kept_memory e q

        pub kept_answer : is_kept e ≡ true → offer_answered m n ≡ Ok true
        kept_answer q = known_answer ∙ ap (λ (x : BucketEffect). Ok (is_kept x)) is ∙ ap Ok q

        pub kept_left : is_kept e ≡ true → offer_left m n ≡ with_bucket m (own_bucket m n) (bucket_after e n (bucket_at m (own_bucket m n)))
        kept_left q = known_left ∙ ap (λ (x : BucketEffect). memory_after x m n) is ∙ kept_memory e q

base_not_kept : is_kept base_key ≡ false
unfolding is_kept
base_not_kept = refl

-- ---- all ways

module _ {n : Node} {m left : List ℕ} {said : Result Bool Refusal} (o : Offers n m left said) (P : List ℕ → Result Bool Refusal → Type 0)
    (not_whole : buckets_whole m ≡ false → P m (Err BucketsNotWhole))
    (unknown : buckets_whole m ≡ true → known_family n.family ≡ false → P m (Err UnknownFamily))
    (base : buckets_whole m ≡ true → known_family n.family ≡ true → same_key (base_of m) (node_key n) ≡ true → P m (Ok false))
    (none-taken : buckets_whole m ≡ true → known_family n.family ≡ true → own_bucket m n < 256 → own_effect m n ≡ full → P m (Ok false))
    (kept : buckets_whole m ≡ true → known_family n.family ≡ true → own_bucket m n < 256 → is_kept (own_effect m n) ≡ true → P (kept_in m n) (Ok true)) where
  -- of what the call leaves and says
  at : (l : List ℕ) (a : Result Bool Refusal) → offer_left m n ≡ l → offer_answered m n ≡ a → P l a → P left said
  at l a e f p = subst (λ (x : List ℕ). P x said) (sym (o.leaves ∙ e)) (subst (P l) (sym (o.answers ∙ f)) p)

  by_own : buckets_whole m ≡ true → known_family n.family ≡ true → same_key (base_of m) (node_key n) ≡ false → (u : Bool) → is_kept (own_effect m n) ≡ u
      → P left said
  by_own w f s true q =
      let e = effect_own m n s in
      at (kept_in m n) (Ok true) (kept_left m n w f (own_effect m n) e q) (kept_answer m n w f (own_effect m n) e q)
      (kept w f (own_low m n o.bytes o.node w s) q)
  by_own w f s false q =
      let e = effect_own m n s in
      at m (Ok false) (unkept_left m n w f (own_effect m n) e q) (unkept_answer m n w f (own_effect m n) e q)
      (none-taken w f (own_low m n o.bytes o.node w s) (not_kept_full n (held_in m (own_bucket m n)) q))

  by_key : buckets_whole m ≡ true → known_family n.family ≡ true → (u : Bool) → same_key (base_of m) (node_key n) ≡ u → P left said
  by_key w f true s =
      let e = effect_base m n s in
      at m (Ok false) (unkept_left m n w f base_key e base_not_kept) (unkept_answer m n w f base_key e base_not_kept) (base w f s)
  by_key w f false s = by_own w f s (is_kept (own_effect m n)) refl

  by_family : buckets_whole m ≡ true → (u : Bool) → known_family n.family ≡ u → P left said
  by_family w true f = by_key w f (same_key (base_of m) (node_key n)) refl
  by_family w false f = at m (Err UnknownFamily) (unknown_left m n w f) (unknown_answer m n w f) (unknown w f)

  by_whole : (u : Bool) → buckets_whole m ≡ u → P left said
  by_whole true w = by_family w (known_family n.family) refl
  by_whole false w = at m (Err BucketsNotWhole) (not_whole_left m n w) (not_whole_answer m n w) (not_whole w)

  pub offer_ways : P left said
  offer_ways = by_whole (buckets_whole m) refl
