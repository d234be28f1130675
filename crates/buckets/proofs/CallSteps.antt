-- The ways out of an offer and of a question. Assumes nothing.
use Rattle.std.proofs.Common.{Ok, Err}
use mathlib.Core.Path.{◌≡◌, ◌∙◌, refl, sym, ap, ap₂}
use mathlib.Core.Bool.{Bool, true, false, not}
use mathlib.Core.List.{List, ◌++◌, map}
use Prim.Native.Nat.{ℕ, ◌+◌, ◌*◌, ◌-◌, ◌≤◌, ◌<◌}
use native.Mathlib.Nat.{add-sub_cancel_left}
use native.Mathlib.Omega.{arith}
use lib.Dec.{eqb}
use lib.ListN.{length, take, drop, take-append-drop}
use borrow.Author.Tests.{ne_eqb, le-leb, lt-leb}
use Rattle.wire.specs.Numbers.{Bytes}
use Rattle.wire.proofs.Copy.{length_lent}
use Rattle.refusal.specs.declared.Refusal.TheVariants.{OutputTooShort, UnknownFamily, BucketsNotWhole}
use Rattle.key.specs.declared.Key.{Key}
use Rattle.key.specs.Keys.{IsKey, same_key, key_of}
use Rattle.key.specs.Bits.{shared_bits}
use Rattle.key.proofs.Bits.{base_shares_all, others_share_fewer}
use Rattle.key.proofs.Cancel.{same_differs}
use Rattle.key.proofs.Lent.{key_itself}
use Rattle.node.specs.declared.Node.{Node}
use Rattle.node.specs.Families.{known_family}
use Rattle.node.specs.Values.{info_of}
use Rattle.node.specs.Walks.{packed_nodes}
use Rattle.nearest.specs.Lists.{node_key, all_known}
use Rattle.nearest_first.specs.NearestFirst.{nearest_of}
use Rattle.nearest_first.proofs.NearestLaws.{nearest_known}
use Rattle.lent_list_laws.specs.Layout.{Fits}
use Rattle.table_laws.specs.Table.{is_table}
use Rattle.buckets_laws.specs.Layout.{base_of, bucket_at, held_nodes, bucket_nodes, with_bucket}
use Rattle.buckets_laws.specs.Whole.{buckets_whole}
use Rattle.buckets_laws.specs.Effect.{BucketEffect, base_key, is_kept, taken_by, effect_on, bucket_after}
use Rattle.buckets_laws.specs.Calls.{offer_left, Offers, Asks, answer_bytes, nearest_held, nearest_answered, nearest_left}
use Rattle.buckets_laws.proofs.WholeLaws.{whole_long, whole_bucket, bucket_table}
use Rattle.buckets_laws.proofs.AfterLaws.{not_kept_full, full_leaves}
use Rattle.buckets_laws.proofs.BucketStored.{base_key_lem}
use Rattle.buckets_laws.proofs.HeldLaws.{held_known}
use Rattle.buckets_laws.proofs.OfferWays.{own_bucket, own_effect, effect_base, effect_own, not_whole_answer, not_whole_left, unknown_answer, unknown_left, known_answer, unkept_answer, unkept_left, kept_left}
use Rattle.buckets.specs.declared.search.Found.{Found}
use Rattle.buckets.specs.Kept.{kept_nodes, kept_bytes}
use Rattle.buckets.specs.Entered.{Enters}

-- ---- a bucket that comes back from a call that it was lent to

bucket_back : (m : List ℕ) (b start : ℕ) → start ≡ 32 + b * 417 → (left x : List ℕ) → left ≡ x
    → take start m ++ (left ++ drop (start + 417 - start) (drop start m)) ≡ with_bucket m b x
unfolding with_bucket
bucket_back m b start q left x z =
    ap₂ (λ (y : List ℕ) (c : ℕ). take start m ++ (y ++ drop c (drop start m))) z (add-sub_cancel_left start 417)
    ∙ ap (λ (c : ℕ). take c m ++ (x ++ drop 417 (drop c m))) q

bucket_same : (m : List ℕ) (b : ℕ) → with_bucket m b (bucket_at m b) ≡ m
unfolding with_bucket bucket_at
bucket_same m b = ap (λ (x : List ℕ). take (32 + b * 417) m ++ x) (take-append-drop 417 (drop (32 + b * 417) m)) ∙ take-append-drop (32 + b * 417) m

-- ---- an offer

module _ (n : Node) (m : List ℕ) (bytes : Bytes m) (fits : Fits n) where
  pub offers_broken : (r : Bool) → r ≡ buckets_whole m → not r ≡ true → Offers n m m (Err BucketsNotWhole)
  offers_broken r e h =
      let b = sym e ∙ turned r h in
      record { bytes = bytes; node = fits; answers = sym (not_whole_answer m n b); leaves = sym (not_whole_left m n b) }
    where
      turned : (r : Bool) → not r ≡ true → r ≡ false
      turned true h = sym h
      turned false h = refl

  module _ (w : buckets_whole m ≡ true) where
    pub offers_unknown : known_family n.family ≡ false → Offers n m m (Err UnknownFamily)
    offers_unknown k = record { bytes = bytes; node = fits; answers = sym (unknown_answer m n w k); leaves = sym (unknown_left m n w k) }

    base_long : 106784 ≤ length m
    base_long = whole_long m w

    -- the bits found are those of the definition
    module _ (k : known_family n.family ≡ true) (r : ℕ) (e : r ≡ shared_bits (key_of (take 32 m)) (key_of (node_key n))) where
      pub bits_are : r ≡ own_bucket m n
      bits_are =
          e ∙ ap₂ shared_bits (key_itself (take 32 m) (let l = base_long in length_lent m 0 32 (omega arith))) (key_itself (node_key n) fits.1.key.long)

      all_bits : eqb (own_bucket m n) 256 ≡ same_key (base_of m) (node_key n)
      all_bits = base_shares_all (base_of m) (node_key n) (base_key_lem m bytes base_long) fits.1.key

      -- the base key shares all its bits
      pub offers_base : 256 ≤ r → Offers n m m (Ok false)
      unfolding is_kept
      offers_base h = by (same_key (base_of m) (node_key n)) refl
        where
          by : (s : Bool) → same_key (base_of m) (node_key n) ≡ s → Offers n m m (Ok false)
          by true s =
              let b = effect_base m n s in
              record { bytes = bytes; node = fits; answers = sym (unkept_answer m n w k base_key b refl); leaves = sym (unkept_left m n w k base_key b refl) }
          by false s =
              absurd (let l = others_share_fewer (base_of m) (node_key n) (base_key_lem m bytes base_long) fits.1.key (same_differs (base_of m) (node_key n) s) in
              let q = bits_are in omega arith)

      -- another key has a bucket
      module _ (h : r < 256) where
        other_key : same_key (base_of m) (node_key n) ≡ false
        other_key = sym all_bits ∙ ne_eqb (own_bucket m n) 256 (λ z. let q = bits_are in omega (arith, z, h))

        pub own_table : is_table 8 51 (bucket_at m r) ≡ true
        own_table = bucket_table (base_of m) r (bucket_at m r) (whole_bucket m w r h)

        pub own_lent : (start : ℕ) → start ≡ 32 + r * 417 → take (start + 417 - start) (drop start m) ≡ bucket_at m r
        unfolding bucket_at
        own_lent start q = ap (λ (x : ℕ). take x (drop start m)) (add-sub_cancel_left start 417) ∙ ap (λ (x : ℕ). take 417 (drop x m)) q

        -- what the bucket does is what the offer does
        pub offers_entered : (start : ℕ) → start ≡ 32 + r * 417 → (left : List ℕ) (kept : Bool) → Enters n (take (start + 417 - start) (drop start m)) left kept
            → Offers n m (take start m ++ (left ++ drop (start + 417 - start) (drop start m))) (Ok kept)
        offers_entered start q left kept en =
            let t = own_lent start q ∙ ap (bucket_at m) bits_are in
            let e₁ = effect_own m n other_key in
            let f : taken_by n (bucket_nodes (take (start + 417 - start) (drop start m))) ≡ own_effect m n = ap (λ (x : List ℕ). taken_by n (bucket_nodes x)) t in
            record {
              bytes = bytes;
              node = fits;
              answers = ap Ok en.answers ∙ ap (λ (x : BucketEffect). Ok (is_kept x)) (f ∙ sym e₁) ∙ sym (known_answer m n w k);
              leaves = go (is_kept (own_effect m n)) refl (en.leaves ∙ ap₂ (λ (x : BucketEffect) (y : List ℕ). bucket_after x n y) f t) e₁;
            }
          where
            go : (u : Bool) → is_kept (own_effect m n) ≡ u → left ≡ bucket_after (own_effect m n) n (bucket_at m (own_bucket m n)) → effect_on m n ≡ own_effect m n
                → take start m ++ (left ++ drop (start + 417 - start) (drop start m)) ≡ offer_left m n
            go true u l e₁ = bucket_back m (own_bucket m n) start (q ∙ ap (λ (c : ℕ). 32 + c * 417) bits_are) left _ l ∙ sym (kept_left m n w k (own_effect m n) e₁ u)
            go false u l e₁ =
                let z = not_kept_full n (bucket_nodes (bucket_at m (own_bucket m n))) u in
                bucket_back m (own_bucket m n) start (q ∙ ap (λ (c : ℕ). 32 + c * 417) bits_are) left _ (l ∙ ap (λ (x : BucketEffect). bucket_after x n (bucket_at m (own_bucket m n))) z ∙ full_leaves n (bucket_at m (own_bucket m n)))
                ∙ bucket_same m (own_bucket m n) ∙ sym (unkept_left m n w k (own_effect m n) e₁ u)

-- ---- a question

module _ (target : Key) (m out : List ℕ) (bytes : Bytes m) (key : IsKey target.0) where
  pub asks_broken : buckets_whole m ≡ false → Asks target m out out (Err BucketsNotWhole)
  unfolding nearest_answered nearest_left
  asks_broken b = record { bytes = bytes; key = key; answers = rw b; leaves = rw b }

  module _ (w : buckets_whole m ≡ true) (kept : Found) (e : kept_nodes m kept ≡ nearest_of 4 target.0 (held_nodes m)) where
    pub kept_known : all_known (kept_nodes m kept) ≡ true
    kept_known = ap all_known e ∙ nearest_known 4 target.0 (held_nodes m) (held_known m w)

    bytes_are : kept_bytes m kept ≡ answer_bytes m target.0
    unfolding answer_bytes nearest_held
    bytes_are = ap (λ (ns : List Node). packed_nodes (map info_of ns)) e

    module _ (size : ℕ) (s : size ≡ length (kept_bytes m kept)) where
      pub asks_short : length out < size → Asks target m out out (Err OutputTooShort)
      unfolding nearest_answered nearest_left
      asks_short h =
          let l = lt-leb (length (answer_bytes m target.0)) (length out) (let q = ap length bytes_are in omega arith) in
          record { bytes = bytes; key = key; answers = rw (w, l); leaves = rw (w, l) }

      pub asks_answered : size ≤ length out → (left : List ℕ) → left ≡ kept_bytes m kept ++ drop (length (kept_bytes m kept)) out → Asks target m out left (Ok size)
      unfolding nearest_answered nearest_left
      asks_answered h left z =
          let l = le-leb (length (answer_bytes m target.0)) (length out) (let q = ap length bytes_are in omega arith) in
          record {
            bytes = bytes;
            key = key;
            answers = rw (w, l) (ap Ok (s ∙ ap length bytes_are));
            leaves = rw (w, l) (z ∙ ap (λ (x : List ℕ). x ++ drop (length x) out) bytes_are);
          }
