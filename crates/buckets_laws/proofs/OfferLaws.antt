-- What an offer does to the memory of buckets, for all memory: whole buckets stay whole; the base key, the length and the bytes behind the buckets stay; only
-- the key's own bucket changes; each key that was held is still held; no node but the one offered comes in, and each node of another key stays; a node that is
-- kept is held; and an offer that is not kept or is refused leaves every byte. Assumes nothing.
use Rattle.std.proofs.Common.{Result, Ok, Err}
use Rattle.refusal.specs.declared.Refusal.{Refusal}
use mathlib.Core.Path.{◌≡◌, ◌∙◌, refl, sym, ap, subst}
use mathlib.Core.Bool.{Bool, true, false}
use mathlib.Core.Logic.{◌⊎◌, inl, inr, ⊎_elim}
use mathlib.Core.List.{List}
use Prim.Native.Nat.{ℕ, ◌<◌}
use native.Mathlib.Omega.{arith}
use lib.ListN.{length, drop}
use borrow.Author.Tests.{eq-eqb}
use Rattle.wire.specs.Numbers.{Bytes}
use Rattle.refusal.specs.declared.Refusal.{Refusal}
use Rattle.refusal.specs.declared.Refusal.TheVariants.{UnknownFamily, BucketsNotWhole}
use Rattle.node.specs.declared.Node.{Node}
use Rattle.node.specs.Families.{known_family}
use Rattle.nearest.specs.Lists.{node_key}
use Rattle.nearest.specs.Effect.{holds}
use Rattle.nearest.specs.Sequence.{In}
use Rattle.table_laws.specs.Table.{is_table}
use Rattle.lent_list_laws.specs.Layout.{Fits}
use Rattle.buckets_laws.specs.Layout.{base_of, bucket_at, bucket_nodes, held_in, held_nodes}
use Rattle.buckets_laws.specs.Whole.{belongs, bucket_whole, buckets_whole}
use Rattle.buckets_laws.specs.Effect.{is_kept, bucket_after}
use Rattle.buckets_laws.specs.Calls.{Offers}
use Rattle.buckets_laws.proofs.WholeLaws.{whole_long, whole_bucket, buckets_whole_lem, bucket_table, bucket_belong, bucket_whole_lem}
use Rattle.buckets_laws.proofs.AfterLaws.{after_table, after_long, after_bytes, after_in, after_others, after_belong, after_holds, after_kept}
use Rattle.buckets_laws.proofs.BucketStored.{bucket_bytes, stored_bytes, stored_base, stored_length}
use Rattle.buckets_laws.proofs.BucketStored.{stored_own, stored_other, stored_each, stored_behind}
use Rattle.buckets_laws.proofs.HeldNodes.{in_bucket_held, held_in_bucket, held_each}
use Rattle.buckets_laws.proofs.OfferWays.{own_bucket, own_effect, kept_in, offer_ways, not_whole_left, not_whole_answer, unknown_left, unknown_answer}

-- ---- a node that is kept

module _ (m : List ℕ) (n : Node) (fits : Fits n) (w : buckets_whole m ≡ true) (low : own_bucket m n < 256) where
  -- the key's bucket before
  abbrev before : List ℕ
  before = bucket_at m (own_bucket m n)

  -- and afterwards
  abbrev after : List ℕ
  after = bucket_after (own_effect m n) n before

  own_table : is_table 8 51 before ≡ true
  own_table = bucket_table (base_of m) (own_bucket m n) before (whole_bucket m w (own_bucket m n) low)

  own_long : length after ≡ 417
  own_long = after_long before own_table n fits

  kept_own : bucket_at (kept_in m n) (own_bucket m n) ≡ after
  kept_own = stored_own m (own_bucket m n) after (whole_long m w) low own_long

  kept_other : (c : ℕ) → c < 256 → (c ≡ own_bucket m n → ⊥) → bucket_at (kept_in m n) c ≡ bucket_at m c
  kept_other = stored_other m (own_bucket m n) after (whole_long m w) low own_long

  kept_base : base_of (kept_in m n) ≡ base_of m
  kept_base = stored_base m (own_bucket m n) after (whole_long m w)

  kept_length : length (kept_in m n) ≡ length m
  kept_length = stored_length m (own_bucket m n) after (whole_long m w) low own_long

  kept_behind : drop 106784 (kept_in m n) ≡ drop 106784 m
  kept_behind = stored_behind m (own_bucket m n) after (whole_long m w) low own_long

  kept_bytes : Bytes m → Bytes (kept_in m n)
  kept_bytes b =
      stored_bytes m (own_bucket m n) after b (after_bytes before own_table n fits (bucket_bytes m (own_bucket m n) b))

  own_belongs : known_family n.family ≡ true → belongs (base_of m) (own_bucket m n) n ≡ true
  unfolding belongs
  own_belongs k = rw (eq-eqb (own_bucket m n) (own_bucket m n) refl, k)

  kept_whole : known_family n.family ≡ true → buckets_whole (kept_in m n) ≡ true
  kept_whole k =
      buckets_whole_lem (kept_in m n) (let l = kept_length in let q = whole_long m w in omega arith)
      (λ c h. ap (λ (base : List ℕ). bucket_whole base c (bucket_at (kept_in m n) c)) kept_base
      ∙ stored_each m (own_bucket m n) after (whole_long m w) low own_long
      (λ (c : ℕ) (t : List ℕ). bucket_whole (base_of m) c t ≡ true)
      (bucket_whole_lem (base_of m) (own_bucket m n) after (after_table before own_table n fits)
      (after_belong before own_table n fits (base_of m) (own_bucket m n)
      (bucket_belong (base_of m) (own_bucket m n) before (whole_bucket m w (own_bucket m n) low)) (own_belongs k)))
      (whole_bucket m w) c h)

  kept_holds : (k : List ℕ) → holds k (held_nodes m) ≡ true → holds k (held_nodes (kept_in m n)) ≡ true
  kept_holds k =
      held_each m (kept_in m n) k
      (stored_each m (own_bucket m n) after (whole_long m w) low own_long
      (λ (c : ℕ) (t : List ℕ). holds k (held_in m c) ≡ true → holds k (bucket_nodes t) ≡ true) (after_holds before own_table n fits k) (λ c h e. e))

  kept_only : (x : Node) → In x (held_nodes (kept_in m n)) → (x ≡ n) ⊎ In x (held_nodes m)
  kept_only x i =
      let q = held_in_bucket (kept_in m n) x i in
      stored_each m (own_bucket m n) after (whole_long m w) low own_long
      (λ (c : ℕ) (t : List ℕ). In x (bucket_nodes t) → (x ≡ n) ⊎ In x (held_nodes m))
      (λ j. ⊎_elim (λ (e : x ≡ n). inl e) (λ (k : In x (bucket_nodes before)). inr (in_bucket_held m x (own_bucket m n) low k))
      (after_in before own_table n fits x j))
      (λ c h j. inr (in_bucket_held m x c h j)) q.0 q.1 q.2

  kept_others : (x : Node) → In x (held_nodes m) → (node_key x ≡ node_key n → ⊥) → In x (held_nodes (kept_in m n))
  kept_others x i d =
      let q = held_in_bucket m x i in
      in_bucket_held (kept_in m n) x q.0 q.1
      (stored_each m (own_bucket m n) after (whole_long m w) low own_long (λ (c : ℕ) (t : List ℕ). In x (held_in m c) → In x (bucket_nodes t))
      (λ j. after_others before own_table n fits x j d) (λ c h j. j) q.0 q.1 q.2)

  kept_in_lem : is_kept (own_effect m n) ≡ true → In n (held_nodes (kept_in m n))
  kept_in_lem q =
      in_bucket_held (kept_in m n) n (own_bucket m n) low
      (subst (λ (t : List ℕ). In n (bucket_nodes t)) (sym kept_own) (after_kept before own_table n fits q))

-- ---- every offer

never_kept : {A : Type 0} → ◌≡◌ {A = Result Bool Refusal} (Ok false) (Ok true) → A
never_kept e = cc

refused_not_kept : {A : Type 0} (why : Refusal) → ◌≡◌ {A = Result Bool Refusal} (Err why) (Ok true) → A
refused_not_kept why e = cc

module _ {n : Node} {m left : List ℕ} {said : Result Bool Refusal} (o : Offers n m left said) where
  pub offer_keeps_whole : buckets_whole m ≡ true → buckets_whole left ≡ true
  offer_keeps_whole h =
      offer_ways o (λ (l : List ℕ) (a : Result Bool Refusal). buckets_whole l ≡ true) (λ w. h) (λ w k. h) (λ w k s. h) (λ w k b f. h)
      (λ w k b q. kept_whole m n o.node w b k)

  pub offer_keeps_base : base_of left ≡ base_of m
  offer_keeps_base =
      offer_ways o (λ (l : List ℕ) (a : Result Bool Refusal). base_of l ≡ base_of m) (λ w. refl) (λ w k. refl) (λ w k s. refl) (λ w k b f. refl)
      (λ w k b q. kept_base m n o.node w b)

  pub offer_keeps_length : length left ≡ length m
  offer_keeps_length =
      offer_ways o (λ (l : List ℕ) (a : Result Bool Refusal). length l ≡ length m) (λ w. refl) (λ w k. refl) (λ w k s. refl) (λ w k b f. refl)
      (λ w k b q. kept_length m n o.node w b)

  pub offer_keeps_behind : drop 106784 left ≡ drop 106784 m
  offer_keeps_behind =
      offer_ways o (λ (l : List ℕ) (a : Result Bool Refusal). drop 106784 l ≡ drop 106784 m) (λ w. refl) (λ w k. refl) (λ w k s. refl) (λ w k b f. refl)
      (λ w k b q. kept_behind m n o.node w b)

  pub offer_keeps_bytes : Bytes left
  offer_keeps_bytes =
      offer_ways o (λ (l : List ℕ) (a : Result Bool Refusal). Bytes l) (λ w. o.bytes) (λ w k. o.bytes) (λ w k s. o.bytes) (λ w k b f. o.bytes)
      (λ w k b q. kept_bytes m n o.node w b o.bytes)

  -- every bucket but the key's own holds what it held
  pub offered_other : (c : ℕ) → c < 256 → (c ≡ own_bucket m n → ⊥) → held_in left c ≡ held_in m c
  offered_other c h d =
      offer_ways o (λ (l : List ℕ) (a : Result Bool Refusal). held_in l c ≡ held_in m c) (λ w. refl) (λ w k. refl) (λ w k s. refl) (λ w k b f. refl)
      (λ w k b q. ap bucket_nodes (kept_other m n o.node w b c h d))

  -- a key that was held is held
  pub held_stays : (k : List ℕ) → holds k (held_nodes m) ≡ true → holds k (held_nodes left) ≡ true
  held_stays k h =
      offer_ways o (λ (l : List ℕ) (a : Result Bool Refusal). holds k (held_nodes l) ≡ true) (λ w. h) (λ w f. h) (λ w f s. h) (λ w f b g. h)
      (λ w f b q. kept_holds m n o.node w b k h)

  -- no node but the one offered comes in
  pub offered_only : (x : Node) → In x (held_nodes left) → (x ≡ n) ⊎ In x (held_nodes m)
  offered_only x =
      offer_ways o (λ (l : List ℕ) (a : Result Bool Refusal). In x (held_nodes l) → (x ≡ n) ⊎ In x (held_nodes m)) (λ w i. inr i) (λ w k i. inr i) (λ w k s i. inr i)
      (λ w k b f i. inr i) (λ w k b q. kept_only m n o.node w b x)

  -- and each node of another key stays
  pub offered_others : (x : Node) → In x (held_nodes m) → (node_key x ≡ node_key n → ⊥) → In x (held_nodes left)
  offered_others x i d =
      offer_ways o (λ (l : List ℕ) (a : Result Bool Refusal). In x (held_nodes l)) (λ w. i) (λ w k. i) (λ w k s. i) (λ w k b f. i)
      (λ w k b q. kept_others m n o.node w b x i d)

  -- a node that is kept is held
  pub kept_is_held : said ≡ Ok true → In n (held_nodes left)
  kept_is_held =
      offer_ways o (λ (l : List ℕ) (a : Result Bool Refusal). a ≡ Ok true → In n (held_nodes l)) (λ w e. refused_not_kept BucketsNotWhole e)
      (λ w k e. refused_not_kept UnknownFamily e) (λ w k s e. never_kept e) (λ w k b f e. never_kept e) (λ w k b q e. kept_in_lem m n o.node w b q)

  -- one that is not leaves every byte
  pub unkept_leaves : (said ≡ Ok true → ⊥) → left ≡ m
  unkept_leaves =
      offer_ways o (λ (l : List ℕ) (a : Result Bool Refusal). (a ≡ Ok true → ⊥) → l ≡ m) (λ w e. refl) (λ w k e. refl) (λ w k s e. refl) (λ w k b f e. refl)
      (λ w k b q e. absurd (e refl))

  pub not_kept_leaves : said ≡ Ok false → left ≡ m
  not_kept_leaves e = unkept_leaves (λ (h : said ≡ Ok true). never_kept (sym e ∙ h))

  pub refused_leaves : (why : Refusal) → said ≡ Err why → left ≡ m
  refused_leaves why e = unkept_leaves (λ (h : said ≡ Ok true). refused_not_kept why (sym e ∙ h))

  -- ---- the refusals, in their order

  pub not_whole_refused : buckets_whole m ≡ false → (left ≡ m) × (said ≡ Err BucketsNotWhole)
  not_whole_refused h = (o.leaves ∙ not_whole_left m n h, o.answers ∙ not_whole_answer m n h)

  pub unknown_refused : buckets_whole m ≡ true → known_family n.family ≡ false → (left ≡ m) × (said ≡ Err UnknownFamily)
  unknown_refused h k = (o.leaves ∙ unknown_left m n h k, o.answers ∙ unknown_answer m n h k)
