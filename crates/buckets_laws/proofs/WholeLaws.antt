-- Whole buckets, as facts of each bucket by itself: its length, its table, and that what it lists are places and nodes that belong to it. Assumes nothing.
use mathlib.Core.Path.{◌≡◌, ◌∙◌, refl, sym, ap}
use mathlib.Core.Bool.{Bool, true, false}
use mathlib.Core.List.{List}
use Prim.Native.Nat.{ℕ, zero, suc, ◌+◌, ◌*◌, ◌≤◌, ◌<◌}
use native.Mathlib.Nat.{not-suc-le-zero}
use native.Mathlib.Omega.{arith}
use lib.Dec.{eqb, leb}
use lib.ListN.{length, drop, length-drop}
use lib.Seq.{length-take-le}
use borrow.Author.Tests.{eqb-true, eqb-false, leb-true, le-leb, lt-leb}
use Rattle.lists.specs.Find.{member}
use Rattle.table_laws.specs.Table.{Table, listed, key_at, table_whole, is_table, fits_table}
use Rattle.table_laws.proofs.KeyOrder.{both, rising_below}
use Rattle.table_laws.proofs.Listed.{whole_rising}
use Rattle.table_laws.proofs.FitsLaws.{fits_table_lem}
use Rattle.buckets_laws.specs.Layout.{base_of, bucket_at, bucket_nodes}
use Rattle.buckets_laws.specs.Whole.{all_belong, bucket_whole, whole_below, buckets_whole}

-- ---- one bucket

module _ (base : List ℕ) (b : ℕ) (t : List ℕ) where
  pub bucket_table : bucket_whole base b t ≡ true → is_table 8 51 t ≡ true
  unfolding bucket_whole
  bucket_table h = (both (is_table 8 51 t) _ h).0

  pub bucket_belong : bucket_whole base b t ≡ true → all_belong base b (bucket_nodes t) ≡ true
  unfolding bucket_whole
  bucket_belong h = (both (is_table 8 51 t) _ h).1

  pub bucket_whole_lem : is_table 8 51 t ≡ true → all_belong base b (bucket_nodes t) ≡ true → bucket_whole base b t ≡ true
  unfolding bucket_whole
  bucket_whole_lem h k = rw (h, k)

  pub bucket_unlisted : is_table 8 51 t ≡ false → bucket_whole base b t ≡ false
  unfolding bucket_whole
  bucket_unlisted h = rw h

  pub bucket_by_nodes : is_table 8 51 t ≡ true → bucket_whole base b t ≡ all_belong base b (bucket_nodes t)
  unfolding bucket_whole
  bucket_by_nodes h = rw h

module _ (t : List ℕ) (h : is_table 8 51 t ≡ true) where
  pub table_facts : Table 8 51 t × (table_whole 8 51 t ≡ true)
  unfolding is_table
  table_facts =
      let q = both (fits_table 8 51 t) _ h in
      (fits_table_lem 8 51 t q.0, q.1)

  pub listed_low : (x : ℕ) → member x (listed 8 t) ≡ true → x < 8
  listed_low = rising_below 8 (key_at 8 51 t) (listed 8 t) (whole_rising 8 51 t table_facts.1)

-- ---- all buckets

module _ (m : List ℕ) where
  abbrev Here : ℕ → Type 0
  Here b = bucket_whole (base_of m) b (bucket_at m b) ≡ true

  -- where some are not whole, more of them are not
  pub below_stays : (n b : ℕ) → b ≤ n → whole_below m b ≡ false → whole_below m n ≡ false
  unfolding whole_below
  below_stays zero zero l h = h
  below_stays zero (suc b) l h = absurd (not-suc-le-zero l)
  below_stays (suc n) b l h = go (eqb b (suc n)) refl (λ k. below_stays n b k h)
    where
      go : (t : Bool) → eqb b (suc n) ≡ t → (b ≤ n → whole_below m n ≡ false) → whole_below m (suc n) ≡ false
      go true e ih = ap (whole_below m) (sym (eqb-true b (suc n) e)) ∙ h
      go false e ih = rw (ih (let z = eqb-false b (suc n) e in omega (arith, z, l)))

  below_here : (n : ℕ) → whole_below m n ≡ true → (b : ℕ) → b < n → Here b
  unfolding whole_below
  below_here zero h b l = absurd (not-suc-le-zero l)
  below_here (suc n) h b l =
      let q = both (whole_below m n) _ h in
      go (eqb b n) refl q.1 (below_here n q.0 b)
    where
      go : (t : Bool) → eqb b n ≡ t → Here n → (b < n → Here b) → Here b
      go true e here rest = rw (eqb-true b n e) here
      go false e here rest = rest (let z = eqb-false b n e in omega (arith, z, l))

  here_below : (n : ℕ) → ((b : ℕ) → b < n → Here b) → whole_below m n ≡ true
  unfolding whole_below
  here_below zero h = refl
  here_below (suc n) h = rw (here_below n (λ b l. h b (omega arith)), h n (omega arith))

  pub whole_long : buckets_whole m ≡ true → 106784 ≤ length m
  unfolding buckets_whole
  whole_long h = leb-true 106784 (length m) (both (leb 106784 (length m)) _ h).0

  pub whole_bucket : buckets_whole m ≡ true → (b : ℕ) → b < 256 → bucket_whole (base_of m) b (bucket_at m b) ≡ true
  unfolding buckets_whole
  whole_bucket h = below_here 256 (both (leb 106784 (length m)) _ h).1

  pub buckets_whole_lem : 106784 ≤ length m → ((b : ℕ) → b < 256 → bucket_whole (base_of m) b (bucket_at m b) ≡ true) → buckets_whole m ≡ true
  unfolding buckets_whole
  buckets_whole_lem l h = rw (le-leb 106784 (length m) l, here_below 256 h)

  pub buckets_short : length m < 106784 → buckets_whole m ≡ false
  unfolding buckets_whole
  buckets_short l = rw (lt-leb 106784 (length m) l)

  pub buckets_by_all : 106784 ≤ length m → buckets_whole m ≡ whole_below m 256
  unfolding buckets_whole
  buckets_by_all l = rw (le-leb 106784 (length m) l)

  pub below_more : (b : ℕ) → whole_below m b ≡ true → whole_below m (suc b) ≡ bucket_whole (base_of m) b (bucket_at m b)
  unfolding whole_below
  below_more b h = rw h

-- ---- where a bucket stands

pub bucket_inside : (m : List ℕ) (b : ℕ) → 106784 ≤ length m → b < 256 → 32 + b * 417 + 417 ≤ length m
bucket_inside m b l h = omega arith

pub bucket_long : (m : List ℕ) (b : ℕ) → 106784 ≤ length m → b < 256 → length (bucket_at m b) ≡ 417
unfolding bucket_at
bucket_long m b l h = length-take-le 417 (drop (32 + b * 417) m) (rw length-drop (omega arith))
