-- When bytes are as long as a table: the test, its single checks, and what follows from it.
use mathlib.Core.Path.{◌≡◌, sym, ◌∙◌}
use mathlib.Core.Bool.{Bool, true, false, not, and-false}
use mathlib.Core.List.{List}
use Prim.Native.Nat.{ℕ, ◌+◌, ◌*◌, ◌≤◌, ◌<◌}
use native.Mathlib.Nat.{mul-le-mul}
use lib.ListN.{length, replicate}
use lib.Dec.{eqb, ltb, leb}
use borrow.Author.Tests.{eq-eqb, eqb-true, leb-true, ltb-true, le-leb, lt-leb, lt-ltb, le-ltb, not-true, not-false}
use Rattle.lists.specs.Find.{member}
use Rattle.table_laws.specs.Table.{Table, table_bytes, fits_table, is_table, table_whole, count, listed, key_at, find_key, found, key_of_place, is_used, lowest, lowest_free, may_put, put, put_in, freed, freed_in}
use Rattle.table_laws.specs.Table.{refilled, may_overwrite, overwritten_in}
use Rattle.table_laws.proofs.KeyOrder.{both}

module _ (p w : ℕ) (b : List ℕ) where
  pub fits_table_lem : fits_table p w b ≡ true → Table p w b
  unfolding fits_table
  fits_table_lem h =
      let q = both (leb p 255) _ h in
      let r = both (leb 32 w) _ q.1 in
      let s = both (leb w 65535) _ r.1 in
      record {
        small = leb-true p 255 q.0;
        key = leb-true 32 w r.0;
        narrow = leb-true w 65535 s.0;
        long = eqb-true (length b) (table_bytes p w) s.1;
      }

  pub fits_is : p ≤ 255 → 32 ≤ w → w ≤ 65535 → fits_table p w b ≡ eqb (length b) (table_bytes p w)
  unfolding fits_table
  fits_is a k c = rw (le-leb p 255 a, le-leb 32 w k, le-leb w 65535 c)

  pub table_fits : Table p w b → fits_table p w b ≡ true
  table_fits t = fits_is t.small t.key t.narrow ∙ eq-eqb (length b) (table_bytes p w) t.long

  pub too_many : 255 < p → fits_table p w b ≡ false
  unfolding fits_table
  too_many h = rw (lt-leb p 255 h)

  pub too_thin : w < 32 → fits_table p w b ≡ false
  unfolding fits_table
  too_thin h = rw (lt-leb 32 w h) (and-false (leb p 255))

  pub too_wide : 65535 < w → fits_table p w b ≡ false
  unfolding fits_table
  too_wide h = rw (lt-leb w 65535 h, and-false (leb 32 w)) (and-false (leb p 255))

-- the bytes of a table are counted in a word
pub area : (p w : ℕ) → p ≤ 255 → w ≤ 65535 → p * w ≤ 255 * 65535
area p w h k = mul-le-mul h k

-- ---- the total functions: what each says where the bytes fit, and where they do not

module _ (p w : ℕ) (b : List ℕ) (k : List ℕ) where
  pub found_fits : fits_table p w b ≡ true → found p w b k ≡ find_key p (key_at p w b) k (listed p b)
  unfolding found
  found_fits h = rw h

  pub found_unfit : fits_table p w b ≡ false → found p w b k ≡ p
  unfolding found
  found_unfit h = rw h

  -- by what the test answered
  pub found_done : (r : Bool) → r ≡ fits_table p w b → not r ≡ false → (x : ℕ) → x ≡ find_key p (key_at p w b) k (listed p b) → x ≡ found p w b k
  found_done r e h x q = q ∙ sym (found_fits (sym e ∙ not-false r h))

module _ (p w : ℕ) (b : List ℕ) (n : ℕ) where
  pub key_place : fits_table p w b ≡ true → n < p → key_of_place p w b n ≡ key_at p w b n
  unfolding key_of_place
  key_place h k = rw (h, lt-ltb n p k)

  pub key_unfit : fits_table p w b ≡ false → key_of_place p w b n ≡ replicate 32 0
  unfolding key_of_place
  key_unfit h = rw h

  pub key_no_place : p ≤ n → key_of_place p w b n ≡ replicate 32 0
  unfolding key_of_place
  key_no_place h = rw (le-ltb n p h, and-false (fits_table p w b))

module _ (p w : ℕ) (b : List ℕ) where
  pub whole_fits : fits_table p w b ≡ true → is_table p w b ≡ table_whole p w b
  unfolding is_table
  whole_fits h = rw h

  pub whole_unfit : fits_table p w b ≡ false → is_table p w b ≡ false
  unfolding is_table
  whole_unfit h = rw h

module _ (p : ℕ) (b : List ℕ) where
  pub used_in : p < length b → (n : ℕ) → is_used p b n ≡ member n (listed p b)
  unfolding is_used
  used_in h n = rw (lt-ltb p (length b) h)

  pub used_short : length b ≤ p → (n : ℕ) → is_used p b n ≡ false
  unfolding is_used
  used_short h n = rw (le-ltb p (length b) h)

  pub lowest_in : p ≤ 255 → p < length b → lowest_free p b ≡ lowest 0 p (listed p b)
  unfolding lowest_free
  lowest_in h k = rw (le-leb p 255 h, lt-ltb p (length b) k)

  pub lowest_many : 255 < p → lowest_free p b ≡ p
  unfolding lowest_free
  lowest_many h = rw (lt-leb p 255 h)

  pub lowest_short : length b ≤ p → lowest_free p b ≡ p
  unfolding lowest_free
  lowest_short h = rw (le-ltb p (length b) h, and-false (leb p 255))

  pub freed_in_lem : p < length b → count b ≤ p → (n : ℕ) → freed_in p b n ≡ freed p b n
  unfolding freed_in
  freed_in_lem h k n = rw (lt-ltb p (length b) h, le-leb (count b) p k)

  pub freed_short : length b ≤ p → (n : ℕ) → freed_in p b n ≡ b
  unfolding freed_in
  freed_short h n = rw (le-ltb p (length b) h)

  pub freed_many : p < count b → (n : ℕ) → freed_in p b n ≡ b
  unfolding freed_in
  freed_many h n = rw (lt-leb (count b) p h, and-false (ltb p (length b)))

module _ (p w : ℕ) (b : List ℕ) (n : ℕ) (new : List ℕ) where
  pub put_may : may_put p w b n new ≡ true → put_in p w b n new ≡ put p w b n new
  unfolding put_in
  put_may h = rw h

  pub put_not : may_put p w b n new ≡ false → put_in p w b n new ≡ b
  unfolding put_in
  put_not h = rw h

  -- what may be put fits
  pub may_facts : may_put p w b n new ≡ true → Table p w b × (count b < p) × (n < p) × (32 ≤ length new) × (length new ≤ w)
  unfolding may_put
  may_facts h =
      let a = both (fits_table p w b) _ h in
      let q = both (ltb (count b) p) _ a.1 in
      let r = both (ltb n p) _ q.1 in
      let s = both (leb 32 (length new)) _ r.1 in
      (fits_table_lem p w b a.0, ltb-true (count b) p q.0, ltb-true n p r.0, leb-true 32 (length new) s.0, leb-true (length new) w s.1)

  pub may_unfit : fits_table p w b ≡ false → may_put p w b n new ≡ false
  unfolding may_put
  may_unfit h = rw h

  pub may_full : p ≤ count b → may_put p w b n new ≡ false
  unfolding may_put
  may_full h = rw (le-ltb (count b) p h) (and-false (fits_table p w b))

  pub may_none : p ≤ n → may_put p w b n new ≡ false
  unfolding may_put
  may_none h = rw (le-ltb n p h, and-false (ltb (count b) p)) (and-false (fits_table p w b))

  pub may_short : length new < 32 → may_put p w b n new ≡ false
  unfolding may_put
  may_short h = rw (lt-leb 32 (length new) h, and-false (ltb n p), and-false (ltb (count b) p)) (and-false (fits_table p w b))

  pub may_is : fits_table p w b ≡ true → count b < p → n < p → 32 ≤ length new → may_put p w b n new ≡ leb (length new) w
  unfolding may_put
  may_is f a h l = rw (f, lt-ltb (count b) p a, lt-ltb n p h, le-leb 32 (length new) l)

  -- by what the test answered
  module _ (r : Bool) (e : r ≡ may_put p w b n new) where
    pub put_allowed : not r ≡ false → may_put p w b n new ≡ true
    put_allowed h = sym e ∙ not-false r h

    pub put_entered : not r ≡ false → (x : List ℕ) → x ≡ put p w b n new → x ≡ put_in p w b n new
    put_entered h x q = q ∙ sym (put_may (put_allowed h))

    pub put_refused : not r ≡ true → b ≡ put_in p w b n new
    put_refused h = sym (put_not (sym e ∙ not-true r h))

module _ (p w : ℕ) (b : List ℕ) (n at : ℕ) (new : List ℕ) where
  pub overwrite_may : may_overwrite p w b n at new ≡ true → overwritten_in p w b n at new ≡ refilled p w b n at new
  unfolding overwritten_in
  overwrite_may h = rw h

  pub overwrite_not : may_overwrite p w b n at new ≡ false → overwritten_in p w b n at new ≡ b
  unfolding overwritten_in
  overwrite_not h = rw h

  -- what may be overwritten is a part of a used place's record behind its key
  pub overwrite_facts : may_overwrite p w b n at new ≡ true → Table p w b × (n < p) × (32 ≤ at) × (at + length new ≤ w) × (member n (listed p b) ≡ true)
  unfolding may_overwrite
  overwrite_facts h =
      let a = both (fits_table p w b) _ h in
      let q = both (ltb n p) _ a.1 in
      let r = both (leb 32 at) _ q.1 in
      let s = both (leb (at + length new) w) _ r.1 in
      (fits_table_lem p w b a.0, ltb-true n p q.0, leb-true 32 at r.0, leb-true (at + length new) w s.0, s.1)

  pub overwrite_unfit : fits_table p w b ≡ false → may_overwrite p w b n at new ≡ false
  unfolding may_overwrite
  overwrite_unfit h = rw h

  pub overwrite_none : p ≤ n → may_overwrite p w b n at new ≡ false
  unfolding may_overwrite
  overwrite_none h = rw (le-ltb n p h) (and-false (fits_table p w b))

  pub overwrite_key : at < 32 → may_overwrite p w b n at new ≡ false
  unfolding may_overwrite
  overwrite_key h = rw (lt-leb 32 at h, and-false (ltb n p)) (and-false (fits_table p w b))

  pub overwrite_past : w < at + length new → may_overwrite p w b n at new ≡ false
  unfolding may_overwrite
  overwrite_past h = rw (lt-leb (at + length new) w h, and-false (leb 32 at), and-false (ltb n p)) (and-false (fits_table p w b))

  pub overwrite_is : fits_table p w b ≡ true → n < p → 32 ≤ at → at + length new ≤ w → may_overwrite p w b n at new ≡ member n (listed p b)
  unfolding may_overwrite
  overwrite_is f h k l = rw (f, lt-ltb n p h, le-leb 32 at k, le-leb (at + length new) w l)

  -- by what the test answered
  module _ (r : Bool) (e : r ≡ may_overwrite p w b n at new) where
    pub overwrite_allowed : not r ≡ false → may_overwrite p w b n at new ≡ true
    overwrite_allowed h = sym e ∙ not-false r h

    pub overwrite_done : not r ≡ false → (x : List ℕ) → x ≡ refilled p w b n at new → x ≡ overwritten_in p w b n at new
    overwrite_done h x q = q ∙ sym (overwrite_may (overwrite_allowed h))

    pub overwrite_refused : not r ≡ true → b ≡ overwritten_in p w b n at new
    overwrite_refused h = sym (overwrite_not (sym e ∙ not-true r h))
