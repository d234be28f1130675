-- What the bytes of a table list, and where the keys stand.
use mathlib.Core.Path.{◌≡◌, ◌∙◌, refl, sym, ap}
use mathlib.Core.Bool.{Bool, true, false, ◌&&◌}
use mathlib.Core.List.{List, [], ◌∷◌}
use Prim.Native.Nat.{ℕ, ◌+◌, ◌*◌, ◌-◌, ◌<◌, ◌≤◌, min}
use native.Mathlib.Nat.{suc-mul, le_trans, le_of_eq, mul-le-mul_right, add-sub_cancel_left}
use native.Mathlib.Omega.{arith}
use lib.ListN.{length, get_or, take, drop, length-drop}
use lib.Seq.{length-take-le, get_or-take, get_or-drop, drop-drop, take_all, take-take}
use lib.Dec.{ltb, leb}
use borrow.Author.Tests.{leb-true, leb-false, lt-leb, le-leb}
use Rattle.lists.proofs.Found.{leading_le}
use Rattle.table_laws.specs.Bytes.{key_before}
use Rattle.table_laws.specs.Table.{Table, Spot, count, order, listed, key_at, rising, rising_after, table_whole, place_of}
use Rattle.table_laws.proofs.KeyOrder.{both}

pub listed_is : (p : ℕ) (b : List ℕ) → take (count b) (order p b) ≡ listed p b
unfolding listed
listed_is p b = refl

module _ (p : ℕ) (b : List ℕ) (l : p < length b) where
  pub length_order : length (order p b) ≡ p
  length_order = length-take-le p (drop 1 b) (rw length-drop (omega arith))

  -- the part lent for them
  pub listed_lent : (m : ℕ) → m ≡ min (count b) p → take (1 + m - 1) (drop 1 b) ≡ listed p b
  unfolding listed
  listed_lent m e = rw (add-sub_cancel_left 1 m, e) (go (leb (count b) p) refl)
    where
      go : (t : Bool) → leb (count b) p ≡ t → take (min (count b) p) (drop 1 b) ≡ take (count b) (order p b)
      go true e =
          let c = leb-true (count b) p e in
          let m : min (count b) p ≡ count b = omega arith in
          rw m (sym (take-take (count b) p (drop 1 b) c))
      go false e =
          let c = leb-false (count b) p e in
          let m : min (count b) p ≡ p = omega arith in
          rw m (sym (take_all (count b) (order p b) (rw length_order (omega arith))))

  -- the count tells how many are listed, up to p
  pub length_listed : count b ≤ p → length (listed p b) ≡ count b
  unfolding listed
  length_listed c = length-take-le (count b) (order p b) (rw length_order c)

  pub length_all : p ≤ count b → length (listed p b) ≡ p
  unfolding listed
  length_all c = ap length (take_all (count b) (order p b) (rw length_order c)) ∙ length_order

  pub listed_few : (length (listed p b) ≤ count b) × (length (listed p b) ≤ p)
  listed_few = go (leb (count b) p) refl
    where
      go : (t : Bool) → leb (count b) p ≡ t → (length (listed p b) ≤ count b) × (length (listed p b) ≤ p)
      go true e = let c = leb-true (count b) p e in let q = length_listed c in (omega arith, omega arith)
      go false e = let c = leb-false (count b) p e in let q = length_all (omega arith) in (omega arith, omega arith)

  pub at_listed : (i : ℕ) → i < length (listed p b) → get_or (listed p b) i 0 ≡ get_or b (1 + i) 0
  unfolding listed
  at_listed i h =
      let q = listed_few in
      get_or-take (count b) (order p b) i 0 (omega arith)
      ∙ get_or-take p (drop 1 b) i 0 (omega arith)
      ∙ get_or-drop 1 b i 0

pub row_fits : (p w n : ℕ) → n < p → n * w + w ≤ p * w
row_fits p w n h = le_trans (le_of_eq (sym (suc-mul n w))) (mul-le-mul_right w h)

module _ (p w : ℕ) (b : List ℕ) where
  pub key_drop : (n : ℕ) → key_at p w b n ≡ take 32 (drop (1 + p + n * w) b)
  unfolding key_at
  key_drop n = ap (take 32) (drop-drop (n * w) (1 + p) b)

  -- the bytes that are lent for a key
  pub key_lent : (n r : ℕ) → Spot p w b n r → take (r + 32 - r) (drop r b) ≡ key_at p w b n
  key_lent n r s = rw (add-sub_cancel_left r 32, s.at) (sym (key_drop n))

  pub length_key : (n : ℕ) → Table p w b → n < p → length (key_at p w b n) ≡ 32
  length_key n t h =
      ap length (key_drop n)
      ∙ length-take-le 32 (drop (1 + p + n * w) b) (rw length-drop (let q = row_fits p w n h in let k = t.key in let m = t.long in omega arith))

  -- ---- whole

  pub whole_count : table_whole p w b ≡ true → count b ≤ p
  unfolding table_whole
  whole_count h = leb-true (count b) p (both (leb (count b) p) _ h).0

  pub whole_rising : table_whole p w b ≡ true → rising p (key_at p w b) (listed p b) ≡ true
  unfolding table_whole
  whole_rising h = (both (leb (count b) p) _ h).1

  pub whole_many : p < count b → table_whole p w b ≡ false
  unfolding table_whole
  whole_many h = rw (lt-leb (count b) p h)

  pub whole_is : count b ≤ p → table_whole p w b ≡ rising p (key_at p w b) (listed p b)
  unfolding table_whole
  whole_is h = rw (le-leb (count b) p h)

  pub whole_none : count b ≡ 0 → table_whole p w b ≡ true
  unfolding table_whole listed rising
  whole_none h = rw (h, le-leb 0 p (omega arith))

pub none : (ns : List ℕ) → length ns ≡ 0 → ns ≡ []
none [] e = refl
none (n ∷ ns) e = absurd (omega arith)

module _ (p w : ℕ) (b : List ℕ) (c : count b ≤ p) where
  pub whole_empty : length (listed p b) ≡ 0 → table_whole p w b ≡ true
  unfolding rising
  whole_empty e = whole_is p w b c ∙ ap (rising p (key_at p w b)) (none (listed p b) e)

  -- the first of them, and those behind it
  pub whole_begins : (m : ℕ) (ms : List ℕ) → listed p b ≡ m ∷ ms → table_whole p w b ≡ (ltb m p && rising_after p (key_at p w b) m ms)
  unfolding rising
  whole_begins m ms e = whole_is p w b c ∙ ap (rising p (key_at p w b)) e

  pub place_le : p < length b → (k : List ℕ) → place_of p w b k ≤ count b
  place_le l k = let a = leading_le (λ (n : ℕ). key_before (key_at p w b n) k) (listed p b) in let q = length_listed p b l c in omega arith
