-- A table that is whole without a key k: what it tells, and the loop that tests it, where the places passed do not have the key.
use mathlib.Core.Path.{◌≡◌, refl, sym, ap, ◌∙◌}
use mathlib.Core.Bool.{Bool, true, false, not}
use mathlib.Core.List.{List, ◌∷◌}
use Prim.Native.Nat.{ℕ, ◌+◌, ◌≤◌, ◌<◌}
use lib.ListN.{length, drop, get_or}
use lib.Dec.{eqb}
use borrow.Author.Tests.{eq-eqb, eqb-false}
use Rattle.key.specs.Keys.{same_key}
use Rattle.key.proofs.Same.{same_sound, not_so}
use Rattle.table_laws.specs.Table.{fits_table, count, listed, key_at, table_whole, find_key, table_without, is_table_without, place_below}
use Rattle.table_laws.proofs.KeyOrder.{both, rising_below}
use Rattle.table_laws.proofs.Listed.{none, whole_empty, whole_many, whole_rising}
use Rattle.table_laws.proofs.SearchLaws.{find_on}
use Rattle.table_laws.proofs.FoundLaws.{found_most}
use Rattle.table_laws.proofs.PlaceBelow.{some_below}
use Rattle.std.specs.Option.{is_some}

-- keys whose first bytes differ
not_alike : (a k : List ℕ) → eqb (get_or a 0 0) (get_or k 0 0) ≡ false → same_key a k ≡ false
not_alike a k h = not_so (λ e. eqb-false (get_or a 0 0) (get_or k 0 0) h (ap (λ (x : List ℕ). get_or x 0 0) (same_sound a k e)))

module _ (p w : ℕ) (b k : List ℕ) where
  -- ---- what it tells

  pub without_whole : table_without p w b k ≡ true → table_whole p w b ≡ true
  unfolding table_without
  without_whole h = (both (table_whole p w b) _ h).0

  pub without_not_whole : table_whole p w b ≡ false → table_without p w b k ≡ false
  unfolding table_without
  without_not_whole h = rw h

  -- in a whole table the search for the key decides
  pub whole_without : table_whole p w b ≡ true → table_without p w b k ≡ eqb (find_key p (key_at p w b) k (listed p b)) p
  unfolding table_without
  whole_without h = rw h

  pub without_many : p < count b → table_without p w b k ≡ false
  without_many h = without_not_whole (whole_many p w b h)

  pub without_empty : count b ≤ p → length (listed p b) ≡ 0 → table_without p w b k ≡ true
  unfolding find_key
  without_empty c e =
      whole_without (whole_empty p w b c e) ∙ ap (λ (ns : List ℕ). eqb (find_key p (key_at p w b) k ns) p) (none (listed p b) e) ∙ eq-eqb p p refl

  -- ---- the test with the bytes' length

  pub without_fits : fits_table p w b ≡ true → is_table_without p w b k ≡ table_without p w b k
  unfolding is_table_without
  without_fits h = rw h

  pub without_unfit : fits_table p w b ≡ false → is_table_without p w b k ≡ false
  unfolding is_table_without
  without_unfit h = rw h

  -- by what the search answered: the place found, where there is one
  pub without_found : table_whole p w b ≡ true → (r : Bool) → is_some (place_below p (find_key p (key_at p w b) k (listed p b))) ≡ not r → r ≡ table_without p w b k
  without_found o r e =
      go r (eqb (find_key p (key_at p w b) k (listed p b)) p) (sym e ∙ some_below p (find_key p (key_at p w b) k (listed p b)) most) ∙ sym (whole_without o)
    where
      most : find_key p (key_at p w b) k (listed p b) ≤ p
      most = found_most p (key_at p w b) k (listed p b) (rising_below p (key_at p w b) (listed p b) (whole_rising p w b o))

      go : (r u : Bool) → not r ≡ not u → r ≡ u
      go true true q = refl
      go true false q = cc
      go false true q = cc
      go false false q = refl

  pub without_missed : table_whole p w b ≡ true → find_key p (key_at p w b) k (listed p b) ≡ p → table_without p w b k ≡ true
  without_missed o e = whole_without o ∙ eq-eqb (find_key p (key_at p w b) k (listed p b)) p e

-- ---- the loop: a key whose first byte is another is passed

module _ (p : ℕ) (f : ℕ → List ℕ) (k : List ℕ) (n : ℕ) (other : eqb (get_or (f n) 0 0) (get_or k 0 0) ≡ false) where
  pub pass_first : (ns : List ℕ) → find_key p f k (n ∷ ns) ≡ find_key p f k ns
  unfolding find_key
  pass_first ns = rw (not_alike (f n) k other)

  pub pass_on : (ns : List ℕ) (i : ℕ) → i < length ns → n ≡ get_or ns i 0 → find_key p f k (drop i ns) ≡ find_key p f k (drop (i + 1) ns)
  pass_on ns i h e = find_on p f k ns i n h e (not_alike (f n) k other)
