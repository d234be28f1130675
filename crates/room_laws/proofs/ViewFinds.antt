-- A search through what a table says, place by place, finds what the table's own lookups find: the place listed under a key, since the listed keys
-- of a whole table differ, and the lowest place that is not listed.
use mathlib.Core.Path.{◌≡◌, refl, sym, ap, ◌∙◌}
use mathlib.Core.Bool.{Bool, true, false, not, cond}
use mathlib.Core.List.{List, [], ◌∷◌}
use Prim.Native.Nat.{ℕ, zero, suc, ◌<◌}
use native.Mathlib.Omega.{arith}
use lib.Dec.{ltb}
use lib.ListN.{length, get_or}
use borrow.Author.Tests.{ltb-true, ltb-false}
use Rattle.key.specs.Keys.{same_key}
use Rattle.key.proofs.Same.{same_refl, same_sound, not_so}
use Rattle.table_laws.specs.Bytes.{member}
use Rattle.table_laws.specs.Table.{Table, listed, record_at, key_at, rising, table_whole, find_key, found, lowest, lowest_free, view}
use Rattle.table_laws.proofs.KeyOrder.{clash, rising_apart, rising_below}
use Rattle.table_laws.proofs.Listed.{whole_rising}
use Rattle.table_laws.proofs.FitsLaws.{table_fits, found_fits, lowest_in}
use Rattle.table_laws.proofs.TableLaws.{view_at, length_view}
use Rattle.table_laws.proofs.FoundLaws.{found_has_key, missed_has_not, lowest_unlisted, below_lowest}
use Rattle.rules.specs.Room.{none, at, or_later, find}
use Rattle.room_laws.specs.Lookup.{place_in}

-- ---- the lowest place of a list that passes a test

module _ {A : Type 0} (test : A → Bool) (d : A) where
  -- a place that passes, below which none does
  pub first_found : (l : List A) (j : ℕ) → j < length l → test (get_or l j d) ≡ true → ((i : ℕ) → i < j → test (get_or l i d) ≡ false) → find test l ≡ at j
  unfolding find or_later
  first_found [] j h e f = absurd (omega arith)
  first_found (x ∷ l) zero h e f = rw e
  first_found (x ∷ l) (suc j) h e f =
      rw (f 0 (omega arith), first_found l j (omega arith) e (λ i k. f (suc i) (omega arith)))

  -- a list in which none passes
  pub none_found : (l : List A) → ((i : ℕ) → i < length l → test (get_or l i d) ≡ false) → find test l ≡ none
  unfolding find or_later
  none_found [] f = refl
  none_found (x ∷ l) f = rw (f 0 (omega arith), none_found l (λ i k. f (suc i) (omega arith)))

-- ---- in what a table says

module _ {A : Type 0} (p w : ℕ) (b : List ℕ) (t : Table p w b) (o : table_whole p w b ≡ true) (h : Bool → List ℕ → A) (d : A) (test : A → Bool) where
  long : p < length b
  long = let q = t.long in omega arith

  -- a test that passes just where a listed place has the key
  module _ (k : List ℕ) (unlisted : (r : List ℕ) → test (h false r) ≡ false)
      (keyed : (n : ℕ) → n < p → test (h true (record_at p w b n)) ≡ same_key (key_at p w b n) k) where
    passes : (n : ℕ) → n < p → member n (listed p b) ≡ true → key_at p w b n ≡ k → test (get_or (view p w h b) n d) ≡ true
    passes n l m e = rw (view_at p w h b n d l, m, keyed n l, e) (same_refl k)

    passed : (n : ℕ) → n < p → test (get_or (view p w h b) n d) ≡ true → (member n (listed p b) ≡ true) × (key_at p w b n ≡ k)
    passed n l e = go (member n (listed p b)) refl (ap test (sym (view_at p w h b n d l)) ∙ e)
      where
        go : (u : Bool) → member n (listed p b) ≡ u → test (h u (record_at p w b n)) ≡ true → (u ≡ true) × (key_at p w b n ≡ k)
        go true m e = (refl, same_sound (key_at p w b n) k (sym (keyed n l) ∙ e))
        go false m e = absurd (clash e (unlisted (record_at p w b n)))

    pub finds_by_key : find test (view p w h b) ≡ place_in p (found p w b k)
    unfolding place_in
    finds_by_key = rw (found_fits p w b k (table_fits p w b t)) (go (ltb (find_key p (key_at p w b) k (listed p b)) p) refl)
      where
        f : ℕ
        f = find_key p (key_at p w b) k (listed p b)

        rises : rising p (key_at p w b) (listed p b) ≡ true
        rises = whole_rising p w b o

        go : (u : Bool) → ltb f p ≡ u → find test (view p w h b) ≡ cond u (at f) none
        go true e =
            let l : f < p = ltb-true f p e in
            let q = found_has_key p (key_at p w b) k (listed p b) l in
            first_found test d (view p w h b) f (rw (length_view p w h b) l) (passes f l q.0 q.1)
            (λ i k. not_so (λ z.
            let r = passed i (omega arith) z in
            let same : i ≡ f = rising_apart p (key_at p w b) (listed p b) rises i f r.0 q.0 (r.1 ∙ sym q.1) in
            omega arith))
        go false e =
            none_found test d (view p w h b)
            (λ i l. not_so (λ z.
            let r = passed i (rw (length_view p w h b) at l) z in
            missed_has_not p (key_at p w b) k (listed p b) (rising_below p (key_at p w b) (listed p b) rises) i (ltb-false f p e) r.0 r.1))

  -- a test that passes just where a place is not listed
  module _ (unlisted : (u : Bool) (r : List ℕ) → test (h u r) ≡ not u) where
    tells : (n : ℕ) → n < p → test (get_or (view p w h b) n d) ≡ not (member n (listed p b))
    tells n l = ap test (view_at p w h b n d l) ∙ unlisted (member n (listed p b)) (record_at p w b n)

    pub finds_unlisted : find test (view p w h b) ≡ place_in p (lowest_free p b)
    unfolding place_in
    finds_unlisted = rw (lowest_in p b t.small long) (go (ltb (lowest 0 p (listed p b)) p) refl)
      where
        go : (u : Bool) → ltb (lowest 0 p (listed p b)) p ≡ u → find test (view p w h b) ≡ cond u (at (lowest 0 p (listed p b))) none
        go true e =
            let l : lowest 0 p (listed p b) < p = ltb-true (lowest 0 p (listed p b)) p e in
            first_found test d (view p w h b) (lowest 0 p (listed p b)) (rw (length_view p w h b) l)
            (tells (lowest 0 p (listed p b)) l ∙ ap not (lowest_unlisted 0 p (listed p b) (omega arith)))
            (λ i k. tells i (omega arith) ∙ ap not (below_lowest 0 p (listed p b) i (omega arith) k))
        go false e =
            let z = ltb-false (lowest 0 p (listed p b)) p e in
            none_found test d (view p w h b)
            (λ i l. let k : i < p = rw (length_view p w h b) at l in tells i k ∙ ap not (below_lowest 0 p (listed p b) i (omega arith) (omega arith)))
