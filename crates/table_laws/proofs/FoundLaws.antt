-- What is found among the places listed: the place found by a key is listed and has the key, and where none is found no listed place has it; the
-- lowest place not listed is not listed, and every place below it is.
use mathlib.Core.Path.{◌≡◌, refl, sym, ap, ◌∙◌}
use mathlib.Core.Bool.{Bool, true, false, ◌||◌, cond, or-true}
use mathlib.Core.List.{List, [], ◌∷◌}
use Prim.Native.Nat.{ℕ, zero, suc, ◌+◌, ◌≤◌, ◌<◌}
use native.Mathlib.Omega.{arith}
use lib.Dec.{eqb}
use borrow.Author.Tests.{eq-eqb, eqb-true, eqb-false}
use Rattle.key.specs.Keys.{same_key}
use Rattle.key.proofs.Same.{same_refl, same_sound}
use Rattle.lists.specs.Find.{member}
use Rattle.table_laws.specs.Table.{find_key, lowest}
use Rattle.table_laws.proofs.KeyOrder.{no}

-- ---- by a key

module _ (p : ℕ) (f : ℕ → List ℕ) (k : List ℕ) where
  found_step : (n : ℕ) (ns : List ℕ) (u : Bool) → same_key (f n) k ≡ u →
      (find_key p f k ns < p → (member (find_key p f k ns) ns ≡ true) × (f (find_key p f k ns) ≡ k)) →
      cond u n (find_key p f k ns) < p → (member (cond u n (find_key p f k ns)) (n ∷ ns) ≡ true) × (f (cond u n (find_key p f k ns)) ≡ k)
  unfolding member
  found_step n ns true e ih h = (rw (eq-eqb n n refl), same_sound (f n) k e)
  found_step n ns false e ih h = let q = ih h in (rw (q.0, or-true (eqb n (find_key p f k ns))), q.1)

  -- the place found is listed and has the key
  pub found_has_key : (ns : List ℕ) → find_key p f k ns < p → (member (find_key p f k ns) ns ≡ true) × (f (find_key p f k ns) ≡ k)
  unfolding find_key
  found_has_key [] h = absurd (omega arith)
  found_has_key (n ∷ ns) h = found_step n ns (same_key (f n) k) refl (found_has_key ns) h

  missed_step : (n : ℕ) (ns : List ℕ) (u : Bool) → same_key (f n) k ≡ u → n < p → ((x : ℕ) → p ≤ find_key p f k ns → member x ns ≡ true → f x ≡ k → ⊥) →
      (x : ℕ) → p ≤ cond u n (find_key p f k ns) → (v : Bool) → eqb n x ≡ v → (v || member x ns) ≡ true → f x ≡ k → ⊥
  missed_step n ns true e b ih x h v q m d = omega arith
  missed_step n ns false e b ih x h true q m d =
      no (sym e ∙ ap (λ (y : List ℕ). same_key y k) (ap f (eqb-true n x q) ∙ d) ∙ same_refl k)
  missed_step n ns false e b ih x h false q m d = ih x h m d

  -- where none is found, no listed place has the key
  pub missed_has_not : (ns : List ℕ) → ((x : ℕ) → member x ns ≡ true → x < p) → (x : ℕ) → p ≤ find_key p f k ns → member x ns ≡ true → f x ≡ k → ⊥
  unfolding find_key member
  missed_has_not [] b x h m d = no m
  missed_has_not (n ∷ ns) b x h m d =
      missed_step n ns (same_key (f n) k) refl (b n (rw (eq-eqb n n refl))) (missed_has_not ns (λ y i. b y (rw (i, or-true (eqb n y))))) x h (eqb n x) refl m d

-- what is told is a place, or that there is none
pub found_most : (p : ℕ) (f : ℕ → List ℕ) (k ns : List ℕ) → ((x : ℕ) → member x ns ≡ true → x < p) → find_key p f k ns ≤ p
unfolding find_key member
found_most p f k [] b = omega arith
found_most p f k (n ∷ ns) b =
    go (same_key (f n) k) (b n (rw (eq-eqb n n refl))) (found_most p f k ns (λ x m. b x (rw (m, or-true (eqb n x)))))
  where
    go : (u : Bool) → n < p → find_key p f k ns ≤ p → cond u n (find_key p f k ns) ≤ p
    go true h ih = omega arith
    go false h ih = ih

-- ---- the lowest not listed

-- it is not listed
pub lowest_unlisted : (i n : ℕ) (ns : List ℕ) → lowest i n ns < i + n → member (lowest i n ns) ns ≡ false
unfolding lowest
lowest_unlisted i zero ns h = absurd (omega arith)
lowest_unlisted i (suc n) ns h = go (member i ns) refl (lowest_unlisted (suc i) n ns) h
  where
    go : (t : Bool) → member i ns ≡ t → (lowest (suc i) n ns < suc i + n → member (lowest (suc i) n ns) ns ≡ false) →
        cond t (lowest (suc i) n ns) i < i + suc n → member (cond t (lowest (suc i) n ns) i) ns ≡ false
    go true e ih h = ih (omega arith)
    go false e ih h = e

-- every place below it is
pub below_lowest : (i n : ℕ) (ns : List ℕ) (j : ℕ) → i ≤ j → j < lowest i n ns → member j ns ≡ true
unfolding lowest
below_lowest i zero ns j l h = absurd (omega arith)
below_lowest i (suc n) ns j l h = go (member i ns) refl (below_lowest (suc i) n ns j) (eqb i j) refl h
  where
    go : (t : Bool) → member i ns ≡ t → (suc i ≤ j → j < lowest (suc i) n ns → member j ns ≡ true) → (u : Bool) → eqb i j ≡ u →
        j < cond t (lowest (suc i) n ns) i → member j ns ≡ true
    go true e ih true q h = ap (λ (x : ℕ). member x ns) (sym (eqb-true i j q)) ∙ e
    go true e ih false q h = let z = eqb-false i j q in ih (omega (arith, z)) h
    go false e ih u q h = absurd (omega arith)
