-- Elements found by a test: how many pass from the front, and where the first that passes stands; also in each turn of a loop that counts them.
use mathlib.Core.Path.{◌≡◌, refl, ap}
use mathlib.Core.Bool.{Bool, true, false, cond}
use mathlib.Core.List.{List, [], ◌∷◌}
use Prim.Native.Nat.{ℕ, zero, suc, ◌+◌, ◌<◌, ◌≤◌}
use native.Mathlib.Nat.{le_of_suc-le-suc, not-suc-le-zero}
use native.Mathlib.Omega.{arith}
use native.Mathlib.Numerals.{add-one}
use lib.ListN.{length, get_or, take, drop, drop_of_length-le}
use lib.Seq.{drop-cons}
use Rattle.lists.specs.Find.{leading, first_of}

module _ {A : Type 0} (t : A → Bool) where
  -- ---- how many pass, from the front

  pub leading_none : leading t [] ≡ 0
  unfolding leading
  leading_none = refl

  pub leading_one : (m : A) (ms : List A) (b : Bool) → t m ≡ b → leading t (m ∷ ms) ≡ cond b (suc (leading t ms)) 0
  unfolding leading
  leading_one m ms b e = ap (λ (x : Bool). cond x (suc (leading t ms)) 0) e

  pub leading_le : (ms : List A) → leading t ms ≤ length ms
  unfolding leading
  leading_le [] = omega arith
  leading_le (m ∷ ms) = go (t m) (leading_le ms)
    where
      go : (b : Bool) → leading t ms ≤ length ms → cond b (suc (leading t ms)) 0 ≤ suc (length ms)
      go true h = omega arith
      go false h = omega arith

  -- where one does not pass, no more than those before it do
  pub leading_stops : (ms : List A) (i : ℕ) (d : A) → i < length ms → t (get_or ms i d) ≡ false → leading t ms ≤ i
  leading_stops [] i d h e = absurd (not-suc-le-zero h)
  leading_stops (m ∷ ms) zero d h e = let q = leading_one m ms false e in omega arith
  leading_stops (m ∷ ms) (suc i) d h e = go (t m) refl (leading_stops ms i d (le_of_suc-le-suc h) e)
    where
      go : (b : Bool) → t m ≡ b → leading t ms ≤ i → leading t (m ∷ ms) ≤ suc i
      go true q r = let s = leading_one m ms true q in omega arith
      go false q r = let s = leading_one m ms false q in omega arith

  -- what stands behind them has no say
  pub leading_take : (ms : List A) (j : ℕ) → leading t ms ≤ j → leading t (take j ms) ≡ leading t ms
  leading_take [] zero h = refl
  leading_take [] (suc j) h = refl
  leading_take (m ∷ ms) j h = go (t m) refl (leading_take ms) j h
    where
      go : (b : Bool) → t m ≡ b → ((i : ℕ) → leading t ms ≤ i → leading t (take i ms) ≡ leading t ms) →
          (j : ℕ) → leading t (m ∷ ms) ≤ j → leading t (take j (m ∷ ms)) ≡ leading t (m ∷ ms)
      go true e ih zero h = absurd (let q = leading_one m ms true e in omega arith)
      go true e ih (suc j) h =
          let q = leading_one m ms true e in
          let r = leading_one m (take j ms) true e in
          let s = ih j (omega arith) in
          omega arith
      go false e ih zero h = let q = leading_one m ms false e in let r = leading_none in omega arith
      go false e ih (suc j) h = let q = leading_one m ms false e in let r = leading_one m (take j ms) false e in omega arith

  -- ---- where the first that passes stands

  pub first_none : first_of t [] ≡ 0
  unfolding first_of
  first_none = refl

  pub first_one : (m : A) (ms : List A) (b : Bool) → t m ≡ b → first_of t (m ∷ ms) ≡ cond b 0 (suc (first_of t ms))
  unfolding first_of
  first_one m ms b e = ap (λ (x : Bool). cond x 0 (suc (first_of t ms))) e

  -- ---- a loop that counts them, one turn at a time

  module _ (ms : List A) (d : A) (i : ℕ) (h : i < length ms) where
    pub leading_turn : (b : Bool) → t (get_or ms i d) ≡ b → leading t (drop i ms) ≡ cond b (suc (leading t (drop (i + 1) ms))) 0
    leading_turn b e = rw (add-one, drop-cons ms i d h) (leading_one (get_or ms i d) (drop (suc i) ms) b e)

  module _ (ms : List A) (i : ℕ) (h : length ms ≤ i) where
    pub leading_end : leading t (drop i ms) ≡ 0
    leading_end = rw (drop_of_length-le ms h) leading_none
