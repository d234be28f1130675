-- The passes over the places listed, one turn at a time: the first that has a key, and how many come before one. A place that is none has no key.
use mathlib.Core.Path.{◌≡◌, refl, sym, ap, ◌∙◌}
use mathlib.Core.Bool.{Bool, true, false, cond, true≢false}
use mathlib.Core.List.{List, [], ◌∷◌}
use Prim.Native.Nat.{ℕ, suc, ◌+◌, ◌*◌, ◌≤◌, ◌<◌}
use native.Mathlib.Nat.{mul-le-mul_right}
use native.Mathlib.Numerals.{add-one}
use native.Mathlib.Omega.{arith}
use lib.ListN.{length, take, drop, get_or, length-drop, drop_of_length-le}
use lib.Seq.{drop-cons, take-nil}
use lib.Dec.{ltb}
use borrow.Author.Tests.{ltb-true, ltb-false}
use Rattle.key.specs.Keys.{same_key}
use Rattle.lists.proofs.Found.{leading_turn, leading_end}
use Rattle.table_laws.specs.Bytes.{key_before}
use Rattle.table_laws.specs.Table.{Table, records, key_at, find_key, position}

-- n is the i-th
module _ (p : ℕ) (f : ℕ → List ℕ) (k : List ℕ) (ns : List ℕ) (i n : ℕ) (h : i < length ns) (e : n ≡ get_or ns i 0) where
  find_turn : find_key p f k (drop i ns) ≡ cond (same_key (f n) k) n (find_key p f k (drop (i + 1) ns))
  unfolding find_key
  find_turn = rw (e, add-one, drop-cons ns i 0 h)

  pub find_here : same_key (f n) k ≡ true → find_key p f k (drop i ns) ≡ n
  find_here y = find_turn ∙ rw y

  pub find_on : same_key (f n) k ≡ false → find_key p f k (drop i ns) ≡ find_key p f k (drop (i + 1) ns)
  find_on y = find_turn ∙ rw y

  pub position_here : key_before (f n) k ≡ false → position f k (drop i ns) ≡ 0
  position_here y = leading_turn (λ (n : ℕ). key_before (f n) k) ns 0 i h false (rw (← e) y)

  pub position_on : key_before (f n) k ≡ true → position f k (drop i ns) ≡ suc (position f k (drop (i + 1) ns))
  position_on y = leading_turn (λ (n : ℕ). key_before (f n) k) ns 0 i h true (rw (← e) y)

module _ (p : ℕ) (f : ℕ → List ℕ) (k : List ℕ) (ns : List ℕ) (i : ℕ) (h : length ns ≤ i) where
  pub find_end : find_key p f k (drop i ns) ≡ p
  unfolding find_key
  find_end = rw (drop_of_length-le ns h)

  pub position_end : position f k (drop i ns) ≡ 0
  position_end = leading_end (λ (n : ℕ). key_before (f n) k) ns i h

module _ (p w : ℕ) (b : List ℕ) (t : Table p w b) (n : ℕ) where
  -- a place that is none has no key
  pub key_none : p ≤ n → key_at p w b n ≡ []
  unfolding key_at
  key_none h =
      let q = mul-le-mul_right w h in
      let l = t.long in
      ap (take 32) (drop_of_length-le (records p b) {i = n * w} (rw length-drop (omega arith))) ∙ take-nil 32

  pub none_same : p ≤ n → (k : List ℕ) → length k ≡ 32 → same_key (key_at p w b n) k ≡ false
  unfolding same_key
  none_same h k e = rw (key_none h) (go k e)
    where
      go : (k : List ℕ) → length k ≡ 32 → same_key [] k ≡ false
      go [] e = absurd (omega arith)
      go (x ∷ k) e = refl

  pub none_before : p ≤ n → (k : List ℕ) → key_before (key_at p w b n) k ≡ false
  none_before h k = rw (key_none h) (unfold key_before in refl)

  -- what is found by a key of 32 bytes is a place
  pub found_below : (k : List ℕ) → length k ≡ 32 → same_key (key_at p w b n) k ≡ true → n < p
  found_below k e y = go (ltb n p) refl
    where
      go : (u : Bool) → ltb n p ≡ u → n < p
      go true q = ltb-true n p q
      go false q = absurd (true≢false (sym y ∙ none_same (ltb-false n p q) k e))
