-- Which numbers a list has after one is put in or taken out, and lists that have each number once: such a list of numbers below p is no longer
-- than p.
use mathlib.Core.Path.{◌≡◌, refl, sym, ap, ◌∙◌}
use mathlib.Core.Bool.{Bool, true, false, ◌||◌, cond, or-true, true≢false}
use mathlib.Core.List.{List, [], ◌∷◌, ◌++◌}
use Prim.Native.Nat.{ℕ, zero, suc, ◌+◌, ◌≤◌, ◌<◌}
use native.Mathlib.Nat.{not-suc-le-zero}
use native.Mathlib.Numerals.{add-one}
use native.Mathlib.Omega.{arith}
use lib.ListN.{length, drop, get_or, drop_of_length-le}
use lib.Seq.{drop-cons}
use lib.Dec.{eqb}
use borrow.Author.Tests.{eq-eqb, ne_eqb, eqb-true}
use Rattle.lists.specs.Insert.{insert_at, remove_at}
use Rattle.lists.specs.Find.{first_of, member, index_of}

clash : {t : Bool} → t ≡ true → t ≡ false → ⊥
clash p q = true≢false (sym p ∙ q)

or_swap : (a b c : Bool) → (a || (b || c)) ≡ (b || (a || c))
or_swap true true c = refl
or_swap true false c = refl
or_swap false true c = refl
or_swap false false c = refl

-- ---- put in, taken out

pub member_in : (x i n : ℕ) (ns : List ℕ) → member x (insert_at i n ns) ≡ (eqb n x || member x ns)
unfolding member
member_in x zero n ns = refl
member_in x (suc i) n [] = refl
member_in x (suc i) n (m ∷ ns) = rw (member_in x i n ns) (or_swap (eqb m x) (eqb n x) (member x ns))

pub member_last : (x : ℕ) (a : List ℕ) (n : ℕ) → member x (a ++ (n ∷ [])) ≡ (eqb n x || member x a)
unfolding member
member_last x [] n = refl
member_last x (m ∷ a) n = rw (member_last x a n) (or_swap (eqb m x) (eqb n x) (member x a))

pub member_out : (x n : ℕ) (ns : List ℕ) → (n ≡ x → ⊥) → member x (remove_at (index_of n ns) ns) ≡ member x ns
unfolding member first_of
member_out x n [] d = refl
member_out x n (m ∷ ns) d = go (eqb m n) refl (member_out x n ns d)
  where
    go : (t : Bool) → eqb m n ≡ t → member x (remove_at (index_of n ns) ns) ≡ member x ns →
        member x (remove_at (cond t 0 (suc (index_of n ns))) (m ∷ ns)) ≡ (eqb m x || member x ns)
    go true e ih = rw (ne_eqb m x (λ (q : m ≡ x). d (sym (eqb-true m n e) ∙ q)))
    go false e ih = ap (λ (t : Bool). eqb m x || t) ih

pub member_less : (x i : ℕ) (ns : List ℕ) → member x (remove_at i ns) ≡ true → member x ns ≡ true
unfolding member
member_less x i [] h = h
member_less x zero (n ∷ ns) h = rw (h, or-true (eqb n x))
member_less x (suc i) (n ∷ ns) h = go (eqb n x) h (member_less x i ns)
  where
    go : (t : Bool) → (t || member x (remove_at i ns)) ≡ true → (member x (remove_at i ns) ≡ true → member x ns ≡ true) → (t || member x ns) ≡ true
    go true h ih = refl
    go false h ih = ih h

pub index_member : (n : ℕ) (ns : List ℕ) → member n ns ≡ true → index_of n ns < length ns
unfolding member first_of
index_member n [] h = absurd (true≢false (sym h))
index_member n (m ∷ ns) h = go (eqb m n) h (index_member n ns)
  where
    go : (t : Bool) → (t || member n ns) ≡ true → (member n ns ≡ true → index_of n ns < length ns) → cond t 0 (suc (index_of n ns)) < suc (length ns)
    go true h ih = omega arith
    go false h ih = let q = ih h in omega arith

-- ---- loops that look for a number, one turn at a time

module _ (n : ℕ) (ns : List ℕ) (i : ℕ) (h : i < length ns) where
  member_turn : member n (drop i ns) ≡ (eqb (get_or ns i 0) n || member n (drop (i + 1) ns))
  unfolding member
  member_turn = rw (add-one, drop-cons ns i 0 h)

  pub member_here : get_or ns i 0 ≡ n → member n (drop i ns) ≡ true
  member_here e = rw (member_turn, eq-eqb _ _ e)

  pub member_next : (get_or ns i 0 ≡ n → ⊥) → member n (drop i ns) ≡ member n (drop (i + 1) ns)
  member_next e = rw (member_turn, ne_eqb _ _ e)

pub member_end : (n : ℕ) (ns : List ℕ) (i : ℕ) → length ns ≤ i → member n (drop i ns) ≡ false
unfolding member
member_end n ns i h = rw (drop_of_length-le ns h)

-- ---- each once

abbrev pub Distinct : List ℕ → Type 0
Distinct [] = Unit {0}
Distinct (x ∷ xs) = (member x xs ≡ false) × Distinct xs

abbrev Below : ℕ → List ℕ → Type 0
Below p ns = (x : ℕ) → member x ns ≡ true → x < p

flip : {t u : Bool} → (t ≡ true → u ≡ true) → u ≡ false → t ≡ false
flip {t} {u} h e = go t refl
  where
    go : (v : Bool) → t ≡ v → v ≡ false
    go true q = absurd (clash (h q) e)
    go false q = refl

distinct_less : (i : ℕ) (ns : List ℕ) → Distinct ns → Distinct (remove_at i ns)
distinct_less i [] u = tt
distinct_less zero (n ∷ ns) u = u.1
distinct_less (suc i) (n ∷ ns) u = (flip (member_less n i ns) u.0, distinct_less i ns u.1)

-- the one taken out is not there any more
pub out_gone : (n : ℕ) (ns : List ℕ) → Distinct ns → member n (remove_at (index_of n ns) ns) ≡ false
unfolding member first_of
out_gone n [] u = refl
out_gone n (m ∷ ns) u = go (eqb m n) refl (out_gone n ns u.1)
  where
    go : (t : Bool) → eqb m n ≡ t → member n (remove_at (index_of n ns) ns) ≡ false → member n (remove_at (cond t 0 (suc (index_of n ns))) (m ∷ ns)) ≡ false
    go true e ih = rw (← eqb-true m n e) u.0
    go false e ih = rw e ih

length_less : (i : ℕ) (ns : List ℕ) → length ns ≤ suc (length (remove_at i ns))
length_less i [] = omega arith
length_less zero (n ∷ ns) = omega arith
length_less (suc i) (n ∷ ns) = let q = length_less i ns in omega arith

pub distinct_few : (p : ℕ) (ns : List ℕ) → Distinct ns → Below p ns → length ns ≤ p
unfolding member
distinct_few zero [] u h = omega arith
distinct_few zero (n ∷ ns) u h = absurd (not-suc-le-zero (h n (rw (eq-eqb n n refl))))
distinct_few (suc p) ns u h =
    let q = length_less (index_of p ns) ns in
    let r = distinct_few p (remove_at (index_of p ns) ns) (distinct_less (index_of p ns) ns u) below in
    omega arith
  where
    below : (x : ℕ) → member x (remove_at (index_of p ns) ns) ≡ true → x < p
    below x m =
        let a = h x (member_less x (index_of p ns) ns m) in
        let d : x ≡ p → ⊥ = λ e. clash (ap (λ (y : ℕ). member y (remove_at (index_of p ns) ns)) (sym e) ∙ m) (out_gone p ns u) in
        omega (arith, d)
