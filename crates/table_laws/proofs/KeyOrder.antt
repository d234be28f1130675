-- Laws of the order of keys and of lists of places whose keys rise.
use mathlib.Core.Path.{◌≡◌, refl, sym, ap, ◌∙◌, subst}
use mathlib.Core.Bool.{Bool, true, false, ◌&&◌, ◌||◌, cond, or-true, and-false}
use Prim.Native.Nat.{ℕ, zero, suc, ◌+◌, ◌≤◌, ◌<◌}
use native.Mathlib.Nat.{le_of_suc-le-suc, not-suc-le-zero, suc-ne-zero, suc_inj}
use native.Mathlib.Numerals.{add-one}
use native.Mathlib.Omega.{arith}
use mathlib.Core.List.{List, [], ◌∷◌}
use lib.ListN.{length, drop, get_or, drop_of_length-le}
use lib.Seq.{drop-cons}
use lib.Dec.{eqb, ltb}
use borrow.Author.Tests.{eq-eqb, ne_eqb, eqb-true, eqb-false, ltb-true, ltb-false, lt-ltb, le-ltb}
use Rattle.std.specs.Cmp.Lexicographic.{pointwise, slice_cmp}
use Rattle.std.specs.Ordering.{nat_cmp, is_lt, ordering_then}
use Rattle.std.specs.declared.cmp.Ordering.TheVariants.{Less, Equal, Greater}
use Rattle.key.specs.Keys.{same_key}
use Rattle.lists.specs.Insert.{insert_at, remove_at}
use Rattle.lists.specs.Find.{leading, member}
use Rattle.table_laws.specs.Bytes.{key_before}
use Rattle.table_laws.specs.Table.{rising, rising_after, position}

pub no : false ≡ true → ⊥
no e = subst (λ (t : Bool). cond t ⊥ (Unit {0})) e tt

pub both : (a b : Bool) → (a && b) ≡ true → (a ≡ true) × (b ≡ true)
both true b e = (refl, e)
both false b e = absurd (no e)

pub clash : {t : Bool} → t ≡ true → t ≡ false → ⊥
clash p q = no (sym q ∙ p)

-- ---- key_before

pub key_before_irrefl : (x : List ℕ) → key_before x x ≡ false
unfolding key_before
key_before_irrefl [] = refl
key_before_irrefl (x ∷ xs) = rw (eq-eqb x x refl) (key_before_irrefl xs)

pub key_before_trans : (x y z : List ℕ) → key_before x y ≡ true → key_before y z ≡ true → key_before x z ≡ true
unfolding key_before
key_before_trans [] y z h k = absurd (no h)
key_before_trans (x ∷ xs) [] z h k = absurd (no h)
key_before_trans (x ∷ xs) (y ∷ ys) [] h k = absurd (no k)
key_before_trans (x ∷ xs) (y ∷ ys) (z ∷ zs) h k = go (key_before_trans xs ys zs) (eqb x y) (eqb y z) refl refl h k
  where
    go : (key_before xs ys ≡ true → key_before ys zs ≡ true → key_before xs zs ≡ true) → (t u : Bool) → eqb x y ≡ t → eqb y z ≡ u → cond t (key_before xs ys) (ltb x y) ≡ true → cond u (key_before ys zs) (ltb y z) ≡ true →
        cond (eqb x z) (key_before xs zs) (ltb x z) ≡ true
    go ih true true e f h k = rw (eq-eqb x z (eqb-true x y e ∙ eqb-true y z f)) (ih h k)
    go ih true false e f h k =
        let a = eqb-true x y e in
        let b = ltb-true y z k in
        rw (ne_eqb x z (λ (q : x ≡ z). omega arith)) (lt-ltb x z (omega arith))
    go ih false true e f h k =
        let a = eqb-true y z f in
        let b = ltb-true x y h in
        rw (ne_eqb x z (λ (q : x ≡ z). omega arith)) (lt-ltb x z (omega arith))
    go ih false false e f h k =
        let a = ltb-true x y h in
        let b = ltb-true y z k in
        rw (ne_eqb x z (λ (q : x ≡ z). omega arith)) (lt-ltb x z (omega arith))

pub key_before_total : (x y : List ℕ) → length x ≡ length y → key_before x y ≡ false → key_before y x ≡ false → x ≡ y
unfolding key_before
key_before_total [] [] l h k = refl
key_before_total [] (y ∷ ys) l h k = absurd (suc-ne-zero (length ys) (sym l))
key_before_total (x ∷ xs) [] l h k = absurd (suc-ne-zero (length xs) l)
key_before_total (x ∷ xs) (y ∷ ys) l h k = go (key_before_total xs ys (suc_inj l)) (eqb x y) refl h k
  where
    go : (key_before xs ys ≡ false → key_before ys xs ≡ false → xs ≡ ys) → (t : Bool) → eqb x y ≡ t → cond t (key_before xs ys) (ltb x y) ≡ false → cond (eqb y x) (key_before ys xs) (ltb y x) ≡ false → x ∷ xs ≡ y ∷ ys
    go ih true e h k =
        let a = eqb-true x y e in
        let i = ih h (rw (eq-eqb y x (sym a)) at k) in
        cc
    go ih false e h k =
        let a = eqb-false x y e in
        let b = ltb-false x y h in
        let c = ltb-false y x (rw (ne_eqb y x (λ (q : y ≡ x). a (sym q))) at k) in
        absurd (a (omega arith))

pub key_before_differ : (a b : List ℕ) → 0 < length a → 0 < length b → (get_or a 0 0 ≡ get_or b 0 0 → ⊥) → key_before a b ≡ ltb (get_or a 0 0) (get_or b 0 0)
unfolding key_before
key_before_differ [] b h k d = absurd (omega arith)
key_before_differ (x ∷ a) [] h k d = absurd (omega arith)
key_before_differ (x ∷ a) (y ∷ b) h k d = rw (ne_eqb x y d)

-- the order of slices is that of keys, where they are of one length
pub slices_before : (a b : List ℕ) → length a ≡ length b → is_lt (slice_cmp nat_cmp a b) ≡ key_before a b
unfolding key_before
slices_before [] [] l = refl
slices_before [] (y ∷ b) l = absurd (omega arith)
slices_before (x ∷ a) [] l = absurd (omega arith)
slices_before (x ∷ a) (y ∷ b) l = go (ltb x y) (eqb x y) refl refl (slices_before a b (suc_inj l))
  where
    go : (t u : Bool) → ltb x y ≡ t → eqb x y ≡ u → is_lt (slice_cmp nat_cmp a b) ≡ key_before a b
        → is_lt (ordering_then (cond t Less (cond u Equal Greater)) (slice_cmp nat_cmp a b)) ≡ cond u (key_before a b) t
    go true true e f ih = let c = ltb-true x y e in let d = eqb-true x y f in absurd (omega arith)
    go true false e f ih = refl
    go false true e f ih = ih
    go false false e f ih = refl

-- and their equality is that of keys
pub slices_same : (a b : List ℕ) → pointwise eqb a b ≡ same_key a b
unfolding same_key
slices_same [] [] = refl
slices_same [] (y ∷ b) = refl
slices_same (x ∷ a) [] = refl
slices_same (x ∷ a) (y ∷ b) = ap (λ (t : Bool). eqb x y && t) (slices_same a b)

-- ---- lists of places whose keys rise

module _ (p : ℕ) (f : ℕ → List ℕ) where
  pub rising_tail : (m : ℕ) (ns : List ℕ) → rising_after p f m ns ≡ true → rising p f ns ≡ true
  unfolding rising rising_after
  rising_tail m [] h = refl
  rising_tail m (n ∷ ns) h =
      let q = both (ltb n p) _ h in
      rw q.0 (both (key_before (f m) (f n)) _ q.1).1

  pub rising_all : (m : ℕ) (ns : List ℕ) → rising_after p f m ns ≡ true → (x : ℕ) → member x ns ≡ true → key_before (f m) (f x) ≡ true
  unfolding rising_after member
  rising_all m [] h x i = absurd (no i)
  rising_all m (n ∷ ns) h x i =
      let q = both (key_before (f m) (f n)) _ (both (ltb n p) _ h).1 in
      go (rising_all n ns q.1 x) (eqb n x) refl q.0 i
    where
      go : (member x ns ≡ true → key_before (f n) (f x) ≡ true) → (t : Bool) → eqb n x ≡ t → key_before (f m) (f n) ≡ true → (t || member x ns) ≡ true → key_before (f m) (f x) ≡ true
      go ih true e a i = rw (← eqb-true n x e) a
      go ih false e a i = key_before_trans (f m) (f n) (f x) a (ih i)

  -- THE LAW: what rising is apart
  pub rising_apart : (ns : List ℕ) → rising p f ns ≡ true → (x y : ℕ) → member x ns ≡ true → member y ns ≡ true → f x ≡ f y → x ≡ y
  unfolding rising member
  rising_apart [] h x y i j e = absurd (no i)
  rising_apart (n ∷ ns) h x y i j e =
      go (λ i j. rising_apart ns (rising_tail n ns (both (ltb n p) _ h).1) x y i j e) (eqb n x) (eqb n y) refl refl i j
    where
      c : rising_after p f n ns ≡ true
      c = (both (ltb n p) _ h).1

      go : (member x ns ≡ true → member y ns ≡ true → x ≡ y) → (t u : Bool) → eqb n x ≡ t → eqb n y ≡ u → (t || member x ns) ≡ true → (u || member y ns) ≡ true → x ≡ y
      go ih true true a b i j = sym (eqb-true n x a) ∙ eqb-true n y b
      go ih true false a b i j =
          absurd (clash (rising_all n ns c y j) (rw (eqb-true n x a, e) (key_before_irrefl (f y))))
      go ih false true a b i j =
          absurd (clash (rising_all n ns c x i) (rw (eqb-true n y b, e) (key_before_irrefl (f y))))
      go ih false false a b i j = ih i j

  pub rising_below : (ns : List ℕ) → rising p f ns ≡ true → (x : ℕ) → member x ns ≡ true → x < p
  unfolding rising member
  rising_below [] h x i = absurd (no i)
  rising_below (n ∷ ns) h x i = go (rising_below ns (rising_tail n ns (both (ltb n p) _ h).1) x) (eqb n x) refl i
    where
      go : (member x ns ≡ true → x < p) → (t : Bool) → eqb n x ≡ t → (t || member x ns) ≡ true → x < p
      go ih true a i = let e = eqb-true n x a in let q = ltb-true n p (both (ltb n p) _ h).0 in omega arith
      go ih false a i = ih i

  -- the loop that checks: n is the i-th, and m the one before it
  module _ (m : ℕ) (ns : List ℕ) (i n : ℕ) (b : i < length ns) (e : n ≡ get_or ns i 0) where
    rising_step : rising_after p f m (drop i ns) ≡ (ltb n p && (key_before (f m) (f n) && rising_after p f n (drop (i + 1) ns)))
    unfolding rising_after
    rising_step = rw (e, add-one, drop-cons ns i 0 b)

    pub step_out : p ≤ n → rising_after p f m (drop i ns) ≡ false
    step_out o = rising_step ∙ rw (le-ltb n p o)

    pub step_falls : key_before (f m) (f n) ≡ false → rising_after p f m (drop i ns) ≡ false
    step_falls o = rising_step ∙ rw o (and-false (ltb n p))

    pub step_on : n < p → key_before (f m) (f n) ≡ true → rising_after p f m (drop i ns) ≡ rising_after p f n (drop (i + 1) ns)
    step_on u o = rising_step ∙ rw (lt-ltb n p u, o)

  pub rising_end : (m : ℕ) (ns : List ℕ) (i : ℕ) → length ns ≤ i → rising_after p f m (drop i ns) ≡ true
  unfolding rising_after
  rising_end m ns i h = rw (drop_of_length-le ns h)

  -- ---- one put in at its place

  module _ (n : ℕ) (below : n < p) where
    -- what is not key_before n is after it
    abbrev pub Apart : List ℕ → Type 0
    Apart ns = (x : ℕ) → member x ns ≡ true → key_before (f x) (f n) ≡ false → key_before (f n) (f x) ≡ true

    apart_tail : (x : ℕ) (ns : List ℕ) → Apart (x ∷ ns) → Apart ns
    unfolding member
    apart_tail x ns a y i = a y (rw (i, or-true (eqb x y)))

    apart_head : (x : ℕ) (ns : List ℕ) → Apart (x ∷ ns) → key_before (f x) (f n) ≡ false → key_before (f n) (f x) ≡ true
    unfolding member
    apart_head x ns a = a x (rw (eq-eqb x x refl))

    from_put_step : (m x : ℕ) (ns : List ℕ) (t : Bool) → key_before (f x) (f n) ≡ t → ltb x p ≡ true → key_before (f m) (f x) ≡ true →
        rising_after p f x ns ≡ true → key_before (f m) (f n) ≡ true → Apart (x ∷ ns) →
        (key_before (f x) (f n) ≡ true → rising_after p f x (insert_at (position f (f n) ns) n ns) ≡ true) →
        rising_after p f m (insert_at (cond t (suc (position f (f n) ns)) 0) n (x ∷ ns)) ≡ true
    unfolding rising_after
    from_put_step m x ns true e a b c l d ih = rw (a, b) (ih e)
    from_put_step m x ns false e a b c l d ih = rw (lt-ltb n p below, l, a, c, apart_head x ns d e)

    from_put : (m : ℕ) (ns : List ℕ) → rising_after p f m ns ≡ true → key_before (f m) (f n) ≡ true → Apart ns →
        rising_after p f m (insert_at (position f (f n) ns) n ns) ≡ true
    unfolding rising_after leading
    from_put m [] h l a = rw (lt-ltb n p below, l)
    from_put m (x ∷ ns) h l a =
        let q = both (ltb x p) _ h in
        let r = both (key_before (f m) (f x)) _ q.1 in
        from_put_step m x ns (key_before (f x) (f n)) refl q.0 r.0 r.1 l a (λ e. from_put x ns r.1 e (apart_tail x ns a))

    put_step : (x : ℕ) (ns : List ℕ) (t : Bool) → key_before (f x) (f n) ≡ t → ltb x p ≡ true → rising_after p f x ns ≡ true → Apart (x ∷ ns) →
        rising p f (insert_at (cond t (suc (position f (f n) ns)) 0) n (x ∷ ns)) ≡ true
    unfolding rising
    put_step x ns true e a c d = rw a (from_put x ns c e (apart_tail x ns d))
    put_step x ns false e a c d = unfold rising_after in rw (lt-ltb n p below, a, c, apart_head x ns d e)

    pub rising_put : (ns : List ℕ) → rising p f ns ≡ true → Apart ns → rising p f (insert_at (position f (f n) ns) n ns) ≡ true
    unfolding rising rising_after leading
    rising_put [] h a = rw (lt-ltb n p below)
    rising_put (x ∷ ns) h a =
        let q = both (ltb x p) _ h in
        put_step x ns (key_before (f x) (f n)) refl q.0 q.1 a

  -- ---- one taken out

  skip : (m x : ℕ) (ns : List ℕ) → key_before (f m) (f x) ≡ true → rising_after p f x ns ≡ true → rising_after p f m ns ≡ true
  unfolding rising_after
  skip m x [] h c = refl
  skip m x (y ∷ ys) h c =
      let q = both (ltb y p) _ c in
      let r = both (key_before (f x) (f y)) _ q.1 in
      rw (q.0, key_before_trans (f m) (f x) (f y) h r.0) r.1

  from_out : (m i : ℕ) (ns : List ℕ) → rising_after p f m ns ≡ true → rising_after p f m (remove_at i ns) ≡ true
  unfolding rising_after
  from_out m i [] h = refl
  from_out m zero (x ∷ ns) h =
      let q = both (key_before (f m) (f x)) _ (both (ltb x p) _ h).1 in
      skip m x ns q.0 q.1
  from_out m (suc i) (x ∷ ns) h =
      let q = both (ltb x p) _ h in
      let r = both (key_before (f m) (f x)) _ q.1 in
      rw (q.0, r.0) (from_out x i ns r.1)

  pub rising_out : (i : ℕ) (ns : List ℕ) → rising p f ns ≡ true → rising p f (remove_at i ns) ≡ true
  unfolding rising
  rising_out i [] h = refl
  rising_out zero (x ∷ ns) h = rising_tail x ns (both (ltb x p) _ h).1
  rising_out (suc i) (x ∷ ns) h = let q = both (ltb x p) _ h in rw q.0 (from_out x i ns q.1)

  pub rising_at : (ns : List ℕ) (i : ℕ) → rising p f ns ≡ true → i < length ns → get_or ns i 0 < p
  unfolding rising
  rising_at [] i c h = absurd (not-suc-le-zero h)
  rising_at (x ∷ ns) zero c h = ltb-true x p (both (ltb x p) _ c).0
  rising_at (x ∷ ns) (suc i) c h = rising_at ns i (rising_tail x ns (both (ltb x p) _ c).1) (le_of_suc-le-suc h)
