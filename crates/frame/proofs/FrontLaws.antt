-- Laws of what stands at the front of bytes: why it is so, and that what bytes come behind changes only what is unfinished. Assumes nothing.
use mathlib.Core.Path.{◌≡◌, ◌∙◌, refl, sym, ap, subst}
use mathlib.Core.Bool.{Bool, true, false}
use mathlib.Core.List.{List, ◌++◌}
use Prim.Native.Nat.{ℕ, ◌+◌, ◌<◌, ◌≤◌}
use native.Mathlib.Omega.{arith}
use lib.Dec.{leb}
use lib.ListN.{length, take, length-append}
use lib.Seq.{take-append-le, take-take, length-take-le}
use borrow.Author.Tests.{le-leb, lt-leb, leb-true, leb-false}
use Rattle.std.proofs.lemmas.Bool.Decides.{nat_tests}
use Rattle.wire.specs.Numbers.{number_of}
use Rattle.frame.specs.declared.Front.{Front}
use Rattle.frame.specs.declared.Front.TheVariants.{Unfinished, BadLength, Whole}
use Rattle.frame.specs.Frames.{length_of, length_right, front_with, front}

-- ---- a length that a frame may have

pub length_bounds : (n : ℕ) → length_right n ≡ true → (17 ≤ n) × (n ≤ 2048)
unfolding length_right
length_bounds n e = (grind (arith, nat_tests), grind (arith, nat_tests))

pub bounds_length : (n : ℕ) → 17 ≤ n → n ≤ 2048 → length_right n ≡ true
unfolding length_right
bounds_length n h k = simp (le-leb 17 n h, le-leb n 2048 k)

pub under_length : (n : ℕ) → n < 17 → length_right n ≡ false
unfolding length_right
under_length n h = simp (lt-leb 17 n h)

pub above_length : (n : ℕ) → 2048 < n → length_right n ≡ false
unfolding length_right
above_length n h = simp (le-leb 17 n (omega arith), lt-leb n 2048 h)

-- ---- why the front is what it is

-- fewer than two bytes
pub front_few : (bytes : List ℕ) → length bytes < 2 → front bytes ≡ Unfinished
unfolding front
front_few bytes h = simp (lt-leb 2 (length bytes) h)

-- a length that no frame has
pub record Wrong (bytes : List ℕ) : Type 0 where
  pub two : 2 ≤ length bytes
  pub wrong : length_right (length_of bytes) ≡ false

pub front_wrong : (bytes : List ℕ) → Wrong bytes → front bytes ≡ BadLength
unfolding front front_with
front_wrong bytes w = simp (le-leb 2 (length bytes) w.two, w.wrong)

-- a frame that lacks bytes
pub record Short (bytes : List ℕ) : Type 0 where
  pub two : 2 ≤ length bytes
  pub right : length_right (length_of bytes) ≡ true
  pub lacks : length bytes < 2 + length_of bytes

pub front_short : (bytes : List ℕ) → Short bytes → front bytes ≡ Unfinished
unfolding front front_with
front_short bytes w = simp (le-leb 2 (length bytes) w.two, w.right, lt-leb (2 + length_of bytes) (length bytes) w.lacks)

-- a whole frame, of so many bytes
pub record Long (bytes : List ℕ) (size : ℕ) : Type 0 where
  pub two : 2 ≤ length bytes
  pub right : length_right (length_of bytes) ≡ true
  pub ends : size ≡ 2 + length_of bytes
  pub there : size ≤ length bytes

pub front_long : (bytes : List ℕ) (size : ℕ) → Long bytes size → front bytes ≡ Whole size
unfolding front front_with
front_long bytes size w =
    simp (le-leb 2 (length bytes) w.two, w.right, le-leb (2 + length_of bytes) (length bytes) (omega (arith, w.ends, w.there))) (ap Whole (sym w.ends))

pub data FrontIs (bytes : List ℕ) (f : Front) : Type 0 where
  few : length bytes < 2 → f ≡ Unfinished → FrontIs bytes f
  wrong : Wrong bytes → f ≡ BadLength → FrontIs bytes f
  short : Short bytes → f ≡ Unfinished → FrontIs bytes f
  long : (size : ℕ) → Long bytes size → f ≡ Whole size → FrontIs bytes f

module _ (bytes : List ℕ) where
  at_end : 2 ≤ length bytes → length_right (length_of bytes) ≡ true → (t : Bool) → leb (2 + length_of bytes) (length bytes) ≡ t → FrontIs bytes (front bytes)
  at_end h r true e =
      let w : Long bytes (2 + length_of bytes) = record { two = h; right = r; ends = refl; there = leb-true (2 + length_of bytes) (length bytes) e } in
      long (2 + length_of bytes) w (front_long bytes (2 + length_of bytes) w)
  at_end h r false e =
      let w : Short bytes = record { two = h; right = r; lacks = leb-false (2 + length_of bytes) (length bytes) e } in short w (front_short bytes w)

  at_length : 2 ≤ length bytes → (t : Bool) → length_right (length_of bytes) ≡ t → FrontIs bytes (front bytes)
  at_length h true e = at_end h e (leb (2 + length_of bytes) (length bytes)) refl
  at_length h false e = let w : Wrong bytes = record { two = h; wrong = e } in wrong w (front_wrong bytes w)

  at_two : (t : Bool) → leb 2 (length bytes) ≡ t → FrontIs bytes (front bytes)
  at_two true e = at_length (leb-true 2 (length bytes) e) (length_right (length_of bytes)) refl
  at_two false e = few (leb-false 2 (length bytes) e) (front_few bytes (leb-false 2 (length bytes) e))

  pub front_is : FrontIs bytes (front bytes)
  front_is = at_two (leb 2 (length bytes)) refl

-- ---- read backwards

no_whole : {size : ℕ} → Whole size ≡ Unfinished → ⊥
no_whole e = absurd (cc)

pub long_of : (bytes : List ℕ) (size : ℕ) → front bytes ≡ Whole size → Long bytes size
long_of bytes size e = go (front_is bytes)
  where
    go : FrontIs bytes (front bytes) → Long bytes size
    go (few h f) = absurd (no_whole (sym e ∙ f))
    go (wrong w f) = absurd (cc)
    go (short w f) = absurd (no_whole (sym e ∙ f))
    go (long n w f) = subst (Long bytes) (let q : n ≡ size = cc in q) w

pub wrong_of : (bytes : List ℕ) → front bytes ≡ BadLength → Wrong bytes
wrong_of bytes e = go (front_is bytes)
  where
    go : FrontIs bytes (front bytes) → Wrong bytes
    go (few h f) = absurd (cc)
    go (wrong w f) = w
    go (short w f) = absurd (cc)
    go (long n w f) = absurd (cc)

-- a frame has 19 to 2,050 bytes
pub long_bounds : (bytes : List ℕ) (size : ℕ) → Long bytes size → (19 ≤ size) × (size ≤ 2050)
long_bounds bytes size w = let b = length_bounds (length_of bytes) w.right in (omega (arith, w.ends, b.0), omega (arith, w.ends, b.1))

-- what is unfinished is shorter than the longest frame, so 2,050 bytes never are
pub unfinished_bound : (bytes : List ℕ) → front bytes ≡ Unfinished → length bytes < 2050
unfinished_bound bytes e = go (front_is bytes)
  where
    go : FrontIs bytes (front bytes) → length bytes < 2050
    go (few h f) = omega arith
    go (wrong w f) = absurd (cc)
    go (short w f) = omega (arith, w.lacks, (length_bounds (length_of bytes) w.right).1)
    go (long n w f) = absurd (no_whole (sym f ∙ e))

-- ---- with bytes behind

-- a length that is there is read in the first two bytes
pub length_behind : (a b : List ℕ) → 2 ≤ length a → length_of (a ++ b) ≡ length_of a
unfolding length_of
length_behind a b h = ap number_of (take-append-le 2 a b h)

pub long_behind : (a b : List ℕ) (size : ℕ) → Long a size → Long (a ++ b) size
long_behind a b size w = record {
  two = omega (arith, length-append a b, w.two);
  right = ap length_right (length_behind a b w.two) ∙ w.right;
  ends = w.ends ∙ ap (λ (n : ℕ). 2 + n) (sym (length_behind a b w.two));
  there = omega (arith, length-append a b, w.there);
}

pub whole_behind : (a b : List ℕ) (size : ℕ) → front a ≡ Whole size → front (a ++ b) ≡ Whole size
whole_behind a b size e = front_long (a ++ b) size (long_behind a b size (long_of a size e))

pub bad_behind : (a b : List ℕ) → front a ≡ BadLength → front (a ++ b) ≡ BadLength
bad_behind a b e =
    let w = wrong_of a e in
    front_wrong (a ++ b) (record {
      two = omega (arith, length-append a b, w.two);
      wrong = ap length_right (length_behind a b w.two) ∙ w.wrong;
    })

-- a frame alone is whole, and so is all that it stands in front of
pub whole_alone : (bytes : List ℕ) (size : ℕ) → front bytes ≡ Whole size → front (take size bytes) ≡ Whole size
unfolding length_of
whole_alone bytes size e =
    let w = long_of bytes size e in
    let b = long_bounds bytes size w in
    let l : length (take size bytes) ≡ size = length-take-le size bytes w.there in
    let t : length_of (take size bytes) ≡ length_of bytes = ap number_of (take-take 2 size bytes (omega (arith, b.0))) in
    front_long (take size bytes) size (record {
      two = omega (arith, l, b.0);
      right = ap length_right t ∙ w.right;
      ends = w.ends ∙ ap (λ (n : ℕ). 2 + n) (sym t);
      there = omega (arith, l);
    })

-- a frame that comes to be whole is longer than what was unfinished of it
pub grown : (a b : List ℕ) (size : ℕ) → front a ≡ Unfinished → front (a ++ b) ≡ Whole size → length a < size
grown a b size e w = go (front_is a)
  where
    long_ab : Long (a ++ b) size
    long_ab = long_of (a ++ b) size w

    go : FrontIs a (front a) → length a < size
    go (few h f) = omega (arith, h, (long_bounds (a ++ b) size long_ab).0)
    go (wrong w f) = absurd (cc)
    go (short s f) = omega (arith, s.lacks, long_ab.ends, length_behind a b s.two)
    go (long n w f) = absurd (no_whole (sym f ∙ e))
