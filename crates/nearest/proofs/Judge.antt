-- What the test of a list says: when it is refused, and what a list is that passes. Assumes nothing.
use mathlib.Core.Path.{◌≡◌, refl, sym}
use mathlib.Core.Bool.{Bool, true, false, ◌&&◌, cond}
use Prim.Native.Nat.{ℕ, ◌<◌, ◌≤◌}
use native.Mathlib.Omega.{arith}
use lib.Dec.{leb}
use borrow.Author.Tests.{le-leb, lt-leb, leb-true}
use Rattle.std.specs.Prelude.{Result, Ok, Err}
use Rattle.refusal.specs.declared.Refusal.{Refusal}
use Rattle.refusal.specs.declared.Refusal.TheVariants.{ListSize, ListNotWhole}
use Rattle.nearest.specs.declared.NearestList.{NearestList}
use Rattle.nearest.specs.Lists.{all_known, rising, held, size_right, keeps_rules}
use Rattle.nearest.specs.Calls.{checked}
use Rattle.nearest.proofs.Order.{both_true}

-- what a list is that is not refused
pub record Whole (l : NearestList) : Type 0 where
  pub some_room : 1 ≤ l.size
  pub small : l.size ≤ 16
  pub within : l.count ≤ l.size
  pub knows : all_known (held l) ≡ true
  pub rises : rising l.target.0 (held l) ≡ true

passed : (a b : Bool) → ◌≡◌ {A = Result (Unit {0}) Refusal} (cond a (cond b (Ok tt) (Err ListNotWhole)) (Err ListSize)) (Ok tt) → (a ≡ true) × (b ≡ true)
passed true true e = (refl, refl)
passed true false e = let z : ◌≡◌ {A = ℕ} 0 1 = cc in absurd (omega arith)
passed false b e = let z : ◌≡◌ {A = ℕ} 0 1 = cc in absurd (omega arith)

pub size_bounds : (k : ℕ) → size_right k ≡ true → (1 ≤ k) × (k ≤ 16)
unfolding size_right
size_bounds k h = let w = both_true (leb 1 k) (leb k 16) h in (leb-true 1 k w.0, leb-true k 16 w.1)

pub bounds_size : (k : ℕ) → 1 ≤ k → k ≤ 16 → size_right k ≡ true
unfolding size_right
bounds_size k h g = simp (le-leb 1 k h, le-leb k 16 g)

pub small_size : (k : ℕ) → size_right k ≡ true → k ≤ 16
small_size k h = (size_bounds k h).1

module _ (l : NearestList) where
  pub bad_size : size_right l.size ≡ false → Err ListSize ≡ checked l
  unfolding checked
  bad_size h = simp h

  module _ (s : size_right l.size ≡ true) where
    judged : (b : Bool) → keeps_rules l ≡ b → cond b (Ok tt) (Err ListNotWhole) ≡ checked l
    unfolding checked
    judged b e = simp (s, e)

    pub too_long : l.size < l.count → Err ListNotWhole ≡ checked l
    unfolding keeps_rules
    too_long c = judged false (simp (lt-leb l.count l.size c))

    module _ (c : l.count ≤ l.size) where
      pub unknown_held : all_known (held l) ≡ false → Err ListNotWhole ≡ checked l
      unfolding keeps_rules
      unknown_held e = judged false (simp (le-leb l.count l.size c, e))

      pub not_rising : all_known (held l) ≡ true → rising l.target.0 (held l) ≡ false → Err ListNotWhole ≡ checked l
      unfolding keeps_rules
      not_rising e f = judged false (simp (le-leb l.count l.size c, e, f))

      pub passes : all_known (held l) ≡ true → rising l.target.0 (held l) ≡ true → Ok tt ≡ checked l
      unfolding keeps_rules
      passes e f = judged true (simp (le-leb l.count l.size c, e, f))

  pub whole : checked l ≡ Ok tt → Whole l
  unfolding checked keeps_rules
  whole e =
      let p = passed (size_right l.size) (leb l.count l.size && (all_known (held l) && rising l.target.0 (held l))) e in
      let q = size_bounds l.size p.0 in
      let r = both_true (leb l.count l.size) (all_known (held l) && rising l.target.0 (held l)) p.1 in
      let s = both_true (all_known (held l)) (rising l.target.0 (held l)) r.1 in
      record { some_room = q.0; small = q.1; within = leb-true l.count l.size r.0; knows = s.0; rises = s.1 }

  -- what the slots of its nodes ask for
  pub few_held : checked l ≡ Ok tt → l.count ≤ 16
  few_held e = let w = whole e in let a = w.within in let b = w.small in omega arith

  pub size_within : checked l ≡ Ok tt → l.size ≤ 16
  size_within e = (whole e).small

  pub whole_passes : Whole l → checked l ≡ Ok tt
  whole_passes w = sym (passes (bounds_size l.size w.some_room w.small) w.within w.knows w.rises)
