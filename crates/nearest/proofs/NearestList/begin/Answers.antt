-- `NearestList::begin` meets its contract. Assumes nothing.
use mathlib.Core.Path.{◌≡◌, ◌∙◌, sym}
use mathlib.Core.Bool.{true, false}
use Prim.Native.Nat.{ℕ}
use Rattle.std.specs.Prelude.{Ok, Err}
use Rattle.nearest.specs.declared.Answered.{Answered}
use Rattle.key.specs.declared.Key.{Key}
use Rattle.refusal.specs.declared.Refusal.TheVariants.{ListSize}
use Rattle.nearest.specs.declared.NearestList.{NearestList}
use Rattle.nearest.specs.Lists.{empty_of, size_right}
use Rattle.nearest.specs.Calls.{begun}
use Rattle.nearest.proofs.NearestList.begin.Goals as goal

module _ (t : Key) (size : ℕ) where
  bad : (l : NearestList) → l ≡ empty_of t 8 → size_right size ≡ false → ◌≡◌ {A = Answered (Unit {0})} (record { list = l; answer = Err ListSize }) (begun t size)
  unfolding begun
  bad l e h = simp (h, e)

  good : (l : NearestList) → l ≡ empty_of t 8 → size_right size ≡ true
      → ◌≡◌ {A = Answered (Unit {0})} (record { list = record { target = l.target; size = size; count = l.count; nodes = l.nodes }; answer = Ok tt }) (begun t size)
  unfolding begun empty_of
  good l e h = simp (h, e)

pub returns-then-not-size_right : goal.returns-then-not-size_right
returns-then-not-size_right c = bad _ _ _ c.empty-list.ensures (sym c.size_right.ensures ∙ c.if-not-size_right.true)

pub returns : goal.returns
returns c = good _ _ _ c.empty-list.ensures (sym c.size_right.ensures ∙ c.if-not-size_right.false)
