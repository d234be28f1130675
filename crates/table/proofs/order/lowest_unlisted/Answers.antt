-- `order::lowest_unlisted` meets its contract. The invariant: those passed are marked, and nothing else. Assumes nothing.
use mathlib.Core.Path.{◌∙◌, refl, ap₂, subst}
use mathlib.Core.Bool.{not}
use mathlib.Core.List.{List}
use Prim.Native.Nat.{ℕ}
use native.Mathlib.Omega.{arith}
use lib.Dec.{ltb}
use lib.ListN.{length-set, take}
use lib.Seq.{take_all, length-take-le}
use Rattle.std.proofs.Common.{rules, tests, cond, Some, None}
use Rattle.std.proofs.lemmas.Iterator.{YieldsList-from_slice}
use Rattle.std.proofs.lemmas.Iterator.Search.{position_from_yields_List}
use Rattle.table_laws.specs.Table.{place_below, listed}
use Rattle.table.specs.Marks.{Marked}
use Rattle.table.proofs.LowestLaws.{mark_none, mark_step, first_missing}
use Rattle.table.proofs.order.lowest_unlisted.Goals as goal

pub loop-place-init : goal.loop-place-init
loop-place-init c = (refl, mark_none)

pub loop-place-preserved : goal.loop-place-preserved
loop-place-preserved c =
    let l = c.loop-place in
    (simp length-set l.invariant.0, mark_step l.marks c.listed-place-items.result.now l.place-index _ l.invariant.0 (omega arith) c.from.ensures (omega arith) l.invariant.1)

pub returns : goal.returns
unfolding place_below
returns c =
    let l = c.loop-place in
    let p = c.args.places in
    let ns = listed p c.args.table.now in
    let k = length-take-le p l.marks (omega arith) in
    let all : Marked l.marks ns = subst (λ (x : List ℕ). Marked l.marks x) (take_all l.place-index c.listed-place-items.result.now (omega arith) ∙ c.listed-place-items.ensures) l.invariant.1 in
    let e = first_missing l.marks ns 0 p l.invariant.0 all (omega arith) in
    position_from_yields_List not _ _ c.position.result c.position.ensures.ran (YieldsList-from_slice (take p l.marks) cc) (λ x b q k. search (rules, tests))
    ∙ ap₂ (λ (x y : ℕ). cond (ltb x y) (Some x) None) (omega arith) k
