-- `search::position` meets its contract. The invariant: those passed are not nearer, so that the place is at none of them. Assumes nothing.
use mathlib.Core.Path.{◌∙◌, sym}
use Prim.Native.Nat.{◌-◌}
use native.Mathlib.Omega.{arith}
use lib.ListN.{get_or}
use Rattle.nearest.proofs.Place.{place_le}
use Rattle.buckets.specs.Kept.{node_at, kept_nodes}
use Rattle.buckets.proofs.KeptLaws.{kept_length, nearer_lent, scan_goes_on, scan_stops}
use Rattle.buckets.proofs.search.position.Goals as goal

pub loop-i-init : goal.loop-i-init
loop-i-init c =
    let a = c.args in
    let p = place_le a.target.now (node_at a.memory.now a.at) (kept_nodes a.memory.now a.kept) in
    let l = kept_length a.memory.now a.kept c.requires.0.starts in
    omega arith

-- a record that is kept lies within the memory
pub overflow_add-stop : goal.overflow_add-stop
overflow_add-stop c = let b = c.loop-i.auto.i in let h = c.requires.0.starts.inside (c.loop-i.i - 1) (omega arith) in omega arith

pub slice_bounds-nearer-end : goal.slice_bounds-nearer-end
slice_bounds-nearer-end c = let b = c.loop-i.auto.i in let h = c.requires.0.starts.inside (c.loop-i.i - 1) (omega arith) in omega arith

-- the test is the comparison of the two nodes
pub returns-then-nearer : goal.returns-then-nearer
returns-then-nearer c =
    let l = c.loop-i in
    let a = c.args in
    let b = l.auto.i in
    let h = c.loop-i-test.true in
    let e = nearer_lent a.memory.now a.target.now (omega arith) (get_or a.kept.starts (l.i - 1) 0) a.at (c.requires.0.starts.inside (l.i - 1) (omega arith)) c.requires.1
    c.nearer.result c.nearer.ensures in
    let q = scan_stops a.memory.now a.target.now a.kept c.requires.0 a.at (l.i - 1) (omega arith)
    (sym e ∙ c.if-nearer.true) (let i = l.invariant in omega arith) in
    omega arith

pub loop-i-preserved : goal.loop-i-preserved
loop-i-preserved c =
    let l = c.loop-i in
    let a = c.args in
    let b = l.auto.i in
    let h = c.loop-i-test.true in
    let e = nearer_lent a.memory.now a.target.now (omega arith) (get_or a.kept.starts (l.i - 1) 0) a.at (c.requires.0.starts.inside (l.i - 1) (omega arith)) c.requires.1
    c.nearer.result c.nearer.ensures in
    scan_goes_on a.memory.now a.target.now a.kept c.requires.0 a.at (l.i - 1) (omega arith) (sym e ∙ c.if-nearer.false)

pub returns : goal.returns
returns c = let q = c.loop-i.invariant in let h = c.loop-i-test.false in omega arith
