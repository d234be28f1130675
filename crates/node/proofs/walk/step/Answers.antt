-- `node::walk::step` meets its contract: each return is the case of the definition that the tests lead to. Assumes nothing.
use mathlib.Core.Path.{refl}
use native.Mathlib.Omega.{arith}
use Rattle.std.proofs.lemmas.Result.{err_from_is_err_and}
use Rattle.node.proofs.StepLaws.{steps_past, steps_end, steps_full, steps_node, steps_refused}
use Rattle.node.proofs.walk.step.Goals as goal

pub returns-then-list-place : goal.returns-then-list-place
returns-then-list-place c = let a = c.args in steps_past a.list.now a.place a.count _ c.if-list-place.true refl

pub returns-then-place-list : goal.returns-then-place-list
returns-then-place-list c = let a = c.args in steps_end a.list.now a.place a.count _ c.if-place-list.true refl

pub returns-then-count-ge-MOST_NODES : goal.returns-then-count-ge-MOST_NODES
returns-then-count-ge-MOST_NODES c = let a = c.args in steps_full a.list.now a.place a.count _ (omega arith) c.if-count-ge-MOST_NODES.true refl

pub returns-in_err-node : goal.returns-in_err-node
returns-in_err-node c =
    let a = c.args in
    let p = err_from_is_err_and c.from_residual.result c.from_residual.ensures.1 in
    rw (p.1, p.2) (steps_refused a.list.now a.place a.count (omega arith) c.if-count-ge-MOST_NODES.false _ c.in_err-node.ensures)

pub returns : goal.returns
returns c = let a = c.args in steps_node a.list.now a.place a.count (omega arith) c.if-count-ge-MOST_NODES.false _ _ c.in_ok-node.ensures
