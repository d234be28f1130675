-- `table::overwrite` meets its contract: nothing where the part may not be overwritten, else it is. Assumes nothing.
use mathlib.Core.Bool.{not}
use mathlib.Core.Path.{ap}
use Rattle.table_laws.proofs.FitsLaws.{overwrite_facts, overwrite_allowed, overwrite_done, overwrite_refused}
use Rattle.table.proofs.overwrite.Goals as goal

pub returns-then-not-may_overwrite : goal.returns-then-not-may_overwrite
returns-then-not-may_overwrite c =
    let a = c.args in
    overwrite_refused a.shape.places a.shape.width a.table.now a.place a.at a.part.now _ c.may_overwrite.ensures (ap not c.if-not-may_overwrite.true)

pub refill-requires : goal.refill-requires
refill-requires c =
    let a = c.args in
    let may = overwrite_allowed a.shape.places a.shape.width a.table.now a.place a.at a.part.now
    _ c.may_overwrite.ensures (ap not c.if-not-may_overwrite.false) in
    let q = overwrite_facts a.shape.places a.shape.width a.table.now a.place a.at a.part.now may in
    (q.0, q.1, q.3)

pub returns : goal.returns
returns c =
    let a = c.args in
    overwrite_done a.shape.places a.shape.width a.table.now a.place a.at a.part.now
    _ c.may_overwrite.ensures (ap not c.if-not-may_overwrite.false) _ c.refill.ensures
