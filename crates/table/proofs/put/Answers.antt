-- `table::put` meets its contract: nothing where the place may not be put in use, else it is entered. Assumes nothing.
use mathlib.Core.Bool.{not}
use mathlib.Core.Path.{ap}
use Rattle.table_laws.proofs.FitsLaws.{may_facts, put_allowed, put_entered, put_refused}
use Rattle.table.proofs.put.Goals as goal

pub returns-then-not-may_put : goal.returns-then-not-may_put
returns-then-not-may_put c =
    let a = c.args in
    put_refused a.shape.places a.shape.width a.table.now a.place a.«record».now _ c.may_put.ensures (ap not c.if-not-may_put.true)

pub enter-requires : goal.enter-requires
enter-requires c =
    let a = c.args in
    may_facts a.shape.places a.shape.width a.table.now a.place a.«record».now
    (put_allowed a.shape.places a.shape.width a.table.now a.place a.«record».now _ c.may_put.ensures (ap not c.if-not-may_put.false))

pub returns : goal.returns
returns c =
    let a = c.args in
    put_entered a.shape.places a.shape.width a.table.now a.place a.«record».now
    _ c.may_put.ensures (ap not c.if-not-may_put.false) _ c.enter.ensures
