-- `table::free` meets its contract. Assumes nothing.
use mathlib.Core.Path.{sym, ◌∙◌}
use native.Mathlib.Omega.{arith}
use Rattle.table_laws.proofs.FitsLaws.{freed_in_lem, freed_short, freed_many}
use Rattle.table.proofs.free.Goals as goal

pub returns-then-table-places : goal.returns-then-table-places
returns-then-table-places c = let a = c.args in sym (freed_short a.places a.table.now c.if-table-places.true a.place)

pub returns-then-places-from : goal.returns-then-places-from
returns-then-places-from c = let a = c.args in sym (freed_many a.places a.table.now (omega arith) a.place)

pub returns : goal.returns
returns c =
    let a = c.args in
    c.remove.ensures ∙ sym (freed_in_lem a.places a.table.now c.if-table-places.false (omega arith) a.place)
