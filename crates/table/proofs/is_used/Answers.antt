-- `table::is_used` meets its contract: the order lists the place. Assumes nothing.
use mathlib.Core.Path.{sym, ◌∙◌}
use Rattle.table_laws.proofs.FitsLaws.{used_in, used_short}
use Rattle.table.proofs.is_used.Goals as goal

pub returns-then-table-places : goal.returns-then-table-places
returns-then-table-places c =
    let a = c.args in
    sym (used_short a.places a.table.now c.if-table-places.true a.place)

pub returns : goal.returns
returns c =
    let a = c.args in
    c.lists.ensures ∙ sym (used_in a.places a.table.now c.if-table-places.false a.place)
