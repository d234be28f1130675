-- `table::lowest_free` meets its contract. Assumes nothing.
use mathlib.Core.Path.{sym, ap, ◌∙◌}
use native.Mathlib.Omega.{arith}
use Rattle.table_laws.specs.Table.{place_below}
use Rattle.table_laws.proofs.FitsLaws.{lowest_in, lowest_many, lowest_short}
use Rattle.table_laws.proofs.PlaceBelow.{place_past}
use Rattle.table.proofs.lowest_free.Goals as goal

pub returns-then-places-gt-MOST_PLACES : goal.returns-then-places-gt-MOST_PLACES
returns-then-places-gt-MOST_PLACES c =
    let a = c.args in sym (ap (place_below a.places) (lowest_many a.places a.table.now c.if-places-gt-MOST_PLACES.true) ∙ place_past a.places a.places (omega arith))

pub returns-then-table-places : goal.returns-then-table-places
returns-then-table-places c =
    let a = c.args in sym (ap (place_below a.places) (lowest_short a.places a.table.now c.if-table-places.true) ∙ place_past a.places a.places (omega arith))

pub returns : goal.returns
returns c =
    let a = c.args in
    c.lowest_unlisted.ensures ∙ ap (place_below a.places) (sym (lowest_in a.places a.table.now c.if-places-gt-MOST_PLACES.false c.if-table-places.false))
