-- `order::lists` meets its contract. The invariant: the place is listed if it is among those passed, or among those to come. Assumes nothing.
use mathlib.Core.Path.{◌≡◌}
use mathlib.Core.Bool.{◌||◌}
use lib.ListN.{drop}
use Rattle.lists.specs.Find.{member}
use Rattle.table.proofs.order.lists.Given as goal

abbrev pub invariant-loop-listed : goal.invariant-loop-listed
invariant-loop-listed l = member l.place l.listed-items ≡ (l.used || member l.place (drop l.listed-index l.listed-items))
