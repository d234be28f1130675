-- `order::close` meets its contract. Assumes nothing.
use mathlib.Core.Path.{◌∙◌}
use Rattle.table_laws.specs.Table.{closed}
use Rattle.table_laws.proofs.Shifted.{moved_down}
use Rattle.table.proofs.order.close.Goals as goal

pub returns : goal.returns
unfolding closed
returns c = let a = c.args in c.copy_within.ensures.after ∙ moved_down a.order.now a.at a.count c.requires.0
