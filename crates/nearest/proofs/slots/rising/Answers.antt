-- `slots::rising` meets its contract: the windows are the neighbours, and neighbours decide. Assumes nothing.
use Rattle.std.proofs.Common.{rules}
use Rattle.nearest.proofs.Order.{neighbours_decide}
use Rattle.nearest.proofs.slots.rising.Goals as goal

pub returns : goal.returns
returns c = neighbours_decide c.args.target.0 c.all.result c.args.nodes.now (search rules) (search rules)
