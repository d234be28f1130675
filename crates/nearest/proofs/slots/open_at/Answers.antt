-- `slots::open_at` meets its contract. Assumes nothing.
use Rattle.nearest.proofs.Shifted.{opened}
use Rattle.nearest.proofs.slots.open_at.Goals as goal

pub returns : goal.returns
returns c = opened c.args.place c.args.node c.args.nodes.now _ c.requires c.rotate_right.ensures.after
