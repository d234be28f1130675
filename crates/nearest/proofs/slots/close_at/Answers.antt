-- `slots::close_at` meets its contract. Assumes nothing.
use Rattle.nearest.proofs.Shifted.{closed}
use Rattle.nearest.proofs.slots.close_at.Goals as goal

pub returns : goal.returns
returns c = rw c.blank.ensures (closed c.args.place _ c.args.nodes.now _ c.requires c.rotate_left.ensures.after)
