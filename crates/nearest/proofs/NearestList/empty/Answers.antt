-- `NearestList::empty` meets its contract. Assumes nothing.
use mathlib.Core.Path.{ap}
use lib.ListN.{replicate}
use Rattle.node.specs.declared.Node.{Node}
use Rattle.nearest.specs.Lists.{empty_of}
use Rattle.nearest.proofs.NearestList.empty.Goals as goal

pub returns : goal.returns
unfolding empty_of
returns c =
    ap (λ (n : Node). record { target = c.args.target; size = 8; count = 0; nodes = replicate 16 n }) c.blank-blank.ensures
