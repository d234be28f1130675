-- `Node::blank` meets its contract by computation. Assumes nothing.
use mathlib.Core.Path.{refl}
use Rattle.node.specs.Values.{blank_node}
use Rattle.node.proofs.Node.blank.Goals as goal

pub returns : goal.returns
unfolding blank_node
returns c = refl
