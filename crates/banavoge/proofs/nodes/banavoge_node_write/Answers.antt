-- `banavoge_node_write` meets its contract: a packed node is short, so its count is a number of its own. Assumes nothing.
use Rattle.banavoge_laws.proofs.NodeTelling.{node_small}
use Rattle.banavoge.proofs.nodes.banavoge_node_write.Goals as goal

pub written-requires : goal.written-requires
written-requires c = node_small _ _ _ _ c.write.ensures
