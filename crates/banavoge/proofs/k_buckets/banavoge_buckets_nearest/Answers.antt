-- `banavoge_buckets_nearest` meets its contract: four packed nodes are short, so their count is a number of its own. Assumes nothing.
use Rattle.banavoge_laws.proofs.NodeTelling.{asked_small}
use Rattle.banavoge.proofs.k_buckets.banavoge_buckets_nearest.Goals as goal

pub written-requires : goal.written-requires
written-requires c = asked_small _ _ _ _ _ c.nearest.ensures
