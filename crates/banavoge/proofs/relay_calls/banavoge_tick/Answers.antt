-- `banavoge_tick` meets its contract: what a call writes is bounded, so its count is a number of its own. Assumes nothing.
use Rattle.banavoge_laws.proofs.RelayCounts.{call_counted}
use Rattle.banavoge.proofs.relay_calls.banavoge_tick.Goals as goal

pub count_of-requires : goal.count_of-requires
count_of-requires c = call_counted _ _ _ _ _ _ c.tick.ensures.leaves
