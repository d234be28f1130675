-- `banavoge_routing_response` meets its contract: a packet is short, so its count is a number of its own. Assumes nothing.
use Rattle.banavoge_laws.proofs.Writing.{relay_counted}
use Rattle.banavoge.proofs.writers.banavoge_routing_response.Goals as goal

pub written-requires : goal.written-requires
written-requires c = relay_counted _ _ _ _ c.routing_response.ensures
