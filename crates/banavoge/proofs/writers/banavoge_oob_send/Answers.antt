-- `banavoge_oob_send` meets its contract: a packet is short, so its count is a number of its own. Assumes nothing.
use Rattle.banavoge_laws.proofs.Writing.{client_counted}
use Rattle.banavoge.proofs.writers.banavoge_oob_send.Goals as goal

pub written-requires : goal.written-requires
written-requires c = client_counted _ _ _ _ c.oob_send.ensures
