-- `banavoge_disconnect_notification` meets its contract: a packet is short, so its count is a number of its own. Assumes nothing.
use Rattle.banavoge_laws.proofs.Writing.{relay_counted}
use Rattle.banavoge.proofs.writers.banavoge_disconnect_notification.Goals as goal

pub written-requires : goal.written-requires
written-requires c = relay_counted _ _ _ _ c.disconnect_notification.ensures
