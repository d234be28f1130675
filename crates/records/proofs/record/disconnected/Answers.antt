-- `record::disconnected` meets its contract: the packet that its closure writes. Assumes nothing.
use Rattle.std.proofs.Common.{rules}
use Rattle.packet_laws.specs.FromRelay.{disconnect_notice}
use Rattle.records.proofs.record.disconnected.Goals as goal

pub append-requires-clause-writer : goal.append-requires-clause-writer
append-requires-clause-writer c = (disconnect_notice c.args.number.0, search rules)
