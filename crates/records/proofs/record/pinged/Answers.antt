-- `record::pinged` meets its contract: the packet that its closure writes. Assumes nothing.
use Rattle.std.proofs.Common.{rules}
use Rattle.packet_laws.specs.FromRelay.{ping}
use Rattle.records.proofs.record.pinged.Goals as goal

pub append-requires-clause-writer : goal.append-requires-clause-writer
append-requires-clause-writer c = (ping c.args.number, search rules)
