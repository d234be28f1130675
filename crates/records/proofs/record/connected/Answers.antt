-- `record::connected` meets its contract: the packet that its closure writes. Assumes nothing.
use Rattle.std.proofs.Common.{rules}
use Rattle.packet_laws.specs.FromRelay.{connect_notice}
use Rattle.records.proofs.record.connected.Goals as goal

pub append-requires-clause-writer : goal.append-requires-clause-writer
append-requires-clause-writer c = (connect_notice c.args.number.0, search rules)
