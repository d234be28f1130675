-- `record::data` meets its contract: the packet that its closure writes. Assumes nothing.
use Rattle.std.proofs.Common.{rules}
use Rattle.packet_laws.specs.FromRelay.{routed_data}
use Rattle.records.proofs.record.data.Goals as goal

pub append-requires-clause-writer : goal.append-requires-clause-writer
append-requires-clause-writer c = (routed_data c.args.number.0 c.args.«data».now, search rules)
