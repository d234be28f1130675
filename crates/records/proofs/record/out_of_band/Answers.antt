-- `record::out_of_band` meets its contract: the packet that its closure writes. Assumes nothing.
use Rattle.std.proofs.Common.{rules}
use Rattle.packet_laws.specs.FromRelay.{oob_received}
use Rattle.records.proofs.record.out_of_band.Goals as goal

pub append-requires-clause-writer : goal.append-requires-clause-writer
append-requires-clause-writer c = (oob_received c.args.key.0 c.args.«data».now, search rules)
