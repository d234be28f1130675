-- `record::answered` meets its contract: the packet that its closure writes. Assumes nothing.
use Rattle.std.proofs.Common.{rules}
use Rattle.packet_laws.specs.FromRelay.{pong}
use Rattle.records.proofs.record.answered.Goals as goal

pub append-requires-clause-writer : goal.append-requires-clause-writer
append-requires-clause-writer c = (pong c.args.ping, search rules)
