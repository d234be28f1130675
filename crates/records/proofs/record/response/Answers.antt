-- `record::response` meets its contract: the packet that its closure writes. Assumes nothing.
use Rattle.std.proofs.Common.{rules}
use Rattle.packet_laws.specs.FromRelay.{routing_response}
use Rattle.records.proofs.record.response.Goals as goal

pub append-requires-clause-writer : goal.append-requires-clause-writer
append-requires-clause-writer c = (routing_response c.args.number.0 c.args.key.0, search rules)
