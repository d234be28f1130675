-- `Records::key` meets its contract. Assumes nothing.
use mathlib.Core.Path.{ap, ◌∙◌}
use lib.ListN.{length}
use Rattle.table_laws.proofs.Listed.{key_lent, length_key}
use Rattle.table.proofs.records.Records.key.Goals as goal

pub returns : goal.returns
returns c =
    let s = c.args.self in
    let e = key_lent s.shape.places s.shape.width s.bytes.now c.args.place c.spot-at.result c.spot-at.ensures in
    record { long = ap length e ∙ length_key s.shape.places s.shape.width s.bytes.now c.args.place s.table c.requires; bytes = e }
