-- `Records::key_of` meets its contract. Assumes nothing.
use mathlib.Core.Path.{ap, ◌∙◌}
use native.Mathlib.Omega.{arith}
use lib.Seq.{take_all}
use Rattle.key.specs.Keys.{key_of}
use Rattle.key.proofs.Lent.{key_whole}
use Rattle.table_laws.specs.Table.{key_at}
use Rattle.table_laws.proofs.Listed.{length_key}
use Rattle.table.proofs.records.Records.key_of.Goals as goal

pub returns : goal.returns
returns c =
    let s = c.args.self in
    let k = key_at s.shape.places s.shape.width s.bytes.now c.args.place in
    let l = length_key s.shape.places s.shape.width s.bytes.now c.args.place s.table c.requires in
    c.read.ensures ∙ ap key_of c.key.ensures.bytes ∙ key_whole k (omega arith) ∙ take_all 32 k (omega arith)
