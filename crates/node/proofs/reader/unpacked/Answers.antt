-- `node::reader::unpacked` meets its contract: each part is that of the definition. Assumes nothing.
use native.Mathlib.Omega.{arith}
use Rattle.node.specs.Families.{family_byte}
use Rattle.node.proofs.NodeLaws.{value_unpacked}
use Rattle.node.proofs.reader.unpacked.Goals as goal

pub returns : goal.returns
returns c =
    let a = c.args in
    value_unpacked (family_byte a.family) c.address_length-port.result a.packed.now c.address.result c.from_be_bytes.result c.read.result
    c.requires.named c.address_length-port.ensures.value (omega arith)
    c.address.ensures c.from_be_bytes.ensures c.read.ensures
