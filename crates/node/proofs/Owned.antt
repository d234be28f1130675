-- What holding a node by value tells of it: 16 address bytes, a port of 16 bits, a key of 32 bytes. Assumes nothing.
use denote.RattleType.{owns, Valss}
use denote.Shadow.{shadow}
use denote.Struct.Declared.{shape}
use Rattle.key.proofs.Owned.{each_byte}
use Rattle.node.specs.declared.Node.{Node}
use Rattle.node.specs.Values.{IsNode}
use Rattle.node.specs.contracts.Node as type

pub is_node : (n : Node) (values : Valss (shape type.the_type).fields) → shadow (owns (shape type.the_type).fields ((type.the_type).to n) values) → IsNode n
is_node n values g =
    let address = g.1.0 in
    let key = g.1.1.1.0.1.1.0 in
    record {
      long = address.1.0.1;
      bytes = each_byte n.address address.0 address.1.1;
      port = g.1.1.0.1;
      key = record { long = key.1.0.1; bytes = each_byte n.key.0 key.0 key.1.1 };
    }
