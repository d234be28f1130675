-- A node by value, and the node info that it stands for.
use Rattle.std.specs.Prelude.{◌++◌, ◌≡◌, ◌-◌, ◌<◌, ◌^◌, length, take, replicate}
use Rattle.wire.specs.Numbers.{Bytes}
use Rattle.key.specs.Keys.{IsKey}
use Rattle.node.specs.declared.Node.{Node}
use Rattle.node.specs.Families.{address_length}
use Rattle.node.specs.Nodes.{NodeInfo}

-- the node info that a value stands for: of the 16 address bytes, those that its family uses
unfoldable pub info_of : Node → NodeInfo
info_of n = record { family = n.family; address = take (address_length n.family) n.address; port = n.port; key = n.key.0 }

-- the value that shows a node info: the address bytes that its family does not use are 0
unfoldable pub value_of : NodeInfo → Node
value_of n = record {
  family = n.family;
  address = n.address ++ replicate (16 - length n.address) 0;
  port = n.port;
  key = record { 0 = n.key };
}

-- the same node with 0 in the address bytes that its family does not use. An IPv6 address uses all of them.
unfoldable pub settled : Node → Node
settled n = record {
  family = n.family;
  address = take (address_length n.family) n.address ++ replicate (16 - address_length n.family) 0;
  port = n.port;
  key = n.key;
}

-- the node of zeros
unfoldable pub blank_node : Node
blank_node = record { family = 0; address = replicate 16 0; port = 0; key = record { 0 = replicate 32 0 } }

-- what every node by value is: 16 address bytes, a port of 16 bits, a key of 32 bytes
pub record IsNode (n : Node) : Type 0 where
  pub long : length n.address ≡ 16
  pub bytes : Bytes n.address
  pub port : n.port < 2 ^ 16
  pub key : IsKey n.key.0
