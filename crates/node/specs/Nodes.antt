-- A packed node, and how it is read. Document 01, "Nodes"; document 001, "Node Info (packed node format)".
use Rattle.std.specs.Prelude.{Bool, true, false, List, [], ◌∷◌, ◌++◌, ◌≡◌, ℕ, ◌<◌, ◌^◌, leb, length, take, drop}
use Rattle.wire.specs.Numbers.{Bytes, number_of, bytes_of}
use Rattle.key.specs.Keys.{IsKey}
use Rattle.refusal.specs.declared.Refusal.{Refusal}
use Rattle.refusal.specs.declared.Refusal.TheVariants.{UnknownFamily, NodeCutShort}
use Rattle.node.specs.Families.{known_family, address_length, packed_length}

-- what document 001 calls a node info: the address has as many bytes as its family says
pub record NodeInfo : Type 0 where
  pub family : ℕ
  pub address : List ℕ
  pub port : ℕ
  pub key : List ℕ

-- "A packed node is a family byte, the address, a 2-byte port, the key."
unfoldable pub packed_node : NodeInfo → List ℕ
packed_node n = n.family ∷ (n.address ++ (bytes_of 2 n.port ++ n.key))

-- the same read: what the bytes after a family byte are
unfoldable pub node_of : ℕ → List ℕ → NodeInfo
node_of family rest = record {
  family = family;
  address = take (address_length family) rest;
  port = number_of (take 2 (drop (address_length family) rest));
  key = take 32 (drop 2 (drop (address_length family) rest));
}

pub data Read : Type 0 where
  node : NodeInfo → Read
  refused : Refusal → Read

-- one check: where it fails, its refusal; where it holds, what comes after it
unfoldable pub check : Bool → Refusal → Read → Read
check true why after = after
check false why after = refused why

-- the node at the front of bytes: 15, then 16. "One node read by itself may have bytes after it; with no byte at all it gets 16."
unfoldable pub read_node : List ℕ → Read
read_node [] = refused NodeCutShort
read_node (family ∷ rest) =
    check (known_family family) UnknownFamily
    (check (leb (packed_length family) (length (family ∷ rest))) NodeCutShort
    (node (node_of family rest)))

-- values that the fields of a node can have. Port 0 is allowed.
pub record FitsNode (n : NodeInfo) : Type 0 where
  pub known : known_family n.family ≡ true
  pub long : length n.address ≡ address_length n.family
  pub bytes : Bytes n.address
  pub port : n.port < 2 ^ 16
  pub key : IsKey n.key

-- a node that stands at the front of bytes, packed, whatever follows it
pub record Taken (bytes : List ℕ) (n : NodeInfo) : Type 0 where
  pub fits : FitsNode n
  pub front : bytes ≡ packed_node n ++ drop (length (packed_node n)) bytes
