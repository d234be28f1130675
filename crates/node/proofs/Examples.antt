-- Document 01, "Examples", P12: "02 7F000001 82A5 KA is UDP, 127.0.0.1, port 33445, 39 bytes", computed. Assumes nothing.
use mathlib.Core.Path.{◌≡◌, refl}
use mathlib.Core.List.{List, [], ◌∷◌, ◌++◌}
use Prim.Native.Nat.{ℕ}
use lib.ListN.{length, replicate}
use Rattle.wire.specs.Numbers.{number_of, bytes_of}
use Rattle.node.specs.Families.{known_family, address_length}
use Rattle.node.specs.Nodes.{NodeInfo, node, check, packed_node, node_of, read_node}

-- "KA is 32 bytes 11"
abbrev pub key_a : List ℕ
key_a = replicate 32 0x11

abbrev pub p12_bytes : List ℕ
p12_bytes = (0x02 ∷ 0x7F ∷ 0x00 ∷ 0x00 ∷ 0x01 ∷ 0x82 ∷ 0xA5 ∷ []) ++ key_a

abbrev pub p12_node : NodeInfo
p12_node = record { family = 2; address = 127 ∷ 0 ∷ 0 ∷ 1 ∷ []; port = 33445; key = key_a }

pub p12_read : read_node p12_bytes ≡ node p12_node
unfolding read_node check known_family address_length node_of number_of
p12_read = refl

pub p12_packed : packed_node p12_node ≡ p12_bytes
unfolding packed_node bytes_of
p12_packed = refl

pub p12_long : length p12_bytes ≡ 39
p12_long = refl
