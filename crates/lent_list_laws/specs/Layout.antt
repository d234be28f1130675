-- A nearest list in lent bytes: where each part stands, the list that bytes hold, and the bytes of a list. docs/ARCHITECTURE.md has the picture.
use Rattle.std.specs.Prelude.{cond, List, [], ◌∷◌, ◌++◌, ◌≡◌, ℕ, zero, suc, ◌%◌, ◌<◌, leb, length, get_or, take, drop, replicate}
use Rattle.wire.specs.Numbers.{number_of, bytes_of}
use Rattle.key.specs.Keys.{IsKey}
use Rattle.node.specs.declared.Node.{Node}
use Rattle.node.specs.Values.{IsNode}
use Rattle.nearest.specs.declared.NearestList.{NearestList}
use Rattle.nearest.specs.Lists.{default_size, empty_of}

-- ---- the offsets

-- a list: size (1), count (1), target key (32), 16 slots
abbrev pub size_place : ℕ
size_place = 0

abbrev pub count_place : ℕ
count_place = 1

abbrev pub target_place : ℕ
target_place = 2

abbrev pub slots_place : ℕ
slots_place = 34

abbrev pub slot_number : ℕ
slot_number = 16

abbrev pub slots_length : ℕ
slots_length = 816

abbrev pub list_length : ℕ
list_length = 850

-- a slot: family (1), address (16), port (2), key (32), whatever the family
abbrev pub family_place : ℕ
family_place = 0

abbrev pub address_place : ℕ
address_place = 1

abbrev pub port_place : ℕ
port_place = 17

abbrev pub key_place : ℕ
key_place = 19

abbrev pub slot_length : ℕ
slot_length = 51

-- ---- from bytes to the value

-- the node in a slot
unfoldable pub slot_at : List ℕ → Node
slot_at s = record {
  family = get_or s family_place 0;
  address = take 16 (drop address_place s);
  port = number_of (take 2 (drop port_place s));
  key = record { 0 = take 32 (drop key_place s) };
}

-- the nodes in n slots, one behind the other
unfoldable pub slots_at : ℕ → List ℕ → List Node
slots_at zero s = []
slots_at (suc n) s = slot_at (take slot_length s) ∷ slots_at n (drop slot_length s)

-- the list that stands at the front of memory, whether or not it keeps its rules
unfoldable pub list_at : List ℕ → NearestList
list_at memory = record {
  target = record { 0 = take 32 (drop target_place memory) };
  size = get_or memory size_place 0;
  count = get_or memory count_place 0;
  nodes = slots_at slot_number (drop slots_place memory);
}

-- ---- from the value to bytes

unfoldable pub slot_bytes : Node → List ℕ
slot_bytes n = n.family ∷ (n.address ++ (bytes_of 2 n.port ++ n.key.0))

unfoldable pub slots_bytes : List Node → List ℕ
slots_bytes [] = []
slots_bytes (n ∷ ns) = slot_bytes n ++ slots_bytes ns

-- the 850 bytes of a list; a size and a count have one byte, their lowest
unfoldable pub list_bytes : NearestList → List ℕ
list_bytes l = l.size % 256 ∷ (l.count % 256 ∷ (l.target.0 ++ slots_bytes l.nodes))

-- ---- what the two functions do with any memory

-- memory too short for a list gives the empty list of size 8 for the key of zeros
unfoldable pub loaded : List ℕ → NearestList
loaded memory = cond (leb list_length (length memory)) (list_at memory) (empty_of (record { 0 = replicate 32 0 }) default_size)

-- the list's bytes, then what stood behind them; memory too short for a list is left alone
unfoldable pub stored : NearestList → List ℕ → List ℕ
stored l memory = cond (leb list_length (length memory)) (list_bytes l ++ drop list_length memory) memory

-- ---- the lists that bytes can hold

-- a node with the fields that a value of the code has
abbrev pub Fits : Node → Type 0
Fits n = (n.family < 256) × IsNode n

abbrev pub EachNode : List Node → Type 0
EachNode [] = Unit {0}
EachNode (n ∷ ns) = (n.family < 256) × IsNode n × EachNode ns

-- a size and a count of one byte each, 16 slots, and fields that a value of the code has
pub record Storable (l : NearestList) : Type 0 where
  pub size : l.size < 256
  pub count : l.count < 256
  pub target : IsKey l.target.0
  pub slots : length l.nodes ≡ slot_number
  pub nodes : EachNode l.nodes
