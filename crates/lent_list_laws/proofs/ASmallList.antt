-- One slot, one list and memory that is too short, computed. The node is of family 2, at 127.0.0.1, with the port 258 and a key of 32 bytes 5; the list has the
-- size 8 and a target of 32 bytes 9, and holds that node:
--
--     8 1 9..   2 127 0 0 1 (twelve zeros) 1 2 5..   fifteen blank slots
--
-- Assumes nothing.
use mathlib.Core.Path.{◌≡◌, refl}
use mathlib.Core.List.{List, [], ◌∷◌, ◌++◌}
use Prim.Native.Nat.{ℕ}
use lib.ListN.{length, replicate}
use Rattle.std.specs.Prelude.{Ok, Err}
use Rattle.wire.specs.Numbers.{number_of, bytes_of}
use Rattle.refusal.specs.declared.Refusal.TheVariants.{ListSize, ListNotWhole}
use Rattle.key.specs.declared.Key.{Key}
use Rattle.node.specs.declared.Node.{Node}
use Rattle.node.specs.Values.{blank_node}
use Rattle.nearest.specs.declared.NearestList.{NearestList}
use Rattle.nearest.specs.Lists.{size_right}
use Rattle.lent_list_laws.specs.Layout.{slot_at, slots_at, list_at, slot_bytes, slots_bytes, list_bytes}
use Rattle.lent_list_laws.specs.Calls.{short_refusal, begun_answer}

abbrev key : ℕ → Key
key n = record { 0 = replicate 32 n }

abbrev one : Node
one = record { family = 2; address = 127 ∷ 0 ∷ 0 ∷ 1 ∷ replicate 12 0; port = 258; key = key 5 }

abbrev slot : List ℕ
slot = 2 ∷ 127 ∷ 0 ∷ 0 ∷ 1 ∷ (replicate 12 0 ++ (1 ∷ 2 ∷ replicate 32 5))

-- the slot of the node, the higher byte of the port first, and the node in the slot
pub slot_written : slot_bytes one ≡ slot
unfolding slot_bytes bytes_of
slot_written = refl

pub slot_read : slot_at slot ≡ one
unfolding slot_at number_of
slot_read = refl

abbrev small : NearestList
small = record { target = key 9; size = 8; count = 1; nodes = one ∷ replicate 15 blank_node }

abbrev memory : List ℕ
memory = 8 ∷ 1 ∷ (replicate 32 9 ++ (slot ++ replicate 765 0))

-- it has 16 slots
pub sixteen : length (list_at memory).nodes ≡ 16
unfolding list_at slots_at
sixteen = refl

-- the 850 bytes of the list, and the list that they are
pub small_written : list_bytes small ≡ memory
unfolding list_bytes slots_bytes slot_bytes bytes_of blank_node
small_written = refl

pub small_read : list_at memory ≡ small
unfolding list_at slots_at slot_at number_of blank_node
small_read = refl

-- too short: 12 where the first byte is no size, and else 14
pub short_none : short_refusal [] ≡ ListNotWhole
unfolding short_refusal
short_none = refl

pub short_eight : short_refusal (8 ∷ []) ≡ ListNotWhole
unfolding short_refusal size_right
short_eight = refl

pub short_seventeen : short_refusal (17 ∷ []) ≡ ListSize
unfolding short_refusal size_right
short_seventeen = refl

-- a list begun in it: 12 for a bad size comes first
pub begun_bad : begun_answer (Err ListSize) [] ≡ Err ListSize
unfolding begun_answer
begun_bad = refl

pub begun_short : begun_answer (Ok tt) [] ≡ Err ListNotWhole
unfolding begun_answer
begun_short = refl
