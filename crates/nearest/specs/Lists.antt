-- Document 01, "The nearest list": what a list is, which nodes it holds, and the rules it keeps.
use Rattle.std.specs.Prelude.{Bool, true, ◌&&◌, List, [], ◌∷◌, ◌++◌, ℕ, leb, length, take, drop, replicate}
use Rattle.key.specs.declared.Key.{Key}
use Rattle.key.specs.Keys.{nearer}
use Rattle.node.specs.declared.Node.{Node}
use Rattle.node.specs.Values.{blank_node}
use Rattle.node.specs.Families.{known_family}
use Rattle.nearest.specs.declared.NearestList.{NearestList}

-- "a size of 1 to 16"; the size of the empty list that is given, and of what a bad size begins
abbrev pub smallest_size : ℕ
smallest_size = 1

abbrev pub largest_size : ℕ
largest_size = 16

abbrev pub default_size : ℕ
default_size = 8

-- the 32 bytes of a node's key
abbrev pub node_key : Node → List ℕ
node_key n = n.key.0

-- the nodes that a list holds: the slots behind its count are no part of them
abbrev pub held : NearestList → List Node
held l = take l.count l.nodes

-- the list with these nodes held instead: a slot that this frees is blank, the slots behind stay
unfoldable pub holding : NearestList → List Node → NearestList
holding l ns = record {
  target = l.target;
  size = l.size;
  count = length ns;
  nodes = ns ++ drop (length ns) (replicate l.count blank_node ++ drop l.count l.nodes);
}

-- the empty list of a size: every slot is blank
unfoldable pub empty_of : Key → ℕ → NearestList
empty_of target size = record { target = target; size = size; count = 0; nodes = replicate largest_size blank_node }

unfoldable pub size_right : ℕ → Bool
size_right size = leb smallest_size size && leb size largest_size

-- no node of unknown family
unfoldable pub all_known : List Node → Bool
all_known [] = true
all_known (n ∷ ns) = known_family n.family && all_known ns

-- strictly rising in distance, after a node
unfoldable pub rising_after : List ℕ → Node → List Node → Bool
rising_after target m [] = true
rising_after target m (n ∷ ns) = nearer target (node_key m) (node_key n) && rising_after target n ns

-- "It is kept nearest first, with no key twice": each node is nearer than the next
unfoldable pub rising : List ℕ → List Node → Bool
rising target [] = true
rising target (n ∷ ns) = rising_after target n ns

-- refusal 14 is for a list "longer than its size, not strictly rising in distance, or holding an unknown family"
unfoldable pub keeps_rules : NearestList → Bool
keeps_rules l = leb l.count l.size && (all_known (held l) && rising l.target.0 (held l))
