-- Records by where they begin in the memory, and those that a search keeps, as the private functions that search and write have them.
use Rattle.std.specs.Prelude.{List, map, ◌≡◌, ℕ, ◌+◌, ◌<◌, ◌≤◌, length, take, drop, get_or}
use Rattle.node.specs.declared.Node.{Node}
use Rattle.node.specs.Values.{info_of}
use Rattle.node.specs.Walks.{packed_nodes}
use Rattle.nearest_first.specs.Kept.{kept_onto, Sorted}
use Rattle.buckets_laws.specs.Layout.{record_length, record_node}
use Rattle.buckets.specs.declared.search.Found.{Found}

-- the node whose record begins at a place of the memory
abbrev pub node_at : List ℕ → ℕ → Node
node_at memory at = record_node (take record_length (drop at memory))

-- the nodes that a search keeps
abbrev pub kept_nodes : List ℕ → Found → List Node
kept_nodes memory kept = map (node_at memory) (take kept.count kept.starts)

-- the same packed, one behind the other
abbrev pub kept_bytes : List ℕ → Found → List ℕ
kept_bytes memory kept = packed_nodes (map info_of (kept_nodes memory kept))

-- at most four, and each record lies within the memory
pub record Starts (memory : List ℕ) (kept : Found) : Type 0 where
  pub few : kept.count ≤ 4
  pub four : length kept.starts ≡ 4
  pub inside : (i : ℕ) → i < kept.count → get_or kept.starts i 0 + record_length ≤ length memory

-- and none is further than the next
pub record KeptWell (memory target : List ℕ) (kept : Found) : Type 0 where
  pub starts : Starts memory kept
  pub sorted : Sorted target (kept_nodes memory kept)

-- these nodes are kept
pub record KeptAs (memory target : List ℕ) (ns : List Node) (kept : Found) : Type 0 where
  pub well : KeptWell memory target kept
  pub nodes : kept_nodes memory kept ≡ ns

-- these nodes are put in one by one among those that were kept before
abbrev pub KeptWith : List ℕ → List ℕ → Found → List Node → Found → Type 0
KeptWith memory target before ns kept = KeptAs memory target (kept_onto 4 target (kept_nodes memory before) ns) kept
