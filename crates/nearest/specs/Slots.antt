-- Where a node goes in a list of nodes, and where one stands: what the private functions over slots find. And what they know of a list that they are lent.
use Rattle.std.specs.Prelude.{List, ◌≡◌, ℕ, length}
use Rattle.key.specs.Keys.{IsKey, same_key, nearer}
use Rattle.lists.specs.Find.{leading, first_of}
use Rattle.node.specs.declared.Node.{Node}
use Rattle.nearest.specs.declared.NearestList.{NearestList}
use Rattle.nearest.specs.Lists.{largest_size, node_key}
use Rattle.nearest.specs.Sequence.{Keyed}

-- how many nodes are nearer than a key, from the front
abbrev pub position : List ℕ → List ℕ → List Node → ℕ
position target key = leading (λ (m : Node). nearer target (node_key m) key)

-- where a key first stands, or the length where it does not
abbrev pub index_of : List ℕ → List Node → ℕ
index_of key = first_of (λ (m : Node). same_key (node_key m) key)

-- as the types of its fields have it
pub record IsList (l : NearestList) : Type 0 where
  pub slots : length l.nodes ≡ largest_size
  pub target : IsKey l.target.0
  pub keys : Keyed l.nodes
