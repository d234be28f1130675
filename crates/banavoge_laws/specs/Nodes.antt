-- What the exported functions on nodes tell through references. On a refusal, and at the end of a list, nothing is set.
use Rattle.std.specs.Prelude.{List, ◌≡◌, ℕ, ◌+◌, ◌≤◌, ℤ, pos, length, Result, Ok, Err}
use Rattle.refusal.specs.declared.Refusal.{Refusal}
use Rattle.node.specs.declared.Node.{Node}
use Rattle.node.specs.Nodes.{packed_node, Read, node, refused}
use Rattle.node.specs.Values.{value_of}
use Rattle.node.specs.Steps.{Showing, shows, ends, refuses}
use Rattle.banavoge_laws.specs.Answers.{refusal_code, written_code}

-- what the five references refer to
pub record NodePlaces : Type 0 where
  pub family : ℕ
  pub address : List ℕ
  pub port : ℕ
  pub key : List ℕ
  pub next : ℕ

abbrev pub node_places : ℕ → List ℕ → ℕ → List ℕ → ℕ → NodePlaces
node_places family address port key next = record { family = family; address = address; port = port; key = key; next = next }

-- a node, and where the following one starts
abbrev pub node_places_of : Node → ℕ → NodePlaces
node_places_of n next = node_places n.family n.address n.port n.key.0 next

-- the node that the parameters of a call make
abbrev pub node_given : ℕ → List ℕ → ℕ → List ℕ → Node
node_given family address port key = record { family = family; address = address; port = port; key = record { 0 = key } }

-- ---- one node: 0, or minus the refusal

unfoldable pub node_code : Read → ℤ
node_code (node n) = pos 0
node_code (refused why) = refusal_code why

unfoldable pub node_after : ℕ → Read → NodePlaces → NodePlaces
node_after at (node n) before = node_places_of (value_of n) (at + length (packed_node n))
node_after at (refused why) before = before

pub record ReadsNode (at : ℕ) (read : Read) (answer : ℤ) (before after : NodePlaces) : Type 0 where
  pub answers : answer ≡ node_code read
  pub leaves : after ≡ node_after at read before

-- ---- a step: 1 shown, 0 end, or minus the refusal

unfoldable pub step_code : Showing → ℤ
step_code (shows n) = pos 1
step_code ends = pos 0
step_code (refuses why) = refusal_code why

unfoldable pub step_after : ℕ → Showing → NodePlaces → NodePlaces
step_after place (shows n) before = node_places_of (value_of n) (place + length (packed_node n))
step_after place ends before = before
step_after place (refuses why) before = before

pub record StepsNode (place : ℕ) (step : Showing) (answer : ℤ) (before after : NodePlaces) : Type 0 where
  pub answers : answer ≡ step_code step
  pub leaves : after ≡ step_after place step before

-- ---- a node written (`WritesNode` of `node`), or the nodes nearest to a target (`Asks` of `buckets_laws`): the byte count, or minus the refusal

unfoldable pub node_written_code : Result ℕ Refusal → ℤ
node_written_code = written_code

-- a count that packed nodes can have: four of them take at most 204 bytes
unfoldable pub CountedNodes : Result ℕ Refusal → Type 0
CountedNodes (Ok count) = count ≤ 204
CountedNodes (Err why) = Unit {0}
