-- A whole list walked. Document 01, "Nodes": "A node list is 0 to 4 packed nodes with no byte over."
use Rattle.std.specs.Prelude.{true, false, List, [], ◌∷◌, ◌++◌, ◌≡◌, ℕ, zero, suc, ◌<◌, ◌≤◌, length, Option, Some, None, Result, Ok, Err}
use Rattle.refusal.specs.declared.Refusal.{Refusal}
use Rattle.refusal.specs.declared.Refusal.TheVariants.{UnknownFamily, NodeCutShort, BytesAfterNodes}
use Rattle.node.specs.declared.walk.Next.{Next}
use Rattle.node.specs.Families.{known_family, packed_length}
use Rattle.node.specs.Nodes.{NodeInfo, packed_node, FitsNode}
use Rattle.node.specs.Values.{info_of}
use Rattle.node.specs.Steps.{Showing, shows, ends, refuses, step_of, place_after, count_after, Steps}

-- how a walk ends: the list does, or a step is refused, or no more steps are taken
pub data Ending : Type 0 where
  ended : Ending
  stopped : Refusal → Ending
  unfinished : Ending

-- the nodes shown, in order, and how it ended
pub record Walk : Type 0 where
  pub nodes : List NodeInfo
  pub ending : Ending

-- a step, and the walk after it where it shows a node
unfoldable pub walk_on : Showing → Walk → Walk
walk_on (shows n) after = record { nodes = n ∷ after.nodes; ending = after.ending }
walk_on ends after = record { nodes = []; ending = ended }
walk_on (refuses why) after = record { nodes = []; ending = stopped why }

-- at most so many steps from a place and a count, each from where the step before it left the walker
unfoldable pub walk_from : ℕ → List ℕ → ℕ → ℕ → Walk
walk_from zero list place count = record { nodes = []; ending = unfinished }
walk_from (suc steps) list place count =
    walk_on (step_of list place count)
    (walk_from steps list (place_after (step_of list place count) place) (count_after (step_of list place count) count))

-- nodes packed one behind the other
unfoldable pub packed_nodes : List NodeInfo → List ℕ
packed_nodes [] = []
packed_nodes (n ∷ ns) = packed_node n ++ packed_nodes ns

abbrev pub AllFit : List NodeInfo → Type 0
AllFit [] = Unit {0}
AllFit (n ∷ ns) = FitsNode n × AllFit ns

-- why no further node is shown where so many have been and these bytes are left: the list ends, or 17, 15 or 16
pub data Stops (shown : ℕ) : List ℕ → Ending → Type 0 where
  at_end : Stops shown [] ended
  four_shown : {byte : ℕ} {rest : List ℕ} → 4 ≤ shown → Stops shown (byte ∷ rest) (stopped BytesAfterNodes)
  unknown : {byte : ℕ} {rest : List ℕ} → shown < 4 → known_family byte ≡ false → Stops shown (byte ∷ rest) (stopped UnknownFamily)
  cut_short : {byte : ℕ} {rest : List ℕ} → shown < 4 → known_family byte ≡ true → length (byte ∷ rest) < packed_length byte
      → Stops shown (byte ∷ rest) (stopped NodeCutShort)

-- what it is for a walk to be that of a list: its nodes, packed, are the front of the list, and the bytes left say why it ended
pub record Walked (list : List ℕ) (w : Walk) : Type 0 where
  pub rest : List ℕ
  pub front : list ≡ packed_nodes w.nodes ++ rest
  pub fit : AllFit w.nodes
  pub few : length w.nodes ≤ 4
  pub stops : Stops (length w.nodes) rest w.ending

-- a walk by calls of the step: each is handed the place and the count that the one before it handed back
pub data Calls (list : List ℕ) : ℕ → ℕ → Walk → Type 0 where
  says_end : {place count : ℕ} {answer : Result (Option Next) Refusal} → Steps list place count answer → answer ≡ Ok None
      → Calls list place count (record { nodes = []; ending = ended })
  is_refused : {place count : ℕ} {answer : Result (Option Next) Refusal} {why : Refusal} → Steps list place count answer → answer ≡ Err why
      → Calls list place count (record { nodes = []; ending = stopped why })
  shows_node : {place count : ℕ} {answer : Result (Option Next) Refusal} {next : Next} {after : Walk} → Steps list place count answer → answer ≡ Ok (Some next)
      → Calls list next.place next.count after → Calls list place count (record { nodes = info_of next.node ∷ after.nodes; ending = after.ending })
