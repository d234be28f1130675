-- What the host sees of a row. P1 to P11: in any history of the exported calls from the empty room of 40 seats with 32 numbers each whose calls are the row's, the
-- last event has the row's answer, and its records are the row's bytes. P12: the export that reads a node tells the row's fields of its bytes, and the one that
-- writes makes its bytes of its fields. P13: on a list that the export began for the row's target and size, the exported offers of its nodes are answered as the
-- row says, and the held-node export reads back the nodes that it says.
use Rattle.std.specs.Prelude.{Bool, List, [], ◌∷◌, ◌++◌, ◌≡◌, ℕ, ◌≤◌, ℤ, pos, length, drop, Result}
use Rattle.refusal.specs.declared.Refusal.{Refusal}
use Rattle.key.specs.declared.Key as code
use Rattle.node.specs.declared.Node.{Node}
use Rattle.node.specs.Nodes.{NodeInfo, read_node}
use Rattle.node.specs.Values.{value_of}
use Rattle.node.specs.Written.{WritesNode}
use Rattle.rules.specs.Room.{base_sizes}
use Rattle.rules.specs.History.{Event}
use Rattle.banavoge_laws.specs.Answers.{ToldAs}
use Rattle.banavoge_laws.specs.Nodes.{NodePlaces, ReadsNode, node_written_code}
use Rattle.banavoge_laws.specs.Nearest.{kept_code}
use Rattle.histories.specs.History.{History, calls_of}
use Rattle.histories.specs.ListHistory.{ListCall, offering, ListEvent, ListHistory, list_calls, ReadsBack}
use Rattle.histories.specs.WrittenAndRead.{NodeTold}
use Rattle.vectors.specs.Examples.{Row, room_row, node_row, list_row, EndsWith}

-- `banavoge_node_read` at the front of the bytes: 0, the node's fields, and that it ends behind so many bytes; `banavoge_node_write` with these fields, in an output
-- that has room: so many bytes, and these
pub record NodeSeen (bytes : List ℕ) (size : ℕ) (n : NodeInfo) : Type 0 where
  pub read : (answer : ℤ) (before after : NodePlaces) → ReadsNode 0 (read_node (drop 0 bytes)) answer before after
      → (answer ≡ pos 0) × NodeTold after (value_of n) size
  pub written : (out left : List ℕ) (answer : ℤ) → ToldAs node_written_code (WritesNode (value_of n) out left) answer → size ≤ length out
      → (answer ≡ pos size) × (left ≡ bytes ++ drop size out)

-- the nodes offered in turn, and the numbers answered
unfoldable pub offering_all : List Node → List ListCall
offering_all [] = []
offering_all (n ∷ ns) = offering n ∷ offering_all ns

unfoldable pub numbers_of : List ListEvent → List ℤ
numbers_of [] = []
numbers_of (e ∷ events) = e.number ∷ numbers_of events

unfoldable pub kept_codes : List (Result Bool Refusal) → List ℤ
kept_codes [] = []
kept_codes (answer ∷ rest) = kept_code answer ∷ kept_codes rest

pub record ListSeen (target : code.Key) (size : ℕ) (news holding : List Node) (answers : List (Result Bool Refusal)) : Type 0 where
  pub seen : (events : List ListEvent) (m' : List ℕ) → ListHistory target size events m' → list_calls events ≡ offering_all news
      → (numbers_of events ≡ kept_codes answers) × ReadsBack m' holding

unfoldable pub HostSees : Row → Type 0
HostSees (room_row before call answer bytes) =
    (events : List Event) (b' : List ℕ) → History base_sizes.seats base_sizes.numbers events b' → calls_of events ≡ before ++ (call ∷ [])
    → EndsWith events answer bytes
HostSees (node_row bytes size n) = NodeSeen bytes size n
HostSees (list_row target size news holding answers) = ListSeen target size news holding answers
