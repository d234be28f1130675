-- What the writer does with a node. Document 01, "Refusal numbers": "Every writer, of packets or nodes, checks 10 last."
use Rattle.std.specs.Prelude.{cond, List, ◌++◌, ◌≡◌, ℕ, leb, length, drop, Result, Ok, Err}
use Rattle.refusal.specs.declared.Refusal.{Refusal}
use Rattle.refusal.specs.declared.Refusal.TheVariants.{UnknownFamily, OutputTooShort}
use Rattle.node.specs.Families.{known_family}
use Rattle.node.specs.Nodes.{NodeInfo, packed_node}
use Rattle.node.specs.declared.Node.{Node}
use Rattle.node.specs.Values.{info_of, IsNode}

-- the answer: 15, or 10 where the output is under the exact length, or the byte count
unfoldable pub written_answer : NodeInfo → List ℕ → Result ℕ Refusal
written_answer n out =
    cond (known_family n.family)
    (cond (leb (length (packed_node n)) (length out)) (Ok (length (packed_node n))) (Err OutputTooShort))
    (Err UnknownFamily)

-- the output: as it was, or the packed node and then what stood behind it
unfoldable pub written_output : NodeInfo → List ℕ → List ℕ
written_output n out =
    cond (known_family n.family) (cond (leb (length (packed_node n)) (length out)) (packed_node n ++ drop (length (packed_node n)) out) out) out

-- a writer of this node into `out`: what it answers, and what it leaves
pub record Writes (n : NodeInfo) (out : List ℕ) (answer : Result ℕ Refusal) (left : List ℕ) : Type 0 where
  pub answers : answer ≡ written_answer n out
  pub leaves : left ≡ written_output n out

-- the same of a node by value; its fields are as their types have them
pub record WritesNode (n : Node) (out left : List ℕ) (answer : Result ℕ Refusal) : Type 0 where
  pub fits : IsNode n
  pub writes : Writes (info_of n) out answer left
