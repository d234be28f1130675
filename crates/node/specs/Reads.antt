-- The reader as code: for each case of its answer, document 01's node or refusal.
use Rattle.std.specs.Prelude.{List, ◌≡◌, ℕ, ◌+◌, length, drop, Result, Ok, Err}
use Rattle.refusal.specs.declared.Refusal.{Refusal}
use Rattle.node.specs.declared.Node.{Node}
use Rattle.node.specs.Nodes.{Read, node, refused, packed_node, read_node}
use Rattle.node.specs.Values.{info_of, value_of}

-- what an answer stands for: the node that was found, or the refusal
unfoldable pub found_of : Result (Node × ℕ) Refusal → Read
found_of (Ok found) = node (info_of found.0)
found_of (Err why) = refused why

-- the answer at a place: the node, and that the next starts right behind its bytes
unfoldable pub shown_read : ℕ → Read → Result (Node × ℕ) Refusal
shown_read at (node n) = Ok (value_of n, at + length (packed_node n))
shown_read at (refused why) = Err why

-- the reader's answer: it stands for what document 01 has read at that place, and it is just the one above
pub record Reads (bytes : List ℕ) (at : ℕ) (answer : Result (Node × ℕ) Refusal) : Type 0 where
  pub means : found_of answer ≡ read_node (drop at bytes)
  pub exact : answer ≡ shown_read at (read_node (drop at bytes))
