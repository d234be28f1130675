-- One step of the walker. Document 01, "Nodes": "a walker that shows the next node of a lent list and says where the following one starts. It
-- keeps the list, its place and the count shown."
use Rattle.std.specs.Prelude.{cond, List, ◌≡◌, ℕ, ◌+◌, eqb, leb, ltb, length, drop, Option, Some, None, Result, Ok, Err}
use Rattle.refusal.specs.declared.Refusal.{Refusal}
use Rattle.refusal.specs.declared.Refusal.TheVariants.{NodeCutShort, BytesAfterNodes}
use Rattle.node.specs.declared.walk.Next.{Next}
use Rattle.node.specs.Nodes as nodes
use Rattle.node.specs.Values.{info_of, value_of}

-- what a step does: it shows a node, or says that the list ends, or is refused
pub data Showing : Type 0 where
  shows : nodes.NodeInfo → Showing
  ends : Showing
  refuses : Refusal → Showing

-- the node read, or its refusal
unfoldable pub showing_read : nodes.Read → Showing
showing_read (nodes.node n) = shows n
showing_read (nodes.refused why) = refuses why

-- "At the end it says so; a place past the end gets 16, bytes left at a count of 4 or more get 17"; else what is read there. The place past
-- the end and the end are told at any count.
unfoldable pub step_of : List ℕ → ℕ → ℕ → Showing
step_of list place count =
    cond (ltb (length list) place) (refuses NodeCutShort)
    (cond (eqb place (length list)) ends
    (cond (leb 4 count) (refuses BytesAfterNodes)
    (showing_read (nodes.read_node (drop place list)))))

-- the place after a step: "where the following one starts"; the end and a refusal leave the walker as it was
unfoldable pub place_after : Showing → ℕ → ℕ
place_after (shows n) place = place + length (nodes.packed_node n)
place_after ends place = place
place_after (refuses why) place = place

-- the count shown after it
unfoldable pub count_after : Showing → ℕ → ℕ
count_after (shows n) count = count + 1
count_after ends count = count
count_after (refuses why) count = count

-- for each case of the answer as code, what it stands for
unfoldable pub showing_of : Result (Option Next) Refusal → Showing
showing_of (Ok (Some next)) = shows (info_of next.node)
showing_of (Ok None) = ends
showing_of (Err why) = refuses why

-- and the answer as code: the node shown with the walker after the step, or neither
unfoldable pub shown_step : ℕ → ℕ → Showing → Result (Option Next) Refusal
shown_step place count (shows n) = Ok (Some (record { node = value_of n; place = place_after (shows n) place; count = count_after (shows n) count }))
shown_step place count ends = Ok None
shown_step place count (refuses why) = Err why

-- where the walker stands after an answer, and how many nodes it has shown: as they come with the node that is shown, and as before where none is
unfoldable pub place_answered : ℕ → Result (Option Next) Refusal → ℕ
place_answered place (Ok (Some next)) = next.place
place_answered place (Ok None) = place
place_answered place (Err why) = place

unfoldable pub count_answered : ℕ → Result (Option Next) Refusal → ℕ
count_answered count (Ok (Some next)) = next.count
count_answered count (Ok None) = count
count_answered count (Err why) = count

-- the step's answer: it stands for what document 01 has shown there, and it is just the one above
pub record Steps (list : List ℕ) (place count : ℕ) (answer : Result (Option Next) Refusal) : Type 0 where
  pub means : showing_of answer ≡ step_of list place count
  pub exact : answer ≡ shown_step place count (step_of list place count)
