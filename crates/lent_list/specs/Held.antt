-- The node at an index of a list in lent bytes, or why there is none.
use Rattle.std.specs.Prelude.{cond, List, ℕ, leb, length, get_or, Option, None, Some, Result, Ok, Err}
use Rattle.refusal.specs.declared.Refusal.{Refusal}
use Rattle.node.specs.declared.Node.{Node}
use Rattle.node.specs.Values.{blank_node}
use Rattle.nearest.specs.declared.NearestList.{NearestList}
use Rattle.nearest.specs.Lists.{held}
use Rattle.nearest.specs.Calls.{checked}
use Rattle.lent_list_laws.specs.Layout.{list_length, list_at}
use Rattle.lent_list_laws.specs.Calls.{short_refusal}

-- after the list's test: a node where the index is below the count
unfoldable pub held_after : Result (Unit {0}) Refusal → NearestList → ℕ → Result (Option Node) Refusal
held_after (Err why) l index = Err why
held_after (Ok _) l index = Ok (cond (leb l.count index) None (Some (get_or (held l) index blank_node)))

unfoldable pub held_at : List ℕ → ℕ → Result (Option Node) Refusal
held_at memory index = cond (leb list_length (length memory)) (held_after (checked (list_at memory)) (list_at memory) index) (Err (short_refusal memory))
