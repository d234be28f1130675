-- `search::find` meets its contract. Assumes nothing.
use Rattle.std.proofs.Common.{rules, ◌∙◌, ap, List, ℕ, take, drop, position}
use borrow.Author.Tests.{tests}
use Rattle.std.proofs.lemmas.Iterator.Search.{position_from_yields_List}
use Rattle.key.specs.Keys.{same_key, key_of}
use Rattle.node.specs.declared.Node.{Node}
use Rattle.nearest.specs.Lists.{node_key}
use Rattle.lent_list.proofs.Parts.{YieldsList-parts, position_parts, same_part}
use Rattle.lent_list.proofs.StandingLaws.{held_slots}
use Rattle.lent_list.proofs.search.find.Goals as goal

pub returns : goal.returns
returns c =
    let m = c.args.list.memory.now in
    let s = c.held.result.now in
    let k = c.args.key.now in
    position_from_yields_List (λ (part : List ℕ). same_key (key_of (take 32 (drop 19 part))) (key_of k)) _ _ _ c.position.ensures.ran (YieldsList-parts s (cc) (cc)) (λ x b q h. search (rules, tests))
    ∙ position_parts _ (λ (x : Node). same_key (node_key x) k) (same_part k (search rules)) s
    ∙ ap (λ (ns : List Node). position (λ (x : Node). same_key (node_key x) k) ns) (held_slots m c.args.list.few c.args.list.long s c.held.ensures)
