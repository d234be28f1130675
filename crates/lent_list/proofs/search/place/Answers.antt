-- `search::place` meets its contract. Assumes nothing.
use Rattle.std.proofs.Common.{rules, ◌≡◌, ◌∙◌, ap, arith, List, ℕ, ◌*◌, ◌/◌, length, take, drop, get_or, not, position}
use borrow.Author.Tests.{tests}
use Rattle.std.proofs.lemmas.Iterator.Search.{position_from_yields_List}
use Rattle.wire.proofs.Copy.{length_lent}
use Rattle.key.specs.Keys.{nearer, key_of}
use Rattle.node.specs.declared.Node.{Node}
use Rattle.nearest.specs.Lists.{node_key}
use Rattle.nearest.specs.Slots as slots
use Rattle.nearest.proofs.Steps.{leading_counts}
use Rattle.lent_list_laws.specs.Layout.{slots_at, list_at}
use Rattle.lent_list_laws.proofs.SlotLaws.{slots_number}
use Rattle.lent_list.proofs.Parts.{YieldsList-parts, position_parts, nearer_part}
use Rattle.lent_list.proofs.StandingLaws.{held_slots}
use Rattle.lent_list.proofs.search.place.Goals as goal

pub returns : goal.returns
unfolding list_at
returns c =
    let m = c.args.list.memory.now in
    let t = take 32 (drop 2 m) in
    let s = c.held.result.now in
    let k = c.args.key.now in
    let e : c.position-further.result ≡ position (λ (x : Node). not (nearer t (node_key x) k)) (slots_at (length s / 51) s) =
    position_from_yields_List (λ (part : List ℕ). not (nearer (key_of t) (key_of (take 32 (drop 19 part))) (key_of k))) _ _ c.position-further.result c.position-further.ensures.ran
    (YieldsList-parts s (cc) (cc)) (λ x b q h. search (rules, tests))
    ∙ position_parts _ (λ (x : Node). not (nearer t (node_key x) k)) (nearer_part t k (length_lent m 2 32 (let h = c.args.list.long in omega arith)) (search rules)) s in
    let h = held_slots m c.args.list.few c.args.list.long s c.held.ensures in
    let n = slots_number (length s / 51) s in
    let f = leading_counts (λ (x : Node). nearer t (node_key x) k) (slots_at (length s / 51) s) in
    let l = ap length c.held.ensures ∙ length_lent m 34 (get_or m 1 0 * 51) (let g = c.args.list.few in let r = c.args.list.long in omega arith) in
    let q : length s / 51 ≡ get_or m 1 0 = omega arith in
    let g = ap (slots.position t k) h in
    cc
