-- `slots::place` meets its contract. Assumes nothing.
use Rattle.std.proofs.Common.{rules, ◌≡◌, not, position}
use borrow.Author.Tests.{tests}
use Rattle.std.proofs.lemmas.Iterator.{YieldsList-from_slice}
use Rattle.std.proofs.lemmas.Iterator.Search.{position_from_yields_List}
use Rattle.key.specs.Keys.{nearer}
use Rattle.node.specs.declared.Node.{Node}
use Rattle.nearest.specs.Lists.{node_key}
use Rattle.nearest.proofs.Steps.{leading_counts}
use Rattle.nearest.proofs.slots.place.Goals as goal

pub returns : goal.returns
returns c =
    let t = c.args.target.0 in
    let k = c.args.key.0 in
    let e : c.position-further.result ≡ position (λ (m : Node). not (nearer t (node_key m) k)) c.args.nodes.now =
    position_from_yields_List (λ (m : Node). not (nearer t (node_key m) k)) _ _ c.position-further.result c.position-further.ensures.ran (YieldsList-from_slice c.args.nodes.now cc)
    (λ x b q h. search (rules, tests)) in
    let f = leading_counts (λ (m : Node). nearer t (node_key m) k) c.args.nodes.now in
    cc
