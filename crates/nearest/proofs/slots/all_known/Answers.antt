-- `slots::all_known` meets its contract. Assumes nothing.
use Rattle.std.proofs.Common.{rules, ◌≡◌, ◌∙◌, refl, ap, Bool, ◌&&◌, List, [], ◌∷◌}
use borrow.Author.Tests.{tests}
use Rattle.std.specs.List.{list_all}
use Rattle.std.proofs.lemmas.Iterator.{YieldsList-from_slice}
use Rattle.std.proofs.lemmas.Iterator.Search.{all_from_yields_List}
use Rattle.node.specs.declared.Node.{Node}
use Rattle.node.specs.Families.{known_family}
use Rattle.nearest.specs.Lists.{all_known}
use Rattle.nearest.proofs.slots.all_known.Goals as goal

each_known : (ns : List Node) → list_all (λ (n : Node). known_family n.family) ns ≡ all_known ns
unfolding all_known
each_known [] = refl
each_known (n ∷ ns) = ap (λ (x : Bool). known_family n.family && x) (each_known ns)

pub returns : goal.returns
returns c =
    all_from_yields_List (λ (n : Node). known_family n.family) _ _ _ c.all.ensures.ran (YieldsList-from_slice c.args.nodes.now cc) (λ x b q k. search (rules, tests))
    ∙ each_known c.args.nodes.now
