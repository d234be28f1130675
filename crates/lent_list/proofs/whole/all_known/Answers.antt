-- `whole::all_known` meets its contract. Assumes nothing.
use Rattle.std.proofs.Common.{rules, ◌∙◌, List, ℕ, ◌/◌, length, get_or}
use borrow.Author.Tests.{tests}
use Rattle.std.proofs.lemmas.Iterator.Search.{all_from_yields_List}
use Rattle.node.specs.Families.{known_family}
use Rattle.lent_list.proofs.Parts.{YieldsList-parts, all_parts}
use Rattle.lent_list.proofs.whole.all_known.Goals as goal

pub returns : goal.returns
returns c =
    all_from_yields_List (λ (part : List ℕ). known_family (get_or part 0 0)) _ _ _ c.all.ensures.ran (YieldsList-parts c.args.held.now (cc) (cc)) (λ x b q k. search (rules, tests))
    ∙ all_parts (length c.args.held.now / 51) c.args.held.now
