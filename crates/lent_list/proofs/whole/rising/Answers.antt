-- `whole::rising` meets its contract. Assumes nothing.
use Rattle.std.proofs.Common.{rules, ◌≡◌, ◌∙◌, refl, sym, ◌+◌, ◌-◌, ◌/◌, length, arith}
use borrow.Author.Tests.{tests}
use Rattle.std.proofs.lemmas.Iterator.{YieldsList-from_range}
use Rattle.std.proofs.lemmas.Iterator.Search.{all_from_yields_List}
use Rattle.std.specs.List.{list_all, range_with_len}
use Rattle.lent_list.proofs.Parts.{before, all_in_range, some_in_range, rising_parts}
use Rattle.lent_list.proofs.whole.rising.Goals as goal

pub returns : goal.returns
returns c =
    let t = c.args.target.now in
    let s = c.args.held.now in
    let n = length s / 51 in
    let answer : c.all.result ≡ list_all (before t s c.requires) (range_with_len 1 (n - 1)) =
    all_from_yields_List (before t s c.requires) _ _ c.all.result c.all.ensures.ran (YieldsList-from_range 1 n (n - 1) (cc) refl) (λ x b q k. search (rules, tests)) in
    rising_parts t s c.requires c.all.result
    (λ e i lo hi.
    all_in_range (before t s c.requires) 1 (n - 1)
    (sym answer ∙ e) i (i - 1) (omega arith) (omega arith))
    (λ e. let w = some_in_range (before t s c.requires) 1 (n - 1) (sym answer ∙ e) in let l = w.1 in (1 + w.0, omega arith, omega arith, w.2))
