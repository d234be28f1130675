-- `NearestList::take_out` meets its contract: each way out is a case of `RemoveLaws`. Assumes nothing.
use mathlib.Core.Path.{◌≡◌, ◌∙◌, sym, ap}
use mathlib.Core.List.{List, [], ◌∷◌, ◌++◌, append_assoc}
use lib.ListN.{drop}
use native.Mathlib.Omega.{arith}
use Rattle.std.proofs.lemmas.Result.{err_from_is_err_and}
use Rattle.refusal.specs.declared.Refusal.TheVariants.{KeyNotHeld}
use Rattle.lists.specs.Insert.{remove_at}
use Rattle.node.specs.declared.Node.{Node}
use Rattle.node.specs.Values.{blank_node}
use Rattle.nearest.specs.Lists.{held}
use Rattle.nearest.proofs.Judge.{few_held}
use Rattle.nearest.proofs.Holding.{held_length}
use Rattle.nearest.proofs.Place.{not_found}
use Rattle.nearest.proofs.Steps.{index_found}
use Rattle.nearest.proofs.RemoveLaws.{remove_refused, remove_missing, remove_done}
use Rattle.nearest.proofs.NearestList.take_out.Goals as goal

pub returns-in_err-check : goal.returns-in_err-check
returns-in_err-check c =
    let p = err_from_is_err_and c.from_residual.result c.from_residual.ensures.1 in
    rw (p.1, p.2) (sym (remove_refused _ c.args.key _ (sym c.check.ensures ∙ c.in_err-check.was)))

pub returns-in_err-index : goal.returns-in_err-index
returns-in_err-index c =
    let p = err_from_is_err_and c.from_residual-in_err-index.result c.from_residual-in_err-index.ensures.1 in
    let q : c.in_err-index.field-0.0 ≡ KeyNotHeld = grind arith in
    let w = rw c.in_err-index.ensures.ok_part at (index_found c.args.key.0 c.held.result.now c.find.result c.find.ensures) in
    rw (p.1, p.2, q)
    (remove_missing c.args.self.now c.args.key (sym c.check.ensures ∙ c.in_ok-check.was) (not_found c.args.key.0 (held c.args.self.now) (rw c.held.ensures at w)))

pub returns : goal.returns
returns c =
    let l = c.args.self.now in
    let s = few_held l (sym c.check.ensures ∙ c.in_ok-check.was) in
    let n = c.requires.slots in
    let e = held_length l (omega arith) in
    let w = rw c.in_ok-index.ensures.ok_part at (index_found c.args.key.0 c.held.result.now c.find.result c.find.ensures) in
    let v = rw c.held.ensures at w in
    sym (remove_done l c.args.key (sym c.check.ensures ∙ c.in_ok-check.was) n c.in_ok-index.index v.0 (omega (arith, v.1)) _
    (ap (λ (x : List Node). x ++ drop l.count l.nodes) c.close_at.ensures ∙ append_assoc (remove_at c.in_ok-index.index (held l)) (blank_node ∷ []) (drop l.count l.nodes)))
