-- `remove` meets its contract: each way out is a case of `CallLaws` of `lent_list_laws`. Assumes nothing.
use borrow.Author.Rules.{rules}
use mathlib.Core.Path.{◌∙◌, sym, ap}
use Rattle.std.specs.Prelude.{Result}
use Rattle.std.proofs.lemmas.Result.{err_from_is_err_and}
use Rattle.wire.proofs.Numbers.{bytes_each}
use Rattle.refusal.specs.declared.Refusal.{Refusal}
use Rattle.nearest.specs.declared.Answered.{Answered}
use Rattle.nearest.specs.Calls.{removed}
use Rattle.lent_list_laws.specs.Layout.{list_at}
use Rattle.lent_list_laws.proofs.CallLaws.{removes_done}
use Rattle.lent_list.proofs.StandingLaws.{stands, removes_not_standing}
use Rattle.lent_list.proofs.remove.Goals as goal

pub returns-in_err-check : goal.returns-in_err-check
returns-in_err-check c =
    let m = c.args.memory.now in
    let p = err_from_is_err_and c.from_residual.result c.from_residual.ensures.1 in
    rw (p.1, p.2) (removes_not_standing m _ c.args.key (bytes_each m (λ i. search rules)) (sym c.check.ensures ∙ c.in_err-check.was))

pub take_out-requires : goal.take_out-requires
take_out-requires c = sym c.check.ensures ∙ c.in_ok-check.was

pub returns : goal.returns
returns c =
    let m = c.args.memory.now in
    let s = stands m (sym c.check.ensures ∙ c.in_ok-check.was) in
    let o = removed (list_at m) c.args.key in
    removes_done c.args.key m (bytes_each m (λ i. search rules)) s.0 (record { list = o.list; answer = c.take_out.result })
    (ap {B = Answered (Unit {0})} (λ (x : Result (Unit {0}) Refusal). record { list = o.list; answer = x }) c.take_out.ensures.answer) _ c.take_out.ensures.memory_after
