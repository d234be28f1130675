-- `held_at` meets its contract: each way out is a case of `HeldLaws`. Assumes nothing.
use mathlib.Core.Path.{◌∙◌, sym}
use native.Mathlib.Omega.{arith}
use Rattle.std.proofs.lemmas.Result.{err_from_is_err_and}
use Rattle.wire.proofs.Copy.{length_lent}
use Rattle.lent_list_laws.proofs.ChangeLaws.{count_there}
use Rattle.lent_list.proofs.HeldLaws.{held_short, held_refused, held_nothing, held_node}
use Rattle.lent_list.proofs.StandingLaws.{stands, refused}
use Rattle.lent_list.proofs.held_at.Goals as goal

pub returns-in_err-check : goal.returns-in_err-check
returns-in_err-check c =
    let a = c.args in
    let m = a.memory.now in
    let p = err_from_is_err_and c.from_residual.result c.from_residual.ensures.1 in
    rw (p.1, p.2) (refused m _ (sym c.check.ensures ∙ c.in_err-check.was) (λ h q. held_short m a.index _ q h) (λ h q. held_refused m a.index h _ q))

pub of-list-requires : goal.of-list-requires
of-list-requires c = let s = stands c.args.memory.now (sym c.check.ensures ∙ c.in_ok-check.was) in record { long = s.0; few = count_there c.args.memory.now s.1 }

pub returns-then-count-index : goal.returns-then-count-index
returns-then-count-index c =
    let a = c.args in
    let s = stands a.memory.now (sym c.check.ensures ∙ c.in_ok-check.was) in
    held_nothing a.memory.now a.index s.0 s.1 (rw (c.count.ensures, c.of-list.ensures) at c.if-count-index.true)

pub read_at-requires : goal.read_at-requires
read_at-requires c =
    let m = c.args.memory.now in
    let s = stands m (sym c.check.ensures ∙ c.in_ok-check.was) in
    let w = count_there m s.1 in
    (rw (c.slots.ensures, c.of-list.ensures) (length_lent m 34 816 s.0), let k = rw (c.count.ensures, c.of-list.ensures) at c.if-count-index.false in omega arith)

pub returns : goal.returns
returns c =
    let a = c.args in
    let s = stands a.memory.now (sym c.check.ensures ∙ c.in_ok-check.was) in
    held_node a.memory.now a.index s.0 s.1 (rw (c.count.ensures, c.of-list.ensures) at c.if-count-index.false) _ (rw (c.slots.ensures, c.of-list.ensures) at c.read_at.ensures)
