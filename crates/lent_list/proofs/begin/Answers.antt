-- `begin` meets its contract: each way out is a case of `CallLaws` of `lent_list_laws`. Assumes nothing.
use native.Mathlib.Omega.{arith}
use Rattle.std.proofs.lemmas.Result.{err_from_is_err_and}
use Rattle.key.proofs.Owned.{is_key}
use Rattle.lent_list_laws.proofs.CallLaws.{begins_refused, begins_short, begins_done}
use Rattle.lent_list.proofs.begin.Goals as goal

pub returns-in_err-begun : goal.returns-in_err-begun
returns-in_err-begun c =
    let a = c.args in
    let p = err_from_is_err_and c.from_residual.result c.from_residual.ensures.1 in
    rw (p.1, p.2)
    (begins_refused a.target a.size a.memory.now _ (is_key a.target c.well_formed.1.0.0 c.well_formed.1.0.1.1) c.begin-begun.result c.begin-begun.ensures c.store.ensures _ c.in_err-begun.was)

pub returns-then-long-lt-BYTES : goal.returns-then-long-lt-BYTES
returns-then-long-lt-BYTES c =
    let a = c.args in
    begins_short a.target a.size a.memory.now _ (is_key a.target c.well_formed.1.0.0 c.well_formed.1.0.1.1) c.begin-begun.result c.begin-begun.ensures c.store.ensures c.in_ok-begun.was (omega (arith, c.if-long-lt-BYTES.true))

pub returns : goal.returns
returns c =
    let a = c.args in
    begins_done a.target a.size a.memory.now _ (is_key a.target c.well_formed.1.0.0 c.well_formed.1.0.1.1) c.begin-begun.result c.begin-begun.ensures c.store.ensures c.in_ok-begun.was (omega (arith, c.if-long-lt-BYTES.false))
