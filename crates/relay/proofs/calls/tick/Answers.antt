-- `calls::tick` meets its contract: the tests, then the step. Assumes nothing.
use Rattle.std.proofs.Common.{◌≡◌, ◌∙◌, sym, refl, Err, rules}
use Rattle.rules.specs.Call.{tick}
use Rattle.relay_laws.specs.Calls.{answer_of}
use Rattle.relay.proofs.ReadyCases.{ready_ok, ready_made, ready_refused}
use Rattle.relay.proofs.calls.tick.Goals as goal

pub returns-in_err-ready : goal.returns-in_err-ready
unfolding answer_of
returns-in_err-ready c =
    let a = c.args in
    let why : c.from_residual.result ≡ Err c.in_err-ready.field-0.0 = search rules in
    record { fits = (c.ranges.time.fits, c.ranges.number.fits); leaves = rw why (ready_refused 5120 a.memory.now a.out.now (tick a.time a.number) refl _ (sym c.ready.ensures ∙ c.in_err-ready.was)) }

pub step-requires : goal.step-requires
step-requires c = ready_ok 5120 c.args.memory.now c.args.out.now (sym c.ready.ensures ∙ c.in_ok-ready.was)

pub returns : goal.returns
returns c =
    let a = c.args in
    record { fits = (c.ranges.time.fits, c.ranges.number.fits); leaves = ready_made 5120 a.memory.now a.out.now (tick a.time a.number) refl (sym c.ready.ensures ∙ c.in_ok-ready.was) _ _ _ c.step.ensures }
