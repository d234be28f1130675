-- `play::play` meets its contract: the test, then the run. Assumes nothing.
use mathlib.Core.Path.{sym, ◌∙◌}
use Rattle.relay.proofs.PlayTested.{play_not_whole, play_tested}
use Rattle.relay.proofs.play.play.Goals as goal

pub returns-then-not-is_whole : goal.returns-then-not-is_whole
returns-then-not-is_whole c =
    let a = c.args in
    play_not_whole 40 32 a.allowance a.calls.now a.memory.now a.out.now (sym c.is_whole.ensures ∙ c.if-not-is_whole.true)

pub returns : goal.returns
returns c =
    let a = c.args in
    let whole = sym c.is_whole.ensures ∙ c.if-not-is_whole.false in
    play_tested 40 32 a.allowance a.calls.now a.memory.now a.out.now whole _ _ _ c.play_all.ensures
