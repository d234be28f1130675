-- `pong::step` meets its contract: the ping is cleared where the number is the outstanding one. Assumes nothing.
use mathlib.Core.Path.{sym, ◌∙◌}
use Rattle.relay_laws.specs.Calls.{answer_of}
use Rattle.relay.proofs.PongCases.{pong_clears, pong_passes}
use Rattle.relay.proofs.pong.step.Goals as goal

pub returns-then-outstanding-number : goal.returns-then-outstanding-number
unfolding answer_of
returns-then-outstanding-number c =
    let a = c.args in
    let o = c.outstanding in
    pong_clears a.sizes.seats a.sizes.numbers a.memory.now c.requires a.seat.0 a.number (sym o.ensures ∙ c.if-outstanding-number.true) _
    c.clear_ping.ensures

pub returns-else-outstanding-number : goal.returns-else-outstanding-number
unfolding answer_of
returns-else-outstanding-number c =
    let a = c.args in
    let o = c.outstanding in
    pong_passes a.sizes.seats a.sizes.numbers a.memory.now c.requires a.seat.0 a.number (λ q. c.if-outstanding-number.false (o.ensures ∙ q))
