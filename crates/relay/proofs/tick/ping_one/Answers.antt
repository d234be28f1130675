-- `tick::ping_one` meets its contract. Assumes nothing.
use mathlib.Core.Path.{sym, ◌∙◌}
use Rattle.records.proofs.Fits.{pinged_fits}
use Rattle.relay_laws.proofs.TickParts.{not_pinged, is_pinged}
use Rattle.relay.proofs.tick.ping_one.Goals as goal

pub returns-then-not-is_due : goal.returns-then-not-is_due
returns-then-not-is_due c =
    let a = c.args in
    not_pinged a.sizes.seats a.sizes.numbers a.memory.now c.requires.0 a.time a.seat.0 a.out.now a.at a.number
    (sym c.is_due.ensures ∙ c.if-not-is_due.true)

pub returns : goal.returns
returns c =
    let a = c.args in
    is_pinged a.sizes.seats a.sizes.numbers a.memory.now c.requires.0 a.time a.seat.0 a.out.now a.at a.number
    (sym c.is_due.ensures ∙ c.if-not-is_due.false) _ _ _ c.set_ping.ensures
    (pinged_fits a.number c.requires.2 c.requires.3 c.pinged.ensures)
