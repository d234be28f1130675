-- `tick::put_out_one` meets its contract. Assumes nothing.
use mathlib.Core.Path.{sym, ◌∙◌}
use Rattle.relay_laws.proofs.TickParts.{not_put_out, is_put_out, late_taken, late_fits}
use Rattle.relay.proofs.tick.put_out_one.Goals as goal

pub returns-then-not-is_overdue : goal.returns-then-not-is_overdue
returns-then-not-is_overdue c =
    let a = c.args in
    not_put_out a.sizes.seats a.sizes.numbers a.memory.now c.requires.0 a.time a.seat.0 a.out.now a.at
    (sym c.is_overdue.ensures ∙ c.if-not-is_overdue.true)

pub depart-requires : goal.depart-requires
depart-requires c =
    let a = c.args in
    let late = sym c.is_overdue.ensures ∙ c.if-not-is_overdue.false in (
      c.requires.0,
      late_taken a.sizes.seats a.sizes.numbers a.memory.now c.requires.0 a.time a.seat.0 a.out.now a.at late,
      late_fits a.sizes.seats a.sizes.numbers a.memory.now c.requires.0 a.time a.seat.0 a.out.now a.at c.requires.2,
    )

pub returns : goal.returns
returns c =
    let a = c.args in
    is_put_out a.sizes.seats a.sizes.numbers a.memory.now c.requires.0 a.time a.seat.0 a.out.now a.at
    (sym c.is_overdue.ensures ∙ c.if-not-is_overdue.false) _ _ _ c.depart.ensures
