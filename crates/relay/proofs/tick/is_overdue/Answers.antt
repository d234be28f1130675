-- `tick::is_overdue` meets its contract: the number outstanding, then the time, then whether the seat is taken. Assumes nothing.
use Rattle.std.proofs.Common.{◌∙◌, sym, arith}
use Rattle.std.proofs.lemmas.Bool.Decides.{nat_tests}
use Rattle.relay_laws.proofs.TickTests.{none_outstanding, not_overdue_yet, overdue_if_taken}
use Rattle.relay.proofs.tick.is_overdue.Goals.{then-outstanding-ne0, else-outstanding-ne0}
use Rattle.relay.proofs.tick.is_overdue.Goals as goal

pub returns-then-passed : goal.returns-then-passed
returns-then-passed c =
    let a = c.args in
    elim c.if-outstanding-ne0.branch [
      | then-outstanding-ne0 w ↦
          c.is_taken.ensures
          ∙ overdue_if_taken a.sizes.seats a.sizes.numbers a.memory.now c.requires.0 a.time c.requires.1 a.seat.0
          (λ q. w.if-outstanding-ne0.true (c.outstanding.ensures ∙ q)) (sym w.passed.ensures ∙ sym w.value-is ∙ c.if-passed.true)
      | else-outstanding-ne0 w ↦ grind (arith, nat_tests)
    ]

pub returns-else-passed : goal.returns-else-passed
returns-else-passed c =
    let a = c.args in
    elim c.if-outstanding-ne0.branch [
      | then-outstanding-ne0 w ↦
          c.if-passed.false
          ∙ not_overdue_yet a.sizes.seats a.sizes.numbers a.memory.now c.requires.0 a.time c.requires.1 a.seat.0 (sym w.passed.ensures ∙ sym w.value-is ∙ c.if-passed.false)
      | else-outstanding-ne0 w ↦
          c.if-passed.false
          ∙ none_outstanding a.sizes.seats a.sizes.numbers a.memory.now c.requires.0 a.time c.requires.1 a.seat.0 (sym c.outstanding.ensures ∙ w.if-outstanding-ne0.false)
    ]
