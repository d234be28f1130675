-- `tick::is_due` meets its contract: the number outstanding, then the time, then whether the seat is taken. Assumes nothing.
use Rattle.std.proofs.Common.{◌∙◌, sym, arith}
use Rattle.std.proofs.lemmas.Bool.Decides.{nat_tests}
use Rattle.relay_laws.proofs.TickTests.{one_outstanding, not_due_yet, due_if_taken}
use Rattle.relay.proofs.tick.is_due.Goals.{then-outstanding-eq0, else-outstanding-eq0}
use Rattle.relay.proofs.tick.is_due.Goals as goal

pub returns-then-passed : goal.returns-then-passed
returns-then-passed c =
    let a = c.args in
    elim c.if-outstanding-eq0.branch [
      | then-outstanding-eq0 w ↦
          c.is_taken.ensures
          ∙ due_if_taken a.sizes.seats a.sizes.numbers a.memory.now c.requires.0 a.time c.requires.1 a.seat.0
          (sym c.outstanding.ensures ∙ w.if-outstanding-eq0.true) (sym w.passed.ensures ∙ sym w.value-is ∙ c.if-passed.true)
      | else-outstanding-eq0 w ↦ grind (arith, nat_tests)
    ]

pub returns-else-passed : goal.returns-else-passed
returns-else-passed c =
    let a = c.args in
    elim c.if-outstanding-eq0.branch [
      | then-outstanding-eq0 w ↦
          c.if-passed.false
          ∙ not_due_yet a.sizes.seats a.sizes.numbers a.memory.now c.requires.0 a.time c.requires.1 a.seat.0 (sym w.passed.ensures ∙ sym w.value-is ∙ c.if-passed.false)
      | else-outstanding-eq0 w ↦
          c.if-passed.false
          ∙ one_outstanding a.sizes.seats a.sizes.numbers a.memory.now c.requires.0 a.time c.requires.1 a.seat.0 (λ q. w.if-outstanding-eq0.false (c.outstanding.ensures ∙ q))
    ]
