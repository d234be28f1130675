-- `leave::step` meets its contract: an empty seat is refused; a taken one has its peers told and is emptied. Assumes nothing.
use mathlib.Core.Path.{sym, ◌∙◌}
use Rattle.relay_laws.specs.Calls.{answer_of}
use Rattle.relay.proofs.LeaveCases.{leave_none, leave_room, leave_made}
use Rattle.relay.proofs.leave.step.Goals as goal

pub returns-then-not-is_taken : goal.returns-then-not-is_taken
unfolding answer_of
returns-then-not-is_taken c =
    let a = c.args in
    leave_none a.sizes.seats a.sizes.numbers a.memory.now c.requires.0 a.seat.0 (sym c.is_taken.ensures ∙ c.if-not-is_taken.true) a.out.now

pub depart-bytes-requires : goal.depart-bytes-requires
depart-bytes-requires c =
    let a = c.args in
    let t = c.is_taken in (
      c.requires.0,
      sym t.ensures ∙ c.if-not-is_taken.false,
      leave_room a.sizes.seats a.sizes.numbers a.memory.now c.requires.0 a.seat.0 a.out.now c.requires.1,
    )

pub returns : goal.returns
unfolding answer_of
returns c =
    let a = c.args in
    let t = c.is_taken in
    leave_made a.sizes.seats a.sizes.numbers a.memory.now c.requires.0 a.seat.0
    (sym t.ensures ∙ c.if-not-is_taken.false) a.out.now _ _ _
    c.depart-bytes.ensures
