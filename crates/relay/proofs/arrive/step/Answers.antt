-- `arrive::step` meets its contract: the client leaves if it is seated, and takes a seat of the room as it is then. Assumes nothing.
use Rattle.relay.proofs.ArriveCases.{still_whole, arrives}
use Rattle.relay.proofs.arrive.step.Goals as goal

pub take_seat-requires : goal.take_seat-requires
take_seat-requires c =
    let a = c.args in
    still_whole a.sizes.seats a.sizes.numbers a.memory.now c.requires.0 a.key.0 a.out.now _ _ _ c.leave_if_seated-written.ensures

pub returns : goal.returns
returns c =
    let a = c.args in
    arrives a.sizes.seats a.sizes.numbers a.memory.now c.requires.0 a.key.0 a.out.now _ _ _ c.leave_if_seated-written.ensures _ _ c.take_seat.ensures
