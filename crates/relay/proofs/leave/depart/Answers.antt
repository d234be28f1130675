-- `leave::depart` meets its contract: the peers are told, and the seat is emptied. Assumes nothing.
use mathlib.Core.Path.{refl, sym}
use Rattle.relay.proofs.LeaveCases.{leave_sits, leave_fits, departs}
use Rattle.relay.proofs.leave.depart.Goals as goal

pub tell_peers-next-requires : goal.tell_peers-next-requires
tell_peers-next-requires c =
    let a = c.args in
    let key = c.key_in-key in
    let sits = leave_sits a.sizes.seats a.sizes.numbers a.memory.now c.requires.0 a.seat.0 _ (sym c.requires.1) refl key.result.0 key.ensures in
    (c.requires.0, sits, leave_fits a.sizes.seats a.sizes.numbers a.memory.now c.requires.0 a.seat.0 key.result.0 sits a.out.now a.at c.requires.2)

pub returns : goal.returns
returns c =
    let a = c.args in
    let key = c.key_in-key in
    let sits = leave_sits a.sizes.seats a.sizes.numbers a.memory.now c.requires.0 a.seat.0 _ (sym c.requires.1) refl key.result.0 key.ensures in
    departs a.sizes.seats a.sizes.numbers a.memory.now c.requires.0 a.seat.0 key.result.0 sits a.out.now a.at _ _ _
    c.tell_peers-next.ensures c.empty_seat.ensures
