-- `change::take_seat` meets its contract: the table of seats comes back with the seat put in. Assumes nothing.
use Rattle.std.proofs.Common.{sym}
use Rattle.room_laws.specs.Layout.{seat_table}
use Rattle.room_laws.proofs.LayoutLaws.{seats_cut}
use Rattle.room.proofs.StoreSteps.{store_taken}
use Rattle.room.proofs.change.take_seat.Goals as goal

pub returns-in-Some : goal.returns-in-Some
unfolding seat_table
returns-in-Some c =
    let r = c.in-Some.ensures in
    rw (c.put.ensures, c.seats_shape-shape.ensures, c.new_seat-record.ensures, c.end-end.ensures.is, r.1, r.2, c.from.ensures, seats_cut _ _ _ r.0) (sym (store_taken _ _ _ r.0 _ _))
