-- `change::empty_seat` meets its contract: the table of seats comes back with the seat freed. Assumes nothing.
use Rattle.std.proofs.Common.{sym}
use Rattle.room_laws.specs.Layout.{seat_table}
use Rattle.room_laws.proofs.LayoutLaws.{seats_cut}
use Rattle.room.proofs.StoreSteps.{store_emptied}
use Rattle.room.proofs.change.empty_seat.Goals as goal

pub returns-in-Some : goal.returns-in-Some
unfolding seat_table
returns-in-Some c =
    let r = c.in-Some.ensures in
    rw (c.free.ensures, c.end-end.ensures.is, r.1, c.from.ensures, seats_cut _ _ _ r.0) (sym (store_emptied _ _ _ r.0 _))
