-- `lookup::seat_of` meets its contract. Assumes nothing.
use Rattle.std.proofs.Common.{arith, ap}
use Rattle.table_laws.proofs.PlaceBelow.{below_some}
use Rattle.room_laws.proofs.LayoutLaws.{few_seats}
use Rattle.table.specs.declared.Shape.{Shape}
use Rattle.room.proofs.lookup.seat_of.Goals as goal

pub overflow_cast-result : goal.overflow_cast-result
overflow_cast-result c =
    let p = below_some _ _ _ c.in_ok-place.ensures in
    let w = ap (λ (s : Shape). s.places) c.seats_shape.ensures in
    let f = few_seats _ _ _ c.in_ok-room.room.long in
    omega arith
