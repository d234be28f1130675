-- `lookup::lowest_empty` meets its contract. Assumes nothing.
use Rattle.std.proofs.Common.{arith, ap}
use Rattle.room.specs.declared.layout.Sizes.{Sizes}
use Rattle.table_laws.proofs.PlaceBelow.{below_some}
use Rattle.room_laws.proofs.LayoutLaws.{few_seats}
use Rattle.room.proofs.lookup.lowest_empty.Goals as goal

pub overflow_cast-result : goal.overflow_cast-result
overflow_cast-result c =
    let p = below_some _ _ _ c.in_ok-place.ensures in
    let w = ap (λ (s : Sizes). s.seats) c.in_ok-room.ensures.1 in
    let f = few_seats _ _ _ c.in_ok-room.room.long in
    omega arith
