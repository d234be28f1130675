-- `lookup::number_of` meets its contract. Assumes nothing.
use Rattle.std.proofs.Common.{arith, ap}
use Rattle.table_laws.proofs.PlaceBelow.{below_some}
use Rattle.room_laws.proofs.LayoutLaws.{few_numbers}
use Rattle.table.specs.declared.Shape.{Shape}
use Rattle.room.proofs.LookupSteps.{has_seat_facts}
use Rattle.room.proofs.lookup.number_of.Goals as goal

pub overflow_cast-result : goal.overflow_cast-result
overflow_cast-result c =
    let p = below_some _ _ _ c.in_ok-place.ensures in
    let w = ap (λ (s : Shape). s.places) c.routes_shape.ensures in
    let f = few_numbers _ _ _ (has_seat_facts _ _ _ _ c.in_ok-routes.ensures.0).0 in
    omega arith

pub overflow_add-result : goal.overflow_add-result
overflow_add-result c =
    let p = below_some _ _ _ c.in_ok-place.ensures in
    let w = ap (λ (s : Shape). s.places) c.routes_shape.ensures in
    let f = few_numbers _ _ _ (has_seat_facts _ _ _ _ c.in_ok-routes.ensures.0).0 in
    omega arith
