-- `lookup::wanted_by` meets its contract. Assumes nothing.
use Rattle.std.proofs.Common.{List, ℕ, sym, ap, refl}
use Rattle.room_laws.proofs.LayoutLaws.{routes_fit}
use Rattle.rules.specs.Room.{wants}
use Rattle.room.specs.Numbers.{wanted_of}
use Rattle.room.proofs.LookupSteps.{has_seat_facts, numbered_in, route_used, route_unused, route_no_place}
use Rattle.room.proofs.lookup.wanted_by.Goals.{else-place-sizes-via-then-place-sizes+else-is_used, else-place-sizes-via-else-place-sizes}
use Rattle.room.proofs.lookup.wanted_by.Goals as goal

pub returns-then-is_used : goal.returns-then-is_used
unfolding wanted_of
returns-then-is_used c =
    let p = c.in_ok-place.ensures in
    let r = c.in_ok-routes.ensures in
    let h = has_seat_facts _ _ _ _ r.0 in
    rw (numbered_in _ _ _ _ _ p.0 r.0, sym p.1, sym r.1, route_used _ _ (rw r.1 (routes_fit _ _ _ h.0 _ h.1)) _ c.if-place-sizes.true (sym c.if-is_used.ensures))
    (ap (λ (k : List ℕ). wanted_of (wants k)) (rw c.routes_shape.ensures at c.key_at.ensures))

pub returns-else-place-sizes : goal.returns-else-place-sizes
unfolding wanted_of
returns-else-place-sizes c =
    let p = c.in_ok-place.ensures in
    let r = c.in_ok-routes.ensures in
    rw (numbered_in _ _ _ _ _ p.0 r.0, sym p.1, sym r.1) (elim c.else-place-sizes.branch [ else-place-sizes-via-then-place-sizes+else-is_used w ↦ rw (route_unused _ _ _ w.if-place-sizes.true (sym w.if-is_used.ensures)) refl | else-place-sizes-via-else-place-sizes w ↦ rw (route_no_place _ _ _ w.if-place-sizes.false) refl ])
