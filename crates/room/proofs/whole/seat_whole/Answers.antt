-- `whole::seat_whole` meets its contract. Assumes nothing.
use Rattle.std.proofs.Common.{arith}
use borrow.Author.Tests.{lt-ltb, le-leb}
use Rattle.table_laws.proofs.FitsLaws.{key_place}
use Rattle.table_laws.proofs.WithoutLaws.{without_fits}
use Rattle.room_laws.specs.View.{clock_in, seat_ping}
use Rattle.room_laws.specs.Whole.{seat_whole, seat_ping_whole, seat_routes_whole}
use Rattle.room_laws.proofs.LayoutLaws.{seats_fit, routes_fit}
use Rattle.room.proofs.whole.seat_whole.Goals as goal

pub returns-then-time-clock : goal.returns-then-time-clock
unfolding seat_whole seat_ping_whole seat_routes_whole
returns-then-time-clock c =
    let r = c.args.room in
    let t = c.in-Some.ensures in
    let h = c.in-Some-routes.ensures in
    let early = le-leb (seat_ping r.sizes.seats r.sizes.numbers r.memory.now c.args.seat.0).time (clock_in r.memory.now) (omega arith) in
    rw (lt-ltb _ _ t.0, early, c.is_whole_without.ensures, c.routes_shape.ensures, c.key.ensures, key_place _ _ _ _ (seats_fit _ _ _ r.long) t.0, h.1)
    (without_fits _ _ _ _ (routes_fit _ _ _ r.long _ t.0))
