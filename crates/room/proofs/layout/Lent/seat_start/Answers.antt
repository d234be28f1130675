-- `layout::Lent::seat_start` meets its contract. Assumes nothing.
use Rattle.std.proofs.Common.{arith}
use Rattle.room_laws.proofs.LayoutLaws.{fits_facts, seat_end_small, routes_end}
use Rattle.room.proofs.layout.Lent.seat_start.Goals as goal

pub seat_bytes-requires : goal.seat_bytes-requires
seat_bytes-requires c = (fits_facts _ _ _ c.args.self.long).1

pub overflow_add-result : goal.overflow_add-result
overflow_add-result c = let f = fits_facts _ _ _ c.args.self.long in omega arith

pub overflow_mul-result : goal.overflow_mul-result
overflow_mul-result c =
    let f = fits_facts _ _ _ c.args.self.long in
    rw (c.seat_bytes.ensures, c.from-place.ensures) (let q = seat_end_small _ _ c.args.seat.0 f.0 f.1 (omega arith) in omega arith)

pub overflow_add-result-2 : goal.overflow_add-result-2
overflow_add-result-2 c =
    let f = fits_facts _ _ _ c.args.self.long in
    rw (c.seat_bytes.ensures, c.from-place.ensures) (let q = seat_end_small _ _ c.args.seat.0 f.0 f.1 (omega arith) in omega arith)

pub overflow_add-result-3 : goal.overflow_add-result-3
overflow_add-result-3 c =
    let f = fits_facts _ _ _ c.args.self.long in
    rw (c.seat_bytes.ensures, c.from-place.ensures) (let q = seat_end_small _ _ c.args.seat.0 f.0 f.1 (omega arith) in omega arith)

pub returns-clause-within : goal.returns-clause-within
returns-clause-within c =
    let q = routes_end _ _ _ c.args.self.long c.args.seat.0 (omega arith) in
    rw (c.seat_bytes.ensures, c.from-place.ensures) (omega arith)
