-- `layout::Lent::routes_span` meets its contract. Assumes nothing.
use Rattle.room_laws.proofs.LayoutLaws.{fits_facts}
use Rattle.room.proofs.layout.Lent.routes_span.Goals as goal

pub seat_bytes-requires : goal.seat_bytes-requires
seat_bytes-requires c = (fits_facts _ _ _ c.args.self.long).1
