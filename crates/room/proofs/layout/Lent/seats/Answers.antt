-- `layout::Lent::seats` meets its contract. Assumes nothing.
use Rattle.room_laws.proofs.LayoutLaws.{seats_lent}
use Rattle.room.proofs.layout.Lent.seats.Goals as goal

pub returns : goal.returns
returns c = rw c.end-end.ensures.is (seats_lent _ _ _ c.args.self.long)
