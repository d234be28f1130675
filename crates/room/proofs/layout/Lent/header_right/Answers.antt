-- `layout::Lent::header_right` meets its contract. Assumes nothing.
use Rattle.std.proofs.Common.{arith}
use Rattle.room_laws.proofs.LayoutLaws.{fits_facts}
use Rattle.room.proofs.layout.Lent.header_right.Goals as goal

pub bounds-self-0 : goal.bounds-self-0
bounds-self-0 c = let f = fits_facts _ _ _ c.args.self.long in omega arith

pub bounds-self-1 : goal.bounds-self-1
bounds-self-1 c = let f = fits_facts _ _ _ c.args.self.long in omega arith
