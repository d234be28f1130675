-- `layout::Lent::end` meets its contract. Assumes nothing.
use Rattle.std.proofs.Common.{arith}
use Rattle.room_laws.proofs.LayoutLaws.{fits_facts}
use Rattle.room.proofs.layout.Lent.end.Goals as goal

pub room_bytes-requires : goal.room_bytes-requires
room_bytes-requires c = let f = fits_facts _ _ _ c.args.self.long in (f.0, f.1)

pub returns : goal.returns
returns c =
    let f = fits_facts _ _ _ c.args.self.long in
    record { is = c.room_bytes.ensures; within = let e = c.room_bytes.ensures in omega arith }
