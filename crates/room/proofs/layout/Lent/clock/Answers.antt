-- `layout::Lent::clock` meets its contract. Assumes nothing.
use Rattle.std.proofs.Common.{arith}
use Rattle.room_laws.proofs.LayoutLaws.{fits_facts}
use Rattle.room_laws.specs.View.{clock_in}
use Rattle.room.proofs.layout.Lent.clock.Goals as goal

pub read_word-requires : goal.read_word-requires
read_word-requires c = let f = fits_facts _ _ _ c.args.self.long in omega arith

pub returns : goal.returns
unfolding clock_in
returns c = c.read_word.ensures
