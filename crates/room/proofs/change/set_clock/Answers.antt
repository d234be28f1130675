-- `change::set_clock` meets its contract. Assumes nothing.
use Rattle.std.proofs.Common.{arith, sym}
use Rattle.room_laws.proofs.LayoutLaws.{room_long}
use Rattle.room.proofs.change.set_clock.Goals as goal

pub write_word-requires : goal.write_word-requires
write_word-requires c = let l = room_long _ _ _ (sym c.if-fits.ensures) in omega arith
