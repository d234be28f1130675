-- `layout::Lent::new_seat` meets its contract. Assumes nothing.
use Rattle.std.proofs.Common.{rules, arith, refl, length, ◌≤◌}
use Rattle.wire.specs.Numbers.{bytes_of}
use Rattle.room_laws.specs.Store.{new_seat}
use Rattle.room_laws.proofs.LayoutLaws.{room_long}
use Rattle.room.proofs.layout.Lent.new_seat.Goals as goal

pub slice_bounds-copy_from_slice-end : goal.slice_bounds-copy_from_slice-end
slice_bounds-copy_from_slice-end c =
    let l = room_long _ _ _ c.args.self.long in
    let k : 10 ≤ length c.args.self.memory.now = omega arith in
    search rules

pub returns : goal.returns
unfolding new_seat bytes_of
returns c = rw (c.copy_from_slice-2.ensures.after, c.copy_from_slice.ensures.after) refl
