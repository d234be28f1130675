-- `whole::seats_whole` meets its contract. Assumes nothing.
use Rattle.std.proofs.Common.{refl, sym, ◌∙◌}
use Rattle.table_laws.proofs.FitsLaws.{whole_fits}
use Rattle.room_laws.proofs.LayoutLaws.{seats_fit}
use Rattle.room.proofs.whole.seats_whole.Goals as goal

pub each_whole-requires : goal.each_whole-requires
each_whole-requires c =
    let e = rw (c.seats_shape.ensures, c.seats.ensures) at c.is_whole.ensures in
    sym (e ∙ whole_fits _ _ _ (seats_fit _ _ _ c.args.room.long)) ∙ c.if-is_whole.true

pub returns-then-is_whole : goal.returns-then-is_whole
returns-then-is_whole c =
    let e = rw (c.seats_shape.ensures, c.seats.ensures) at c.is_whole.ensures in
    rw (sym (e ∙ whole_fits _ _ _ (seats_fit _ _ _ c.args.room.long)), c.if-is_whole.true) c.each_whole.ensures

pub returns-else-is_whole : goal.returns-else-is_whole
returns-else-is_whole c =
    let e = rw (c.seats_shape.ensures, c.seats.ensures) at c.is_whole.ensures in
    rw (sym (e ∙ whole_fits _ _ _ (seats_fit _ _ _ c.args.room.long)), c.if-is_whole.false) refl
