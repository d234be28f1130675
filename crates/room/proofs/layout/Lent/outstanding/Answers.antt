-- `layout::Lent::outstanding` meets its contract. Assumes nothing.
use Rattle.std.proofs.Common.{refl}
use lib.Seq.{drop-drop}
use Rattle.room_laws.specs.View.{seat_ping}
use Rattle.room.proofs.layout.Lent.outstanding.Goals as goal

pub returns : goal.returns
unfolding seat_ping
returns c =
    let e = c.in_ok-at.ensures.is in
    (e.0, rw (c.read_word.ensures, e.1, drop-drop) refl)
