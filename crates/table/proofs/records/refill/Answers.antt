-- `records::refill` meets its contract: the bytes lent are those of the record from `at` on. Assumes nothing.
use mathlib.Core.Path.{◌≡◌}
use Prim.Native.Nat.{◌+◌, ◌-◌}
use native.Mathlib.Nat.{add-sub_cancel_left}
use lib.ListN.{length}
use Rattle.table_laws.proofs.Stores.{refilled_done}
use Rattle.table.proofs.records.refill.Goals as goal

pub returns : goal.returns
returns c =
    let a = c.args in
    let t = a.table.now in
    let new = a.part.now in
    let spot = c.spot in
    let r = spot.result + a.at in
    let j : r + length new - r ≡ length new = add-sub_cancel_left r (length new) in
    rw (j, c.copy_from_slice.ensures.after) (refilled_done a.shape.places a.shape.width t a.place a.at new spot.result spot.ensures)
