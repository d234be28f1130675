-- `change::give_route` meets its contract: the table of routes of the seat comes back changed. Assumes nothing.
use native.Mathlib.Nat.{add-sub_cancel_left}
use Rattle.std.proofs.Common.{ℕ, ◌-◌, take, drop, ap, sym, ◌∙◌}
use Rattle.table_laws.specs.Bytes.{splice}
use Rattle.table_laws.specs.Table.{put_in}
use Rattle.room_laws.specs.Layout.{routes_start, routes_bytes, routes_table}
use Rattle.room.proofs.StoreSteps.{given_in}
use Rattle.room.proofs.change.give_route.Goals as goal

pub returns-in-Some : goal.returns-in-Some
unfolding routes_table
returns-in-Some c =
    let a = c.args in
    let b = a.memory.now in
    let n = a.sizes.numbers in
    let e = c.in-Some.ensures.is in
    rw (c.put.ensures, c.routes_shape.ensures)
    (ap (λ (p : ℕ × ℕ × ℕ). splice b p.0 (put_in n 32 (take (p.1 - p.0) (drop p.0 b)) p.2 c.args.key.0) (p.1 - p.0)) e.2
    ∙ rw (add-sub_cancel_left (routes_start a.sizes.seats n a.seat.0) (routes_bytes n)) (sym (given_in _ _ _ _ _ e.0 e.1 _)))
