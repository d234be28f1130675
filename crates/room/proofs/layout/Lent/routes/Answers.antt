-- `layout::Lent::routes` meets its contract. Assumes nothing.
use Rattle.std.proofs.Common.{ℕ, ◌-◌, take, drop, ap, ◌∙◌}
use Rattle.room_laws.proofs.LayoutLaws.{routes_lent}
use Rattle.room.proofs.layout.Lent.routes.Goals as goal

pub returns : goal.returns
returns c =
    let a = c.args.self in
    let e = c.in_ok-at.ensures.is in
    (e.0, ap (λ (p : ℕ × ℕ). take (p.1 - p.0) (drop p.0 a.memory.now)) e.1 ∙ routes_lent _ _ _ a.long _ e.0)
