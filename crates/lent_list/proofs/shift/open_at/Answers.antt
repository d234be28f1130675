-- `shift::open_at` meets its contract. Assumes nothing.
use borrow.Author.Rules.{rules}
use native.Mathlib.Omega.{arith}
use Rattle.std.proofs.lemmas.Grind.{common_steps}
use mathlib.Core.Path.{◌∙◌}
use Rattle.wire.proofs.Numbers.{bytes_each}
use Rattle.lent_list.proofs.ShiftLaws.{opened_bytes}
use Rattle.lent_list.proofs.shift.open_at.Goals as goal

pub returns : goal.returns
returns c =
    let a = c.args in
    let h = c.requires in
    c.write_at.ensures
    ∙ opened_bytes a.slots.now h.0 (bytes_each a.slots.now (λ i. search rules)) a.place a.last h.1 h.2 a.node
    _ (grind (arith, common_steps))
