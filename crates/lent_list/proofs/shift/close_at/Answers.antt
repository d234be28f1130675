-- `shift::close_at` meets its contract. Assumes nothing.
use borrow.Author.Rules.{rules}
use native.Mathlib.Omega.{arith}
use Rattle.std.proofs.lemmas.Grind.{common_steps}
use mathlib.Core.Path.{◌∙◌, ap}
use mathlib.Core.List.{◌∷◌, ◌++◌}
use Prim.Native.Nat.{◌+◌}
use lib.ListN.{take, drop}
use Rattle.wire.proofs.Numbers.{bytes_each}
use Rattle.lists.specs.Insert.{remove_at}
use Rattle.node.specs.declared.Node.{Node}
use Rattle.lent_list_laws.specs.Layout.{slots_at, slots_bytes}
use Rattle.lent_list.proofs.ShiftLaws.{closed_bytes}
use Rattle.lent_list.proofs.shift.close_at.Goals as goal

pub returns : goal.returns
returns c =
    let a = c.args in
    let h = c.requires in
    let s = a.slots.now in
    let b = c.blank in
    c.write_at.ensures
    ∙ closed_bytes s h.0 (bytes_each s (λ i. search rules)) a.place a.last h.1 h.2 b.result
    _ (grind (arith, common_steps))
    ∙ ap (λ (n : Node). slots_bytes (take a.last (remove_at a.place (slots_at 16 s)) ++ (n ∷ drop (a.last + 1) (slots_at 16 s)))) b.ensures
