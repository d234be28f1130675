-- `order::open` meets its contract. Assumes nothing.
use mathlib.Core.Path.{ap, ◌∙◌}
use mathlib.Core.List.{List}
use Prim.Native.Nat.{ℕ}
use lib.ListN.{set}
use Rattle.table_laws.specs.Table.{entered}
use Rattle.table_laws.proofs.Shifted.{moved_up}
use Rattle.table.proofs.order.open.Goals as goal

pub returns : goal.returns
unfolding entered
returns c =
    let a = c.args in
    ap (λ (x : List ℕ). set x a.at a.place) c.copy_within.ensures.after ∙ moved_up a.order.now a.at a.count c.requires.0 a.place 0 c.requires.1
