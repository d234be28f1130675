-- `search::opened` meets its contract. Assumes nothing.
use mathlib.Core.Path.{ap, ◌∙◌}
use mathlib.Core.List.{List}
use Prim.Native.Nat.{ℕ}
use native.Mathlib.Omega.{arith}
use lib.ListN.{set}
use Rattle.table_laws.proofs.Shifted.{moved_up}
use Rattle.buckets.proofs.search.opened.Goals as goal

pub returns : goal.returns
returns c =
    let a = c.args in
    ap (λ (x : List ℕ). set x a.place a.start) c.copy_within.ensures.after ∙ moved_up a.starts a.place a.last c.requires.0 a.start 0 (omega arith)
