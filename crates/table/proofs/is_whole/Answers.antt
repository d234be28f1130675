-- `table::is_whole` meets its contract: no where the bytes do not fit, else the pass over the places listed. Assumes nothing.
use mathlib.Core.Path.{sym, ap₂, ◌∙◌}
use mathlib.Core.List.{List}
use Prim.Native.Nat.{ℕ}
use Rattle.table.specs.declared.Shape.{Shape}
use Rattle.table_laws.specs.Table.{table_whole}
use Rattle.table_laws.proofs.FitsLaws.{whole_unfit, whole_fits}
use Rattle.table.proofs.is_whole.Goals as goal

pub returns-in_default : goal.returns-in_default
returns-in_default c = let a = c.args in sym (whole_unfit a.shape.places a.shape.width a.table.now c.in_default.ensures)

pub returns : goal.returns
returns c =
    let e = c.in-Some.ensures in
    c.all_rise.ensures
    ∙ ap₂ (λ (s : Shape) (b : List ℕ). table_whole s.places s.width b) e.2 e.1
    ∙ sym (whole_fits c.args.shape.places c.args.shape.width c.args.table.now e.0)
