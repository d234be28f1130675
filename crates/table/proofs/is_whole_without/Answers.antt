-- `table::is_whole_without` meets its contract: no where the bytes do not fit, else the pass over the places listed. Assumes nothing.
use mathlib.Core.Path.{sym, ap₂, ◌∙◌}
use mathlib.Core.List.{List}
use Prim.Native.Nat.{ℕ}
use Rattle.table.specs.declared.Shape.{Shape}
use Rattle.table_laws.specs.Table.{table_without}
use Rattle.table_laws.proofs.WithoutLaws.{without_unfit, without_fits}
use Rattle.table.proofs.is_whole_without.Goals as goal

pub returns-in_default : goal.returns-in_default
returns-in_default c = let a = c.args in sym (without_unfit a.shape.places a.shape.width a.table.now a.key.0 c.in_default.ensures)

pub returns : goal.returns
returns c =
    let a = c.args in
    let e = c.in-Some.ensures in
    c.all_rise_without.ensures
    ∙ ap₂ (λ (s : Shape) (b : List ℕ). table_without s.places s.width b a.key.0) e.2 e.1
    ∙ sym (without_fits a.shape.places a.shape.width a.table.now a.key.0 e.0)
