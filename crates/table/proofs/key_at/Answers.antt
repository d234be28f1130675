-- `table::key_at` meets its contract. Assumes nothing.
use mathlib.Core.Path.{sym, ap₂, ◌∙◌}
use mathlib.Core.List.{List}
use Prim.Native.Nat.{ℕ}
use Rattle.table.specs.declared.Shape.{Shape}
use Rattle.table_laws.specs.Table.{key_at as table_key}
use Rattle.table_laws.proofs.FitsLaws.{key_place, key_unfit, key_no_place}
use Rattle.table.proofs.key_at.Goals as goal

pub returns-in_default : goal.returns-in_default
returns-in_default c = let a = c.args in sym (key_unfit a.shape.places a.shape.width a.table.now a.place c.in_default.ensures)

pub returns-then-shape-place : goal.returns-then-shape-place
returns-then-shape-place c = let a = c.args in sym (key_no_place a.shape.places a.shape.width a.table.now a.place c.if-shape-place.true)

pub returns : goal.returns
returns c =
    let a = c.args in
    let e = c.in-Some.ensures in
    c.key_of.ensures
    ∙ ap₂ (λ (s : Shape) (b : List ℕ). table_key s.places s.width b a.place) e.2 e.1
    ∙ sym (key_place a.shape.places a.shape.width a.table.now a.place e.0 c.if-shape-place.false)
