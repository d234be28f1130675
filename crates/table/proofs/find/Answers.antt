-- `table::find` meets its contract: no place where the bytes do not fit, else the pass over the places listed. Assumes nothing.
use mathlib.Core.Path.{sym, ap, ap₂, ◌∙◌}
use mathlib.Core.List.{List}
use Prim.Native.Nat.{ℕ}
use Rattle.table.specs.declared.Shape.{Shape}
use native.Mathlib.Omega.{arith}
use Rattle.table_laws.specs.Table.{place_below, find_key, key_at, listed}
use Rattle.table_laws.proofs.FitsLaws.{found_unfit, found_fits}
use Rattle.table_laws.proofs.PlaceBelow.{place_past}
use Rattle.table.proofs.find.Goals as goal

pub returns-in_err-of : goal.returns-in_err-of
returns-in_err-of c =
    let a = c.args in
    let p = a.shape.places in
    c.from_residual.ensures
    ∙ sym (ap (place_below p) (found_unfit p a.shape.width a.table.now a.key.0 c.in_err-of.ensures) ∙ place_past p p (omega arith))

pub returns : goal.returns
returns c =
    let a = c.args in
    let e = c.in_ok-of.ensures in
    c.place_of.ensures
    ∙ ap₂ (λ (s : Shape) (b : List ℕ). place_below s.places (find_key s.places (key_at s.places s.width b) a.key.0 (listed s.places b))) e.2 e.1
    ∙ ap (place_below a.shape.places) (sym (found_fits a.shape.places a.shape.width a.table.now a.key.0 e.0))
