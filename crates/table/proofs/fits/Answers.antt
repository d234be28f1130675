-- `table::fits` meets its contract: each check in turn. Assumes nothing.
use mathlib.Core.Path.{sym}
use native.Mathlib.Omega.{arith}
use Rattle.table_laws.proofs.FitsLaws.{fits_is, too_many, too_thin, too_wide, area}
use Rattle.table.proofs.fits.Goals as goal

pub returns-then-shape-gt-MOST_PLACES : goal.returns-then-shape-gt-MOST_PLACES
returns-then-shape-gt-MOST_PLACES c = let a = c.args in sym (too_many a.shape.places a.shape.width a.table.now c.if-shape-gt-MOST_PLACES.true)

pub returns-then-shape-lt-BYTES : goal.returns-then-shape-lt-BYTES
returns-then-shape-lt-BYTES c = let a = c.args in sym (too_thin a.shape.places a.shape.width a.table.now c.if-shape-lt-BYTES.true)

pub returns-then-shape-gt-WIDEST_RECORD : goal.returns-then-shape-gt-WIDEST_RECORD
returns-then-shape-gt-WIDEST_RECORD c = let a = c.args in sym (too_wide a.shape.places a.shape.width a.table.now c.if-shape-gt-WIDEST_RECORD.true)

pub overflow_mul-result : goal.overflow_mul-result
overflow_mul-result c = let a = c.args in let q = area a.shape.places a.shape.width (omega arith) (omega arith) in omega arith

pub overflow_add-result-2 : goal.overflow_add-result-2
overflow_add-result-2 c = let a = c.args in let q = area a.shape.places a.shape.width (omega arith) (omega arith) in omega arith

pub returns : goal.returns
returns c =
    let a = c.args in
    sym (fits_is a.shape.places a.shape.width a.table.now (omega arith) (omega arith) (omega arith))
