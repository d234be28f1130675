-- `table::may_put` meets its contract: each check in turn. Assumes nothing.
use mathlib.Core.Path.{sym, ◌∙◌}
use native.Mathlib.Omega.{arith}
use Rattle.table_laws.proofs.FitsLaws.{fits_table_lem, may_unfit, may_full, may_none, may_short, may_is}
use Rattle.table.proofs.may_put.Goals as goal

pub returns-then-not-fits : goal.returns-then-not-fits
returns-then-not-fits c =
    let a = c.args in
    sym (may_unfit a.shape.places a.shape.width a.table.now a.place a.«record».now (sym c.fits.ensures ∙ c.if-not-fits.true))

pub bounds-table-0 : goal.bounds-table-0
bounds-table-0 c =
    let a = c.args in
    let t = fits_table_lem a.shape.places a.shape.width a.table.now (sym c.fits.ensures ∙ c.if-not-fits.false) in
    let l = t.long in
    omega arith

pub returns-then-shape-from : goal.returns-then-shape-from
returns-then-shape-from c =
    let a = c.args in
    sym (may_full a.shape.places a.shape.width a.table.now a.place a.«record».now (omega arith))

pub returns-then-shape-place : goal.returns-then-shape-place
returns-then-shape-place c =
    let a = c.args in
    sym (may_none a.shape.places a.shape.width a.table.now a.place a.«record».now c.if-shape-place.true)

pub returns-then-record-lt-BYTES : goal.returns-then-record-lt-BYTES
returns-then-record-lt-BYTES c =
    let a = c.args in
    sym (may_short a.shape.places a.shape.width a.table.now a.place a.«record».now c.if-record-lt-BYTES.true)

pub returns : goal.returns
returns c =
    let a = c.args in
    sym (may_is a.shape.places a.shape.width a.table.now a.place a.«record».now (sym c.fits.ensures ∙ c.if-not-fits.false) (omega arith) c.if-shape-place.false c.if-record-lt-BYTES.false)
