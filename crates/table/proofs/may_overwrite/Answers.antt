-- `table::may_overwrite` meets its contract: each check in turn. Assumes nothing.
use mathlib.Core.Path.{sym, ◌∙◌}
use Prim.Native.Nat.{◌+◌, ◌≤◌}
use native.Mathlib.Omega.{arith}
use lib.ListN.{length}
use Rattle.table_laws.proofs.FitsLaws.{fits_table_lem, overwrite_unfit, overwrite_none, overwrite_key, overwrite_past, overwrite_is}
use Rattle.table.proofs.may_overwrite.Goals as goal

pub returns-then-not-fits : goal.returns-then-not-fits
returns-then-not-fits c =
    let a = c.args in
    sym (overwrite_unfit a.shape.places a.shape.width a.table.now a.place a.at a.part.now
    (sym c.fits.ensures ∙ c.if-not-fits.true))

pub returns-then-shape-place : goal.returns-then-shape-place
returns-then-shape-place c =
    let a = c.args in
    sym (overwrite_none a.shape.places a.shape.width a.table.now a.place a.at a.part.now c.if-shape-place.true)

pub returns-then-at-lt-BYTES : goal.returns-then-at-lt-BYTES
returns-then-at-lt-BYTES c =
    let a = c.args in
    sym (overwrite_key a.shape.places a.shape.width a.table.now a.place a.at a.part.now c.if-at-lt-BYTES.true)

pub returns-then-shape-at : goal.returns-then-shape-at
returns-then-shape-at c =
    let a = c.args in
    sym (overwrite_past a.shape.places a.shape.width a.table.now a.place a.at a.part.now (omega arith))

pub returns-then-shape-at-2 : goal.returns-then-shape-at-2
returns-then-shape-at-2 c =
    let a = c.args in
    sym (overwrite_past a.shape.places a.shape.width a.table.now a.place a.at a.part.now (omega arith))

pub lists-requires : goal.lists-requires
lists-requires c =
    let a = c.args in
    let f = sym c.fits.ensures ∙ c.if-not-fits.false in
    let t = fits_table_lem a.shape.places a.shape.width a.table.now f in
    let l = t.long in
    omega arith

pub returns : goal.returns
returns c =
    let a = c.args in
    let f = sym c.fits.ensures ∙ c.if-not-fits.false in
    let behind = c.if-at-lt-BYTES.false in
    let most : a.at + length a.part.now ≤ a.shape.width = let q = c.if-shape-at.false in let r = c.if-shape-at-2.false in omega arith in
    c.lists.ensures
    ∙ sym (overwrite_is a.shape.places a.shape.width a.table.now a.place a.at a.part.now f c.if-shape-place.false behind most)
