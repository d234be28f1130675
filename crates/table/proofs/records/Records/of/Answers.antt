-- `Records::of` meets its contract. Assumes nothing.
use mathlib.Core.Path.{sym, ◌∙◌}
use Rattle.table_laws.proofs.FitsLaws.{fits_table_lem}
use Rattle.table.proofs.records.Records.of.Goals as goal

pub invariant_of-result : goal.invariant_of-result
invariant_of-result c =
    let a = c.args in
    record { table = fits_table_lem a.shape.places a.shape.width a.table.now (sym c.fits.ensures ∙ c.if-not-fits.false) }
