-- `records::slice_before` meets its contract: the order of slices of one length is that of keys. Assumes nothing.
use mathlib.Core.Path.{ap, ◌∙◌}
use Rattle.std.specs.Ordering.{is_lt}
use Rattle.table_laws.proofs.KeyOrder.{slices_before}
use Rattle.table.proofs.records.slice_before.Goals as goal

pub returns : goal.returns
returns c = c.is_lt.ensures ∙ ap is_lt c.cmp.ensures ∙ slices_before c.args.a.now c.args.b.now c.requires
