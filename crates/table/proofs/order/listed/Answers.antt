-- `order::listed` meets its contract: as many as the count tells, but no more than there are places. Assumes nothing.
use native.Mathlib.Omega.{arith}
use Rattle.table_laws.proofs.Listed.{listed_lent}
use Rattle.table.proofs.order.listed.Goals as goal

pub returns : goal.returns
returns c = listed_lent c.args.places c.args.table.now c.requires c.min-count.result (omega arith)
