-- `records::key_before` meets its contract: a first byte that differs decides, else all bytes do. Assumes nothing.
use mathlib.Core.Path.{sym}
use native.Mathlib.Omega.{arith}
use Rattle.table_laws.proofs.KeyOrder.{key_before_differ}
use Rattle.table.proofs.records.key_before.Goals as goal

pub returns-then-a-b : goal.returns-then-a-b
returns-then-a-b c = sym (key_before_differ c.args.a.now c.args.b.now (omega arith) (omega arith) c.if-a-b.true)
