-- `memory::load` meets its contract: each part is that of the definition. Assumes nothing.
use borrow.Author.Tests.{lt-leb}
use mathlib.Core.Path.{◌∙◌, sym}
use native.Mathlib.Omega.{arith}
use lib.ListN.{length}
use Rattle.lent_list_laws.specs.Layout.{loaded}
use Rattle.lent_list_laws.proofs.StoreLaws.{loaded_whole, list_read}
use Rattle.lent_list.proofs.memory.load.Goals as goal

pub returns-then-memory-lt-BYTES : goal.returns-then-memory-lt-BYTES
unfolding loaded
returns-then-memory-lt-BYTES c =
    let h = c.if-memory-lt-BYTES.true in
    simp (lt-leb 850 (length c.args.memory.now) (omega arith)) c.empty.ensures

pub returns : goal.returns
returns c =
    let m = c.args.memory.now in
    let h = c.if-memory-lt-BYTES.false in
    rw (c.from.ensures, c.from-2.ensures) (list_read m c.read.result _ (omega arith) c.read.ensures c.read_all.ensures ∙ sym (loaded_whole m (omega arith)))
