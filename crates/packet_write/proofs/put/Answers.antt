-- `packet_write::put` meets its contract: the kind, then the two runs of bytes, then what stood behind them. Assumes nothing.
use Rattle.std.proofs.Common.{◌+◌, ◌-◌, ◌∷◌, ◌++◌, length, length-append, arith}
use Rattle.packet_write.proofs.WriteLaws.{puts_short, puts_written, written_pieces}
use Rattle.packet_write.proofs.put.Goals as goal

pub returns-then-out-size : goal.returns-then-out-size
returns-then-out-size c =
    let a = c.args in
    puts_short (a.kind ∷ (a.head.now ++ a.rest.now)) a.out.now (let e = length-append a.head.now a.rest.now in omega arith)

pub returns : goal.returns
returns c =
    let a = c.args in
    let h = c.copy_from_slice.ensures.after in
    let r = c.copy_from_slice-2.ensures.after in
    rw (h, r)
    (puts_written (a.kind ∷ (a.head.now ++ a.rest.now)) a.out.now _ (1 + length a.head.now + length a.rest.now) (let e = length-append a.head.now a.rest.now in omega arith) (omega arith)
    (written_pieces a.out.now a.head.now a.rest.now a.kind (1 + length a.head.now - 1) (1 + length a.head.now + length a.rest.now - (1 + length a.head.now)) (omega arith) (omega arith) (omega arith)))
