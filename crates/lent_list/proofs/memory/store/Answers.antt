-- `memory::store` meets its contract: size, count, target and slots, one behind the other, are put over the front of the memory. Assumes nothing.
use borrow.Author.Rules.{rules}
use mathlib.Core.Path.{sym}
use Prim.Native.Nat.{◌%◌}
use native.Mathlib.Omega.{arith}
use lib.ListN.{length-set}
use Rattle.lent_list_laws.specs.Layout.{slots_bytes}
use Rattle.lent_list_laws.proofs.StoreLaws.{stored_short, length_targeted, put_slots, list_written}
use Rattle.lent_list.proofs.memory.store.Goals as goal

pub returns-then-memory-lt-BYTES : goal.returns-then-memory-lt-BYTES
returns-then-memory-lt-BYTES c =
    let a = c.args in let h = c.if-memory-lt-BYTES.true in sym (stored_short a.list a.memory.now (omega arith))

pub bounds-memory-1 : goal.bounds-memory-1
bounds-memory-1 c = simp length-set (omega arith)

pub slice_bounds-write-end : goal.slice_bounds-write-end
slice_bounds-write-end c = simp length-set (omega arith)

pub slice_bounds-write_all-end : goal.slice_bounds-write_all-end
slice_bounds-write_all-end c =
    let a = c.args in
    let h = c.if-memory-lt-BYTES.false in
    let e = length_targeted a.memory.now a.list.target.0 (slots_bytes a.list.nodes) (a.list.size % 256) (a.list.count % 256) (omega arith) c.well_formed.0.1.1.0.1.1.0.1.0.1 _ c.write.ensures in
    omega arith

pub shape_of-memory : goal.shape_of-memory
shape_of-memory c =
    let a = c.args in
    let h = c.if-memory-lt-BYTES.false in
    let e = length_targeted a.memory.now a.list.target.0 (slots_bytes a.list.nodes) (a.list.size % 256) (a.list.count % 256) (omega arith) c.well_formed.0.1.1.0.1.1.0.1.0.1 _ c.write.ensures in
    search rules

pub returns : goal.returns
returns c =
    let a = c.args in
    let h = c.if-memory-lt-BYTES.false in
    list_written a.list a.memory.now _ (omega arith)
    (put_slots a.memory.now a.list.target.0 (slots_bytes a.list.nodes) (a.list.size % 256) (a.list.count % 256) (omega arith) c.well_formed.0.1.1.0.1.1.0.1.0.1 _ c.write.ensures _ c.write_all.ensures)
