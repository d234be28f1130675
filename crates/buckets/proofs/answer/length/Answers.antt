-- `answer::length` meets its contract. The invariant: the bytes counted are those of the nodes passed, at most 51 each. Assumes nothing.
use mathlib.Core.Path.{◌≡◌, ◌∙◌, sym, ap}
use Prim.Native.Nat.{ℕ, ◌+◌, ◌<◌}
use native.Mathlib.Omega.{arith}
use lib.ListN.{get_or, take}
use Rattle.node.specs.Families.{packed_length}
use Rattle.buckets.specs.Kept.{node_at}
use Rattle.buckets.proofs.PackedLaws.{front_bytes, front_none, front_longer, packed_most, front_count, front_start}
use Rattle.buckets.proofs.Places.{family_here}
use Rattle.buckets.proofs.answer.length.Goals as goal

pub loop-start-init : goal.loop-start-init
loop-start-init c =
    let a = c.args in
    (omega arith, sym (ap lib.ListN.length (front_none a.memory.now a.kept.starts)))

pub overflow_add-at : goal.overflow_add-at
overflow_add-at c =
    let n = front_count c.args.memory.now c.args.kept c.requires in
    let s = front_start c.args.kept c.loop-start.start-index (omega arith) in
    let h = c.requires.inside c.loop-start.start-index (omega arith) in
    omega arith

pub bounds-memory-at : goal.bounds-memory-at
bounds-memory-at c =
    let n = front_count c.args.memory.now c.args.kept c.requires in
    let s = front_start c.args.kept c.loop-start.start-index (omega arith) in
    let h = c.requires.inside c.loop-start.start-index (omega arith) in
    omega arith

pub overflow_add-bytes : goal.overflow_add-bytes
overflow_add-bytes c =
    let n = front_count c.args.memory.now c.args.kept c.requires in
    let f = c.requires.few in
    let e = c.packed_length-bytes.ensures in
    let m = packed_most (get_or c.args.memory.now (get_or (take c.args.kept.count c.args.kept.starts) c.loop-start.start-index 0 + 32) 0) in
    let b = c.loop-start.invariant.0 in
    omega arith

pub loop-start-preserved : goal.loop-start-preserved
loop-start-preserved c =
    let l = c.loop-start in
    let i = l.start-index in
    let a = c.args in
    let n = front_count a.memory.now a.kept c.requires in
    let h : i < a.kept.count = omega arith in
    let at = get_or (take a.kept.count a.kept.starts) i 0 in
    let e = c.packed_length-bytes.ensures ∙ ap packed_length (family_here a.memory.now at ∙ ap (λ (x : ℕ). (node_at a.memory.now x).family) (front_start a.kept i h)) in
    let q = front_longer a.memory.now a.kept c.requires i h in
    let m = packed_most (get_or a.memory.now (at + 32) 0) in
    let p = c.packed_length-bytes.ensures in
    let b = l.invariant.1 in
    (omega arith, omega arith)

pub returns : goal.returns
returns c =
    let l = c.loop-start in
    let a = c.args in
    let n = front_count a.memory.now a.kept c.requires in
    let e : l.start-index ≡ a.kept.count = omega arith in
    l.invariant.1 ∙ ap (λ (x : ℕ). lib.ListN.length (front_bytes a.memory.now a.kept.starts x)) e
