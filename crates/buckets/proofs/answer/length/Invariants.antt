-- `answer::length` meets its contract. The invariant: the bytes counted are those of the nodes passed, at most 51 each. Assumes nothing.
use mathlib.Core.Path.{◌≡◌}
use Prim.Native.Nat.{◌*◌, ◌≤◌}
use Rattle.buckets.proofs.PackedLaws.{front_bytes}
use Rattle.buckets.proofs.answer.length.Given as goal

abbrev pub invariant-loop-start : goal.invariant-loop-start
invariant-loop-start l =
    (l.bytes ≤ 51 * l.start-index) × (l.bytes ≡ lib.ListN.length (front_bytes l.memory l.fn.kept.starts l.start-index))
