-- `answer::write` meets its contract. The invariant: the nodes passed are written, and what stands behind them is as it was. Assumes nothing.
use mathlib.Core.Path.{◌≡◌}
use mathlib.Core.List.{◌++◌}
use lib.ListN.{length, drop}
use Rattle.buckets.proofs.PackedLaws.{front_bytes}
use Rattle.buckets.proofs.answer.write.Given as goal

abbrev pub invariant-loop-start : goal.invariant-loop-start
invariant-loop-start l =
    (l.at ≡ length (front_bytes l.memory l.fn.kept.starts l.start-index)) × (length l.out ≡ length l.initial.out) × (l.out ≡ front_bytes l.memory l.fn.kept.starts l.start-index ++ drop l.at l.initial.out)
