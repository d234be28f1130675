-- `order::lowest_unlisted` meets its contract. The invariant: those passed are marked, and nothing else. Assumes nothing.
use mathlib.Core.Path.{◌≡◌}
use lib.ListN.{length, take}
use Rattle.table.specs.Marks.{Marked}
use Rattle.table.proofs.order.lowest_unlisted.Given as goal

abbrev pub invariant-loop-place : goal.invariant-loop-place
invariant-loop-place l = (length l.marks ≡ 256) × Marked l.marks (take l.place-index l.place-items)
