-- `search::position` meets its contract. The invariant: those passed are not nearer, so that the place is at none of them. Assumes nothing.
use mathlib.Core.List.{map}
use Prim.Native.Nat.{◌≤◌}
use lib.ListN.{take}
use Rattle.nearest.specs.Lists.{node_key}
use Rattle.nearest.specs.Slots.{position}
use Rattle.buckets.specs.Kept.{node_at}
use Rattle.buckets.proofs.search.position.Given as goal

abbrev pub invariant-loop-i : goal.invariant-loop-i
invariant-loop-i l = position l.target (node_key (node_at l.memory l.at)) (map (node_at l.memory) (take l.kept.count l.kept.starts)) ≤ l.i
