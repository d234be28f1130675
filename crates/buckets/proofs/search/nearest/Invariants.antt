-- `search::nearest` meets its contract. The invariant: the nodes of the buckets passed are put in. Assumes nothing.
use mathlib.Core.List.{[]}
use Rattle.nearest_first.specs.Kept.{kept_onto}
use Rattle.buckets_laws.specs.Layout.{held_below}
use Rattle.buckets.specs.Kept.{KeptAs}
use Rattle.buckets.proofs.search.nearest.Given as goal

abbrev pub invariant-loop-bucket : goal.invariant-loop-bucket
invariant-loop-bucket l = KeptAs l.memory l.target (kept_onto 4 l.target [] (held_below l.memory l.bucket)) l.kept
