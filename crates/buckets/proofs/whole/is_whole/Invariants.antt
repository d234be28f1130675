-- `whole::is_whole` meets its contract. The invariant: the buckets passed are whole. Assumes nothing.
use mathlib.Core.Path.{◌≡◌}
use mathlib.Core.Bool.{true}
use Rattle.buckets_laws.specs.Whole.{whole_below}
use Rattle.buckets.proofs.whole.is_whole.Given as goal

abbrev pub invariant-loop-bucket : goal.invariant-loop-bucket
invariant-loop-bucket l = whole_below l.memory l.bucket ≡ true
