-- `whole::all_belong` meets its contract. The invariant: the nodes passed belong, and those left decide. Assumes nothing.
use mathlib.Core.Path.{◌≡◌}
use Rattle.buckets_laws.specs.Layout.{base_of, bucket_at, bucket_nodes}
use Rattle.buckets_laws.specs.Whole.{all_belong}
use Rattle.buckets.proofs.WholeSteps.{nodes_from}
use Rattle.buckets.proofs.whole.all_belong.Given as goal

abbrev pub invariant-loop-place : goal.invariant-loop-place
invariant-loop-place l =
    all_belong (base_of l.memory) l.bucket (bucket_nodes (bucket_at l.memory l.bucket)) ≡ all_belong (base_of l.memory) l.bucket (nodes_from (bucket_at l.memory l.bucket) l.place-index)
