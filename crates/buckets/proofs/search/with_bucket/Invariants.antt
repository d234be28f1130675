-- `search::with_bucket` meets its contract. The invariant: the nodes passed are put in. Assumes nothing.
use lib.ListN.{take}
use Rattle.buckets_laws.specs.Layout.{held_in}
use Rattle.buckets.specs.Kept.{KeptWith}
use Rattle.buckets.proofs.search.with_bucket.Given as goal

abbrev pub invariant-loop-place : goal.invariant-loop-place
invariant-loop-place l = KeptWith l.memory l.target l.initial.kept (take l.place-index (held_in l.memory l.bucket)) l.kept
