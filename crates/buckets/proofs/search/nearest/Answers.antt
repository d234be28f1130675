-- `search::nearest` meets its contract. The invariant: the nodes of the buckets passed are put in. Assumes nothing.
use mathlib.Core.List.{[]}
use native.Mathlib.Omega.{arith}
use Rattle.buckets.proofs.KeptLaws.{none_passed, bucket_passed, buckets_passed}
use Rattle.buckets.proofs.search.nearest.Goals as goal

pub loop-bucket-init : goal.loop-bucket-init
loop-bucket-init c = let a = c.args in none_passed a.memory.now a.target.now

pub with_bucket-kept-requires : goal.with_bucket-kept-requires
with_bucket-kept-requires c = (c.loop-bucket.invariant.well, c.requires, c.loop-bucket-test.true)

pub loop-bucket-preserved : goal.loop-bucket-preserved
loop-bucket-preserved c =
    let a = c.args in
    let l = c.loop-bucket in
    bucket_passed a.memory.now a.target.now [] l.bucket l.kept l.invariant c.with_bucket-kept.result c.with_bucket-kept.ensures

pub returns : goal.returns
returns c =
    let a = c.args in
    let l = c.loop-bucket in
    buckets_passed a.memory.now a.target.now l.bucket (omega arith) l.kept l.invariant
