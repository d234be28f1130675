-- `whole::belongs` meets its contract: first the bits, then the family. Assumes nothing.
use mathlib.Core.Path.{◌∙◌, sym}
use Rattle.buckets.proofs.WholeSteps.{other_bucket, own_bucket_lem}
use Rattle.buckets.proofs.whole.belongs.Goals as goal

pub returns-then-shared_bits-bucket : goal.returns-then-shared_bits-bucket
returns-then-shared_bits-bucket c =
    sym (other_bucket c.args.memory.now c.args.at c.requires c.args.bucket _ c.shared_bits.ensures c.if-shared_bits-bucket.true)

pub returns : goal.returns
returns c =
    c.known.ensures
    ∙ sym (own_bucket_lem c.args.memory.now c.args.at c.requires c.args.bucket _ c.shared_bits.ensures c.if-shared_bits-bucket.false)
