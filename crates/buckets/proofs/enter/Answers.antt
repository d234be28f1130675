-- `enter` meets its contract: the key is found, or the node is put in, or the bucket is full. Assumes nothing.
use Rattle.node.proofs.Owned.{is_node}
use Rattle.buckets.proofs.EnterSteps.{enters_held, enters_full, enters_new}
use Rattle.buckets.proofs.enter.Goals as goal

pub returns-in-Some : goal.returns-in-Some
returns-in-Some c =
    enters_held c.args.node c.args.bucket.now c.requires (is_node c.args.node c.well_formed.1.0.0 c.well_formed.1.0.1.1) c.in-Some.place c.in-Some.ensures
    _ _ c.of-record.ensures c.overwrite.ensures

pub returns-in-Some-lowest_free : goal.returns-in-Some-lowest_free
returns-in-Some-lowest_free c =
    enters_new c.args.node c.args.bucket.now c.requires c.in_default.ensures c.in-Some-lowest_free.free c.in-Some-lowest_free.ensures _ _ c.of-record.ensures c.put.ensures

pub returns : goal.returns
returns c = enters_full c.args.node c.args.bucket.now c.requires c.in_default.ensures c.in_default-lowest_free.ensures
