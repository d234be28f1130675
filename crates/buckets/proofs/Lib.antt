-- `Places`: where records stand in the memory; `RecordParts`: the parts of a record; `WholeSteps`: the test of buckets, one check and one turn at a time;
-- `EnterSteps`: what a bucket does with a node; `BeginSteps`: buckets begun, byte by byte; `KeptLaws`: what a search keeps; `PackedLaws`: nodes packed one behind the
-- other; `CallSteps`: the ways out of the calls.
pub mod Places
pub mod RecordParts
pub mod WholeSteps
pub mod EnterSteps
pub mod BeginSteps
pub mod KeptLaws
pub mod PackedLaws
pub mod CallSteps
