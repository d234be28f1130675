-- `WholeLaws`: whole buckets as facts of each bucket. `RecordNodes`: a node and its record. `NodeLists`: lists of nodes. `BucketLaws`, `AfterLaws`: one bucket by itself,
-- and after an offer to it. `BucketStored`: memory with one bucket replaced. `HeldNodes`: what all buckets hold. `OfferWays`: the ways that an offer can go. `OfferLaws`,
-- `OfferedBucket`: what an offer leaves, and what it makes of the key's own bucket.
-- `ApartLists`, `HeldLaws`: no key is held twice, the base key is never held, and where each node stands. `BeginLaws`: buckets that were begun. `AnswerLaws`: the bytes
-- of an answer. The theorems on questions and on memory that only calls changed stand in `Theorems`. `ASmallMemory` has two buckets computed.
pub mod WholeLaws
pub mod RecordNodes
pub mod NodeLists
pub mod BucketLaws
pub mod AfterLaws
pub mod BucketStored
pub mod HeldNodes
pub mod OfferWays
pub mod OfferLaws
pub mod OfferedBucket
pub mod ApartLists
pub mod HeldLaws
pub mod BeginLaws
pub mod AnswerLaws
pub mod Theorems
pub mod ASmallMemory
