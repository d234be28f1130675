-- The laws of a table kept in bytes, in the order in which they rest on each other; the proofs of the functions of `table` cite them. `ASmallTable` has one table
-- computed, with each lookup and each change.
pub mod ASmallTable
pub mod KeyOrder
pub mod FitsLaws
pub mod Listed
pub mod SearchLaws
pub mod Stores
pub mod Shifted
pub mod Places
pub mod Distinct
pub mod TableLaws
pub mod RecordLaws
pub mod OverwriteLaws
pub mod NoneListed
pub mod PutLaws
pub mod FoundLaws
pub mod PlaceBelow
pub mod WithoutLaws
pub mod BytesKept
