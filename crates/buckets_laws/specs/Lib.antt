-- What a reader must believe of k-buckets in lent bytes, in the order to read it.
pub mod Layout
pub mod Whole
pub mod Effect
pub mod Calls
pub mod Sequence
