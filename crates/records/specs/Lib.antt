-- What a reader must believe of this crate: what a record is in a lent output, what a writer appends, what is read at the front of
-- bytes, and what a run of stored calls writes before the records of a call.
pub mod Output
pub mod Read
pub mod Entry
