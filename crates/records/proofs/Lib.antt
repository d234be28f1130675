-- For the crates above: `AppendLaws` has records in a lent output, `Fits` where a writer appends its record, `ReadLaws` what is known of a record that is read,
-- `EntryLaws` the head before the records of a call.
-- `WriteLaws` serves the functions here. Theorems: `RoundTrips` of records written and read.
pub mod AppendLaws
pub mod WriteLaws
pub mod Fits
pub mod ReadLaws
pub mod EntryLaws
pub mod RoundTrips
