-- `StoredLaws` has what is known of the stored call at the front of bytes, for the crates above; `FormLaws` serves the functions here. Theorems:
-- `RoundTrips` of a call stored and read.
pub mod FormLaws
pub mod StoredLaws
pub mod RoundTrips
