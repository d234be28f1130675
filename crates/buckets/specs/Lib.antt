-- What private functions alone cite. The contracts of the public ones cite `buckets_laws`.
pub mod Kept
pub mod Entered
