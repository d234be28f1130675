-- What a reader must believe of the single calls: `Calls`. `Steps` is cited by private functions alone.
pub mod Calls
pub mod Steps
