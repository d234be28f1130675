-- What a reader must believe of this crate, in the order to read it. `Slots` is cited by private functions alone.
pub mod Lists
pub mod Effect
pub mod Calls
pub mod Sequence
pub mod Slots
