-- What a reader must believe of this crate: which bytes are a stored call.
pub mod Stored
