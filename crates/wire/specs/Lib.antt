-- What a reader must believe of this crate: bytes, and bytes as a number.
pub mod Numbers
