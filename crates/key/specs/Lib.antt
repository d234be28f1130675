-- What a reader must believe of this crate: keys, their distance, the leading bits that they share, the first byte in which they differ, and how a key is
-- printed.
pub mod Keys
pub mod Bits
pub mod First
pub mod Text
