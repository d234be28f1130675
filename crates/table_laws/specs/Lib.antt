-- What a reader must believe of a table in bytes, in the order to read it.
pub mod Bytes
pub mod Table
