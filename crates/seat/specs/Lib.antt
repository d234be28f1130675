-- What a reader must believe of this crate: how a seat is printed.
pub mod Text
