-- What a reader must believe of a nearest list in lent bytes, in the order to read it.
pub mod Layout
pub mod Calls
