-- What a reader must believe of this crate, in the order to read it.
pub mod Families
pub mod Nodes
pub mod Values
pub mod Reads
pub mod Written
pub mod Steps
pub mod Walks
