-- What laws of lists name.
pub mod Insert
pub mod Find
