-- The laws that the functions rest on.
pub mod Within
