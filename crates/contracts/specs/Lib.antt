-- `Promises`: what a contract promises.
pub mod Promises
