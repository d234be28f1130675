-- `Same`, `Distance`, `Cancel`, `Tail`, `Lent` and `Bits` have the laws of keys, for the crates above too; `Owned` says what holding a key by value
-- tells of its bytes, and `Printed` what a key is printed as.
pub mod Same
pub mod Distance
pub mod Cancel
pub mod Tail
pub mod Owned
pub mod Lent
pub mod Bits
mod Printed
