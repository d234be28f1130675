-- What the theorems say of each call, by what has happened, in the order to read it.
pub mod GoesOn
pub mod Told
pub mod Given
pub mod OwnKey
pub mod PingAndOutOfBand
pub mod Ticks
pub mod Handed
pub mod Silent
