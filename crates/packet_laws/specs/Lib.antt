-- What a reader must believe of packets, in the order to read it.
pub mod Read
pub mod Table
pub mod FromClient
pub mod FromRelay
pub mod Judged
