-- What a reader must believe of demand 3, in the order to read it: what a client learns, `Record`; any relay, `Relays`.
pub mod Record
pub mod Relays
