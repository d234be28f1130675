-- What a reader must believe of the relay, in the order to read it. The room and its calls: `Room`, `Whole`, `Call`, `Outcome`, `History`, `Accepted`. What
-- has happened: `Transcript`, `After`.
pub mod Room
pub mod Whole
pub mod Call
pub mod Outcome
pub mod History
pub mod Accepted
pub mod Transcript
pub mod After
