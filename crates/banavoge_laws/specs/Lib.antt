-- What a reader must believe of this crate: how answers become numbers, and what is told through references.
pub mod Answers
pub mod Frames
pub mod Fields
pub mod Nodes
pub mod Nearest
pub mod Rooms
pub mod RelayCalls
pub mod Sitting
pub mod Runs
