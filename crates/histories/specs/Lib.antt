-- What a reader must believe of this crate, in the order to read it: `Seen`, what the host sees of a call; `Lent`, calls with the output that they are lent,
-- and document 01's steps for them; `History`, histories as the host makes them; `Steps`, what is said of calls next to document 01's steps; `Sequences`, the
-- chains and histories of given calls; `RunSeen`, what the host sees of a run of stored calls; `Runs`, what is said of such runs; `ExportedCalls`, the
-- exports of a room and what the host lends them; `ListHistory`, nearest lists as the host keeps them; `BucketHistory`, k-buckets as the host keeps them;
-- `WrittenAndRead`, a packet or a node written by one export and read by another; `FrameStream`, a stream of frames as the host reads it; `OtherExports`, the
-- exports that write and are lent no room; `HandedWhenWritten`, what a client is handed by a tick, by who sits in a seat when a record for it is written;
-- `Returns`, an arrival of a seated key next to two calls.
pub mod Seen
pub mod Lent
pub mod History
pub mod Steps
pub mod Sequences
pub mod RunSeen
pub mod Runs
pub mod ExportedCalls
pub mod ListHistory
pub mod BucketHistory
pub mod WrittenAndRead
pub mod FrameStream
pub mod OtherExports
pub mod HandedWhenWritten
pub mod Returns
