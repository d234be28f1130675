-- A file for each file of exports in `banavoge/src`; a law for each export, under its name. From these laws, next to `histories`: `FromExports`, the contract of
-- an exported call on a room is a step; `FromOtherExports`, the contracts of exports on nearest lists, buckets, packets, nodes and frames.
pub mod FrameExports
pub mod KeyExports
pub mod ReaderExports
pub mod WriterExports
pub mod NodeExports
pub mod ListExports
pub mod BucketExports
pub mod RoomExports
pub mod CallExports
pub mod RunExports
pub mod SittingExports
pub mod FromExports
pub mod FromOtherExports
