-- What a reader must believe of frames, in the order to read it.
pub mod Frames
pub mod Reader
