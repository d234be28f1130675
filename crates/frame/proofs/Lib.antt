-- `FrontLaws` of what stands at the front of bytes, `StreamLaws` of a stream parted into its frames, `ReaderLaws` of the ways out of a call; `GoesOn`: a stream read
-- in pieces, one call. `ASmallStream` has a short stream and calls on it, computed.
pub mod ASmallStream
pub mod FrontLaws
pub mod StreamLaws
pub mod ReaderLaws
pub mod GoesOn
