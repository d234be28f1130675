-- What a reader must believe of this crate besides `frame`: `Parts`, a frame as a part of one of two lent slices.
pub mod Parts
