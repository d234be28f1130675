-- What a reader must believe of this crate: which number each refusal has, and its words.
pub mod Numbers
pub mod Text
