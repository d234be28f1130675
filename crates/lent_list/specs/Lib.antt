-- What a reader must believe of this crate, beside the bytes of a list and the calls on them (`lent_list_laws`).
pub mod Held
pub mod Standing
