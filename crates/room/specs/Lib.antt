-- What a reader must believe of the functions of a room, beside the bytes of a room (`room_laws`).
pub mod Numbers
