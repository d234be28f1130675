-- What a reader must believe of a room kept in bytes, in the order to read it: `Layout`, where things stand; `View`, the room that bytes are; `Whole`, when they
-- are one; `Store`, what each change does to them; `Lookup`, what is looked up in them. Then what the laws say: `Fits`, changes that fit a room; `Memory`, bytes
-- that are a room.
pub mod Layout
pub mod View
pub mod Whole
pub mod Store
pub mod Lookup
pub mod Fits
pub mod Memory
