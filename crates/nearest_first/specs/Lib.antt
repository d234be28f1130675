-- What a reader must believe of the nearest of given nodes. `Kept` is cited by private functions alone.
pub mod NearestFirst
pub mod Kept
