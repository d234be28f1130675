-- `LookedUp`: a refusal is found again by its number.
pub mod LookedUp
