-- What a reader must believe of this crate, beside the single calls (`relay_laws`): `Play`. `Steps` and `PlaySteps` are cited by private functions alone.
pub mod Steps
pub mod Play
pub mod PlaySteps
