-- `OutcomeLeaves` of what an outcome leaves, `PartLaws` of one that is made part by part, `TickTests` and `TickParts` of the parts of a tick, `CallsLaws` of the tests before a
-- step.
pub mod OutcomeLeaves
pub mod PartLaws
pub mod TickTests
pub mod TickParts
pub mod CallsLaws
