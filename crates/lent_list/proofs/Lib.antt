-- `HeldLaws`, of the search for the node at an index; `StandingLaws`, of the test of a list; `Parts`, of chains over the slots; `FromFn`, of an array made by its indices; `ShiftLaws`, of slots moved where
-- they stand.
pub mod HeldLaws
pub mod StandingLaws
pub mod Parts
pub mod FromFn
pub mod ShiftLaws
