-- Facts by computation: `ComputedRecord`, the record for a client over two histories with every kind of call; `Recorded` has what they share. Theorems, for
-- every history: `Isolation`, demand 3, with `View`, `ViewLaws`, `OneTick` and `OneCall` as its means and `NotVacuous` and `TicksNeeded` to show what it says;
-- `ReturnRecord`, with `ByTables`, a client that comes back, as every other client sees it; `OwnArrival`, an arrival hands its own client nothing; `WrongRelays`,
-- which relays demand 2 turns away, and that demand 3 alone would suit a silent one.
pub mod Recorded
pub mod ComputedRecord
pub mod View
pub mod ViewLaws
pub mod OneTick
pub mod OneCall
pub mod Isolation
pub mod NotVacuous
pub mod TicksNeeded
pub mod ByTables
pub mod ReturnRecord
pub mod OwnArrival
pub mod WrongRelays
