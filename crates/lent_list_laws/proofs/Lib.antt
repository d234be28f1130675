-- Theorems: `RoundTrips`, a list written and read; `RefusedLeaves`, a refusal leaves the memory; `AfterCalls`, the list in memory after a call is the one
-- handed back by value. Laws that they and the functions of `lent_list` rest on: `SlotLaws` of slots, `PartLaws` of a slot's key and family where they
-- stand, `StoreLaws` of a list put into memory part by part, `CallLaws` of each call's ways out, `ChangeLaws` of a list changed where it stands.
-- `ASmallList` has a slot, a list and memory too short, computed.
pub mod ASmallList
pub mod RoundTrips
pub mod RefusedLeaves
pub mod AfterCalls
pub mod SlotLaws
pub mod PartLaws
pub mod StoreLaws
pub mod CallLaws
pub mod ChangeLaws
