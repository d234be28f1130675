-- Laws, for the crates above too: `FamilyLaws` of the four families, `NodeLaws` of a packed node and of a node by value, `Owned` of what
-- holding a node tells, `ReadLaws` of the reader's answer, `WriteLaws` of writing, `StepLaws` of the walker's step. Theorems: `RoundTrips` of
-- one node, `WholeLists` of a whole list. `Examples` has P12.
pub mod FamilyLaws
pub mod NodeLaws
pub mod Owned
pub mod ReadLaws
pub mod WriteLaws
pub mod StepLaws
pub mod RoundTrips
pub mod WholeLists
pub mod Examples
