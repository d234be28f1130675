-- Laws: `AllKinds` of the table of kinds at the edges of each check, computed; `KeyAndPayload` of where the key and the payload of a packet stand; `KindLaws`
-- of document 01's table, `CheckLaws` of the checks in their order, `ByteLaws` of a packet's bytes, `RelayKinds` and `ClientKinds` of what either end takes,
-- `ReadBounds` of how long is what the relay takes, `Judged` of how each packet that a writer would make is judged. `ClientRoundTrip` and `RelayRoundTrip` are
-- the theorems on reading what was written and writing what was read; `Examples` has document 01's examples on packets.
pub mod AllKinds
pub mod KeyAndPayload
pub mod Examples
pub mod KindLaws
pub mod CheckLaws
pub mod ByteLaws
pub mod RelayKinds
pub mod ReadBounds
pub mod ClientKinds
pub mod Judged
pub mod ClientRoundTrip
pub mod RelayRoundTrip
