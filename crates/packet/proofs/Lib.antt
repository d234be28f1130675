-- Laws, for the crates above too: `PartLaws` of places in a packet, `CheckedLaws` of the checks that both ends make, `RelayLaws` and `ClientLaws` of the two readers' answers.
pub mod PartLaws
pub mod CheckedLaws
pub mod RelayLaws
pub mod ClientLaws
