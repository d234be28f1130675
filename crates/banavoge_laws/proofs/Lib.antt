-- `AFewTold` has small answers computed. `Reading`, `Writing` and `NodeTelling` carry the promises of `packet`, `packet_write` and `node` over to the exports;
-- `RelayCounts` bounds what a call of the relay answers; `SittingLaws` says who sits where, by the bytes and by what has happened.
pub mod AFewTold
pub mod NodeTelling
pub mod Reading
pub mod RelayCounts
pub mod SittingLaws
pub mod Writing
