-- The theorem stands in `SameAsOffers`: the k nearest are what a nearest list of size k holds to which all nodes were offered. `Examples` has the definition
-- computed. Laws that it rests on, for the crates above too: `Arranged` of nodes put in one by one, `NearestLaws` of the k nearest. For the functions that find
-- them: `KeptLaws` of keeping no more than k on the way, `PlaceLaws` of where a node is put in and of when nothing changes.
pub mod SameAsOffers
pub mod Examples
pub mod Arranged
pub mod NearestLaws
pub mod KeptLaws
pub mod PlaceLaws
