-- The theorems stand in `KNearest` (over whole sequences of offers), `Unique` (its statement fixes the list), `Uses` (what follows for whoever builds on it),
-- `Orders` (the order of offers), `Kept` (each call keeps a list whole), `EffectLaws` (what an effect tells) and `Examples`. Laws that they rest on, for the
-- crates above too: `Members` of which nodes stand in a list, `Order` of rising distances, `Known` of families, `LastLaws` of the last node of each key,
-- `OneOffer` of one offer, `ListOf` of lists that are blank behind what they hold. Of the functions: `Front`, `Steps`, `Place` of slots and places, `Judge`
-- of the test of a list, `Holding` of its slots, `OfferLaws` and `RemoveLaws` of the calls' ways out, `Owned` of what holding a list by value tells.
pub mod KNearest
pub mod Unique
pub mod Uses
pub mod Orders
pub mod Kept
pub mod EffectLaws
pub mod Examples
pub mod Members
pub mod Order
pub mod Known
pub mod LastLaws
pub mod OneOffer
pub mod ListOf
pub mod Front
pub mod Steps
pub mod Shifted
pub mod Place
pub mod Judge
pub mod Holding
pub mod OfferLaws
pub mod RemoveLaws
pub mod Owned
