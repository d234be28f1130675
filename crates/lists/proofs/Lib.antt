-- `AFewListed`: a few lists, computed. `Shift`: an element put in or taken out. `Found`: elements found by a test. `Mapped`: a function on every
-- element. `Members`: which numbers a list has, and lists that have each once.
pub mod AFewListed
pub mod Shift
pub mod Found
pub mod Mapped
pub mod Members
