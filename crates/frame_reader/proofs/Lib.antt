-- `ShownParts`: what the part that is shown holds. Laws that the functions rest on: `JoinedLaws` of the bytes held and the piece behind them, read as one;
-- `CopyLaws` of bytes copied behind those held; `PartLaws` of a part of a slice.
pub mod ShownParts
pub mod JoinedLaws
pub mod CopyLaws
pub mod PartLaws
