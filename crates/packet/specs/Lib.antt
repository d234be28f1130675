-- What a reader must believe of the readers' answers, in the order to read it, and of how a connection number is printed; what a packet is stands in
-- `packet_laws`.
pub mod Parts
pub mod Checked
pub mod RelayReads
pub mod ClientReads
pub mod Text
