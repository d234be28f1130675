-- The laws that the functions rest on.
pub mod ReadyCases
pub mod ArriveCases
pub mod SeatedClient
pub mod CarryCases
pub mod LeaveCases
pub mod DropCases
pub mod RequestCases
pub mod PongCases
pub mod PacketCases
pub mod TickCases
pub mod PlayTested
pub mod LentParts
pub mod PlayLaws
pub mod MakeCases
pub mod NextCases
pub mod RunCases
pub mod TurnCases
