-- The laws that the functions' proofs rest on, and what their answers tell of the places found: `AnswerLaws` and `PeersFound`. What the bytes mean stands
-- in the crate `room_laws`.
pub mod LookupSteps
pub mod WholeSteps
pub mod StoreSteps
pub mod AnswerLaws
pub mod PeersFound
