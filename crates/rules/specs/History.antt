-- Histories: calls one after the other, each given the room that the last returned. Document 01, "The record for a client".
use Rattle.std.specs.Prelude.{List, [], ◌∷◌}
use Rattle.rules.specs.Room.{Sizes, Room, empty_room}
use Rattle.rules.specs.Call.{Call, Answer, Sent}
use Rattle.rules.specs.Outcome.{outcome, room_after}

-- a call, what it was answered, and what was sent
pub record Event : Type 0 where
  pub call : Call
  pub answer : Answer
  pub sent : List Sent

unfoldable pub event : Room → Call → Event
event room call = let o = outcome room call in record { call = call; answer = o.answer; sent = o.sent }

-- a transcript of calls, from a room on
unfoldable pub transcript : Sizes → Room → List Call → List Event
transcript sizes room [] = []
transcript sizes room (call ∷ calls) = event room call ∷ transcript sizes (room_after sizes room (outcome room call)) calls

-- "The first gets the empty room"
abbrev pub happens : Sizes → List Call → List Event
happens sizes calls = transcript sizes (empty_room sizes) calls
