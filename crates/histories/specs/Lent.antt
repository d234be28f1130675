-- Calls with the output that the host lends them, of whatever length, and document 01's steps for them: a call with too little output is refused with 10, and
-- any other takes the step of `rules`.
use Rattle.std.specs.Prelude.{List, [], ◌∷◌, ℕ, ◌≤◌, length}
use Rattle.rules.specs.Room.{Sizes, Room}
use Rattle.rules.specs.Call.{Call, needed}
use Rattle.rules.specs.Outcome.{Outcome, room_after, outcome}
use Rattle.rules.specs.History.{Event}
use Rattle.relay_laws.specs.Calls.{if_long}

-- a call, and how many bytes of output it is lent
pub record Lent : Type 0 where
  pub call : Call
  pub space : ℕ

abbrev pub lent_with : Call → List ℕ → Lent
lent_with call out = record { call = call; space = length out }

-- with too little output it is refused with 10: "A refusal answers its number with 0 bytes written"
unfoldable pub lent_outcome : Room → Lent → Outcome
lent_outcome room l = if_long l.space l.call (outcome room l.call)

unfoldable pub lent_event : Room → Lent → Event
lent_event room l = let o = lent_outcome room l in record { call = l.call; answer = o.answer; sent = o.sent }

-- from a room on, each call on the room that the last returned: the events, and the room at the end
unfoldable pub lent_transcript : Sizes → Room → List Lent → List Event
lent_transcript sizes room [] = []
lent_transcript sizes room (l ∷ lents) = lent_event room l ∷ lent_transcript sizes (room_after sizes room (lent_outcome room l)) lents

unfoldable pub lent_room_after : Sizes → Room → List Lent → Room
lent_room_after sizes room [] = room
lent_room_after sizes room (l ∷ lents) = lent_room_after sizes (room_after sizes room (lent_outcome room l)) lents

-- "Each lent output is long enough that 10 is not given."
abbrev pub AllLong : List Lent → Type 0
AllLong [] = Unit {0}
AllLong (l ∷ lents) = (needed l.call ≤ l.space) × AllLong lents

-- the calls, without their outputs
unfoldable pub calls_lent : List Lent → List Call
calls_lent [] = []
calls_lent (l ∷ lents) = l.call ∷ calls_lent lents
