-- What the host is told of a room's seats: who sits in one, and where a key sits. This is how it learns, after a tick, whom it put out. The refusals have
-- document 01's numbers: 11 comes first, "Every lent state is tested in full before use", then 3, "seat above 39, or empty", and here also a key that sits nowhere.
use Rattle.std.specs.Prelude.{cond, List, ◌≡◌, ℕ, ℤ, pos}
use Rattle.refusal.specs.declared.Refusal.{Refusal}
use Rattle.refusal.specs.declared.Refusal.TheVariants.{RoomNotWhole, NotSeated}
use Rattle.rules.specs.Room.{Key, Seat, vacant, holds, seat_at, Found, none, at, find, seat_of}
use Rattle.rules.specs.Transcript.{Maker, nobody, client_of}
use Rattle.room_laws.specs.View.{view_room}
use Rattle.room_laws.specs.Whole.{room_whole}
use Rattle.banavoge_laws.specs.Answers.{refusal_code}

-- ---- who sits in a seat

-- the key in a seat, or why none is told
pub data Told : Type 0 where
  turned : Refusal → Told
  sits : Key → Told

-- of a seat, by the room's table
unfoldable pub sitting : Seat → Told
sitting vacant = turned NotSeated
sitting (holds held) = sits held.key

-- of a seat of the memory, for s seats with n connection numbers each
unfoldable pub who_sits : ℕ → ℕ → List ℕ → ℕ → Told
who_sits s n b seat = cond (room_whole s n b) (sitting (seat_at (view_room s n b) seat)) (turned RoomNotWhole)

-- 0, or minus the refusal
unfoldable pub sit_code : Told → ℤ
sit_code (turned why) = refusal_code why
sit_code (sits key) = pos 0

-- the key that is handed out: on a refusal, as it was
unfoldable pub key_then : Told → List ℕ → List ℕ
key_then (turned why) before = before
key_then (sits key) before = key

pub record TellsSitter (s n seat : ℕ) (b before after : List ℕ) (answer : ℤ) : Type 0 where
  pub answers : answer ≡ sit_code (who_sits s n b seat)
  pub leaves : after ≡ key_then (who_sits s n b seat) before

-- what is to be told of a seat by who sits there after the calls so far (`sitter` of `rules`, which sees calls, answers and records and no room)
unfoldable pub told_of : Maker → Told
told_of nobody = turned NotSeated
told_of (client_of key) = sits key

-- ---- where a key sits

-- the seat, or minus 3: the key is in none
unfoldable pub place_code : Found → ℤ
place_code none = refusal_code NotSeated
place_code (at seat) = pos seat

-- of the memory: the seat, or minus 11 or 3
unfoldable pub seat_of_key : ℕ → ℕ → List ℕ → Key → ℤ
seat_of_key s n b key = cond (room_whole s n b) (place_code (find (seat_of key) (view_room s n b).seats)) (refusal_code RoomNotWhole)
