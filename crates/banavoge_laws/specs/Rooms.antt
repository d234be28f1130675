-- What the exported functions on a room answer. The empty room is that of `room_laws` (`MakesEmpty`), told as `done_or OutputTooShort`: "The empty room and the empty
-- list of size 8 are given". The sizes are document 01's: "40 seats, 0 to 39; each is empty or holds one key and 32 routes, numbers 16 to 47".
use Rattle.std.specs.Prelude.{Bool, true, false, List, ℕ, ℤ, pos}
use Rattle.refusal.specs.declared.Refusal.{Refusal}
use Rattle.refusal.specs.declared.Refusal.TheVariants.{RoomNotWhole}
use Rattle.room_laws.specs.Whole.{room_whole}
use Rattle.banavoge_laws.specs.Answers.{refusal_code}

-- 0, or minus a refusal
unfoldable pub done_or : Refusal → Bool → ℤ
done_or why true = pos 0
done_or why false = refusal_code why

-- "Every lent state is tested in full before use": 0 where the memory holds a whole room, or minus 11, "room not whole"
unfoldable pub room_code : List ℕ → ℤ
room_code memory = done_or RoomNotWhole (room_whole 40 32 memory)
