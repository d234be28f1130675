-- The exports on the memory of a room. Each contract is what stands here, and asks nothing of the caller. Assumes nothing.
use mathlib.Core.Path.{◌≡◌}
use Rattle.room_laws.specs.Layout.{room_bytes}
use Rattle.refusal.specs.declared.Refusal.TheVariants.{OutputTooShort}
use Rattle.room_laws.specs.Store.{MakesEmpty}
use Rattle.banavoge_laws.specs.Answers.{ToldAs}
use Rattle.banavoge_laws.specs.Rooms.{done_or, room_code}
use Rattle.banavoge.proofs.rooms.banavoge_room_bytes.Kinds as room-bytes-kinds
use Rattle.banavoge.proofs.rooms.banavoge_room_bytes.Reads as room-bytes-reads
use Rattle.banavoge.proofs.rooms.banavoge_room_empty.Kinds as room-empty-kinds
use Rattle.banavoge.proofs.rooms.banavoge_room_empty.Reads as room-empty-reads
use Rattle.banavoge.proofs.rooms.banavoge_room_check.Kinds as room-check-kinds
use Rattle.banavoge.proofs.rooms.banavoge_room_check.Reads as room-check-reads
use Rattle.contracts.specs.Promises.{Promises}

pub banavoge_room_bytes_lem : Promises 0 room-bytes-kinds.ps room-bytes-kinds.r room-bytes-reads.Asked room-bytes-reads.Post
    (λ κs _ answer _.
    answer ≡ room_bytes 40 32)
banavoge_room_bytes_lem = record { asks_nothing = λ κs args. tt; gives = λ κs args answer left p. p }

pub banavoge_room_empty_lem : Promises 1 room-empty-kinds.ps room-empty-kinds.r room-empty-reads.Asked room-empty-reads.Post
    (λ κs (room, _) answer (room', _).
    ToldAs (done_or OutputTooShort) (MakesEmpty 40 32 room.now room'.now) answer)
banavoge_room_empty_lem = record { asks_nothing = λ κs args. tt; gives = λ κs args answer left p. p }

pub banavoge_room_check_lem : Promises 1 room-check-kinds.ps room-check-kinds.r room-check-reads.Asked room-check-reads.Post
    (λ κs (room, _) answer _.
    answer ≡ room_code room.now)
banavoge_room_check_lem = record { asks_nothing = λ κs args. tt; gives = λ κs args answer left p. p }
