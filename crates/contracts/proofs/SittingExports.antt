-- The exports that tell who sits where. Each contract is what stands here, and asks nothing of the caller. Assumes nothing.
use mathlib.Core.Path.{◌≡◌}
use Rattle.banavoge_laws.specs.Sitting.{TellsSitter, seat_of_key}
use Rattle.banavoge.proofs.sitting.banavoge_key_in.Kinds as key-in-kinds
use Rattle.banavoge.proofs.sitting.banavoge_key_in.Reads as key-in-reads
use Rattle.banavoge.proofs.sitting.banavoge_seat_of.Kinds as seat-of-kinds
use Rattle.banavoge.proofs.sitting.banavoge_seat_of.Reads as seat-of-reads
use Rattle.contracts.specs.Promises.{Promises}

pub banavoge_key_in_lem : Promises 2 key-in-kinds.ps key-in-kinds.r key-in-reads.Asked key-in-reads.Post
    (λ κs (room, (seat, (key, _))) answer (_, (_, (key', _))).
    TellsSitter 40 32 seat room.now key.now key'.now answer)
banavoge_key_in_lem = record { asks_nothing = λ κs args. tt; gives = λ κs args answer left p. p }

pub banavoge_seat_of_lem : Promises 2 seat-of-kinds.ps seat-of-kinds.r seat-of-reads.Asked seat-of-reads.Post
    (λ κs (room, (key, _)) answer _.
    answer ≡ seat_of_key 40 32 room.now key.now)
banavoge_seat_of_lem = record { asks_nothing = λ κs args. tt; gives = λ κs args answer left p. p }
