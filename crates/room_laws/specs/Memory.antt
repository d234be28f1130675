-- Bytes that are a room, as `room` reads them: whole, and as long as a room of s seats with n numbers each is.
use Rattle.std.specs.Prelude.{true, List, ◌≡◌, ℕ, ◌^◌, ◌<◌, length, get_or}
use Rattle.wire.specs.Numbers.{Bytes}
use Rattle.rules.specs.Room.{Key, free, wants, Held, holds, Room, seat_at}
use Rattle.room_laws.specs.Layout.{word_bytes, room_bytes}
use Rattle.room_laws.specs.View.{view_room}
use Rattle.room_laws.specs.Whole.{room_whole}

-- what each key of a room, seated or wanted, is
pub record KeysAre (K : Key → Type 0) (room : Room) : Type 0 where
  pub seated : (i : ℕ) (held : Held) → seat_at room i ≡ holds held → K held.key
  pub wanted : (i : ℕ) (held : Held) → seat_at room i ≡ holds held → (j : ℕ) (other : Key) → get_or held.routes j free ≡ wants other → K other

-- the clock of a room, and the number of each seat's ping, have 8 bytes; so has the time of each ping, which is not after the clock
pub record WordsFit (room : Room) : Type 0 where
  pub clock : room.clock < 256 ^ word_bytes
  pub numbers : (i : ℕ) (held : Held) → seat_at room i ≡ holds held → held.ping.number < 256 ^ word_bytes

-- bytes that are a room
pub record HasBytes (s n : ℕ) (room : Room) : Type 0 where
  pub bytes : List ℕ
  pub long : length bytes ≡ room_bytes s n
  pub whole : room_whole s n bytes ≡ true
  pub is : view_room s n bytes ≡ room

-- and each is a byte
pub record HasMemory (s n : ℕ) (room : Room) : Type 0 where
  pub has : HasBytes s n room
  pub each : Bytes has.bytes
