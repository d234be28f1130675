-- Document 01, "The room": "A room is whole when seated keys differ, the wanted keys of one seat differ, empty seats hold no routes". An empty
-- seat is `vacant`, which has no place for a route. Document 02 adds two clauses: "A room where a seat names its own key is no longer whole." and "A ping time
-- after the clock makes a room not whole."
use Rattle.std.specs.Prelude.{◌≢◌, ◌≡◌, ℕ, ◌≤◌, length}
use Rattle.rules.specs.Room.{Sizes, Key, wants, Held, holds, Room, seat_at, route_at}

pub record Whole (sizes : Sizes) (room : Room) : Type 0 where
  -- "40 seats", and in each seat that holds a key "32 routes"
  pub seats : length room.seats ≡ sizes.seats
  pub numbers : (seat : ℕ) (held : Held) → seat_at room seat ≡ holds held → length held.routes ≡ sizes.numbers
  -- "seated keys differ": a key sits in one seat
  pub seated : (i j : ℕ) (held held' : Held) → seat_at room i ≡ holds held → seat_at room j ≡ holds held' → held.key ≡ held'.key → i ≡ j
  -- "the wanted keys of one seat differ": a key is wanted under one number
  pub wanted : (seat : ℕ) (held : Held) → seat_at room seat ≡ holds held
      → (other : Key) (i j : ℕ) → route_at held.routes i ≡ wants other → route_at held.routes j ≡ wants other → i ≡ j
  -- "A room where a seat names its own key is no longer whole."
  pub not_own : (seat : ℕ) (held : Held) → seat_at room seat ≡ holds held → (number : ℕ) → route_at held.routes number ≢ wants held.key
  -- "A ping time after the clock makes a room not whole."
  pub ping_times : (seat : ℕ) (held : Held) → seat_at room seat ≡ holds held → held.ping.time ≤ room.clock

-- "A key is 32 bytes.": each seated key has 32 at most, which is all that the bound on a call's output asks
abbrev pub ShortKeys : Room → Type 0
ShortKeys room = (seat : ℕ) (held : Held) → seat_at room seat ≡ holds held → length held.key ≤ 32
