-- Where a history has come to: the room that its last call returned, and what has happened by then. And when the room's tables and what has
-- happened say the same of who sits where, which requests stand, the clock and the pings.
use Rattle.std.specs.Prelude.{List, [], ◌∷◌, ◌≡◌, ℕ, length}
use Rattle.rules.specs.Room.{Sizes, Key, Route, Seat, vacant, holds, Room, Found, none, at, find, seat_of, route_to, routes_of, ping_in, seat_at, route_at}
use Rattle.rules.specs.Call.{Call}
use Rattle.rules.specs.Outcome.{outcome, room_after}
use Rattle.rules.specs.History.{Event}
use Rattle.rules.specs.Transcript.{Past, Maker, nobody, client_of, Start, clock_of, ping_of, sitter, stands}

-- "each later one the room that the last returned"
unfoldable pub room_after_all : Sizes → Room → List Call → Room
room_after_all sizes room [] = room
room_after_all sizes room (call ∷ calls) = room_after_all sizes (room_after sizes room (outcome room call)) calls

-- a transcript put on what happened before it, the newest first
unfoldable pub past_after : Past → List Event → Past
past_after past [] = past
past_after past (e ∷ events) = past_after (e ∷ past) events

-- who sits in a seat, by the table
unfoldable pub client_in : Seat → Maker
client_in vacant = nobody
client_in (holds held) = client_of held.key

-- the routes of a client, by the table: none where it is not seated
unfoldable pub routes_in : Found → Room → List Route
routes_in none room = []
routes_in (at seat) room = routes_of (seat_at room seat)

unfoldable pub routes_by : Room → Key → List Route
routes_by room key = routes_in (find (seat_of key) room.seats) room

-- the room and the past say the same
pub record Tied (start : Start) (past : Past) (room : Room) : Type 0 where
  pub seats : start.seats ≡ length room.seats
  pub sits : (seat : ℕ) → sitter start past seat ≡ client_in (seat_at room seat)
  pub requests : (key : Key) (number : ℕ) (wanted : Key) → stands start past key number wanted ≡ route_to wanted (route_at (routes_by room key) number)
  pub clock : clock_of start past ≡ room.clock
  pub pings : (seat : ℕ) → ping_of start past seat ≡ ping_in (seat_at room seat)

-- the start that says what a room's tables say
unfoldable pub start_of : Room → Start
start_of room = record {
  seats = length room.seats;
  sits = λ seat. client_in (seat_at room seat);
  standing = λ key number wanted. route_to wanted (route_at (routes_by room key) number);
  clock = room.clock;
  ping = λ seat. ping_in (seat_at room seat);
}
