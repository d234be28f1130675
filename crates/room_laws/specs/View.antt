-- The room that bytes are: document 01's room as `rules` has it, with document 02's clock and pings. A seat or a route that its table does not list is empty
-- or free, whatever its record holds.
use Rattle.std.specs.Prelude.{Bool, true, false, List, ℕ, take, drop}
use Rattle.wire.specs.Numbers.{number_of}
use Rattle.table_laws.specs.Table.{view}
use Rattle.rules.specs.Room.{Key, Route, free, wants, Ping, Held, Seat, vacant, holds, Room}
use Rattle.room_laws.specs.Layout.{key_bytes, word_bytes, clock_start, ping_in_seat, outstanding_in_seat, routes_in_seat, seat_bytes, seat_table, seat_start, routes_table}

-- the 8 bytes from `at` on, and the number that they make
abbrev pub word_at : ℕ → List ℕ → List ℕ
word_at at b = take word_bytes (drop at b)

abbrev pub number_at : ℕ → List ℕ → ℕ
number_at at b = number_of (word_at at b)

-- the room's clock
unfoldable pub clock_in : List ℕ → ℕ
clock_in b = number_at clock_start b

unfoldable pub route_in : Bool → List ℕ → Route
route_in false bytes = free
route_in true bytes = wants bytes

unfoldable pub view_routes : ℕ → List ℕ → List Route
view_routes n table = view n key_bytes route_in table

-- the ping of a seat, by bytes that begin with its record
abbrev pub record_ping : List ℕ → Ping
record_ping bytes = record { time = number_at ping_in_seat bytes; number = number_at outstanding_in_seat bytes }

-- what the record of a seat holds
abbrev pub held_in : ℕ → List ℕ → Held
held_in n bytes = record { key = take key_bytes bytes; routes = view_routes n (drop routes_in_seat bytes); ping = record_ping bytes }

unfoldable pub seat_in : ℕ → Bool → List ℕ → Seat
seat_in n false bytes = vacant
seat_in n true bytes = holds (held_in n bytes)

unfoldable pub view_room : ℕ → ℕ → List ℕ → Room
view_room s n b = record { seats = view s (seat_bytes n) (seat_in n) (seat_table s n b); clock = clock_in b }

-- the ping of seat i
unfoldable pub seat_ping : ℕ → ℕ → List ℕ → ℕ → Ping
seat_ping s n b i = record_ping (drop (seat_start s n i) b)

-- what seat i holds, by its key and its table of routes
abbrev pub seat_held : ℕ → ℕ → List ℕ → ℕ → Key → Held
seat_held s n b i key = record { key = key; routes = view_routes n (routes_table s n b i); ping = seat_ping s n b i }
