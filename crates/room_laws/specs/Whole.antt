-- When bytes are a whole room. "A room is whole when seated keys differ, the wanted keys of one seat differ, empty seats hold no routes, and anything
-- else the team keeps agrees with these": the listed keys of each table strictly rise, so they differ; what is not listed is no part of the room, so
-- an empty seat holds no route; and the header has the room's sizes. And document 02: "A room where a seat names its own key is no longer whole." and "A ping
-- time after the clock makes a room not whole."
use Rattle.std.specs.Prelude.{Bool, true, ◌&&◌, List, [], ◌∷◌, ℕ, eqb, leb, get_or}
use Rattle.table_laws.specs.Table.{listed, key_at, table_whole, table_without}
use Rattle.room_laws.specs.Layout.{key_bytes, seat_bytes, fits_room, seat_table, routes_table}
use Rattle.room_laws.specs.View.{clock_in, seat_ping}

unfoldable pub header_right : ℕ → ℕ → List ℕ → Bool
header_right s n b = eqb (get_or b 0 0) s && eqb (get_or b 1 0) n

-- the routes of seat i are a whole table that does not list the seat's own key
unfoldable pub seat_routes_whole : ℕ → ℕ → List ℕ → ℕ → Bool
seat_routes_whole s n b i = table_without n key_bytes (routes_table s n b i) (key_at s (seat_bytes n) (seat_table s n b) i)

-- the time of seat i's last ping is not after the clock
unfoldable pub seat_ping_whole : ℕ → ℕ → List ℕ → ℕ → Bool
seat_ping_whole s n b i = leb (seat_ping s n b i).time (clock_in b)

-- both are so of seat i, and of each of these seats
unfoldable pub seat_whole : ℕ → ℕ → List ℕ → ℕ → Bool
seat_whole s n b i = seat_ping_whole s n b i && seat_routes_whole s n b i

unfoldable pub seats_whole : ℕ → ℕ → List ℕ → List ℕ → Bool
seats_whole s n b [] = true
seats_whole s n b (i ∷ is) = seat_whole s n b i && seats_whole s n b is

unfoldable pub room_whole : ℕ → ℕ → List ℕ → Bool
room_whole s n b =
    fits_room s n b
    && (header_right s n b && (table_whole s (seat_bytes n) (seat_table s n b) && seats_whole s n b (listed s (seat_table s n b))))
