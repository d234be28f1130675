-- What is looked up in the bytes of a room. In a whole room each says what the rules' lookup says of the room that the bytes are (`LookupLaws`).
use Rattle.std.specs.Prelude.{Bool, ◌&&◌, cond, List, ℕ, eqb, ltb, replicate}
use Rattle.table_laws.specs.Table.{found, key_of_place, is_used, lowest_free, record_at}
use Rattle.rules.specs.Room.{Key, Route, free, Found, none, at, Peer, alone}
use Rattle.rules.specs.Outcome.{joined_by}
use Rattle.room_laws.specs.Layout.{key_bytes, seat_bytes, fits_room, seat_table, routes_table}
use Rattle.room_laws.specs.View.{clock_in, route_in, seat_ping}

-- a place of p, or none
unfoldable pub place_in : ℕ → ℕ → Found
place_in p i = cond (ltb i p) (at i) none

-- the seat that holds a key
unfoldable pub seat_holding : ℕ → ℕ → List ℕ → Key → Found
seat_holding s n b key = cond (fits_room s n b) (place_in s (found s (seat_bytes n) (seat_table s n b) key)) none

-- the lowest seat that is empty
unfoldable pub lowest_empty : ℕ → ℕ → List ℕ → Found
lowest_empty s n b = cond (fits_room s n b) (place_in s (lowest_free s (seat_table s n b))) none

-- whether there is a seat i
unfoldable pub has_seat : ℕ → ℕ → List ℕ → ℕ → Bool
has_seat s n b i = fits_room s n b && ltb i s

-- whether seat i is taken
unfoldable pub taken : ℕ → ℕ → List ℕ → ℕ → Bool
taken s n b i = (fits_room s n b && ltb i s) && is_used s (seat_table s n b) i

-- the key of seat i; zeros where there is no such seat
unfoldable pub key_in : ℕ → ℕ → List ℕ → ℕ → Key
key_in s n b i = cond (has_seat s n b i) (key_of_place s (seat_bytes n) (seat_table s n b) i) (replicate key_bytes 0)

-- the clock; 0 where the memory is too short
unfoldable pub clock_found : ℕ → ℕ → List ℕ → ℕ
clock_found s n b = cond (fits_room s n b) (clock_in b) 0

-- the time of the last ping of seat i, and the number of the one that is outstanding; 0 where there is no such seat
unfoldable pub ping_time_of : ℕ → ℕ → List ℕ → ℕ → ℕ
ping_time_of s n b i = cond (has_seat s n b i) (seat_ping s n b i).time 0

unfoldable pub outstanding_of : ℕ → ℕ → List ℕ → ℕ → ℕ
outstanding_of s n b i = cond (has_seat s n b i) (seat_ping s n b i).number 0

-- the place of the route of seat i that wants a key
unfoldable pub route_wanting : ℕ → ℕ → List ℕ → ℕ → Key → Found
route_wanting s n b i key = cond (fits_room s n b && ltb i s) (place_in n (found n key_bytes (routes_table s n b i) key)) none

-- the lowest place of seat i that is free
unfoldable pub lowest_route : ℕ → ℕ → List ℕ → ℕ → Found
lowest_route s n b i = cond (fits_room s n b && ltb i s) (place_in n (lowest_free n (routes_table s n b i))) none

-- the route at place j of a table of routes, and of seat i
unfoldable pub route_of_place : ℕ → List ℕ → ℕ → Route
route_of_place n table j = cond (ltb j n) (route_in (is_used n table j) (record_at n key_bytes table j)) free

unfoldable pub route_at_place : ℕ → ℕ → List ℕ → ℕ → ℕ → Route
route_at_place s n b i j = cond (has_seat s n b i) (route_of_place n (routes_table s n b i) j) free

-- the peer in the seat found, which is another than seat i: the place of its route that wants a key
unfoldable pub peer_in_seat : ℕ → ℕ → List ℕ → ℕ → Key → Found → Peer
peer_in_seat s n b i key none = alone
peer_in_seat s n b i key (at other) = cond (eqb i other) alone (joined_by other (route_wanting s n b other key))

-- the peer of the client in seat i, whose key is `key`, on a route that names `wanted`
unfoldable pub peer_wanting : ℕ → ℕ → List ℕ → ℕ → Key → Key → Peer
peer_wanting s n b i key wanted = peer_in_seat s n b i key (seat_holding s n b wanted)
