-- Where things stand in the memory of a room of s seats and n connection numbers for each:
--
--     room    | s (1) | n (1) | clock (8) | table of seats |
--     seat    | key (32) | ping time (8) | outstanding ping (8) | table of routes |
--     route   | wanted key (32) |
--
-- A table is a count (1), an order (a byte a place) and the records of its places (`table_laws`, `Table.antt`). Every offset is one of these definitions.
-- Document 01: "All numbers are big-endian." A time is "in whole seconds" (document 02) and has 8 bytes, as the number of a ping has.
use Rattle.std.specs.Prelude.{Bool, ◌&&◌, List, ℕ, ◌+◌, ◌*◌, length, take, drop, leb}
use Rattle.table_laws.specs.Table.{table_bytes}

-- the bytes of a time, and of the number of a ping
abbrev pub word_bytes : ℕ
word_bytes = 8

-- where the clock stands: behind the sizes that the room was made for
abbrev pub clock_start : ℕ
clock_start = 2

-- the room's own header: its sizes and its clock
abbrev pub room_header : ℕ
room_header = clock_start + word_bytes

abbrev pub key_bytes : ℕ
key_bytes = 32

-- a seat's own header, behind its key: the time of its last ping, and the number of the ping that is outstanding
abbrev pub seat_header : ℕ
seat_header = word_bytes + word_bytes

-- where these two stand in a seat's record
abbrev pub ping_in_seat : ℕ
ping_in_seat = key_bytes

abbrev pub outstanding_in_seat : ℕ
outstanding_in_seat = ping_in_seat + word_bytes

-- a table of n routes
abbrev pub routes_bytes : ℕ → ℕ
routes_bytes n = table_bytes n key_bytes

-- where the table of routes stands in a seat's record
abbrev pub routes_in_seat : ℕ
routes_in_seat = key_bytes + seat_header

abbrev pub seat_bytes : ℕ → ℕ
seat_bytes n = routes_in_seat + routes_bytes n

abbrev pub seats_bytes : ℕ → ℕ → ℕ
seats_bytes s n = table_bytes s (seat_bytes n)

abbrev pub room_bytes : ℕ → ℕ → ℕ
room_bytes s n = room_header + seats_bytes s n

-- document 01: "40 seats, 0 to 39", so a room has 40 at most; the numbers are 16 to 255 at most
unfoldable pub sizes_right : ℕ → ℕ → Bool
sizes_right s n = leb s 40 && leb n 240

-- the memory is long enough; bytes behind the room are no part of it
unfoldable pub fits_room : ℕ → ℕ → List ℕ → Bool
fits_room s n b = sizes_right s n && leb (room_bytes s n) (length b)

-- the table of seats
unfoldable pub seat_table : ℕ → ℕ → List ℕ → List ℕ
seat_table s n b = take (seats_bytes s n) (drop room_header b)

-- where seat i stands, and its ping, and its table of routes, and where that ends
abbrev pub seat_start : ℕ → ℕ → ℕ → ℕ
seat_start s n i = room_header + (1 + s + i * seat_bytes n)

abbrev pub ping_start : ℕ → ℕ → ℕ → ℕ
ping_start s n i = seat_start s n i + ping_in_seat

abbrev pub outstanding_start : ℕ → ℕ → ℕ → ℕ
outstanding_start s n i = seat_start s n i + outstanding_in_seat

abbrev pub routes_start : ℕ → ℕ → ℕ → ℕ
routes_start s n i = seat_start s n i + routes_in_seat

abbrev pub routes_end : ℕ → ℕ → ℕ → ℕ
routes_end s n i = routes_start s n i + routes_bytes n

unfoldable pub routes_table : ℕ → ℕ → List ℕ → ℕ → List ℕ
routes_table s n b i = take (routes_bytes n) (drop (routes_start s n i) b)
