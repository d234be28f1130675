-- Document 01, "The room": "40 seats, 0 to 39; each is empty or holds one key and 32 routes, numbers 16 to 47; each route is free or names one
-- wanted key." The sizes are parameters. Seats, numbers and places are numbers here: a seat counts from 0, a route's number from 16, and its place in the
-- seat's list is its number less 16.
use Rattle.std.specs.Prelude.{Bool, true, false, cond, List, [], ◌∷◌, ℕ, suc, ◌+◌, ◌-◌, ltb, get_or, set, replicate}
use Rattle.key.specs.Keys.{same_key}
pub use Rattle.packet_laws.specs.Table.{first_number}

pub record Sizes : Type 0 where
  pub seats : ℕ
  pub numbers : ℕ

-- document 01's own: "40 seats", "32 routes"
abbrev pub base_sizes : Sizes
base_sizes = record { seats = 40; numbers = 32 }

-- the sizes of a room of s seats with n numbers each
abbrev pub sizes_of : ℕ → ℕ → Sizes
sizes_of s n = record { seats = s; numbers = n }

-- a key is its bytes: any list here, so what holds of all lists holds of document 01's 32 bytes
abbrev pub Key : Type 0
Key = List ℕ

pub data Route : Type 0 where
  free : Route
  wants : Key → Route

-- document 02, "Notice dead laptops": "the time of its last ping and the ping number not yet answered", 0 where none is outstanding
pub record Ping : Type 0 where
  pub time : ℕ
  pub number : ℕ

-- what a seat holds that is not empty: "one key and 32 routes". Document 02: "Every seat gets the time of its last ping and the ping number not yet answered"
pub record Held : Type 0 where
  pub key : Key
  pub routes : List Route
  pub ping : Ping

pub data Seat : Type 0 where
  vacant : Seat
  holds : Held → Seat

-- document 02: "the room gets a clock in whole seconds, first 0"
pub record Room : Type 0 where
  pub seats : List Seat
  pub clock : ℕ

-- The constructors of these two records stand here and where a room is read from bytes (`room_laws`, `View.antt`), and nowhere else: laws and the rest of the
-- definitions go through the fields and through these functions, so that a field more changes nothing where it is not read.

-- none outstanding since a time
abbrev pub none_since : ℕ → Ping
none_since time = record { time = time; number = 0 }

-- a key that has just arrived: every route is free, and document 02: "An arrival starts with the last clock as its ping time."
abbrev pub newcomer : Sizes → ℕ → Key → Held
newcomer sizes clock key = record { key = key; routes = replicate sizes.numbers free; ping = none_since clock }

-- with its key replaced; with its ping; with its routes, and with one of them
abbrev pub set_key : Held → Key → Held
set_key held key = record { key = key; routes = held.routes; ping = held.ping }

abbrev pub set_ping : Held → Ping → Held
set_ping held ping = record { key = held.key; routes = held.routes; ping = ping }

abbrev pub set_routes : Held → List Route → Held
set_routes held routes = record { key = held.key; routes = routes; ping = held.ping }

abbrev pub set_route : Held → ℕ → Route → Held
set_route held place route = set_routes held (set held.routes place route)

-- a room with its clock replaced; with its seats, and with one of them
abbrev pub set_clock : Room → ℕ → Room
set_clock room time = record { seats = room.seats; clock = time }

abbrev pub set_seats : Room → List Seat → Room
set_seats room seats = record { seats = seats; clock = room.clock }

abbrev pub set_seat : Room → ℕ → Seat → Room
set_seat room seat s = set_seats room (set room.seats seat s)

unfoldable pub empty_room : Sizes → Room
empty_room sizes = record { seats = replicate sizes.seats vacant; clock = 0 }

-- ---- looking things up

-- a place in a list, or none
pub data Found : Type 0 where
  none : Found
  at : ℕ → Found

unfoldable pub or_later : Bool → Found → Found
or_later true later = at 0
or_later false none = none
or_later false (at i) = at (suc i)

-- the lowest place that passes a test
unfoldable pub find : {A : Type 0} → (A → Bool) → List A → Found
find test [] = none
find test (x ∷ xs) = or_later (test x) (find test xs)

unfoldable pub seat_of : Key → Seat → Bool
seat_of key vacant = false
seat_of key (holds held) = same_key held.key key

unfoldable pub is_vacant : Seat → Bool
is_vacant vacant = true
is_vacant (holds held) = false

unfoldable pub route_to : Key → Route → Bool
route_to key free = false
route_to key (wants k) = same_key k key

unfoldable pub is_free : Route → Bool
is_free free = true
is_free (wants k) = false

unfoldable pub routes_of : Seat → List Route
routes_of vacant = []
routes_of (holds held) = held.routes

-- the ping of a seat: in an empty one none is outstanding
unfoldable pub ping_in : Seat → Ping
ping_in vacant = none_since 0
ping_in (holds held) = held.ping

-- a seat by its number; "seat above 39, or empty" is vacant
unfoldable pub seat_at : Room → ℕ → Seat
seat_at room seat = get_or room.seats seat vacant

abbrev pub number_of_place : ℕ → ℕ
number_of_place place = first_number + place

-- a route by its number; a number below 16, or past the last, names none
unfoldable pub route_at : List Route → ℕ → Route
route_at routes number = cond (ltb number first_number) free (get_or routes (number - first_number) free)

-- ---- several seats

-- the places of a list that pass a test, in rising order, where the first of the list has the place `from`
unfoldable pub place_when : Bool → ℕ → List ℕ → List ℕ
place_when true place later = place ∷ later
place_when false place later = later

unfoldable pub places_from : {A : Type 0} → (A → Bool) → ℕ → List A → List ℕ
places_from test from [] = []
places_from test from (x ∷ xs) = place_when (test x) from (places_from test (suc from) xs)

-- ---- connected

-- the connected peer of a client: none, or the peer's seat and the place, not the number, of the peer's route
pub data Peer : Type 0 where
  alone : Peer
  joined : ℕ → ℕ → Peer
