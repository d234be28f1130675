-- What each change of the rules does to the bytes of a room. Nothing else of the memory changes: the record of a place that is put in use is
-- overwritten from its key on as far as is said here, and one that is freed stays as it is.
use Rattle.std.specs.Prelude.{Bool, ◌&&◌, cond, List, [], ◌∷◌, ◌++◌, ◌≡◌, ℕ, ◌+◌, ltb, drop}
use Rattle.wire.specs.Numbers.{bytes_of}
use Rattle.table_laws.specs.Bytes.{splice}
use Rattle.table_laws.specs.Table.{put_in, freed_in}
use Rattle.rules.specs.Room.{Key}
use Rattle.rules.specs.Outcome.{Change, seat_taken, seat_emptied, route_given, route_freed, clock_set, ping_sent, ping_answered}
use Rattle.room_laws.specs.Layout.{word_bytes, clock_start, key_bytes, seat_header, routes_bytes, seat_bytes, seats_bytes, room_header, fits_room, seat_table, ping_start, outstanding_start, routes_start, routes_table}
use Rattle.room_laws.specs.View.{word_at}

-- the 8 bytes of a number
abbrev pub word_of : ℕ → List ℕ
word_of number = bytes_of word_bytes number

-- the empty room: its header, with document 02's "a clock in whole seconds, first 0", and a table of seats that lists none; what stood behind stays
unfoldable pub emptied : ℕ → ℕ → List ℕ → List ℕ
emptied s n b = s ∷ n ∷ (word_of 0 ++ (0 ∷ drop (1 + room_header) b))

-- a room made empty: where the memory is too short nothing changes, and that is told
pub record MakesEmpty (s n : ℕ) (b left : List ℕ) (made : Bool) : Type 0 where
  pub answers : made ≡ fits_room s n b
  pub leaves : left ≡ cond (fits_room s n b) (emptied s n b) b

-- how the record of a seat that is taken begins: the key, the clock's 8 bytes, none outstanding, and a table of routes that lists none. Document 02: "An
-- arrival starts with the last clock as its ping time." The clock is copied byte for byte, so that nothing is asked of it.
unfoldable pub new_seat : List ℕ → Key → List ℕ
new_seat clock key = key ++ (clock ++ (word_of 0 ++ (0 ∷ [])))

-- the clock replaced
unfoldable pub with_clock : List ℕ → ℕ → List ℕ
with_clock b time = splice b clock_start (word_of time) word_bytes

-- the time and the number of the ping of seat i replaced, and the number alone
unfoldable pub with_ping_at : ℕ → ℕ → List ℕ → ℕ → ℕ → ℕ → List ℕ
with_ping_at s n b i time number = splice b (ping_start s n i) (word_of time ++ word_of number) seat_header

unfoldable pub with_outstanding : ℕ → ℕ → List ℕ → ℕ → ℕ → List ℕ
with_outstanding s n b i number = splice b (outstanding_start s n i) (word_of number) word_bytes

-- the table of seats replaced, and the table of routes of seat i
unfoldable pub with_seats : ℕ → ℕ → List ℕ → List ℕ → List ℕ
with_seats s n b table = splice b room_header table (seats_bytes s n)

unfoldable pub with_routes : ℕ → ℕ → List ℕ → ℕ → List ℕ → List ℕ
with_routes s n b i table = splice b (routes_start s n i) table (routes_bytes n)

-- where the memory is too short, or there is no seat i, nothing changes
unfoldable pub store : ℕ → ℕ → List ℕ → Change → List ℕ
store s n b (seat_taken i key) = cond (fits_room s n b) (with_seats s n b (put_in s (seat_bytes n) (seat_table s n b) i (new_seat (word_at clock_start b) key))) b
store s n b (seat_emptied i) = cond (fits_room s n b) (with_seats s n b (freed_in s (seat_table s n b) i)) b
store s n b (route_given i j key) = cond (fits_room s n b && ltb i s) (with_routes s n b i (put_in n key_bytes (routes_table s n b i) j key)) b
store s n b (route_freed i j) = cond (fits_room s n b && ltb i s) (with_routes s n b i (freed_in n (routes_table s n b i) j)) b
store s n b (clock_set time) = cond (fits_room s n b) (with_clock b time) b
store s n b (ping_sent i time number) = cond (fits_room s n b && ltb i s) (with_ping_at s n b i time number) b
store s n b (ping_answered i) = cond (fits_room s n b && ltb i s) (with_outstanding s n b i 0) b

unfoldable pub store_all : ℕ → ℕ → List ℕ → List Change → List ℕ
store_all s n b [] = b
store_all s n b (change ∷ changes) = store_all s n (store s n b change) changes
