-- A store keeps bytes: of memory that is bytes, with a key that is bytes, it makes memory that is bytes. So does emptying.
use mathlib.Core.Bool.{Bool, true, false, ◌&&◌, cond}
use mathlib.Core.List.{List, [], ◌∷◌, ◌++◌}
use Prim.Native.Nat.{ℕ, zero, suc, ◌+◌, ◌<◌}
use native.Mathlib.Omega.{arith}
use lib.Dec.{ltb}
use lib.ListN.{drop, replicate}
use Rattle.wire.specs.Numbers.{Bytes}
use Rattle.wire.proofs.Numbers.{bytes_append, bytes_take, bytes_drop, bytes_bytes_of}
use Rattle.table_laws.specs.Table.{put_in, freed_in}
use Rattle.table_laws.proofs.BytesKept.{bytes_splice, put_in_bytes, freed_in_bytes}
use Rattle.rules.specs.Room.{Key}
use Rattle.rules.specs.Outcome.{Change, seat_taken, seat_emptied, route_given, route_freed, clock_set, ping_sent, ping_answered}
use Rattle.room_laws.specs.Layout.{word_bytes, clock_start, key_bytes, seat_header, routes_bytes, seat_bytes, seats_bytes, room_header, fits_room, seat_table, ping_start, outstanding_start, routes_start, routes_table}
use Rattle.room_laws.specs.View.{word_at}
use Rattle.room_laws.specs.Store.{word_of, emptied, new_seat, with_clock, with_ping_at, with_outstanding, with_seats, with_routes, store}
use Rattle.room_laws.proofs.BuiltUp.{Brings}

pub bytes_replicate : (n x : ℕ) → x < 256 → Bytes (replicate n x)
bytes_replicate zero x h = tt
bytes_replicate (suc n) x h = (h, bytes_replicate n x h)

bytes_new_seat : (clock : List ℕ) (key : Key) → Bytes clock → Bytes key → Bytes (new_seat clock key)
unfolding new_seat
bytes_new_seat clock key h g =
    bytes_append key (clock ++ (word_of 0 ++ (0 ∷ []))) g
    (bytes_append clock (word_of 0 ++ (0 ∷ [])) h (bytes_append (word_of 0) (0 ∷ []) (bytes_bytes_of word_bytes 0) (omega arith, tt)))

module _ (s n : ℕ) (b : List ℕ) (g : Bytes b) where
  bytes_seats : Bytes (seat_table s n b)
  unfolding seat_table
  bytes_seats = bytes_take (seats_bytes s n) (drop room_header b) (bytes_drop room_header b g)

  bytes_routes : (i : ℕ) → Bytes (routes_table s n b i)
  unfolding routes_table
  bytes_routes i = bytes_take (routes_bytes n) (drop (routes_start s n i) b) (bytes_drop (routes_start s n i) b g)

  seats_back : (table : List ℕ) → Bytes table → Bytes (with_seats s n b table)
  unfolding with_seats
  seats_back table h = bytes_splice b room_header table (seats_bytes s n) g h

  routes_back : (i : ℕ) (table : List ℕ) → Bytes table → Bytes (with_routes s n b i table)
  unfolding with_routes
  routes_back i table h = bytes_splice b (routes_start s n i) table (routes_bytes n) g h

  either : (u : Bool) (c : List ℕ) → Bytes c → Bytes (cond u c b)
  either true c h = h
  either false c h = g

  pub store_bytes : (change : Change) → Brings Bytes change → Bytes (store s n b change)
  unfolding store
  store_bytes (seat_taken i key) h =
      let clock = word_at clock_start b in
      let new = new_seat clock key in
      either (fits_room s n b) (with_seats s n b (put_in s (seat_bytes n) (seat_table s n b) i new))
      (seats_back (put_in s (seat_bytes n) (seat_table s n b) i new)
      (put_in_bytes s (seat_table s n b) bytes_seats (seat_bytes n) i new
      (bytes_new_seat clock key (bytes_take word_bytes (drop clock_start b) (bytes_drop clock_start b g)) h)))
  store_bytes (seat_emptied i) h =
      either (fits_room s n b) (with_seats s n b (freed_in s (seat_table s n b) i))
      (seats_back (freed_in s (seat_table s n b) i) (freed_in_bytes s (seat_table s n b) bytes_seats i))
  store_bytes (route_given i j key) h =
      either (fits_room s n b && ltb i s) (with_routes s n b i (put_in n key_bytes (routes_table s n b i) j key))
      (routes_back i (put_in n key_bytes (routes_table s n b i) j key) (put_in_bytes n (routes_table s n b i) (bytes_routes i) key_bytes j key h))
  store_bytes (route_freed i j) h =
      either (fits_room s n b && ltb i s) (with_routes s n b i (freed_in n (routes_table s n b i) j))
      (routes_back i (freed_in n (routes_table s n b i) j) (freed_in_bytes n (routes_table s n b i) (bytes_routes i) j))
  store_bytes (clock_set time) h =
      either (fits_room s n b) (with_clock b time)
      (unfold with_clock in bytes_splice b clock_start (word_of time) word_bytes g (bytes_bytes_of word_bytes time))
  store_bytes (ping_sent i time number) h =
      either (fits_room s n b && ltb i s) (with_ping_at s n b i time number)
      (unfold with_ping_at in bytes_splice b (ping_start s n i) (word_of time ++ word_of number) seat_header g
      (bytes_append (word_of time) (word_of number) (bytes_bytes_of word_bytes time) (bytes_bytes_of word_bytes number)))
  store_bytes (ping_answered i) h =
      either (fits_room s n b && ltb i s) (with_outstanding s n b i 0)
      (unfold with_outstanding in bytes_splice b (outstanding_start s n i) (word_of 0) word_bytes g (bytes_bytes_of word_bytes 0))

  pub emptied_bytes : s < 256 → n < 256 → Bytes (emptied s n b)
  unfolding emptied
  emptied_bytes h k =
      (h, (k, bytes_append (word_of 0) (0 ∷ drop (1 + room_header) b) (bytes_bytes_of word_bytes 0) (omega arith, bytes_drop (1 + room_header) b g)))
