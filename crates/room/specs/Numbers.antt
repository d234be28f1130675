-- Seats and connection numbers as the code has them, and the rules' places: route place j has the number 16 + j. "Seat numbers and route numbers are
-- kept apart": a seat and a number are types of their own in the code.
use Rattle.std.specs.Prelude.{cond, List, ℕ, ◌-◌, ◌≤◌, ltb, Option, Some, None}
use Rattle.key.specs.declared.Key as keys
use Rattle.packet.specs.declared.ConnectionNumber.{ConnectionNumber}
use Rattle.seat.specs.declared.Seat.{Seat}
use Rattle.rules.specs.Room.{Key, Route, free, wants, Found, none, at, first_number, number_of_place, Peer, alone, joined}
use Rattle.rules.specs.Outcome.{route_given, route_freed}
use Rattle.room.specs.declared.peer.Peer as code
use Rattle.room_laws.specs.Store.{store}
use Rattle.room_laws.specs.Lookup.{route_at_place}

unfoldable pub seat_found : Found → Option Seat
seat_found (at i) = Some (record { 0 = i })
seat_found none = None

unfoldable pub number_found : Found → Option ConnectionNumber
number_found (at j) = Some (record { 0 = number_of_place j })
number_found none = None

-- the route of seat i under a number; a number below the first names none
unfoldable pub route_numbered : ℕ → ℕ → List ℕ → ℕ → ℕ → Route
route_numbered s n b i number = cond (ltb number first_number) free (route_at_place s n b i (number - first_number))

-- the answer that says a route: the key that it wants, or none
unfoldable pub wanted_of : Route → Option keys.Key
wanted_of free = None
wanted_of (wants key) = Some (record { 0 = key })

-- the answer that says a peer, the same read back, and that its number is one
unfoldable pub peer_found : Peer → Option code.Peer
peer_found (joined seat place) = Some (record { seat = record { 0 = seat }; number = record { 0 = number_of_place place } })
peer_found alone = None

unfoldable pub peer_of : Option code.Peer → Peer
peer_of (Some peer) = joined peer.seat.0 (peer.number.0 - first_number)
peer_of None = alone

unfoldable pub PeerRight : Option code.Peer → Type 0
PeerRight (Some peer) = first_number ≤ peer.number.0
PeerRight None = Unit {0}

-- a route of seat i is given under a number, and freed; a number below the first names none, and nothing changes
unfoldable pub given_number : ℕ → ℕ → List ℕ → ℕ → ℕ → Key → List ℕ
given_number s n b i number key = cond (ltb number first_number) b (store s n b (route_given i (number - first_number) key))

unfoldable pub freed_number : ℕ → ℕ → List ℕ → ℕ → ℕ → List ℕ
freed_number s n b i number = cond (ltb number first_number) b (store s n b (route_freed i (number - first_number)))
