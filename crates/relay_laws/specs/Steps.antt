-- Steps that make a part of a call at a place of the output: a departure, a seat taken, the departures and the pings of a tick. Only private functions cite them.
use Rattle.std.specs.Prelude.{Bool, false, cond, List, [], ◌∷◌, ◌≡◌, ℕ, ◌+◌, ◌-◌, ◌≤◌, leb, ltb, length}
use Rattle.rules.specs.Room.{Key, Found, seat_at, find, seat_of, is_vacant}
use Rattle.rules.specs.Room as rules
use Rattle.rules.specs.Call.{Answer, accepted, refused}
use Rattle.rules.specs.Outcome.{Outcome, sent_bytes, accept, tell_peers, leave_from, take_seat, is_overdue, is_due, leave_each, ping_each, leavers, due_seats}
use Rattle.room_laws.specs.Layout.{routes_table}
use Rattle.room_laws.specs.View.{view_room, view_routes}
use Rattle.room_laws.specs.Store.{store_all}
use Rattle.records.specs.Output.{Appends}

-- the changes of an outcome are stored, and its records are written behind the first `at` bytes of the output, where the next goes behind `next`
pub record Made (s n : ℕ) (o : Outcome) (b out : List ℕ) (at : ℕ) (b' : List ℕ) (next : ℕ) (out' : List ℕ) : Type 0 where
  pub stores : b' ≡ store_all s n b o.changes
  pub writes : Appends o.sent out at next out'

-- the output has room for what the peers of a client are told behind the first `at` bytes, and for one record more: room for a record is asked for before it
-- is known whether the client has a peer under a number
abbrev pub TellsFit : ℕ → ℕ → List ℕ → ℕ → Key → List ℕ → ℕ → Type 0
TellsFit s n b i key out at = at + length (sent_bytes (tell_peers (view_room s n b) i key (view_routes n (routes_table s n b i)))) + 5 ≤ length out

-- a departure of the client in seat i, and the room for it
abbrev pub departure : ℕ → ℕ → List ℕ → ℕ → Outcome
departure s n b i = leave_from (seat_at (view_room s n b) i) (view_room s n b) i

abbrev pub LeaveFits : ℕ → ℕ → List ℕ → ℕ → List ℕ → ℕ → Type 0
LeaveFits s n b i out at = at + length (sent_bytes (departure s n b i).sent) + 5 ≤ length out

-- no change, and nothing sent
abbrev pub nothing : Outcome
nothing = accept 0 [] []

-- a departure of the client with a key, if it is seated
unfoldable pub departure_from : Found → ℕ → ℕ → List ℕ → Outcome
departure_from rules.none s n b = nothing
departure_from (rules.at seat) s n b = departure s n b seat

abbrev pub departure_of : ℕ → ℕ → List ℕ → Key → Outcome
departure_of s n b key = departure_from (find (seat_of key) (view_room s n b).seats) s n b

-- a key that sits nowhere takes the lowest empty seat of a room, once the call has written so many bytes: the answer counts them
unfoldable pub counting_all : ℕ → Answer → Answer
counting_all written (accepted seat count) = accepted seat written
counting_all written (refused why) = refused why

abbrev pub seat_taken_in : ℕ → ℕ → List ℕ → Key → Outcome
seat_taken_in s n b key = take_seat (find is_vacant (view_room s n b).seats) key

pub record TakesSeat (s n : ℕ) (key : Key) (b : List ℕ) (written : ℕ) (given : Answer) (b' : List ℕ) : Type 0 where
  pub answers : given ≡ counting_all written (seat_taken_in s n b key).answer
  pub stores : b' ≡ store_all s n b (seat_taken_in s n b key).changes

-- a time that is not before the clock
abbrev pub NotBefore : ℕ → ℕ → List ℕ → ℕ → Type 0
NotBefore s n b time = (view_room s n b).clock ≤ time

-- so many seconds or more have passed since a time; a later time has not come
unfoldable pub has_passed : ℕ → ℕ → ℕ → Bool
has_passed since time seconds = cond (ltb time since) false (leb seconds (time - since))

-- what a tick does with one seat: its client is put out if it is overdue, and pinged if it is due
unfoldable pub put_out_one : ℕ → ℕ → ℕ → List ℕ → ℕ → Outcome
put_out_one s n time b i = cond (is_overdue time (seat_at (view_room s n b) i)) (departure s n b i) nothing

unfoldable pub ping_one : ℕ → ℕ → ℕ → ℕ → List ℕ → ℕ → Outcome
ping_one s n time number b i = cond (is_due time (seat_at (view_room s n b) i)) (ping_each time number (i ∷ [])) nothing

-- the departures of a tick, and its pings
abbrev pub PutsOut : (s n time : ℕ) (b out b' : List ℕ) (next : ℕ) (out' : List ℕ) → Type 0
PutsOut s n time b out b' next out' = Made s n (leave_each (view_room s n b) (leavers time (view_room s n b))) b out 0 b' next out'

abbrev pub PingsDue : (s n time number : ℕ) (b out : List ℕ) (at : ℕ) (b' : List ℕ) (next : ℕ) (out' : List ℕ) → Type 0
PingsDue s n time number b out at b' next out' = Made s n (ping_each time number (due_seats time (view_room s n b))) b out at b' next out'
