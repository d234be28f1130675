-- A tick is its parts, one after the other, each from the room that the last left: the clock is set; every seat that is overdue leaves, each as a Leave of its
-- own; and then every remaining seat that is due is pinged. So "leaves as if it had called" is said with the outcome of a Leave. Assumes nothing.
use mathlib.Core.Path.{◌≡◌, refl, sym, ap, ap₂, ◌∙◌}
use mathlib.Core.Bool.{Bool, true, false, cond, true≢false}
use mathlib.Core.List.{List, [], ◌∷◌, map}
use Prim.Native.Nat.{ℕ, suc}
use lib.Dec.{eqb}
use lib.ListN.{length}
use Rattle.rules.specs.Room.{Sizes, Key, Route, free, wants, Held, Seat, vacant, holds, Room, set_clock, set_seat, Found, none, at, find, seat_of, seat_at, place_when, places_from}
use Rattle.rules.specs.Call.{leave, Answer, accepted}
use Rattle.rules.specs.Outcome.{Outcome, clock_set, apply, apply_all, sent_bytes, accept, room_after, join_outcomes, and_then, both, peer_at, peer_in, peer, tell_peer, tell_peers, leave_from, is_overdue, is_due, leave_each, ping_each, leavers, due_seats, tick_from, outcome}
use Rattle.rules.proofs.TickLaws.{remaining, due_not_overdue, leaves_room, room_after_departures}

-- ---- the departures, one after the other

each_accepted : (room : Room) (seats : List ℕ) → (leave_each room seats).answer ≡ accepted 0 (length (sent_bytes (leave_each room seats).sent))
unfolding leave_each accept
each_accepted room [] = refl
each_accepted room (seat ∷ seats) = refl

-- two that are accepted, the one after the other, where the second has no seat
both_accepted : (first second : Outcome) (a b : Answer) (seat count count' : ℕ) → a ≡ accepted seat count → b ≡ accepted 0 count' → join_outcomes a b first second ≡ both first second
unfolding join_outcomes
both_accepted first second a b seat count count' ea eb = rw (ea, eb)

-- a seat that holds a client leaves, as it does by a Leave, and then the others from the room that it left
pub leave_then : (sizes : Sizes) (room : Room) (seat : ℕ) (held : Held) → seat_at room seat ≡ holds held
    → (seats : List ℕ) → leave_each room (seat ∷ seats) ≡ and_then sizes room (outcome room (leave seat)) (λ room'. leave_each room' seats)
unfolding leave_each leave_from outcome accept room_after apply_all apply and_then
leave_then sizes room seat held sits seats =
    rw sits (sym (both_accepted _ (leave_each (set_seat room seat vacant) seats) _ _ seat _ _ refl (each_accepted (set_seat room seat vacant) seats)))

-- what a client that leaves tells does not go by the clock
module _ (room : Room) (time : ℕ) where
  peer_clock : (seat : ℕ) (key wanted : Key) → peer (set_clock room time) seat key wanted ≡ peer room seat key wanted
  unfolding peer peer_in
  peer_clock seat key wanted = go (find (seat_of wanted) room.seats)
    where
      at_clock : (t : Bool) (other : ℕ) → peer_at t (set_clock room time) key other ≡ peer_at t room key other
      at_clock true other = unfold peer_at in refl
      at_clock false other = unfold peer_at seat_at in refl

      go : (f : Found) → peer_in f (set_clock room time) seat key ≡ peer_in f room seat key
      go none = refl
      go (at other) = at_clock (eqb seat other) other

  tells_clock : (seat : ℕ) (key : Key) (routes : List Route) → tell_peers (set_clock room time) seat key routes ≡ tell_peers room seat key routes
  unfolding tell_peers tell_peer
  tells_clock seat key [] = refl
  tells_clock seat key (free ∷ routes) = tells_clock seat key routes
  tells_clock seat key (wants wanted ∷ routes) = rw (peer_clock seat key wanted, tells_clock seat key routes)

  pub leave_clock : (seat : ℕ) → leave_from (seat_at (set_clock room time) seat) (set_clock room time) seat ≡ leave_from (seat_at room seat) room seat
  unfolding seat_at leave_from
  leave_clock seat = go (seat_at room seat)
    where
      go : (s : Seat) → leave_from s (set_clock room time) seat ≡ leave_from s room seat
      go vacant = refl
      go (holds held) = rw (tells_clock seat held.key held.routes)

-- ---- the remaining seats

remaining_due : (time : ℕ) (s : Seat) → is_due time (remaining time s) ≡ is_due time s
unfolding is_due
remaining_due time s = go (is_due time s) refl (is_overdue time s) refl
  where
    go : (t : Bool) → is_due time s ≡ t → (u : Bool) → is_overdue time s ≡ u → is_due time (cond u vacant s) ≡ t
    go true d true o = absurd (true≢false (sym o ∙ due_not_overdue time s d))
    go false d true o = refl
    go t d false o = d

-- of the remaining seats the same are due as of all: who leaves has a ping outstanding
pub remaining_places : (time from : ℕ) (l : List Seat) → places_from (is_due time) from (map (remaining time) l) ≡ places_from (is_due time) from l
unfolding places_from
remaining_places time from [] = refl
remaining_places time from (s ∷ l) = ap₂ (λ (t : Bool) (later : List ℕ). place_when t from later) (remaining_due time s) (remaining_places time (suc from) l)

module _ (sizes : Sizes) (room : Room) (time number : ℕ) where
  -- those who are pinged, by the room that the departures leave
  pub pinged_then : due_seats time (room_after sizes (set_clock room time) (leave_each (set_clock room time) (leavers time room))) ≡ due_seats time room
  unfolding room_after due_seats
  pinged_then =
      ap (λ (r : Room). places_from (is_due time) 0 r.seats) (leaves_room sizes (set_clock room time) (leavers time room) ∙ room_after_departures sizes room time number)
      ∙ remaining_places time 0 room.seats

  -- the departures and then the pings
  abbrev departures : Outcome
  departures = leave_each (set_clock room time) (leavers time room)

  pings_then : and_then sizes (set_clock room time) departures (λ room''. ping_each time number (due_seats time room'')) ≡ both departures (ping_each time number (due_seats time room))
  unfolding and_then ping_each accept
  pings_then = rw pinged_then (both_accepted _ _ _ _ 0 _ _ (each_accepted (set_clock room time) (leavers time room)) refl)

  -- THE LAW: "First, in rising seat order, every seat [..] leaves as if it had called. Then every remaining seat [..] is pinged in that order."
  pub tick_in_turn : tick_from room time number
      ≡ and_then sizes room (accept 0 (clock_set time ∷ []) [])
      (λ room'. and_then sizes room' (leave_each room' (leavers time room')) (λ room''. ping_each time number (due_seats time room'')))
  unfolding tick_from room_after apply_all apply accept leavers
  tick_in_turn = sym (unfold and_then in rw pings_then (both_accepted _ _ _ _ 0 _ _ refl refl))
