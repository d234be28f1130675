-- A client that comes back: document 02, "an arrival of a seated key has the outcome of the two calls in that order, notices and all". In a whole room the outcome
-- of such an arrival is that of a Leave of its seat, and then of an Arrive from the room that the Leave has left. It is accepted in every room: once its seat is
-- empty, some seat is the lowest empty one. And an arrival of a key that is not seated sends nothing. Assumes nothing.
use mathlib.Core.Path.{◌≡◌, refl, sym, ap, ◌∙◌}
use mathlib.Core.Bool.{true≢false}
use mathlib.Core.List.{[], ◌∷◌, append-nil}
use Prim.Native.Nat.{ℕ, ◌<◌}
use native.Mathlib.Omega.{arith}
use lib.ListN.{set, length, length-set}
use Rattle.rules.specs.Room.{Sizes, Key, Held, vacant, holds, Room, set_key, set_seat, Found, none, at, find, seat_of, is_vacant, seat_at}
use Rattle.rules.specs.Whole.{Whole}
use Rattle.rules.specs.Call.{arrive, leave}
use Rattle.rules.specs.Outcome.{seat_taken, seat_emptied, apply, apply_all, Outcome, refuse, accept, room_after, join_outcomes, and_then, tell_peers, leave_from, take_seat, arrive_from, outcome}
use Rattle.rules.proofs.FindLaws.{find_hit, find_none, find_within, set_default, held_of, seat_of_holds}
use Rattle.rules.proofs.Whole.{left_nowhere, whole_after}

-- ---- a key that is not seated

pub arrives_new : (room : Room) (key : Key) → find (seat_of key) room.seats ≡ none → outcome room (arrive key) ≡ take_seat (find is_vacant room.seats) key
unfolding outcome arrive_from
arrives_new room key e = rw e

take_sends_nothing : (lowest : Found) (key : Key) → (take_seat lowest key).sent ≡ []
unfolding take_seat refuse accept
take_sends_nothing none key = refl
take_sends_nothing (at seat) key = refl

pub new_sends_nothing : (room : Room) (key : Key) → find (seat_of key) room.seats ≡ none → (outcome room (arrive key)).sent ≡ []
new_sends_nothing room key e = ap (λ (o : Outcome). o.sent) (arrives_new room key e) ∙ take_sends_nothing (find is_vacant room.seats) key

-- ---- a seated key

module _ (room : Room) (key : Key) (seat : ℕ) (found : find (seat_of key) room.seats ≡ at seat) where
  -- what its seat holds
  abbrev pub held : Held
  held = set_key (held_of (seat_at room seat)) key

  pub sits_there : seat_at room seat ≡ holds held
  unfolding seat_at
  sits_there = seat_of_holds key (seat_at room seat) (find_hit (seat_of key) vacant room.seats seat found)

  -- the lowest empty seat once it has left
  pub record Lowest : Type 0 where
    pub place : ℕ
    pub lowest : find is_vacant (set room.seats seat vacant) ≡ at place

  pub some_empty : Lowest
  unfolding is_vacant
  some_empty = go (find is_vacant (set room.seats seat vacant)) refl
    where
      within : seat < length (set room.seats seat vacant)
      within = omega (arith, find_within (seat_of key) room.seats seat found, length-set room.seats seat vacant)

      go : (f : Found) → find is_vacant (set room.seats seat vacant) ≡ f → Lowest
      go none e =
          absurd (true≢false (sym (ap is_vacant (set_default room.seats seat vacant)) ∙ find_none is_vacant vacant (set room.seats seat vacant) e seat within))
      go (at place) e = record { place = place; lowest = e }

  -- what it comes to
  pub comes_back_to : (place : ℕ) → find is_vacant (set room.seats seat vacant) ≡ at place
      → outcome room (arrive key) ≡ accept place (seat_emptied seat ∷ seat_taken place key ∷ []) (tell_peers room seat key held.routes)
  unfolding outcome arrive_from leave_from take_seat join_outcomes accept
  comes_back_to place e = rw (found, sits_there, e, append-nil (tell_peers room seat key held.routes))

  -- once it has left, the room is whole
  pub left_whole : (sizes : Sizes) → Whole sizes room → Whole sizes (set_seat room seat vacant)
  unfolding outcome leave_from accept room_after apply_all apply
  left_whole sizes whole = rw sits_there at (whole_after sizes room whole (leave seat))

  -- the two calls in its place
  pub leaves_first : outcome room (leave seat) ≡ accept seat (seat_emptied seat ∷ []) (tell_peers room seat key held.routes)
  unfolding outcome leave_from
  leaves_first = rw sits_there

  pub takes_then : (sizes : Sizes) → Whole sizes room → (place : ℕ) → find is_vacant (set room.seats seat vacant) ≡ at place
      → outcome (set_seat room seat vacant) (arrive key) ≡ accept place (seat_taken place key ∷ []) []
  unfolding take_seat
  takes_then sizes whole place e = arrives_new (set_seat room seat vacant) key (left_nowhere sizes room whole key seat found) ∙ ap (λ (f : Found). take_seat f key) e

  -- THE LAW
  pub comes_back : (sizes : Sizes) → Whole sizes room
      → outcome room (arrive key) ≡ and_then sizes room (outcome room (leave seat)) (λ room'. outcome room' (arrive key))
  unfolding outcome arrive_from and_then leave_from accept room_after apply_all apply
  comes_back sizes whole = rw (found, sits_there, left_nowhere sizes room whole key seat found)
