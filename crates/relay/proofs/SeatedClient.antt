-- The client in a seat, by the bytes: the seat is taken, and what its numbers name is what its routes say.
use mathlib.Core.Path.{◌≡◌, refl, ap, ◌∙◌}
use mathlib.Core.Bool.{true, not, cond}
use mathlib.Core.List.{List}
use Prim.Native.Nat.{ℕ, ◌-◌, ◌≤◌}
use lib.Dec.{ltb}
use lib.ListN.{get_or}
use borrow.Author.Tests.{le-ltb}
use Rattle.std.proofs.Common.{Option, Some, None}
use Rattle.rules.specs.Room.{Key, Route, free, wants, Seat, is_vacant, routes_of, route_at, first_number}
use Rattle.rules.specs.Outcome.{peer}
use Rattle.key.specs.declared.Key as keys
use Rattle.room.specs.declared.peer.Peer.{Peer}
use Rattle.room_laws.specs.Layout.{routes_table}
use Rattle.room_laws.specs.View.{view_room, view_routes}
use Rattle.room_laws.specs.Whole.{room_whole}
use Rattle.room_laws.specs.Lookup.{taken, route_at_place, peer_wanting}
use Rattle.room.specs.Numbers.{route_numbered, wanted_of, peer_found}
use Rattle.room_laws.proofs.LookupLaws.{taken_is, route_at_place_is, peer_wanting_is}
use Rattle.relay.specs.Steps.{Sits}

-- what a lookup answers of a number is what its route says
pub wanted_free : (r : Route) → wanted_of r ≡ None → r ≡ free
unfolding wanted_of
wanted_free free e = refl
wanted_free (wants key) e = absurd (cc)

pub wanted_wants : (r : Route) (k : keys.Key) → wanted_of r ≡ Some k → r ≡ wants k.0
unfolding wanted_of
wanted_wants free k e = absurd (cc)
wanted_wants (wants key) k e = let q : record { 0 = key } ≡ k = cc in ap (λ (x : keys.Key). wants x.0) q

module _ (s n : ℕ) (b : List ℕ) (whole : room_whole s n b ≡ true) (i : ℕ) (key : Key) (sits : Sits s n b i key) where
  pub sits_taken : taken s n b i ≡ true
  unfolding is_vacant
  sits_taken = taken_is s n b whole i ∙ ap (λ (x : Seat). not (is_vacant x)) sits

  sits_route : (j : ℕ) → route_at_place s n b i j ≡ get_or (view_routes n (routes_table s n b i)) j free
  unfolding routes_of
  sits_route j = route_at_place_is s n b whole i sits_taken j ∙ ap (λ (x : Seat). get_or (routes_of x) j free) sits

  pub sits_numbered : (number : ℕ) → route_numbered s n b i number ≡ route_at (view_routes n (routes_table s n b i)) number
  unfolding route_numbered route_at
  sits_numbered number = ap (λ (r : Route). cond (ltb number first_number) free r) (sits_route (number - first_number))

pub route_of_number : (routes : List Route) (number : ℕ) → 16 ≤ number → route_at routes number ≡ get_or routes (number - 16) free
unfolding route_at
route_of_number routes number h = rw (le-ltb number first_number h)

-- the peer that the code found by the bytes is the one in the room
pub peer_is : (s n : ℕ) (b : List ℕ) → room_whole s n b ≡ true → (i : ℕ) (key wanted : Key) (p : Option Peer) → p ≡ peer_found (peer_wanting s n b i key wanted)
    → p ≡ peer_found (peer (view_room s n b) i key wanted)
peer_is s n b whole i key wanted p e = e ∙ ap peer_found (peer_wanting_is s n b whole i key wanted)
