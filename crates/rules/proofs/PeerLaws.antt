-- Laws of the search for a connected peer: it finds one exactly where another seat holds the wanted key with a route that names the client, and then
-- that seat and that route's number. Assumes nothing.
use mathlib.Core.Path.{◌≡◌, refl, ◌∙◌}
use mathlib.Core.Bool.{Bool, true, false}
use mathlib.Core.Logic.{◌≢◌}
use Prim.Native.Nat.{ℕ, ◌-◌}
use lib.Dec.{eqb}
use borrow.Author.Tests.{eqb-false, ne_eqb}
use Rattle.key.proofs.Same.{same_refl}
use Rattle.rules.specs.Room.{Sizes, Key, free, wants, Held, vacant, holds, Room, set_key, Found, none, at, find, seat_of, route_to, routes_of, seat_at, route_at, first_number, number_of_place, joined}
use Rattle.rules.specs.Whole.{Whole}
use Rattle.rules.specs.Outcome.{joined_by, peer_at, peer_in, peer}
use Rattle.rules.proofs.FindLaws.{find_hit, find_once, held_of, routes_held, seat_of_holds, route_to_wants, route_at_place, wanted_place}
use Rattle.rules.proofs.Whole.{wanted_once, key_found}

-- a peer sits in another seat, and its route at the place names the key
pub record PeerHas (room : Room) (seat : ℕ) (key wanted : Key) (other number : ℕ) : Type 0 where
  pub apart : seat ≢ other
  pub held : Held
  pub sits : seat_at room other ≡ holds (set_key held wanted)
  pub asked : route_at held.routes number ≡ wants key

module _ (room : Room) (seat : ℕ) (key wanted : Key) where
  place_found : (other place i : ℕ) → seat ≢ i → seat_at room i ≡ holds (set_key (held_of (seat_at room i)) wanted) → (f : Found) → find (route_to key) (held_of (seat_at room i)).routes ≡ f
      → joined_by i f ≡ joined other place → PeerHas room seat key wanted other (number_of_place place)
  unfolding joined_by
  place_found other place i ne sits none q h = absurd (cc)
  place_found other place i ne sits (at j) q h =
      let a : i ≡ other = cc in
      let b : j ≡ place = cc in
      rw (← a, ← b)
      (record {
        apart = ne;
        held = held_of (seat_at room i);
        sits = sits;
        asked = route_at_place (held_of (seat_at room i)).routes j ∙ route_to_wants key _ (find_hit (route_to key) free (held_of (seat_at room i)).routes j q);
      })

  seat_found_lem : (other place : ℕ) (f : Found) → find (seat_of wanted) room.seats ≡ f → peer_in f room seat key ≡ joined other place → PeerHas room seat key wanted other (number_of_place place)
  unfolding peer_in peer_at seat_at
  seat_found_lem other place none q h = absurd (cc)
  seat_found_lem other place (at i) q h = go (eqb seat i) refl h
    where
      go : (t : Bool) → eqb seat i ≡ t → peer_at t room key i ≡ joined other place → PeerHas room seat key wanted other (number_of_place place)
      go true e h = absurd (cc)
      go false e h =
          place_found other place i (eqb-false seat i e) (seat_of_holds wanted (seat_at room i) (find_hit (seat_of wanted) vacant room.seats i q))
          (find (route_to key) (held_of (seat_at room i)).routes) refl (rw (routes_held (seat_at room i)) at h)

  pub peer_has : (other place : ℕ) → peer room seat key wanted ≡ joined other place → PeerHas room seat key wanted other (number_of_place place)
  unfolding peer
  peer_has other place e = seat_found_lem other place (find (seat_of wanted) room.seats) refl e

  pub has_peer : (sizes : Sizes) → Whole sizes room → (other number : ℕ) → PeerHas room seat key wanted other number → peer room seat key wanted ≡ joined other (number - first_number)
  unfolding peer peer_in peer_at joined_by routes_of route_to
  has_peer sizes whole other number has =
      rw (
        key_found sizes room whole other (set_key has.held wanted) has.sits,
        ne_eqb seat other has.apart,
        has.sits,
        find_once (route_to key) free has.held.routes (number - first_number) refl (wanted_once sizes room whole other (set_key has.held wanted) has.sits key)
            (rw (wanted_place has.held.routes number key has.asked) (same_refl key)),
      )
