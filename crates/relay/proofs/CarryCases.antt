-- What out-of-band sends and data leave, case by case.
use mathlib.Core.Path.{◌≡◌}
use mathlib.Core.List.{List, [], ◌∷◌}
use Prim.Native.Nat.{ℕ, ◌-◌, ◌≤◌}
use native.Mathlib.Omega.{arith}
use Rattle.refusal.specs.declared.Refusal.TheVariants.{NoSuchRoute, NotConnected}
use Rattle.packet_laws.specs.FromClient as client
use Rattle.packet_laws.specs.FromRelay as relay
use Rattle.rules.specs.Room.{Key, free, wants, Room, none, at, find, seat_of, route_at, Peer, alone, joined, first_number, number_of_place, Held}
use Rattle.rules.specs.Call.{Answer, accepted, refused}
use Rattle.rules.specs.Outcome.{act, oob_to, data_at, carry_to, peer, to}
use Rattle.records.specs.Output.{Appends}
use Rattle.relay_laws.specs.Calls.{Leaves}
use Rattle.relay_laws.proofs.OutcomeLeaves.{leaves_refused, leaves_none, leaves_sent}

module _ (s n : ℕ) (room : Room) (seat : ℕ) (held : Held) (b out : List ℕ) where
  pub oob_nobody : (wanted : Key) (bytes : List ℕ) → find (seat_of wanted) room.seats ≡ none → Leaves s n (act (client.oob_send wanted bytes) room seat held) b out (accepted seat 0) b out
  unfolding act oob_to
  oob_nobody wanted bytes e = rw e (leaves_none s n b out seat)

  pub oob_seat : (wanted : Key) (bytes : List ℕ) (other : ℕ) → find (seat_of wanted) room.seats ≡ at other → (r : ℕ) (left : List ℕ) →
      Appends (to other (relay.oob_received held.key bytes) ∷ []) out 0 r left → Leaves s n (act (client.oob_send wanted bytes) room seat held) b out (accepted seat r) b left
  unfolding act oob_to
  oob_seat wanted bytes other e r left w = rw e (leaves_sent s n b out seat (to other (relay.oob_received held.key bytes) ∷ []) r left w)

  pub data_free : (number : ℕ) (bytes : List ℕ) → route_at held.routes number ≡ free → Leaves s n (act (client.routed_data number bytes) room seat held) b out (refused NoSuchRoute) b out
  unfolding act data_at
  data_free number bytes e = rw e (leaves_refused s n b out NoSuchRoute)

  pub data_carried : (number : ℕ) (bytes : List ℕ) (wanted : Key) → route_at held.routes number ≡ wants wanted → (p : Peer) → p ≡ peer room seat held.key wanted →
      (given : Answer) (left : List ℕ) → Leaves s n (carry_to p seat bytes) b out given b left → Leaves s n (act (client.routed_data number bytes) room seat held) b out given b left
  unfolding act data_at
  data_carried number bytes wanted e p d given left w = rw (e, ← d) w

-- data for a peer changes nothing, so what it leaves of the output does not depend on the room
module _ (s n : ℕ) (b out : List ℕ) (seat : ℕ) (bytes : List ℕ) where
  pub carry_alone : Leaves s n (carry_to alone seat bytes) b out (refused NotConnected) b out
  unfolding carry_to
  carry_alone = leaves_refused s n b out NotConnected

  pub carry_joined : (other number : ℕ) → first_number ≤ number → (r : ℕ) (left : List ℕ) → Appends (to other (relay.routed_data number bytes) ∷ []) out 0 r left →
      Leaves s n (carry_to (joined other (number - first_number)) seat bytes) b out (accepted seat r) b left
  unfolding carry_to
  carry_joined other number h r left w =
      let e : number_of_place (number - first_number) ≡ number = omega arith in
      rw e (leaves_sent s n b out seat (to other (relay.routed_data number bytes) ∷ []) r left w)
