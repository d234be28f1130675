-- What the relay's reader shows of a packet tells what was read; what a packet asks for is then the call's outcome.
use mathlib.Core.Path.{◌≡◌, refl, sym, ap, ap₂, ◌∙◌}
use mathlib.Core.Bool.{Bool, true, false, not}
use mathlib.Core.List.{List}
use Prim.Native.Nat.{ℕ}
use lib.ListN.{drop}
use Rattle.std.proofs.Common.{Err}
use Rattle.key.specs.Keys.{key_of}
use Rattle.refusal.specs.declared.Refusal.{Refusal}
use Rattle.refusal.specs.declared.Refusal.TheVariants.{NotSeated}
use Rattle.packet.specs.declared.ConnectionNumber.{ConnectionNumber}
use Rattle.packet.specs.declared.Part.{Part}
use Rattle.packet.specs.declared.relay.ClientPacket.{ClientPacket}
use Rattle.packet.specs.declared.relay.ClientPacket.TheVariants as shown
use Rattle.packet_laws.specs.Read.{Read, packet, refused}
use Rattle.packet_laws.specs.FromClient.{FromClient, routing_request, oob_send, routed_data, relay_read, key_from_client}
use Rattle.packet.specs.RelayReads.{shown_relay_read, client_packet_of, client_part}
use Rattle.rules.specs.Room.{Room, Seat, vacant, holds, is_vacant, seat_at, Held}
use Rattle.packet.specs.Parts.{part_of}
use Rattle.packet.proofs.RelayLaws.{relay_shown}
use Rattle.rules.specs.Call as call
use Rattle.rules.specs.Outcome.{act, act_on, outcome, packet_from}
use Rattle.room_laws.specs.View.{view_room}
use Rattle.room_laws.specs.Whole.{room_whole}
use Rattle.room_laws.specs.Lookup.{taken}
use Rattle.room_laws.proofs.LookupLaws.{taken_is}
use Rattle.relay_laws.specs.Calls.{Leaves}
use Rattle.relay.specs.Steps.{Shows}
use Rattle.relay_laws.proofs.OutcomeLeaves.{leaves_refused}

-- ---- what was read

module _ (bytes : List ℕ) (p : ClientPacket) (shows : Shows bytes p) where
  pub shows_as : (q : ClientPacket) → p ≡ q → relay_read bytes ≡ packet (client_packet_of bytes q)
  shows_as q e = relay_shown bytes p shows ∙ ap (λ (x : ClientPacket). packet (client_packet_of bytes x)) e

  pub shows_request : (k : ℕ) (key : List ℕ) → p ≡ shown.RoutingRequest k → key ≡ key_from_client (client_packet_of bytes p)
      → relay_read bytes ≡ packet (routing_request key)
  unfolding client_packet_of key_from_client
  shows_request k key e d =
      let d' : key ≡ key_of (drop k bytes) = d ∙ ap (λ (x : ClientPacket). key_from_client (client_packet_of bytes x)) e in
      shows_as (shown.RoutingRequest k) e ∙ ap (λ (y : List ℕ). packet (routing_request y)) (sym d')

  pub shows_oob : (k : ℕ) (part : Part) (key payload : List ℕ) → p ≡ shown.OobSend k part → key ≡ key_from_client (client_packet_of bytes p)
      → payload ≡ part_of bytes (client_part p) → relay_read bytes ≡ packet (oob_send key payload)
  unfolding client_packet_of key_from_client client_part
  shows_oob k part key payload e d f =
      let d' : key ≡ key_of (drop k bytes) = d ∙ ap (λ (x : ClientPacket). key_from_client (client_packet_of bytes x)) e in
      let f' : payload ≡ part_of bytes part = f ∙ ap (λ (x : ClientPacket). part_of bytes (client_part x)) e in
      shows_as (shown.OobSend k part) e ∙ ap₂ (λ (y z : List ℕ). packet (oob_send y z)) (sym d') (sym f')

  pub shows_data : (number : ConnectionNumber) (part : Part) (payload : List ℕ) → p ≡ shown.Data number part → payload ≡ part_of bytes part
      → relay_read bytes ≡ packet (routed_data number.0 payload)
  unfolding client_packet_of
  shows_data number part payload e f = shows_as (shown.Data number part) e ∙ ap (λ (z : List ℕ). packet (routed_data number.0 z)) (sym f)

pub shows_refused : (read : Read FromClient) (why : Refusal) → Err why ≡ shown_relay_read read → read ≡ refused why
unfolding shown_relay_read
shows_refused read why e = go read e
  where
    go : (r : Read FromClient) → Err why ≡ shown_relay_read r → r ≡ refused why
    go (packet p) e = cc
    go (refused w) e = let q : why ≡ w = cc in ap refused (sym q)

-- ---- what it asks for

module _ (s n : ℕ) (room : Room) (seat : ℕ) (b out : List ℕ) (given : call.Answer) (b' out' : List ℕ) where
  pub acted : (held : Held) (read : Read FromClient) (p : FromClient) → read ≡ packet p →
      Leaves s n (act p room seat held) b out given b' out' → Leaves s n (act_on read room seat held) b out given b' out'
  unfolding act_on
  acted held read p e w = rw e w

  -- the client in the seat
  pub from_seat : (held : Held) (bytes : List ℕ) → seat_at room seat ≡ holds held →
      Leaves s n (act_on (relay_read bytes) room seat held) b out given b' out' → Leaves s n (outcome room (call.packet_call seat bytes)) b out given b' out'
  unfolding outcome packet_from
  from_seat held bytes e w = rw e w

module _ (s n : ℕ) (room : Room) (seat : ℕ) (b out bytes : List ℕ) where
  pub turned_down : (held : Held) (read : Read FromClient) (why : Refusal) → read ≡ refused why →
      Leaves s n (act_on read room seat held) b out (call.refused why) b out
  unfolding act_on
  turned_down held read why e = rw e (leaves_refused s n b out why)

  pub from_nobody : seat_at room seat ≡ vacant → Leaves s n (outcome room (call.packet_call seat bytes)) b out (call.refused NotSeated) b out
  unfolding outcome packet_from
  from_nobody e = rw e (leaves_refused s n b out NotSeated)

pub from_empty_lem : (s n : ℕ) (b : List ℕ) → room_whole s n b ≡ true → (seat : ℕ) (out bytes : List ℕ) → taken s n b seat ≡ false →
    Leaves s n (outcome (view_room s n b) (call.packet_call seat bytes)) b out (call.refused NotSeated) b out
from_empty_lem s n b whole seat out bytes h = from_nobody s n (view_room s n b) seat b out bytes (empty (seat_at (view_room s n b) seat) (sym (taken_is s n b whole seat) ∙ h))
  where
    empty : (sits : Seat) → not (is_vacant sits) ≡ false → sits ≡ vacant
    empty vacant e = refl
    empty (holds held) e = let z : ◌≡◌ {A = Bool} true false = unfold is_vacant in e in cc
