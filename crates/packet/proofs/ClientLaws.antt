-- Laws of the client's reader: its answer as code stands for the packet read, its payload's place included. Assumes nothing.
use mathlib.Core.Path.{◌≡◌, ◌∙◌, refl, sym, ap, ap₂}
use mathlib.Core.List.{List}
use Prim.Native.Nat.{ℕ}
use native.Mathlib.Omega.{arith}
use lib.ListN.{length, get_or, drop, length-drop}
use lib.Seq.{drop-drop}
use Rattle.refusal.specs.declared.Refusal.{Refusal}
use Rattle.packet.specs.declared.client.RelayPacket.{RelayPacket}
use Rattle.packet.specs.declared.client.RelayPacket.TheVariants.{RoutingResponse, ConnectNotification, DisconnectNotification, Ping, Pong, OobReceived, Data}
use Rattle.std.specs.Prelude.{Result, Ok, Err}
use Rattle.packet_laws.specs.Read.{packet, refused}
use Rattle.packet_laws.specs.Table.{kind_of, body_of, client_takes}
use Rattle.packet_laws.specs.FromRelay.{FromRelay, routing_response, oob_received, routed_data, from_relay, client_read}
use Rattle.packet.specs.Parts.{part_of, start_of}
use Rattle.packet.specs.ClientReads.{ClientReads, relay_packet_of, client_read_of, shown_relay, shown_client_read, relay_part}
use Rattle.packet_laws.specs.FromRelay.{payload_from_relay, client_payload, key_from_relay, client_key}
use Rattle.packet_laws.proofs.KindLaws.{from_relay_data, size_bounds, length_response, length_oob_received}
use Rattle.key.proofs.Lent.{key_whole}
use Rattle.packet_laws.proofs.CheckLaws.{Passes}
use Rattle.packet_laws.proofs.ClientKinds.{ClientKind, is_response, is_connect, is_disconnect, is_ping, is_pong, is_oob, is_data, client_kind, ClientPasses, ClientChecks, taken, turned, client_checks, client_takes_lem}
use Rattle.packet.proofs.PartLaws.{part_tail, start_tail, no_part_lem, no_start}

-- ---- a packet that the client takes

-- each place in the answer holds what was read there
shown_is_read : (bytes : List ℕ) → Passes client_takes bytes → ClientKind (kind_of bytes)
    → relay_packet_of bytes (shown_relay (from_relay (kind_of bytes) (body_of bytes))) ≡ from_relay (kind_of bytes) (body_of bytes)
unfolding from_relay shown_relay relay_packet_of body_of
shown_is_read bytes both (is_response e) =
    let h = length_response (kind_of bytes) (length bytes) both.long e in
    let l = length-drop 2 bytes in
    let d : drop 1 (drop 1 bytes) ≡ drop 2 bytes = drop-drop 1 1 bytes in
    rw (e, d) (ap (routing_response (get_or (drop 1 bytes) 0 0)) (key_whole (drop 2 bytes) (omega arith)))
shown_is_read bytes both (is_connect e) = rw e
shown_is_read bytes both (is_disconnect e) = rw e
shown_is_read bytes both (is_ping e) = rw e
shown_is_read bytes both (is_pong e) = rw e
shown_is_read bytes both (is_oob e) =
    let h = length_oob_received (kind_of bytes) (length bytes) both.long e in
    let l = length-drop 1 bytes in
    let d : drop 32 (drop 1 bytes) ≡ drop 33 bytes = drop-drop 32 1 bytes in
    rw (e, d) (ap₂ oob_received (key_whole (drop 1 bytes) (omega arith)) (part_tail bytes 33 (omega arith)))
shown_is_read bytes both (is_data h) =
    let s = size_bounds (length bytes) both.size in
    rw (from_relay_data (kind_of bytes) (drop 1 bytes) h) (ap (routed_data (kind_of bytes)) (part_tail bytes 1 (omega arith)))

shown_at_place : (bytes : List ℕ) → Passes client_takes bytes → ClientKind (kind_of bytes)
    → start_of bytes (relay_part (shown_relay (from_relay (kind_of bytes) (body_of bytes)))) ≡ (relay_part (shown_relay (from_relay (kind_of bytes) (body_of bytes)))).start
unfolding from_relay shown_relay relay_part body_of
shown_at_place bytes both (is_response e) = rw e (no_start bytes)
shown_at_place bytes both (is_connect e) = rw e (no_start bytes)
shown_at_place bytes both (is_disconnect e) = rw e (no_start bytes)
shown_at_place bytes both (is_ping e) = rw e (no_start bytes)
shown_at_place bytes both (is_pong e) = rw e (no_start bytes)
shown_at_place bytes both (is_oob e) =
    let h = length_oob_received (kind_of bytes) (length bytes) both.long e in
    let d : drop 32 (drop 1 bytes) ≡ drop 33 bytes = drop-drop 32 1 bytes in
    rw (e, d) (start_tail bytes 33 (omega arith))
shown_at_place bytes both (is_data h) =
    let s = size_bounds (length bytes) both.size in
    rw (from_relay_data (kind_of bytes) (drop 1 bytes) h) (start_tail bytes 1 (omega arith))

-- ---- the answer as code stands for the packet read

accepted_means : (bytes : List ℕ) (p : FromRelay) → client_read bytes ≡ packet p → relay_packet_of bytes (shown_relay p) ≡ p
    → client_read_of bytes (shown_client_read (client_read bytes)) ≡ client_read bytes
unfolding client_read_of shown_client_read
accepted_means bytes p e h = rw e (ap packet h)

refused_means : (bytes : List ℕ) (why : Refusal) → client_read bytes ≡ refused why → client_read_of bytes (shown_client_read (client_read bytes)) ≡ client_read bytes
unfolding client_read_of shown_client_read
refused_means bytes why e = rw e

pub client_shown_means : (bytes : List ℕ) → client_read_of bytes (shown_client_read (client_read bytes)) ≡ client_read bytes
client_shown_means bytes = go (client_checks bytes)
  where
    go : ClientChecks bytes → client_read_of bytes (shown_client_read (client_read bytes)) ≡ client_read bytes
    go (taken p) =
        accepted_means bytes (from_relay (kind_of bytes) (body_of bytes)) (client_takes_lem bytes p) (shown_is_read bytes p.both (client_kind (kind_of bytes) p.both.kind))
    go (turned why e) = refused_means bytes why e

-- an answer with the right places stands for the packet read
pub client_reads : (bytes : List ℕ) (answer : Result RelayPacket Refusal) → answer ≡ shown_client_read (client_read bytes) → ClientReads bytes answer
client_reads bytes answer e = record { means = ap (client_read_of bytes) e ∙ client_shown_means bytes; exact = e }

pub client_reads_refused : (bytes : List ℕ) (why : Refusal) → client_read bytes ≡ refused why → ClientReads bytes (Err why)
unfolding shown_client_read
client_reads_refused bytes why e = client_reads bytes (Err why) (sym (ap shown_client_read e))

pub client_reads_packet : (bytes : List ℕ) (shown : RelayPacket) → ClientPasses bytes → shown ≡ shown_relay (from_relay (kind_of bytes) (body_of bytes))
    → ClientReads bytes (Ok shown)
unfolding shown_client_read
client_reads_packet bytes shown passed e = client_reads bytes (Ok shown) (ap Ok e ∙ sym (ap shown_client_read (client_takes_lem bytes passed)))

-- ---- what was read, by what the reader showed of it: the packet, its key, its payload, and that the payload stands where it is shown

part_payload : (bytes : List ℕ) (shown : RelayPacket) → part_of bytes (relay_part shown) ≡ payload_from_relay (relay_packet_of bytes shown)
unfolding part_of relay_part payload_from_relay relay_packet_of
part_payload bytes (RoutingResponse number key) = no_part_lem bytes
part_payload bytes (ConnectNotification number) = no_part_lem bytes
part_payload bytes (DisconnectNotification number) = no_part_lem bytes
part_payload bytes (Ping n) = no_part_lem bytes
part_payload bytes (Pong n) = no_part_lem bytes
part_payload bytes (OobReceived key part) = refl
part_payload bytes (Data number part) = refl

module _ (bytes : List ℕ) (shown : RelayPacket) (shows : Ok shown ≡ shown_client_read (client_read bytes)) where
  pub client_shown : client_read bytes ≡ packet (relay_packet_of bytes shown)
  unfolding client_read_of
  client_shown = sym (ap (client_read_of bytes) shows ∙ client_shown_means bytes)

  pub client_key_lem : key_from_relay (relay_packet_of bytes shown) ≡ client_key (client_read bytes)
  unfolding client_key
  client_key_lem = sym (ap client_key client_shown)

  pub client_payload_lem : part_of bytes (relay_part shown) ≡ client_payload (client_read bytes)
  unfolding client_payload
  client_payload_lem = part_payload bytes shown ∙ sym (ap client_payload client_shown)

  pub client_place : start_of bytes (relay_part shown) ≡ (relay_part shown).start
  unfolding shown_client_read
  client_place = go (client_checks bytes)
    where
      go : ClientChecks bytes → start_of bytes (relay_part shown) ≡ (relay_part shown).start
      go (taken p) =
          let read = client_takes_lem bytes p in
          let q : shown ≡ shown_relay (from_relay (kind_of bytes) (body_of bytes)) = cc in
          rw q (shown_at_place bytes p.both (client_kind (kind_of bytes) p.both.kind))
      go (turned why e) = cc
