-- Laws of the relay's reader: its answer as code stands for the packet read, its payload's place included. Assumes nothing.
use mathlib.Core.Path.{◌≡◌, ◌∙◌, refl, sym, ap, ap₂}
use mathlib.Core.List.{List}
use Prim.Native.Nat.{ℕ}
use native.Mathlib.Omega.{arith}
use lib.ListN.{length, drop, length-drop}
use lib.Seq.{drop-drop}
use Rattle.refusal.specs.declared.Refusal.{Refusal}
use Rattle.packet.specs.declared.relay.ClientPacket.{ClientPacket}
use Rattle.packet.specs.declared.relay.ClientPacket.TheVariants.{RoutingRequest, DropRoute, Ping, Pong, OobSend, Data}
use Rattle.std.specs.Prelude.{Result, Ok, Err}
use Rattle.packet_laws.specs.Read.{packet, refused}
use Rattle.packet_laws.specs.Table.{kind_of, body_of, relay_takes}
use Rattle.packet_laws.specs.FromClient.{FromClient, routing_request, oob_send, routed_data, from_client, relay_read, payload_from_client, relay_payload, key_from_client, relay_key}
use Rattle.packet.specs.Parts.{part_of, start_of}
use Rattle.packet.specs.RelayReads.{RelayReads, client_packet_of, relay_read_of, shown_client, shown_relay_read, relay_refusal, client_part}
use Rattle.packet_laws.proofs.KindLaws.{from_client_data, size_bounds, length_request, length_oob_send}
use Rattle.key.proofs.Lent.{key_whole}
use Rattle.packet_laws.proofs.CheckLaws.{Passes, Checks, pass, fail, checks}
use Rattle.packet_laws.proofs.RelayKinds.{RelayKind, is_request, is_drop, is_ping, is_pong, is_oob, is_data, relay_kind, relay_takes_lem}
use Rattle.packet.proofs.PartLaws.{part_tail, start_tail, no_part_lem, no_start}

-- ---- a packet that the relay takes

module _ (bytes : List ℕ) (taken : Passes relay_takes bytes) where
  -- each place in the answer holds what was read there
  shown_is_read : RelayKind (kind_of bytes) → client_packet_of bytes (shown_client (from_client (kind_of bytes) (body_of bytes))) ≡ from_client (kind_of bytes) (body_of bytes)
  unfolding from_client shown_client client_packet_of body_of
  shown_is_read (is_request e) =
      let h = length_request (kind_of bytes) (length bytes) taken.long e in
      let l = length-drop 1 bytes in
      rw e (ap routing_request (key_whole (drop 1 bytes) (omega arith)))
  shown_is_read (is_drop e) = rw e
  shown_is_read (is_ping e) = rw e
  shown_is_read (is_pong e) = rw e
  shown_is_read (is_oob e) =
      let h = length_oob_send (kind_of bytes) (length bytes) taken.long e in
      let l = length-drop 1 bytes in
      let d : drop 32 (drop 1 bytes) ≡ drop 33 bytes = drop-drop 32 1 bytes in
      rw (e, d) (ap₂ oob_send (key_whole (drop 1 bytes) (omega arith)) (part_tail bytes 33 (omega arith)))
  shown_is_read (is_data h) =
      let s = size_bounds (length bytes) taken.size in
      rw (from_client_data (kind_of bytes) (drop 1 bytes) (omega arith)) (ap (routed_data (kind_of bytes)) (part_tail bytes 1 (omega arith)))

  shown_at_place : RelayKind (kind_of bytes)
      → start_of bytes (client_part (shown_client (from_client (kind_of bytes) (body_of bytes))))
      ≡ (client_part (shown_client (from_client (kind_of bytes) (body_of bytes)))).start
  unfolding from_client shown_client client_part body_of
  shown_at_place (is_request e) = rw e (no_start bytes)
  shown_at_place (is_drop e) = rw e (no_start bytes)
  shown_at_place (is_ping e) = rw e (no_start bytes)
  shown_at_place (is_pong e) = rw e (no_start bytes)
  shown_at_place (is_oob e) =
      let h = length_oob_send (kind_of bytes) (length bytes) taken.long e in
      let d : drop 32 (drop 1 bytes) ≡ drop 33 bytes = drop-drop 32 1 bytes in
      rw (e, d) (start_tail bytes 33 (omega arith))
  shown_at_place (is_data h) =
      let s = size_bounds (length bytes) taken.size in
      rw (from_client_data (kind_of bytes) (drop 1 bytes) (omega arith)) (start_tail bytes 1 (omega arith))

-- ---- the answer as code stands for the packet read

accepted_means : (bytes : List ℕ) (p : FromClient) → relay_read bytes ≡ packet p → client_packet_of bytes (shown_client p) ≡ p
    → relay_read_of bytes (shown_relay_read (relay_read bytes)) ≡ relay_read bytes
unfolding relay_read_of shown_relay_read
accepted_means bytes p e h = rw e (ap packet h)

refused_means : (bytes : List ℕ) (why : Refusal) → relay_read bytes ≡ refused why → relay_read_of bytes (shown_relay_read (relay_read bytes)) ≡ relay_read bytes
unfolding relay_read_of shown_relay_read
refused_means bytes why e = rw e

pub relay_shown_means : (bytes : List ℕ) → relay_read_of bytes (shown_relay_read (relay_read bytes)) ≡ relay_read bytes
unfolding relay_read
relay_shown_means bytes = go (checks relay_takes bytes (packet (from_client (kind_of bytes) (body_of bytes))))
  where
    go : Checks relay_takes bytes (packet (from_client (kind_of bytes) (body_of bytes))) → relay_read_of bytes (shown_relay_read (relay_read bytes)) ≡ relay_read bytes
    go (pass taken) =
        accepted_means bytes (from_client (kind_of bytes) (body_of bytes)) (relay_takes_lem bytes taken) (shown_is_read bytes taken (relay_kind (kind_of bytes) taken.kind))
    go (fail why e) = refused_means bytes why e

-- an answer with the right places stands for the packet read
pub relay_reads : (bytes : List ℕ) (answer : Result ClientPacket Refusal) → answer ≡ shown_relay_read (relay_read bytes) → RelayReads bytes answer
relay_reads bytes answer e = record { means = ap (relay_read_of bytes) e ∙ relay_shown_means bytes; exact = e }

pub relay_reads_refused : (bytes : List ℕ) (why : Refusal) → relay_read bytes ≡ refused why → RelayReads bytes (Err why)
unfolding shown_relay_read
relay_reads_refused bytes why e = relay_reads bytes (Err why) (sym (ap shown_relay_read e))

-- the refusal taken out of a read that is one is its own
pub refusal_own : (why : Refusal) → relay_refusal (Err why) ≡ why
unfolding relay_refusal
refusal_own why = refl

-- a read that is a refusal is the one that is taken out of it
pub refusal_taken : (read : Result ClientPacket Refusal) (why taken : Refusal) → read ≡ Err why → taken ≡ relay_refusal read → read ≡ Err taken
refusal_taken read why taken e t = e ∙ ap Err (sym (t ∙ ap relay_refusal e ∙ refusal_own why))

pub relay_reads_packet : (bytes : List ℕ) (shown : ClientPacket) → Passes relay_takes bytes → shown ≡ shown_client (from_client (kind_of bytes) (body_of bytes))
    → RelayReads bytes (Ok shown)
unfolding shown_relay_read
relay_reads_packet bytes shown taken e = relay_reads bytes (Ok shown) (ap Ok e ∙ sym (ap shown_relay_read (relay_takes_lem bytes taken)))

-- ---- what was read, by what the reader showed of it: the packet, its key, its payload, and that the payload stands where it is shown

part_payload : (bytes : List ℕ) (shown : ClientPacket) → part_of bytes (client_part shown) ≡ payload_from_client (client_packet_of bytes shown)
unfolding part_of client_part payload_from_client client_packet_of
part_payload bytes (RoutingRequest key) = no_part_lem bytes
part_payload bytes (DropRoute number) = no_part_lem bytes
part_payload bytes (Ping n) = no_part_lem bytes
part_payload bytes (Pong n) = no_part_lem bytes
part_payload bytes (OobSend key part) = refl
part_payload bytes (Data number part) = refl

module _ (bytes : List ℕ) (shown : ClientPacket) (shows : Ok shown ≡ shown_relay_read (relay_read bytes)) where
  pub relay_shown : relay_read bytes ≡ packet (client_packet_of bytes shown)
  unfolding relay_read_of
  relay_shown = sym (ap (relay_read_of bytes) shows ∙ relay_shown_means bytes)

  pub relay_key_lem : key_from_client (client_packet_of bytes shown) ≡ relay_key (relay_read bytes)
  unfolding relay_key
  relay_key_lem = sym (ap relay_key relay_shown)

  pub relay_payload_lem : part_of bytes (client_part shown) ≡ relay_payload (relay_read bytes)
  unfolding relay_payload
  relay_payload_lem = part_payload bytes shown ∙ sym (ap relay_payload relay_shown)

  pub relay_place : start_of bytes (client_part shown) ≡ (client_part shown).start
  unfolding relay_read shown_relay_read
  relay_place = go (checks relay_takes bytes (packet (from_client (kind_of bytes) (body_of bytes))))
    where
      go : Checks relay_takes bytes (packet (from_client (kind_of bytes) (body_of bytes))) → start_of bytes (client_part shown) ≡ (client_part shown).start
      go (pass taken) =
          let read = relay_takes_lem bytes taken in
          let q : shown ≡ shown_client (from_client (kind_of bytes) (body_of bytes)) = cc in
          rw q (shown_at_place bytes taken (relay_kind (kind_of bytes) taken.kind))
      go (fail why e) = cc
