-- The relay's reader as code: for each case of its answer, document 01's packet or refusal.
use Rattle.std.specs.Prelude.{List, ◌≡◌, ℕ, length, drop, Result, Ok, Err}
use Rattle.key.specs.Keys.{key_of}
use Rattle.refusal.specs.declared.Refusal.{Refusal}
use Rattle.refusal.specs.declared.Refusal.TheVariants.{UnexpectedKind}
use Rattle.packet.specs.declared.Part.{Part}
use Rattle.packet.specs.declared.relay.ClientPacket.{ClientPacket}
use Rattle.packet.specs.declared.relay.ClientPacket.TheVariants.{RoutingRequest, DropRoute, Ping, Pong, OobSend, Data}
use Rattle.packet_laws.specs.Read.{Read, packet, refused}
use Rattle.packet_laws.specs.FromClient.{FromClient, routing_request, drop_route, ping, pong, oob_send, routed_data, relay_read}
use Rattle.packet_laws.specs.Table.{kind_and_key}
use Rattle.packet.specs.Parts.{part_of, no_part}

-- the packet that a case stands for, in the lent bytes
unfoldable pub client_packet_of : List ℕ → ClientPacket → FromClient
client_packet_of bytes (RoutingRequest key) = routing_request (key_of (drop key bytes))
client_packet_of bytes (DropRoute number) = drop_route number.0
client_packet_of bytes (Ping n) = ping n
client_packet_of bytes (Pong n) = pong n
client_packet_of bytes (OobSend key part) = oob_send (key_of (drop key bytes)) (part_of bytes part)
client_packet_of bytes (Data number part) = routed_data number.0 (part_of bytes part)

unfoldable pub relay_read_of : List ℕ → Result ClientPacket Refusal → Read FromClient
relay_read_of bytes (Ok shown) = packet (client_packet_of bytes shown)
relay_read_of bytes (Err why) = refused why

-- where the parts of a packet stand: a key after the kind, a payload after the kind or after the key
unfoldable pub shown_client : FromClient → ClientPacket
shown_client (routing_request key) = RoutingRequest 1
shown_client (drop_route number) = DropRoute (record { 0 = number })
shown_client (ping n) = Ping n
shown_client (pong n) = Pong n
shown_client (oob_send key bytes) = OobSend 1 (record { start = kind_and_key; length = length bytes })
shown_client (routed_data number bytes) = Data (record { 0 = number }) (record { start = 1; length = length bytes })

unfoldable pub shown_relay_read : Read FromClient → Result ClientPacket Refusal
shown_relay_read (packet p) = Ok (shown_client p)
shown_relay_read (refused why) = Err why

-- the reader's answer: it stands for what document 01 has the relay read, and each place is the packet's own
pub record RelayReads (bytes : List ℕ) (answer : Result ClientPacket Refusal) : Type 0 where
  pub means : relay_read_of bytes answer ≡ relay_read bytes
  pub exact : answer ≡ shown_relay_read (relay_read bytes)

-- the refusal in a read that is one; of a packet, which has none, 5
unfoldable pub relay_refusal : Result ClientPacket Refusal → Refusal
relay_refusal (Ok shown) = UnexpectedKind
relay_refusal (Err why) = why

-- the part of the lent packet that a case names as its payload
unfoldable pub client_part : ClientPacket → Part
client_part (RoutingRequest key) = no_part
client_part (DropRoute number) = no_part
client_part (Ping n) = no_part
client_part (Pong n) = no_part
client_part (OobSend key part) = part
client_part (Data number part) = part
