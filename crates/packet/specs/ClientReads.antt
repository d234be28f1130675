-- The client's reader as code: for each case of its answer, document 01's packet or refusal.
use Rattle.std.specs.Prelude.{List, ◌≡◌, ℕ, length, drop, Result, Ok, Err}
use Rattle.key.specs.Keys.{key_of}
use Rattle.packet.specs.declared.Part.{Part}
use Rattle.packet.specs.declared.client.RelayPacket.{RelayPacket}
use Rattle.packet.specs.declared.client.RelayPacket.TheVariants.{RoutingResponse, ConnectNotification, DisconnectNotification, Ping, Pong, OobReceived, Data}
use Rattle.refusal.specs.declared.Refusal.{Refusal}
use Rattle.packet_laws.specs.Read.{Read, packet, refused}
use Rattle.packet_laws.specs.FromRelay.{FromRelay, routing_response, connect_notice, disconnect_notice, ping, pong, oob_received, routed_data, client_read}
use Rattle.packet_laws.specs.Table.{kind_and_key}
use Rattle.packet.specs.Parts.{part_of, no_part}

-- the packet that a case stands for, in the lent bytes
unfoldable pub relay_packet_of : List ℕ → RelayPacket → FromRelay
relay_packet_of bytes (RoutingResponse number key) = routing_response number.0 (key_of (drop key bytes))
relay_packet_of bytes (ConnectNotification number) = connect_notice number.0
relay_packet_of bytes (DisconnectNotification number) = disconnect_notice number.0
relay_packet_of bytes (Ping n) = ping n
relay_packet_of bytes (Pong n) = pong n
relay_packet_of bytes (OobReceived key part) = oob_received (key_of (drop key bytes)) (part_of bytes part)
relay_packet_of bytes (Data number part) = routed_data number.0 (part_of bytes part)

unfoldable pub client_read_of : List ℕ → Result RelayPacket Refusal → Read FromRelay
client_read_of bytes (Ok shown) = packet (relay_packet_of bytes shown)
client_read_of bytes (Err why) = refused why

-- where the parts of a packet stand: a key after the kind or after the number, a payload after the kind or after the key
unfoldable pub shown_relay : FromRelay → RelayPacket
shown_relay (routing_response number key) = RoutingResponse (record { 0 = number }) 2
shown_relay (connect_notice number) = ConnectNotification (record { 0 = number })
shown_relay (disconnect_notice number) = DisconnectNotification (record { 0 = number })
shown_relay (ping n) = Ping n
shown_relay (pong n) = Pong n
shown_relay (oob_received key bytes) = OobReceived 1 (record { start = kind_and_key; length = length bytes })
shown_relay (routed_data number bytes) = Data (record { 0 = number }) (record { start = 1; length = length bytes })

unfoldable pub shown_client_read : Read FromRelay → Result RelayPacket Refusal
shown_client_read (packet p) = Ok (shown_relay p)
shown_client_read (refused why) = Err why

-- the reader's answer: it stands for what document 01 has a client read, and each place is the packet's own
pub record ClientReads (bytes : List ℕ) (answer : Result RelayPacket Refusal) : Type 0 where
  pub means : client_read_of bytes answer ≡ client_read bytes
  pub exact : answer ≡ shown_client_read (client_read bytes)

-- the part of the lent packet that a case names as its payload
unfoldable pub relay_part : RelayPacket → Part
relay_part (RoutingResponse number key) = no_part
relay_part (ConnectNotification number) = no_part
relay_part (DisconnectNotification number) = no_part
relay_part (Ping n) = no_part
relay_part (Pong n) = no_part
relay_part (OobReceived key part) = part
relay_part (Data number part) = part
