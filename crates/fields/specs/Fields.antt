-- The fields of a packet: the kind (16 for data), its connection number, its ping number, and where its payload stands. What a kind does not have is 0.
use Rattle.std.specs.Prelude.{ℕ}
use Rattle.fields.specs.declared.Fields.{Fields}
use Rattle.packet.specs.declared.relay.ClientPacket as shown-client
use Rattle.packet.specs.declared.client.RelayPacket as shown-relay
use Rattle.packet_laws.specs.Table.{first_number, kind_and_key}
use Rattle.packet_laws.specs.FromClient as client
use Rattle.packet_laws.specs.FromRelay as relay

-- kind, number, ping number, start and length of the payload
abbrev pub fields : ℕ → ℕ → ℕ → ℕ → ℕ → Fields
fields kind number ping start length = record { kind = kind; number = number; ping = ping; start = start; length = length }

unfoldable pub client_fields : client.FromClient → Fields
client_fields (client.routing_request key) = fields 0 0 0 0 0
client_fields (client.drop_route number) = fields 3 number 0 0 0
client_fields (client.ping n) = fields 4 0 n 0 0
client_fields (client.pong n) = fields 5 0 n 0 0
client_fields (client.oob_send key bytes) = fields 6 0 0 kind_and_key (lib.ListN.length bytes)
client_fields (client.routed_data number bytes) = fields first_number number 0 1 (lib.ListN.length bytes)

unfoldable pub relay_fields : relay.FromRelay → Fields
relay_fields (relay.routing_response number key) = fields 1 number 0 0 0
relay_fields (relay.connect_notice number) = fields 2 number 0 0 0
relay_fields (relay.disconnect_notice number) = fields 3 number 0 0 0
relay_fields (relay.ping n) = fields 4 0 n 0 0
relay_fields (relay.pong n) = fields 5 0 n 0 0
relay_fields (relay.oob_received key bytes) = fields 7 0 0 kind_and_key (lib.ListN.length bytes)
relay_fields (relay.routed_data number bytes) = fields first_number number 0 1 (lib.ListN.length bytes)

-- the same of the readers' answers
unfoldable pub client_shown : shown-client.ClientPacket → Fields
client_shown (shown-client.TheVariants.RoutingRequest key) = fields 0 0 0 0 0
client_shown (shown-client.TheVariants.DropRoute number) = fields 3 number.0 0 0 0
client_shown (shown-client.TheVariants.Ping n) = fields 4 0 n 0 0
client_shown (shown-client.TheVariants.Pong n) = fields 5 0 n 0 0
client_shown (shown-client.TheVariants.OobSend key part) = fields 6 0 0 part.start part.length
client_shown (shown-client.TheVariants.Data number part) = fields first_number number.0 0 part.start part.length

unfoldable pub relay_shown : shown-relay.RelayPacket → Fields
relay_shown (shown-relay.TheVariants.RoutingResponse number key) = fields 1 number.0 0 0 0
relay_shown (shown-relay.TheVariants.ConnectNotification number) = fields 2 number.0 0 0 0
relay_shown (shown-relay.TheVariants.DisconnectNotification number) = fields 3 number.0 0 0 0
relay_shown (shown-relay.TheVariants.Ping n) = fields 4 0 n 0 0
relay_shown (shown-relay.TheVariants.Pong n) = fields 5 0 n 0 0
relay_shown (shown-relay.TheVariants.OobReceived key part) = fields 7 0 0 part.start part.length
relay_shown (shown-relay.TheVariants.Data number part) = fields first_number number.0 0 part.start part.length
