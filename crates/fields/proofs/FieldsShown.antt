-- The fields of what a reader shows of a packet are those of the packet. Assumes nothing.
use mathlib.Core.Path.{◌≡◌, refl}
use Rattle.packet_laws.specs.FromClient as client
use Rattle.packet_laws.specs.FromRelay as relay
use Rattle.packet.specs.RelayReads.{shown_client}
use Rattle.packet.specs.ClientReads.{shown_relay}
use Rattle.fields.specs.Fields.{client_fields, relay_fields, client_shown, relay_shown}

pub client_fields_shown : (p : client.FromClient) → client_shown (shown_client p) ≡ client_fields p
unfolding client_shown shown_client client_fields
client_fields_shown (client.routing_request key) = refl
client_fields_shown (client.drop_route number) = refl
client_fields_shown (client.ping n) = refl
client_fields_shown (client.pong n) = refl
client_fields_shown (client.oob_send key bytes) = refl
client_fields_shown (client.routed_data number bytes) = refl

pub relay_fields_shown : (p : relay.FromRelay) → relay_shown (shown_relay p) ≡ relay_fields p
unfolding relay_shown shown_relay relay_fields
relay_fields_shown (relay.routing_response number key) = refl
relay_fields_shown (relay.connect_notice number) = refl
relay_fields_shown (relay.disconnect_notice number) = refl
relay_fields_shown (relay.ping n) = refl
relay_fields_shown (relay.pong n) = refl
relay_fields_shown (relay.oob_received key bytes) = refl
relay_fields_shown (relay.routed_data number bytes) = refl
