-- How a writer judges. Document 01, "Relay packets": "A writer makes exactly the bytes its reader takes and refuses by the same rules, judged
-- on the packet it would make, with 5 for a data number below 16".
use Rattle.std.specs.Prelude.{List, ◌∷◌, ◌≡◌, ℕ, leb, length}
use Rattle.refusal.specs.declared.Refusal.TheVariants.{PacketSize, UnexpectedKind}
use Rattle.packet_laws.specs.Read.{Read, packet, check}
use Rattle.packet_laws.specs.Table.{first_number, size_right}
use Rattle.packet_laws.specs.FromClient as client
use Rattle.packet_laws.specs.FromRelay as relay

-- a data number below 16 would be read as another kind, so the writer gives 5 for it, after 4
unfoldable pub data_number : {A : Type 0} → ℕ → List ℕ → Read A → Read A
data_number number bytes after = check (size_right (length (number ∷ bytes))) PacketSize (check (leb first_number number) UnexpectedKind after)

-- how a client's writer judges the packet that it would make: as the relay's reader does
unfoldable pub client_judged : client.FromClient → Read client.FromClient
client_judged (client.routing_request key) = client.relay_read (client.client_bytes (client.routing_request key))
client_judged (client.drop_route number) = client.relay_read (client.client_bytes (client.drop_route number))
client_judged (client.ping n) = client.relay_read (client.client_bytes (client.ping n))
client_judged (client.pong n) = client.relay_read (client.client_bytes (client.pong n))
client_judged (client.oob_send key bytes) = client.relay_read (client.client_bytes (client.oob_send key bytes))
client_judged (client.routed_data number bytes) = data_number number bytes (client.relay_read (client.client_bytes (client.routed_data number bytes)))

-- how the relay's writer judges the packet that it would make: as the client's reader does
unfoldable pub relay_judged : relay.FromRelay → Read relay.FromRelay
relay_judged (relay.routing_response number key) = relay.client_read (relay.relay_bytes (relay.routing_response number key))
relay_judged (relay.connect_notice number) = relay.client_read (relay.relay_bytes (relay.connect_notice number))
relay_judged (relay.disconnect_notice number) = relay.client_read (relay.relay_bytes (relay.disconnect_notice number))
relay_judged (relay.ping n) = relay.client_read (relay.relay_bytes (relay.ping n))
relay_judged (relay.pong n) = relay.client_read (relay.relay_bytes (relay.pong n))
relay_judged (relay.oob_received key bytes) = relay.client_read (relay.relay_bytes (relay.oob_received key bytes))
relay_judged (relay.routed_data number bytes) = data_number number bytes (relay.client_read (relay.relay_bytes (relay.routed_data number bytes)))

-- a packet that a client's writer takes, and the bytes that it makes of it; and so for the relay's
pub record ClientMakes (p : client.FromClient) (bytes : List ℕ) : Type 0 where
  pub fits : client.FitsClient p
  pub taken : client_judged p ≡ packet p
  pub makes : client.client_bytes p ≡ bytes

pub record RelayMakes (p : relay.FromRelay) (bytes : List ℕ) : Type 0 where
  pub fits : relay.FitsRelay p
  pub taken : relay_judged p ≡ packet p
  pub makes : relay.relay_bytes p ≡ bytes
