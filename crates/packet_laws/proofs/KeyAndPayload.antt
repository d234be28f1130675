-- The key and the payload of a packet that has them, by where they stand in its bytes, at both ends: behind the kind, and behind the number of a response. What was
-- read has those of its packet, and a refused read has neither. Assumes nothing.
use mathlib.Core.Path.{◌≡◌, refl}
use mathlib.Core.List.{List, [], ◌∷◌, ◌++◌}
use Prim.Native.Nat.{ℕ}
use lib.ListN.{replicate}
use Rattle.refusal.specs.declared.Refusal.{Refusal}
use Rattle.packet_laws.specs.Read.{packet, refused}
use Rattle.packet_laws.specs.FromClient as client
use Rattle.packet_laws.specs.FromClient.{client_bytes, payload_from_client, relay_payload, key_from_client, relay_key}
use Rattle.packet_laws.specs.FromRelay as relay
use Rattle.packet_laws.specs.FromRelay.{relay_bytes, payload_from_relay, client_payload, key_from_relay, client_key}

-- ---- what a client sends

-- a request is 0 and its key
pub request_is : (key : List ℕ) → client_bytes (client.routing_request key) ≡ 0 ∷ key_from_client (client.routing_request key)
unfolding client_bytes key_from_client
request_is key = refl

-- an out-of-band send is 6, its key and its payload
pub oob_send_is : (key bytes : List ℕ) →
    client_bytes (client.oob_send key bytes) ≡ 6 ∷ (key_from_client (client.oob_send key bytes) ++ payload_from_client (client.oob_send key bytes))
unfolding client_bytes key_from_client payload_from_client
oob_send_is key bytes = refl

-- data is its number and its payload
pub sent_data_is : (number : ℕ) (bytes : List ℕ) → client_bytes (client.routed_data number bytes) ≡ number ∷ payload_from_client (client.routed_data number bytes)
unfolding client_bytes payload_from_client
sent_data_is number bytes = refl

-- what the relay read has those of its packet
module _ (p : client.FromClient) where
  pub relay_payload_read : relay_payload (packet p) ≡ payload_from_client p
  unfolding relay_payload
  relay_payload_read = refl

  pub relay_key_read : relay_key (packet p) ≡ key_from_client p
  unfolding relay_key
  relay_key_read = refl

-- what it refused has neither
module _ (why : Refusal) where
  pub relay_payload_refused : relay_payload (refused why) ≡ []
  unfolding relay_payload
  relay_payload_refused = refl

  pub relay_key_refused : relay_key (refused why) ≡ replicate 32 0
  unfolding relay_key
  relay_key_refused = refl

-- ---- what the relay sends

-- a response is 1, its number and its key
pub response_is : (number : ℕ) (key : List ℕ) →
    relay_bytes (relay.routing_response number key) ≡ 1 ∷ number ∷ key_from_relay (relay.routing_response number key)
unfolding relay_bytes key_from_relay
response_is number key = refl

-- an out-of-band packet received is 7, the sender's key and its payload
pub oob_received_is : (key bytes : List ℕ) →
    relay_bytes (relay.oob_received key bytes) ≡ 7 ∷ (key_from_relay (relay.oob_received key bytes) ++ payload_from_relay (relay.oob_received key bytes))
unfolding relay_bytes key_from_relay payload_from_relay
oob_received_is key bytes = refl

-- data is its number and its payload
pub received_data_is : (number : ℕ) (bytes : List ℕ) → relay_bytes (relay.routed_data number bytes) ≡ number ∷ payload_from_relay (relay.routed_data number bytes)
unfolding relay_bytes payload_from_relay
received_data_is number bytes = refl

-- what a client read has those of its packet
module _ (p : relay.FromRelay) where
  pub client_payload_read : client_payload (packet p) ≡ payload_from_relay p
  unfolding client_payload
  client_payload_read = refl

  pub client_key_read : client_key (packet p) ≡ key_from_relay p
  unfolding client_key
  client_key_read = refl

-- what it refused has neither
module _ (why : Refusal) where
  pub client_payload_refused : client_payload (refused why) ≡ []
  unfolding client_payload
  client_payload_refused = refl

  pub client_key_refused : client_key (refused why) ≡ replicate 32 0
  unfolding client_key
  client_key_refused = refl
