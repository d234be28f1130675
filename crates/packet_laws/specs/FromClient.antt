-- What a client sends, its bytes, and how the relay reads them. Document 01, "Relay packets"; document 001, "Encrypted payload types".
use Rattle.std.specs.Prelude.{cond, List, [], ◌∷◌, ◌++◌, ◌≡◌, ℕ, ◌<◌, ◌≤◌, ◌^◌, eqb, length, get_or, take, drop, replicate}
use Rattle.wire.specs.Numbers.{Bytes, number_of, bytes_of}
use Rattle.key.specs.Keys.{IsKey}
use Rattle.packet_laws.specs.Read.{Read, packet, refused}
use Rattle.packet_laws.specs.Table.{kind_of, body_of, relay_takes, checked}

-- the table's rows whose second column names the client: 0 request, 3 drop, 4 ping and 5 pong, 6 out-of-band send, 16 to 255 data
pub data FromClient : Type 0 where
  routing_request : List ℕ → FromClient
  drop_route : ℕ → FromClient
  ping : ℕ → FromClient
  pong : ℕ → FromClient
  oob_send : List ℕ → List ℕ → FromClient
  routed_data : ℕ → List ℕ → FromClient

-- the table's third column, "Bytes"
unfoldable pub client_bytes : FromClient → List ℕ
client_bytes (routing_request key) = 0 ∷ key
client_bytes (drop_route number) = 3 ∷ number ∷ []
client_bytes (ping n) = 4 ∷ bytes_of 8 n
client_bytes (pong n) = 5 ∷ bytes_of 8 n
client_bytes (oob_send key bytes) = 6 ∷ (key ++ bytes)
client_bytes (routed_data number bytes) = number ∷ bytes

-- the same column read: what the bytes after a kind are. Kinds that the relay does not take fall to the last row; the check of the kind is made first
unfoldable pub from_client : ℕ → List ℕ → FromClient
from_client kind body =
    cond (eqb kind 0) (routing_request (take 32 body))
    (cond (eqb kind 3) (drop_route (get_or body 0 0))
    (cond (eqb kind 4) (ping (number_of (take 8 body)))
    (cond (eqb kind 5) (pong (number_of (take 8 body)))
    (cond (eqb kind 6) (oob_send (take 32 body) (drop 32 body))
    (routed_data kind body)))))

-- the relay's reader: checks 4 to 7; it "judges no route number"
unfoldable pub relay_read : List ℕ → Read FromClient
relay_read bytes = checked relay_takes bytes (packet (from_client (kind_of bytes) (body_of bytes)))

-- values that the fields of a packet can have: keys of 32 bytes, numbers of one byte, ping numbers of eight, bytes
unfoldable pub FitsClient : FromClient → Type 0
FitsClient (routing_request key) = IsKey key
FitsClient (drop_route number) = number < 256
FitsClient (ping n) = n < 2 ^ 64
FitsClient (pong n) = n < 2 ^ 64
FitsClient (oob_send key bytes) = IsKey key × Bytes bytes
FitsClient (routed_data number bytes) = (number < 256) × Bytes bytes

-- the bounds of the table's fourth column, "Length", and of its "not 0"
unfoldable pub Within : FromClient → Type 0
Within (routing_request key) = length key ≡ 32
Within (drop_route number) = Unit {0}
Within (ping n) = 0 < n
Within (pong n) = 0 < n
Within (oob_send key bytes) = (1 ≤ length bytes) × (length bytes ≤ 1024)
Within (routed_data number bytes) = (1 ≤ length bytes) × (length bytes ≤ 2031)

-- "the data is shown as part of the lent packet": the payload of a packet that has one
unfoldable pub payload_from_client : FromClient → List ℕ
payload_from_client (routing_request key) = []
payload_from_client (drop_route number) = []
payload_from_client (ping n) = []
payload_from_client (pong n) = []
payload_from_client (oob_send key bytes) = bytes
payload_from_client (routed_data number bytes) = bytes

unfoldable pub relay_payload : Read FromClient → List ℕ
relay_payload (packet p) = payload_from_client p
relay_payload (refused why) = []

-- the key of a packet that has one
unfoldable pub key_from_client : FromClient → List ℕ
key_from_client (routing_request key) = key
key_from_client (drop_route number) = replicate 32 0
key_from_client (ping n) = replicate 32 0
key_from_client (pong n) = replicate 32 0
key_from_client (oob_send key bytes) = key
key_from_client (routed_data number bytes) = replicate 32 0

unfoldable pub relay_key : Read FromClient → List ℕ
relay_key (packet p) = key_from_client p
relay_key (refused why) = replicate 32 0
