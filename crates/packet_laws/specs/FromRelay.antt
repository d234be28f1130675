-- What the relay sends, its bytes, and how a client reads them. Document 01, "Relay packets"; document 001, "Encrypted payload types".
use Rattle.std.specs.Prelude.{cond, List, [], ◌∷◌, ◌++◌, ℕ, ◌<◌, ◌^◌, eqb, get_or, take, drop, replicate}
use Rattle.wire.specs.Numbers.{Bytes, number_of, bytes_of}
use Rattle.key.specs.Keys.{IsKey}
use Rattle.refusal.specs.declared.Refusal.TheVariants.{NoSuchRoute}
use Rattle.packet_laws.specs.Read.{Read, packet, refused, check}
use Rattle.packet_laws.specs.Table.{kind_of, body_of, client_takes, number_right, checked}

-- the table's rows whose second column names the relay: 1 answer, 2 connected, 3 disconnected, 4 ping and 5 pong, 7 out-of-band received, 16 to
-- 255 data
pub data FromRelay : Type 0 where
  routing_response : ℕ → List ℕ → FromRelay
  connect_notice : ℕ → FromRelay
  disconnect_notice : ℕ → FromRelay
  ping : ℕ → FromRelay
  pong : ℕ → FromRelay
  oob_received : List ℕ → List ℕ → FromRelay
  routed_data : ℕ → List ℕ → FromRelay

-- the table's third column, "Bytes"
unfoldable pub relay_bytes : FromRelay → List ℕ
relay_bytes (routing_response number key) = 1 ∷ number ∷ key
relay_bytes (connect_notice number) = 2 ∷ number ∷ []
relay_bytes (disconnect_notice number) = 3 ∷ number ∷ []
relay_bytes (ping n) = 4 ∷ bytes_of 8 n
relay_bytes (pong n) = 5 ∷ bytes_of 8 n
relay_bytes (oob_received key bytes) = 7 ∷ (key ++ bytes)
relay_bytes (routed_data number bytes) = number ∷ bytes

-- the same column read: what the bytes after a kind are. Kinds that the client does not take fall to the last row; the check of the kind is made first
unfoldable pub from_relay : ℕ → List ℕ → FromRelay
from_relay kind body =
    cond (eqb kind 1) (routing_response (get_or body 0 0) (take 32 (drop 1 body)))
    (cond (eqb kind 2) (connect_notice (get_or body 0 0))
    (cond (eqb kind 3) (disconnect_notice (get_or body 0 0))
    (cond (eqb kind 4) (ping (number_of (take 8 body)))
    (cond (eqb kind 5) (pong (number_of (take 8 body)))
    (cond (eqb kind 7) (oob_received (take 32 body) (drop 32 body))
    (routed_data kind body))))))

-- the client's reader: checks 4 to 7, then 8
unfoldable pub client_read : List ℕ → Read FromRelay
client_read bytes =
    checked client_takes bytes
    (check (number_right (kind_of bytes) (get_or bytes 1 0)) NoSuchRoute
    (packet (from_relay (kind_of bytes) (body_of bytes))))

-- values that the fields of a packet can have: keys of 32 bytes, numbers of one byte, ping numbers of eight, bytes
unfoldable pub FitsRelay : FromRelay → Type 0
FitsRelay (routing_response number key) = (number < 256) × IsKey key
FitsRelay (connect_notice number) = number < 256
FitsRelay (disconnect_notice number) = number < 256
FitsRelay (ping n) = n < 2 ^ 64
FitsRelay (pong n) = n < 2 ^ 64
FitsRelay (oob_received key bytes) = IsKey key × Bytes bytes
FitsRelay (routed_data number bytes) = (number < 256) × Bytes bytes

-- "the data is shown as part of the lent packet": the payload of a packet that has one
unfoldable pub payload_from_relay : FromRelay → List ℕ
payload_from_relay (routing_response number key) = []
payload_from_relay (connect_notice number) = []
payload_from_relay (disconnect_notice number) = []
payload_from_relay (ping n) = []
payload_from_relay (pong n) = []
payload_from_relay (oob_received key bytes) = bytes
payload_from_relay (routed_data number bytes) = bytes

unfoldable pub client_payload : Read FromRelay → List ℕ
client_payload (packet p) = payload_from_relay p
client_payload (refused why) = []

-- the key of a packet that has one
unfoldable pub key_from_relay : FromRelay → List ℕ
key_from_relay (routing_response number key) = key
key_from_relay (connect_notice number) = replicate 32 0
key_from_relay (disconnect_notice number) = replicate 32 0
key_from_relay (ping n) = replicate 32 0
key_from_relay (pong n) = replicate 32 0
key_from_relay (oob_received key bytes) = key
key_from_relay (routed_data number bytes) = replicate 32 0

unfoldable pub client_key : Read FromRelay → List ℕ
client_key (packet p) = key_from_relay p
client_key (refused why) = replicate 32 0
