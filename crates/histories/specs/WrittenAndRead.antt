-- Packets and nodes through the exports: one export writes into a lent output, and another reads what stands there, at the other end. Document 01: "reading what was
-- written gives the packet back, and writing what was read gives the bytes back". What is said of a reader holds of every call of it on these bytes.
use Rattle.std.specs.Prelude.{cond, List, ◌++◌, ◌≡◌, ℕ, ◌+◌, ◌-◌, ◌<◌, ◌≤◌, eqb, leb, ℤ, pos, length, take, drop}
use Rattle.packet_laws.specs.Read.{Read}
use Rattle.packet_laws.specs.Table.{first_number, kind_of}
use Rattle.packet_laws.specs.FromClient as client
use Rattle.packet_laws.specs.FromRelay as relay
use Rattle.packet_laws.specs.FromClient.{relay_key}
use Rattle.packet_laws.specs.FromRelay.{client_key}
use Rattle.packet_write.specs.Written.{ClientWrites, RelayWrites}
use Rattle.node.specs.declared.Node.{Node}
use Rattle.node.specs.Nodes.{read_node}
use Rattle.node.specs.Values.{settled}
use Rattle.node.specs.Steps.{step_of}
use Rattle.node.specs.Written.{WritesNode}
use Rattle.fields.specs.declared.Fields.{Fields}
use Rattle.banavoge_laws.specs.Answers.{OfBytes, ToldAs, written_code}
use Rattle.banavoge_laws.specs.Fields.{Places, ReadsFields, ReadsKey}
use Rattle.fields.specs.Fields.{client_fields, relay_fields}
use Rattle.banavoge_laws.specs.Nodes.{NodePlaces, node_given, node_written_code, ReadsNode, StepsNode}

-- ---- packets: what the host is told

-- the kind, which is the first byte; 16 for data, whose first byte is its number
unfoldable pub kind_told : List ℕ → ℕ
kind_told bytes = cond (leb first_number (kind_of bytes)) first_number (kind_of bytes)

-- the payload, at the place that is told
unfoldable pub payload_at : List ℕ → Places → List ℕ
payload_at bytes places = take places.size (drop places.start bytes)

-- the packet of a client that a kind, the places of the reader, a key and a payload are
unfoldable pub client_told : ℕ → Places → List ℕ → List ℕ → client.FromClient
client_told kind places key payload =
    cond (eqb kind 0) (client.routing_request key)
    (cond (eqb kind 3) (client.drop_route places.number)
    (cond (eqb kind 4) (client.ping places.ping)
    (cond (eqb kind 5) (client.pong places.ping)
    (cond (eqb kind 6) (client.oob_send key payload)
    (client.routed_data places.number payload)))))

-- and that of the relay
unfoldable pub relay_told : ℕ → Places → List ℕ → List ℕ → relay.FromRelay
relay_told kind places key payload =
    cond (eqb kind 1) (relay.routing_response places.number key)
    (cond (eqb kind 2) (relay.connect_notice places.number)
    (cond (eqb kind 3) (relay.disconnect_notice places.number)
    (cond (eqb kind 4) (relay.ping places.ping)
    (cond (eqb kind 5) (relay.pong places.ping)
    (cond (eqb kind 7) (relay.oob_received key payload)
    (relay.routed_data places.number payload))))))

-- an end's two readers tell the packet p of these bytes: they answer its kind, and what they tell, with the payload at its place, is p
pub record Tells {A : Type 0} (told : ℕ → Places → List ℕ → List ℕ → A) (fields_of : A → Fields) (key_in : Read A → List ℕ) (read : Read A) (p : A) (bytes : List ℕ) : Type 0 where
  pub places : Places
  pub key : List ℕ
  pub by_read : (answer : ℤ) (before after : Places) → ReadsFields fields_of read answer before after → (answer ≡ pos (kind_told bytes)) × (after ≡ places)
  pub by_key : (answer : ℤ) (before after : List ℕ) → ReadsKey fields_of key_in read answer before after → (answer ≡ pos (kind_told bytes)) × (after ≡ key)
  pub is : told (kind_told bytes) places key (payload_at bytes places) ≡ p

-- `banavoge_relay_read` and `banavoge_relay_key`, of what a client sends
abbrev pub RelayTells : client.FromClient → List ℕ → Type 0
RelayTells p bytes = Tells client_told client_fields relay_key (client.relay_read bytes) p bytes

-- `banavoge_client_read` and `banavoge_client_key`, of what the relay sends
abbrev pub ClientTells : relay.FromRelay → List ℕ → Type 0
ClientTells p bytes = Tells relay_told relay_fields client_key (relay.client_read bytes) p bytes

-- ---- packets: what the host writes

-- the exported writers of each end
abbrev pub ClientWriting : client.FromClient → List ℕ → List ℕ → ℤ → Type 0
ClientWriting p out left answer = ToldAs written_code (ClientWrites p out left) answer

abbrev pub RelayWriting : relay.FromRelay → List ℕ → List ℕ → ℤ → Type 0
RelayWriting p out left answer = ToldAs written_code (RelayWrites p out left) answer

-- the writer of p makes exactly these bytes, in every output that has room for them
abbrev pub Makes : {A : Type 0} → (A → List ℕ → List ℕ → ℤ → Type 0) → A → List ℕ → Type 0
Makes writing p bytes =
    (out left : List ℕ) (answer : ℤ) → writing p out left answer → length bytes ≤ length out → (answer ≡ pos (length bytes)) × (left ≡ bytes ++ drop (length bytes) out)

-- "writing what was read": the packet that the two readers tell of these bytes, written, is these bytes
abbrev pub WrittenBack : {A : Type 0} → (ℕ → Places → List ℕ → List ℕ → A) → (A → Fields) → (Read A → List ℕ) → Read A → (A → List ℕ → List ℕ → ℤ → Type 0) → List ℕ → Type 0
WrittenBack told fields_of key_in read writing bytes =
    (kind kind' : ℕ) (before places : Places) (key_before key : List ℕ) → OfBytes bytes (ReadsFields fields_of read (pos kind) before places)
    → ReadsKey fields_of key_in read (pos kind') key_before key
    → Makes writing (told kind places key (payload_at bytes places)) bytes

-- ---- nodes

-- what the places of a node's reader hold: a node, and where the next one starts
pub record NodeTold (told : NodePlaces) (n : Node) (next : ℕ) : Type 0 where
  pub is : node_given told.family told.address told.port told.key ≡ n
  pub after : told.next ≡ next

-- `banavoge_node_read` at a place of bytes, and `banavoge_nodes_step` there with fewer than four shown, tell the node and that the next one starts `size` bytes on;
-- of the address bytes those that the family does not use are 0 (`settled`)
pub record NodeTells (n : Node) (size : ℕ) (bytes : List ℕ) (at : ℕ) : Type 0 where
  pub read : (answer : ℤ) (before after : NodePlaces) → ReadsNode at (read_node (drop at bytes)) answer before after → (answer ≡ pos 0) × NodeTold after (settled n) (at + size)
  pub step : (count : ℕ) → count < 4 → (answer : ℤ) (before after : NodePlaces) → StepsNode at (step_of bytes at count) answer before after
      → (answer ≡ pos 1) × NodeTold after (settled n) (at + size)

-- the node that the places of a reader hold, written, is the bytes from the place read to the next
abbrev pub NodeMakes : List ℕ → ℕ → NodePlaces → Type 0
NodeMakes bytes at told =
    (out left : List ℕ) (answer : ℤ) → ToldAs node_written_code (WritesNode (node_given told.family told.address told.port told.key) out left) answer
    → told.next - at ≤ length out → (answer ≡ pos (told.next - at)) × (left ≡ take (told.next - at) (drop at bytes) ++ drop (told.next - at) out)
