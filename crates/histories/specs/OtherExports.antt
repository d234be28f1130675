-- Every export that writes and is lent no room: what the host lends it, before and after. (`banavoge_same_key`, `banavoge_nearer`, `banavoge_nearest_bytes`,
-- `banavoge_buckets_bytes` and `banavoge_room_bytes` write nothing.)
use Rattle.std.specs.Prelude.{true, cond, List, ◌≡◌, ℕ, eqb, ℤ, pos, negsuc, drop}
use Rattle.key.specs.declared.Key.{Key}
use Rattle.packet_laws.specs.FromClient.{FromClient, relay_read, relay_key}
use Rattle.packet_laws.specs.FromRelay.{FromRelay, client_read, client_key}
use Rattle.packet_write.specs.Written.{ClientWrites, RelayWrites, BothWrite}
use Rattle.node.specs.declared.Node.{Node}
use Rattle.node.specs.Nodes.{read_node}
use Rattle.node.specs.Steps.{step_of}
use Rattle.node.specs.Written.{WritesNode}
use Rattle.nearest.specs.Lists.{size_right}
use Rattle.lent_list_laws.specs.Calls.{Begins, Offers, Removes}
use Rattle.lent_list.specs.Held.{held_at}
use Rattle.buckets_laws.specs.Calls as buckets
use Rattle.frame.specs.Reader.{reader_holding, read_frame}
use Rattle.banavoge_laws.specs.Answers.{ToldAs, written_code}
use Rattle.banavoge_laws.specs.Frames.{FramePlaces, frame_places, ReadsFrame}
use Rattle.banavoge_laws.specs.Fields.{Places, ReadsFields, ReadsKey}
use Rattle.fields.specs.Fields.{client_fields, relay_fields}
use Rattle.banavoge_laws.specs.Nodes.{NodePlaces, node_written_code, ReadsNode, StepsNode}
use Rattle.banavoge_laws.specs.Nearest.{done_code, kept_code, HeldPlaces, ShowsHeld}

-- an output, a list, buckets or a key; the places of a reader, of a node, of a held node; the keep and the places of a reader of frames
pub data Lending : Type 0 where
  lent_bytes : List ℕ → Lending
  lent_fields : Places → Lending
  lent_node : NodePlaces → Lending
  lent_held : HeldPlaces → Lending
  lent_frame : List ℕ → FramePlaces → Lending

-- of a reader of frames, how many bytes are held after a refusal, by the number answered: "After 18 the reader gives 18 until begun anew; after 10 it is as before."
-- (`negsuc 17` is minus 18)
unfoldable pub held_refused : ℤ → ℕ → ℕ
held_refused (pos n) held = held
held_refused (negsuc n) held = cond (eqb n 17) 2051 held

-- what a refusal leaves, by the number answered: all that was lent is as before; but of a reader of frames the number used is 0, "0 if refused", and the number held
-- is that above
abbrev pub refused_leaves : ℤ → Lending → Lending
refused_leaves answer (lent_bytes bytes) = lent_bytes bytes
refused_leaves answer (lent_fields places) = lent_fields places
refused_leaves answer (lent_node places) = lent_node places
refused_leaves answer (lent_held places) = lent_held places
refused_leaves answer (lent_frame keep places) = lent_frame keep (frame_places (held_refused answer places.held) 0 places.end)

-- an export's call: what it was lent, its answer, and what that is afterwards
pub data OtherExport : Lending → ℤ → Lending → Type 0 where
  relay_reads : {answer : ℤ} {before after : Places} (packet : List ℕ) → ReadsFields client_fields (relay_read packet) answer before after
      → OtherExport (lent_fields before) answer (lent_fields after)
  client_reads : {answer : ℤ} {before after : Places} (packet : List ℕ) → ReadsFields relay_fields (client_read packet) answer before after
      → OtherExport (lent_fields before) answer (lent_fields after)
  relay_keys : {answer : ℤ} {before after : List ℕ} (packet : List ℕ) → ReadsKey client_fields relay_key (relay_read packet) answer before after
      → OtherExport (lent_bytes before) answer (lent_bytes after)
  client_keys : {answer : ℤ} {before after : List ℕ} (packet : List ℕ) → ReadsKey relay_fields client_key (client_read packet) answer before after
      → OtherExport (lent_bytes before) answer (lent_bytes after)
  client_writes : {answer : ℤ} {out left : List ℕ} (p : FromClient) → ToldAs written_code (ClientWrites p out left) answer → OtherExport (lent_bytes out) answer (lent_bytes left)
  relay_writes : {answer : ℤ} {out left : List ℕ} (p : FromRelay) → ToldAs written_code (RelayWrites p out left) answer → OtherExport (lent_bytes out) answer (lent_bytes left)
  both_write : {answer : ℤ} {out left : List ℕ} (p : FromClient) (q : FromRelay) → ToldAs written_code (BothWrite p q out left) answer
      → OtherExport (lent_bytes out) answer (lent_bytes left)
  node_reads : {answer : ℤ} {before after : NodePlaces} (list : List ℕ) (at : ℕ) → ReadsNode at (read_node (drop at list)) answer before after
      → OtherExport (lent_node before) answer (lent_node after)
  nodes_step : {answer : ℤ} {before after : NodePlaces} (list : List ℕ) (place count : ℕ) → StepsNode place (step_of list place count) answer before after
      → OtherExport (lent_node before) answer (lent_node after)
  node_writes : {answer : ℤ} {out left : List ℕ} (n : Node) → ToldAs node_written_code (WritesNode n out left) answer → OtherExport (lent_bytes out) answer (lent_bytes left)
  -- the one refusal that writes into lent memory is left out: "A list begun with a bad size is refused, and what comes back is the empty list of size 8 for that target."
  begins : {answer : ℤ} {memory left : List ℕ} (target : Key) (size : ℕ) → size_right size ≡ true → ToldAs done_code (Begins target size memory left) answer
      → OtherExport (lent_bytes memory) answer (lent_bytes left)
  offers : {answer : ℤ} {memory left : List ℕ} (n : Node) → ToldAs kept_code (Offers n memory left) answer → OtherExport (lent_bytes memory) answer (lent_bytes left)
  removes : {answer : ℤ} {memory left : List ℕ} (key : Key) → ToldAs done_code (Removes key memory left) answer → OtherExport (lent_bytes memory) answer (lent_bytes left)
  shows : {answer : ℤ} {before after : HeldPlaces} (memory : List ℕ) (index : ℕ) → ShowsHeld (held_at memory index) answer before after
      → OtherExport (lent_held before) answer (lent_held after)
  begins_buckets : {answer : ℤ} {memory left : List ℕ} (base : Key) → ToldAs done_code (buckets.Begins base memory left) answer
      → OtherExport (lent_bytes memory) answer (lent_bytes left)
  offers_bucket : {answer : ℤ} {memory left : List ℕ} (n : Node) → ToldAs kept_code (buckets.Offers n memory left) answer
      → OtherExport (lent_bytes memory) answer (lent_bytes left)
  -- the buckets are lent to read only
  asks_buckets : {answer : ℤ} {out left : List ℕ} (target : Key) (memory : List ℕ) → ToldAs node_written_code (buckets.Asks target memory out left) answer
      → OtherExport (lent_bytes out) answer (lent_bytes left)
  reads_frame : {answer : ℤ} {keep left : List ℕ} {before after : FramePlaces} (piece : List ℕ)
      → ReadsFrame (read_frame (reader_holding before.held) keep piece) answer before after left
      → OtherExport (lent_frame keep before) answer (lent_frame left after)
