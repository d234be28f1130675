-- Reading what was written, and writing what was read, of the exports: packets from a client to the relay (`relay_tells_written`, `client_writes_told`) and from the
-- relay to a client (`client_tells_written`, `relay_writes_told`), and nodes (`node_told_written`, `node_writes_told`, `node_writes_stepped`). Assumes nothing.
use mathlib.Core.Path.{◌≡◌, refl, sym, ap, ap₂, subst, ◌∙◌}
use mathlib.Core.Bool.{Bool, true, false, cond}
use mathlib.Core.List.{List, ◌∷◌, ◌++◌}
use Prim.Native.Nat.{ℕ, ◌+◌, ◌-◌, ◌<◌, ◌≤◌}
use native.Mathlib.Omega.{arith}
use lib.Dec.{eqb, leb, ltb}
use lib.IntN.{ℤ, pos}
use lib.ListN.{length, take, drop, length-drop}
use lib.Seq.{take_all, take_at, drop_at}
use borrow.Author.Tests.{le-leb}
use Rattle.wire.specs.Numbers.{Bytes}
use Rattle.wire.proofs.Numbers.{bytes_drop}
use Rattle.std.proofs.Common.{Result, Ok, Err}
use Rattle.refusal.specs.declared.Refusal.{Refusal}
use Rattle.refusal.specs.declared.Refusal.TheVariants.{PacketSize, UnexpectedKind, NodeCutShort, BytesAfterNodes}
use Rattle.packet_laws.specs.Read as packet
use Rattle.packet_laws.specs.Table.{kind_of, size_right}
use Rattle.packet_laws.specs.FromClient as client
use Rattle.packet_laws.specs.FromRelay as relay
use Rattle.packet_laws.specs.FromClient.{key_from_client, relay_key}
use Rattle.packet_laws.specs.FromRelay.{key_from_relay, client_key}
use Rattle.packet_write.specs.Written as packets
use Rattle.packet_laws.specs.Judged.{data_number, client_judged, relay_judged}
use Rattle.packet_write.specs.Written.{written_answer, written_output, BothWrite}
use Rattle.packet_laws.proofs.ClientRoundTrip.{relay_reads_written, client_writes_read}
use Rattle.packet_laws.proofs.RelayRoundTrip.{client_reads_written, relay_writes_read}
use Rattle.packet_write.proofs.WriteLaws.{writes_put}
use Rattle.node.specs.declared.Node.{Node}
use Rattle.node.specs.Nodes.{NodeInfo, packed_node, Read, node, refused, read_node}
use Rattle.node.specs.Values.{info_of, value_of, settled}
use Rattle.node.specs.Steps.{Showing, shows, ends, refuses, showing_read, step_of}
use Rattle.node.specs.Written.{Writes, WritesNode}
use Rattle.node.proofs.NodeLaws.{read_packed, info_of_value}
use Rattle.node.proofs.RoundTrips.{read_exactly, count_put, put_count, value_settled, value_fits}
use Rattle.node.proofs.StepLaws.{step_read}
use Rattle.fields.specs.declared.Fields.{Fields}
use Rattle.banavoge_laws.specs.Answers.{written_code, OfBytes, ToldAs}
use Rattle.banavoge_laws.specs.Fields.{Places, places_of, read_code, places_after, key_after}
use Rattle.fields.specs.Fields.{client_fields, relay_fields}
use Rattle.banavoge_laws.specs.Nodes.{NodePlaces, node_places_of, node_given, node_code, node_after, ReadsNode, step_code, step_after, StepsNode, node_written_code}
use Rattle.histories.specs.WrittenAndRead.{kind_told, payload_at, client_told, relay_told, Tells, RelayTells, ClientTells, ClientWriting, RelayWriting, Makes, WrittenBack, NodeTold, NodeTells, NodeMakes}
use Rattle.histories.proofs.Answered.{below_not}

-- ---- either end

-- a byte count is that of a packet written
count_told : (count : ℕ) (w : Result ℕ Refusal) → pos count ≡ written_code w → w ≡ Ok count
unfolding written_code
count_told count (Ok n) e = let q : count ≡ n = cc in ap Ok (sym q)
count_told count (Err why) e = absurd (below_not why count (sym e))

-- a writer that takes the packet puts its bytes into an output that has room
puts : {A : Type 0} (judged : packet.Read A) (p : A) (bytes out left : List ℕ) (w : Result ℕ Refusal) (answer : ℤ) → judged ≡ packet.packet p
    → packets.Writes judged bytes out w left → answer ≡ written_code w → length bytes ≤ length out → (answer ≡ pos (length bytes)) × (left ≡ bytes ++ drop (length bytes) out)
unfolding written_answer written_output written_code
puts judged p bytes out left w answer taken writes code h =
    let l = le-leb (length bytes) (length out) h in
    let counted : w ≡ Ok (length bytes) = writes.answers ∙ simp (taken, l) in
    (code ∙ ap written_code counted, writes.leaves ∙ simp (taken, l))

-- packets that one end writes (`judged`, `bytes_of`, with fields that fit) and the other reads (`read`) and tells
module _ {A : Type 0} (told : ℕ → Places → List ℕ → List ℕ → A) (fields_of : A → Fields) (key_in : packet.Read A → List ℕ) (read : List ℕ → packet.Read A)
    (judged : A → packet.Read A) (bytes_of : A → List ℕ) (FitsIn : A → Type 0)
    (is-told : (p q : A) → FitsIn p → judged p ≡ packet.packet q
    → (kind_told (bytes_of p) ≡ (fields_of p).kind)
    × (told (fields_of p).kind (places_of (fields_of p)) (key_in (packet.packet p)) (payload_at (bytes_of p) (places_of (fields_of p))) ≡ p)) where
  -- a packet written, as a call of its writer's export has it
  record Wrote (p : A) (out left : List ℕ) (answer : ℤ) : Type 0 where
    given : Result ℕ Refusal
    fits : FitsIn p
    writes : packets.Writes (judged p) (bytes_of p) out given left
    codes : answer ≡ written_code given

  -- bytes of a packet that read as it are told as it
  read_tells : (p q : A) (bytes : List ℕ) → FitsIn p → judged p ≡ packet.packet q → read bytes ≡ packet.packet p → bytes_of p ≡ bytes
      → Tells told fields_of key_in (read bytes) p bytes
  unfolding read_code places_after key_after
  read_tells p q bytes f taken e made =
      let o = is-told p q f taken in
      let places = places_of (fields_of p) in
      let key = key_in (packet.packet p) in
      let kind : (fields_of p).kind ≡ kind_told bytes = sym o.0 ∙ ap kind_told made in
      record {
        places = places;
        key = key;
        by_read = λ answer before after c. (c.answers ∙ ap (read_code fields_of) e ∙ ap pos kind, c.leaves ∙ ap (λ (r : packet.Read A). places_after fields_of r before) e);
        by_key = λ answer before after c. (c.answers ∙ ap (read_code fields_of) e ∙ ap pos kind, c.leaves ∙ ap (λ (r : packet.Read A). key_after key_in r before) e);
        is = ap₂ (λ (k : ℕ) (b : List ℕ). told k places key (payload_at b places)) (sym kind) (sym made) ∙ o.1;
      }

  -- READING WHAT WAS WRITTEN: the front of the output, as many bytes as were answered
  tells_written : ((p q : A) → FitsIn p → judged p ≡ packet.packet q → (q ≡ p) × (read (bytes_of p) ≡ packet.packet p))
      → (p : A) (out left : List ℕ) (count : ℕ) → Wrote p out left (pos count) → Tells told fields_of key_in (read (take count left)) p (take count left)
  tells_written back p out left count c =
      let w = subst (λ (x : Result ℕ Refusal). packets.Writes (judged p) (bytes_of p) out x left) (count_told count c.given c.codes) c.writes in
      let put = writes_put (judged p) (bytes_of p) out left count w in
      read_tells p put.found (take count left) c.fits put.taken (ap read put.front ∙ (back p put.found c.fits put.taken).1) (sym put.front)

  -- WRITING WHAT WAS READ
  writes_told : (writing : A → List ℕ → List ℕ → ℤ → Type 0) → ((p : A) (out left : List ℕ) (answer : ℤ) → writing p out left answer → Wrote p out left answer)
      → (bytes : List ℕ) → (Bytes bytes → (p : A) → read bytes ≡ packet.packet p → FitsIn p × (judged p ≡ packet.packet p) × (bytes_of p ≡ bytes))
      → WrittenBack told fields_of key_in (read bytes) writing bytes
  unfolding read_code
  writes_told writing opened bytes makes kind kind' before places key_before key c d = go (read bytes) refl c.does.answers
    where
      back : (p : A) → read bytes ≡ packet.packet p → Makes writing (told kind places key (payload_at bytes places)) bytes
      back p e =
          let m = makes c.bytes p e in
          let t = read_tells p p bytes m.0 m.1 e m.2 in
          let r = t.by_read (pos kind) before places c.does in
          let k = t.by_key (pos kind') key_before key d in
          let same_kind : kind ≡ kind_told bytes = (let z = r.0 in cc) in
          let is : told kind places key (payload_at bytes places) ≡ p =
          ap₂ (λ (x : ℕ) (y : Places). told x y key (payload_at bytes y)) same_kind r.1
          ∙ ap (λ (x : List ℕ). told (kind_told bytes) t.places x (payload_at bytes t.places)) k.1 ∙ t.is in
          subst (λ (x : A). Makes writing x bytes) (sym is)
          (λ out left answer call h.
          let w = opened p out left answer call in
          subst (λ (x : List ℕ). (answer ≡ pos (length x)) × (left ≡ x ++ drop (length x) out)) m.2
          (puts (judged p) p (bytes_of p) out left w.given answer m.1 w.writes w.codes (let l = ap length m.2 in omega arith)))

      go : (r : packet.Read A) → read bytes ≡ r → pos kind ≡ read_code fields_of r → Makes writing (told kind places key (payload_at bytes places)) bytes
      go (packet.packet p) e z = back p e
      go (packet.refused why) e z = absurd (below_not why kind (sym z))

-- the number of data that a writer takes
data_high : {A : Type 0} (number : ℕ) (bytes : List ℕ) (after : packet.Read A) (q : A) → data_number number bytes after ≡ packet.packet q → leb 16 number ≡ true
unfolding data_number packet.check
data_high number bytes after q e = go (size_right (length (number ∷ bytes))) (leb 16 number) refl e
  where
    go : (t u : Bool) → leb 16 number ≡ u → packet.check t PacketSize (packet.check u UnexpectedKind after) ≡ packet.packet q → leb 16 number ≡ true
    go true true h e = h
    go true false h e = absurd (cc)
    go false u h e = absurd (cc)

-- ---- from a client to the relay

client_told_lem : (p q : client.FromClient) → client.FitsClient p → client_judged p ≡ packet.packet q
    → (kind_told (client.client_bytes p) ≡ (client_fields p).kind)
    × (client_told (client_fields p).kind (places_of (client_fields p)) (relay_key (packet.packet p)) (payload_at (client.client_bytes p) (places_of (client_fields p))) ≡ p)
unfolding kind_told kind_of payload_at client_told client_fields client.client_bytes relay_key key_from_client client.FitsClient client_judged
client_told_lem (client.routing_request key) q f e = (refl, refl)
client_told_lem (client.drop_route number) q f e = (refl, refl)
client_told_lem (client.ping n) q f e = (refl, refl)
client_told_lem (client.pong n) q f e = (refl, refl)
client_told_lem (client.oob_send key bytes) q f e =
    (refl, ap (client.oob_send key) (ap (take (length bytes)) (drop_at key bytes 32 f.0.long) ∙ take_all (length bytes) bytes (omega arith)))
client_told_lem (client.routed_data number bytes) q f e =
    (simp (data_high number bytes _ q e), ap (client.routed_data number) (take_all (length bytes) bytes (omega arith)))

client_wrote : (p : client.FromClient) (out left : List ℕ) (answer : ℤ) → ClientWriting p out left answer
    → Wrote client_told client_fields relay_key client.relay_read client_judged client.client_bytes client.FitsClient client_told_lem p out left answer
client_wrote p out left answer c = record { given = c.given; fits = c.relates.fits; writes = c.relates.writes; codes = c.codes }

pub relay_tells_written : (p : client.FromClient) (out left : List ℕ) (count : ℕ) → ClientWriting p out left (pos count) → RelayTells p (take count left)
relay_tells_written p out left count c =
    tells_written client_told client_fields relay_key client.relay_read client_judged client.client_bytes client.FitsClient client_told_lem relay_reads_written p out left count
    (client_wrote p out left (pos count) c)

pub client_writes_told : (bytes : List ℕ) → WrittenBack client_told client_fields relay_key (client.relay_read bytes) ClientWriting bytes
client_writes_told bytes =
    writes_told client_told client_fields relay_key client.relay_read client_judged client.client_bytes client.FitsClient client_told_lem ClientWriting client_wrote bytes
    (λ b p e. let m = client_writes_read bytes p b e in (m.fits, m.taken, m.makes))

-- ---- from the relay to a client

relay_told_lem : (p q : relay.FromRelay) → relay.FitsRelay p → relay_judged p ≡ packet.packet q
    → (kind_told (relay.relay_bytes p) ≡ (relay_fields p).kind)
    × (relay_told (relay_fields p).kind (places_of (relay_fields p)) (client_key (packet.packet p)) (payload_at (relay.relay_bytes p) (places_of (relay_fields p))) ≡ p)
unfolding kind_told kind_of payload_at relay_told relay_fields relay.relay_bytes client_key key_from_relay relay.FitsRelay relay_judged
relay_told_lem (relay.routing_response number key) q f e = (refl, refl)
relay_told_lem (relay.connect_notice number) q f e = (refl, refl)
relay_told_lem (relay.disconnect_notice number) q f e = (refl, refl)
relay_told_lem (relay.ping n) q f e = (refl, refl)
relay_told_lem (relay.pong n) q f e = (refl, refl)
relay_told_lem (relay.oob_received key bytes) q f e =
    (refl, ap (relay.oob_received key) (ap (take (length bytes)) (drop_at key bytes 32 f.0.long) ∙ take_all (length bytes) bytes (omega arith)))
relay_told_lem (relay.routed_data number bytes) q f e =
    (simp (data_high number bytes _ q e), ap (relay.routed_data number) (take_all (length bytes) bytes (omega arith)))

relay_wrote : (p : relay.FromRelay) (out left : List ℕ) (answer : ℤ) → RelayWriting p out left answer
    → Wrote relay_told relay_fields client_key relay.client_read relay_judged relay.relay_bytes relay.FitsRelay relay_told_lem p out left answer
relay_wrote p out left answer c = record { given = c.given; fits = c.relates.fits; writes = c.relates.writes; codes = c.codes }

pub client_tells_written : (p : relay.FromRelay) (out left : List ℕ) (count : ℕ) → RelayWriting p out left (pos count) → ClientTells p (take count left)
client_tells_written p out left count c =
    tells_written relay_told relay_fields client_key relay.client_read relay_judged relay.relay_bytes relay.FitsRelay relay_told_lem client_reads_written p out left count
    (relay_wrote p out left (pos count) c)

pub relay_writes_told : (bytes : List ℕ) → WrittenBack relay_told relay_fields client_key (relay.client_read bytes) RelayWriting bytes
relay_writes_told bytes =
    writes_told relay_told relay_fields client_key relay.client_read relay_judged relay.relay_bytes relay.FitsRelay relay_told_lem RelayWriting relay_wrote bytes
    (λ b p e. let m = relay_writes_read bytes p b e in (m.fits, m.taken, m.makes))

-- one export for both ends: a ping, a pong and data are written as either end's
module _ {p : client.FromClient} {q : relay.FromRelay} {out left : List ℕ} {answer : ℤ} (c : ToldAs written_code (BothWrite p q out left) answer) where
  pub both_as_client : ClientWriting p out left answer
  both_as_client = record { given = c.given; relates = c.relates.as_client; codes = c.codes }

  pub both_as_relay : RelayWriting q out left answer
  both_as_relay = record { given = c.given; relates = c.relates.as_relay; codes = c.codes }

-- ---- nodes

node_count_told : (count : ℕ) (w : Result ℕ Refusal) → pos count ≡ node_written_code w → w ≡ Ok count
unfolding node_written_code
node_count_told = count_told

-- what the places of a reader are then
pub places_told : (after : NodePlaces) (n : Node) (next : ℕ) → after ≡ node_places_of n next → NodeTold after n next
places_told after n next e = record {
  is = ap (λ (x : NodePlaces). node_given x.family x.address x.port x.key) e;
  after = ap (λ (x : NodePlaces). x.next) e;
}

-- bytes that read as a node are told as that, by both readers
node_tells : (bytes : List ℕ) (at : ℕ) (i : NodeInfo) (n : Node) (size : ℕ) → at < length bytes → read_node (drop at bytes) ≡ node i → value_of i ≡ settled n
    → length (packed_node i) ≡ size → NodeTells n size bytes at
unfolding node_code node_after step_code step_after showing_read
node_tells bytes at i n size within r v l =
    let told : node_places_of (value_of i) (at + length (packed_node i)) ≡ node_places_of (settled n) (at + size) =
    ap₂ node_places_of v (ap (λ (k : ℕ). at + k) l) in
    record {
      read = λ answer before after c. (
        c.answers ∙ ap node_code r,
        places_told after (settled n) (at + size) (c.leaves ∙ ap (λ (x : Read). node_after at x before) r ∙ told),
      );
      step = λ count few answer before after c.
          let s = step_read bytes at count within few ∙ ap showing_read r in
          (c.answers ∙ ap step_code s, places_told after (settled n) (at + size) (c.leaves ∙ ap (λ (x : Showing). step_after at x before) s ∙ told));
    }

-- READING WHAT WAS WRITTEN: at any place of any bytes where the node written stands
pub node_told_written : (n : Node) (out left : List ℕ) (count : ℕ) → ToldAs node_written_code (WritesNode n out left) (pos count)
    → (bytes rest : List ℕ) (at : ℕ) → drop at bytes ≡ take count left ++ rest → NodeTells n count bytes at
unfolding info_of
node_told_written n out left count c bytes rest at stands =
    let w = c.relates in
    let i = info_of n in
    let put = count_put i out left c.given w.writes count (node_count_told count c.given c.codes) in
    let front : take count left ≡ packed_node i = ap (take count) put.bytes ∙ take_at (packed_node i) (drop count out) count (sym put.count) in
    let there : drop at bytes ≡ packed_node i ++ rest = stands ∙ ap (λ (x : List ℕ). x ++ rest) front in
    let long : 1 ≤ length (packed_node i ++ rest) = unfold packed_node in omega arith in
    let d = length-drop at bytes in
    let e = ap length there in
    node_tells bytes at i n count (omega arith) (ap read_node there ∙ read_packed i (value_fits n w.fits put.known) rest) (value_settled n w.fits.long) (sym put.count)

-- WRITING WHAT WAS READ: the places of a reader that found a node
node_makes : (bytes : List ℕ) → Bytes bytes → (at : ℕ) (told : NodePlaces) (i : NodeInfo) → read_node (drop at bytes) ≡ node i
    → told ≡ node_places_of (value_of i) (at + length (packed_node i)) → NodeMakes bytes at told
unfolding node_written_code written_code
node_makes bytes b at told i r e out left answer w h =
    let t = read_exactly (drop at bytes) i (bytes_drop at bytes b) r in
    let v : node_given told.family told.address told.port told.key ≡ value_of i =
    ap (λ (x : NodePlaces). node_given x.family x.address x.port x.key) e in
    let q : told.next - at ≡ length (packed_node i) = let z : told.next ≡ at + length (packed_node i) = ap (λ (x : NodePlaces). x.next) e in omega arith in
    let writes = subst (λ (x : NodeInfo). Writes x out w.given left) (ap info_of v ∙ info_of_value i t.fits.long) w.relates.writes in
    let p = put_count i out left w.given writes t.fits.known (omega arith) in
    let front : packed_node i ≡ take (length (packed_node i)) (drop at bytes) =
    sym (ap (take (length (packed_node i))) t.front ∙ take_at (packed_node i) _ (length (packed_node i)) refl) in (
      w.codes ∙ ap node_written_code p.0 ∙ ap pos (sym q),
      p.1 ∙ ap (λ (x : List ℕ). x ++ drop (length (packed_node i)) out) front ∙ ap (λ (k : ℕ). take k (drop at bytes) ++ drop k out) (sym q),
    )

-- a step shows a node that is read there
step_shows : (bytes : List ℕ) (at count : ℕ) (i : NodeInfo) → step_of bytes at count ≡ shows i → read_node (drop at bytes) ≡ node i
unfolding step_of showing_read
step_shows bytes at count i e = go (ltb (length bytes) at) (eqb at (length bytes)) (leb 4 count) (read_node (drop at bytes)) e
  where
    go : (past end full : Bool) (r : Read) → cond past (refuses NodeCutShort) (cond end ends (cond full (refuses BytesAfterNodes) (showing_read r))) ≡ shows i → r ≡ node i
    go true end full r e = absurd (cc)
    go false true full r e = absurd (cc)
    go false false true r e = absurd (cc)
    go false false false (node n) e = let q : n ≡ i = cc in ap node q
    go false false false (refused why) e = absurd (cc)

-- by `banavoge_node_read`
pub node_writes_told : (bytes : List ℕ) (at : ℕ) (before told : NodePlaces) → OfBytes bytes (ReadsNode at (read_node (drop at bytes)) (pos 0) before told) → NodeMakes bytes at told
unfolding node_after node_code
node_writes_told bytes at before told c = go (read_node (drop at bytes)) refl c.does.answers c.does.leaves
  where
    go : (r : Read) → read_node (drop at bytes) ≡ r → pos 0 ≡ node_code r → told ≡ node_after at r before → NodeMakes bytes at told
    go (node i) r z e = node_makes bytes c.bytes at told i r e
    go (refused why) r z e = absurd (below_not why 0 (sym z))

-- and by `banavoge_nodes_step`
pub node_writes_stepped : (bytes : List ℕ) (at count : ℕ) (before told : NodePlaces) → OfBytes bytes (StepsNode at (step_of bytes at count) (pos 1) before told) → NodeMakes bytes at told
unfolding step_after step_code
node_writes_stepped bytes at count before told c = go (step_of bytes at count) refl c.does.answers c.does.leaves
  where
    go : (s : Showing) → step_of bytes at count ≡ s → pos 1 ≡ step_code s → told ≡ step_after at s before → NodeMakes bytes at told
    go (shows i) s z e = node_makes bytes c.bytes at told i (step_shows bytes at count i s) e
    go ends s z e = absurd (cc)
    go (refuses why) s z e = absurd (below_not why 1 (sym z))
