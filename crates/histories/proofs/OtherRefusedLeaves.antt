-- "A refusal answers its number with 0 bytes written; room, list and lent output are as before the call." One statement for every export that writes and is lent
-- no room, on any bytes: where it answers below 0, the list, the buckets, the output and every place that it was handed are as before, but for how many bytes a
-- reader of frames holds and has used (`other_refused_leaves`). A list begun with a bad size is document 01's own exception, and what is left then is said too
-- (`bad_size_leaves`). Assumes nothing.
use mathlib.Core.Path.{◌≡◌, refl, ap, ap₂, subst, ◌∙◌}
use mathlib.Core.Bool.{Bool, true, false}
use mathlib.Core.List.{List}
use Prim.Native.Nat.{ℕ}
use native.Mathlib.Omega.{arith}
use lib.Dec.{leb}
use lib.IntN.{ℤ}
use lib.ListN.{length}
use Rattle.std.proofs.Common.{Option, Some, None, Result, Ok, Err}
use Rattle.refusal.specs.declared.Refusal.{Refusal}
use Rattle.refusal.specs.declared.Refusal.TheVariants.{ListSize}
use Rattle.key.specs.declared.Key.{Key}
use Rattle.packet_laws.specs.Read as packet
use Rattle.packet_write.specs.Written as packets
use Rattle.node.specs.declared.Node.{Node}
use Rattle.node.specs.Families.{known_family}
use Rattle.node.specs.Nodes as nodes
use Rattle.node.specs.Values.{info_of}
use Rattle.node.specs.Steps as steps
use Rattle.node.specs.Written as node-writes
use Rattle.nearest.specs.declared.NearestList.{NearestList}
use Rattle.nearest.specs.declared.Answered.{Answered}
use Rattle.nearest.specs.Lists.{empty_of, size_right}
use Rattle.nearest.proofs.Judge.{bounds_size}
use Rattle.nearest.proofs.ListOf.{begun_bad}
use Rattle.lent_list_laws.specs.Layout.{stored}
use Rattle.lent_list_laws.specs.Calls.{Begins, Offers, Removes}
use Rattle.lent_list.specs.Held.{held_at}
use Rattle.lent_list_laws.proofs.RefusedLeaves.{refused_offer_leaves, refused_remove_leaves}
use Rattle.fields.specs.declared.Fields.{Fields}
use Rattle.banavoge_laws.specs.Answers.{refusal_code, written_code, ToldAs}
use Rattle.banavoge_laws.specs.Frames.{FramePlaces}
use Rattle.banavoge_laws.specs.Fields.{Places, read_code, places_after, ReadsFields, key_after, ReadsKey}
use Rattle.banavoge_laws.specs.Nodes.{NodePlaces, node_code, node_after, ReadsNode, step_code, step_after, StepsNode, node_written_code}
use Rattle.banavoge_laws.specs.Nearest.{done_code, kept_code, held_code, HeldPlaces, held_after}
use Rattle.histories.specs.ExportedCalls.{Below0}
use Rattle.histories.specs.FrameStream.{RefusedFrame, too_short, bad_frame}
use Rattle.histories.specs.OtherExports.{Lending, lent_bytes, lent_fields, lent_node, lent_held, lent_frame, held_refused, refused_leaves, OtherExport, relay_reads, client_reads, relay_keys, client_keys, client_writes, relay_writes, both_write, node_reads, nodes_step, node_writes, begins, offers, removes, shows, begins_buckets, offers_bucket, asks_buckets, reads_frame}
use Rattle.histories.proofs.FrameStreams.{frame_refused}
use Rattle.histories.proofs.ListHistories.{begun_answer_lem, begun_list}
use Rattle.histories.proofs.BucketHistories.{begin_below_0, offer_below_0, question_below_0}

-- ---- readers

module _ {A : Type 0} (fields_of : A → Fields) where
  fields_leave : (read : packet.Read A) (z : ℤ) (before after : Places) → ReadsFields fields_of read z before after → Below0 z → after ≡ before
  unfolding read_code places_after
  fields_leave (packet.packet p) z before after c below = absurd (subst Below0 c.answers below)
  fields_leave (packet.refused why) z before after c below = c.leaves

  key_leaves : (key_in : packet.Read A → List ℕ) (read : packet.Read A) (z : ℤ) (before after : List ℕ) → ReadsKey fields_of key_in read z before after → Below0 z → after ≡ before
  unfolding read_code key_after
  key_leaves key_in (packet.packet p) z before after c below = absurd (subst Below0 c.answers below)
  key_leaves key_in (packet.refused why) z before after c below = c.leaves

node_leaves : (at : ℕ) (read : nodes.Read) (z : ℤ) (before after : NodePlaces) → ReadsNode at read z before after → Below0 z → after ≡ before
unfolding node_code node_after
node_leaves at (nodes.node n) z before after c below = absurd (subst Below0 c.answers below)
node_leaves at (nodes.refused why) z before after c below = c.leaves

step_leaves : (place : ℕ) (step : steps.Showing) (z : ℤ) (before after : NodePlaces) → StepsNode place step z before after → Below0 z → after ≡ before
unfolding step_code step_after
step_leaves place (steps.shows n) z before after c below = absurd (subst Below0 c.answers below)
step_leaves place steps.ends z before after c below = c.leaves
step_leaves place (steps.refuses why) z before after c below = c.leaves

held_leaves : (shown : Result (Option Node) Refusal) (z : ℤ) (before after : HeldPlaces) → z ≡ held_code shown → after ≡ held_after shown before → Below0 z → after ≡ before
unfolding held_code held_after
held_leaves (Ok (Some n)) z before after a l below = absurd (subst Below0 a below)
held_leaves (Ok None) z before after a l below = l
held_leaves (Err why) z before after a l below = l

-- ---- writers

-- the packet was judged and refused, or the output was too short
module _ {A : Type 0} (made out left : List ℕ) where
  write_leaves : (judged : packet.Read A) (w : Result ℕ Refusal) → packets.Writes judged made out w left → Below0 (written_code w) → left ≡ out
  unfolding packets.written_answer packets.written_output written_code
  write_leaves (packet.refused why) w c below = c.leaves
  write_leaves (packet.packet p) w c below = go (leb (length made) (length out)) refl
    where
      go : (t : Bool) → leb (length made) (length out) ≡ t → left ≡ out
      go true e = let a : w ≡ Ok (length made) = c.answers ∙ simp e in absurd (subst Below0 (ap written_code a) below)
      go false e = c.leaves ∙ simp e

node_write_leaves : (n : nodes.NodeInfo) (out left : List ℕ) (w : Result ℕ Refusal) → node-writes.Writes n out w left → Below0 (node_written_code w) → left ≡ out
unfolding node-writes.written_answer node-writes.written_output node_written_code written_code
node_write_leaves n out left w c below = go (known_family n.family) refl (leb (length (nodes.packed_node n)) (length out)) refl
  where
    go : (t : Bool) → known_family n.family ≡ t → (u : Bool) → leb (length (nodes.packed_node n)) (length out) ≡ u → left ≡ out
    go true e true f =
        let a : w ≡ Ok (length (nodes.packed_node n)) = c.answers ∙ simp (e, f) in absurd (subst Below0 (ap node_written_code a) below)
    go true e false f = c.leaves ∙ simp (e, f)
    go false e u f = c.leaves ∙ simp e

-- ---- lists

-- of a right size only memory too short is refused
begin_leaves : (target : Key) (size : ℕ) (memory left : List ℕ) (a : Result (Unit {0}) Refusal) → size_right size ≡ true → Begins target size memory left a → Below0 (done_code a) → left ≡ memory
unfolding done_code
begin_leaves target size memory left a right b below = go (leb 850 (length memory)) refl
  where
    go : (t : Bool) → leb 850 (length memory) ≡ t → left ≡ memory
    go true e =
        let done : a ≡ Ok tt = b.answers ∙ begun_answer_lem target size memory ∙ simp (right, e) in
        absurd (subst (λ (x : Result (Unit {0}) Refusal). Below0 (done_code x)) done below)
    go false e = b.leaves ∙ (unfold stored in simp e)

offer_leaves : (n : Node) (memory left : List ℕ) (a : Result Bool Refusal) → Offers n memory left a → Below0 (kept_code a) → left ≡ memory
unfolding kept_code
offer_leaves n memory left (Ok true) o below = absurd below
offer_leaves n memory left (Ok false) o below = absurd below
offer_leaves n memory left (Err why) o below = refused_offer_leaves memory left why n o

remove_leaves : (key : Key) (memory left : List ℕ) (a : Result (Unit {0}) Refusal) → Removes key memory left a → Below0 (done_code a) → left ≡ memory
unfolding done_code
remove_leaves key memory left (Ok done) r below = absurd below
remove_leaves key memory left (Err why) r below = refused_remove_leaves memory left why key r

-- document 01's one exception: a list begun with a bad size is refused with 12, and memory long enough then holds the empty list of size 8
pub bad_size_leaves : (target : Key) (size : ℕ) (memory left : List ℕ) (z : ℤ) → size_right size ≡ false → ToldAs done_code (Begins target size memory left) z
    → (z ≡ refusal_code ListSize) × (left ≡ stored (empty_of target 8) memory)
unfolding done_code
bad_size_leaves target size memory left z bad c =
    let a : c.given ≡ Err ListSize = c.relates.answers ∙ begun_answer_lem target size memory ∙ simp bad in (
      c.codes ∙ ap done_code a,
      c.relates.leaves ∙ ap (λ (x : Answered (Unit {0})). stored x.list memory) (begun_bad target size bad)
          ∙ ap (λ (l : NearestList). stored l memory) (begun_list target 8 (bounds_size 8 (omega arith) (omega arith))),
    )

-- ---- frames

frame_leaves : {before after : FramePlaces} {keep left : List ℕ} {z : ℤ} → RefusedFrame before keep z after left → lent_frame left after ≡ refused_leaves z (lent_frame keep before)
unfolding held_refused refusal_code
frame_leaves {before} {after} {keep} (too_short a h s l) = rw a (ap₂ lent_frame l s)
frame_leaves {before} {after} {keep} (bad_frame a h s l) = rw a (ap₂ lent_frame l s)

-- ---- every export

pub other_refused_leaves : {before after : Lending} {z : ℤ} → OtherExport before z after → Below0 z → after ≡ refused_leaves z before
other_refused_leaves (relay_reads bs c) below = ap lent_fields (fields_leave _ _ _ _ _ c below)
other_refused_leaves (client_reads bs c) below = ap lent_fields (fields_leave _ _ _ _ _ c below)
other_refused_leaves (relay_keys bs c) below = ap lent_bytes (key_leaves _ _ _ _ _ _ c below)
other_refused_leaves (client_keys bs c) below = ap lent_bytes (key_leaves _ _ _ _ _ _ c below)
other_refused_leaves (client_writes p c) below = ap lent_bytes (write_leaves _ _ _ _ c.given c.relates.writes (subst Below0 c.codes below))
other_refused_leaves (relay_writes p c) below = ap lent_bytes (write_leaves _ _ _ _ c.given c.relates.writes (subst Below0 c.codes below))
other_refused_leaves (both_write p q c) below = ap lent_bytes (write_leaves _ _ _ _ c.given c.relates.as_client.writes (subst Below0 c.codes below))
other_refused_leaves (node_reads bs at c) below = ap lent_node (node_leaves at _ _ _ _ c below)
other_refused_leaves (nodes_step bs place count c) below = ap lent_node (step_leaves place _ _ _ _ c below)
other_refused_leaves (node_writes n c) below = ap lent_bytes (node_write_leaves (info_of n) _ _ c.given c.relates.writes (subst Below0 c.codes below))
other_refused_leaves (begins target size right c) below = ap lent_bytes (begin_leaves target size _ _ c.given right c.relates (subst Below0 c.codes below))
other_refused_leaves (offers n c) below = ap lent_bytes (offer_leaves n _ _ c.given c.relates (subst Below0 c.codes below))
other_refused_leaves (removes key c) below = ap lent_bytes (remove_leaves key _ _ c.given c.relates (subst Below0 c.codes below))
other_refused_leaves (begins_buckets base c) below = ap lent_bytes (begin_below_0 c below)
other_refused_leaves (offers_bucket n c) below = ap lent_bytes (offer_below_0 c below)
other_refused_leaves (asks_buckets target memory c) below = ap lent_bytes (question_below_0 c below)
other_refused_leaves (reads_frame piece c) below = frame_leaves (frame_refused (record { used_before = _; end_before = _; reads = c }) below)
other_refused_leaves (shows m index c) below = ap lent_held (held_leaves (held_at m index) _ _ _ c.answers c.leaves below)
