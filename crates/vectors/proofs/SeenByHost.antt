-- Document 01, "Examples", of the exports: the joint statement of P1 to P13 as the host sees them (`host_sees`). In any history of the exported calls on a room in
-- lent memory, from the empty room of 40 seats with 32 numbers each, whose calls are those of a room row, the last answer and the records in the last output are
-- the row's; the exports on nodes read and write P12's bytes as its node; and any list that the export began, offered P13's nodes by the export, answers and is read
-- back as P13 says. Assumes nothing.
use mathlib.Core.Path.{◌≡◌, refl, sym, ap, ap₂, subst, ◌∙◌}
use mathlib.Core.List.{List, [], ◌∷◌, ◌++◌}
use Prim.Native.Nat.{ℕ, ◌+◌}
use native.Mathlib.Omega.{arith}
use lib.IntN.{ℤ, pos}
use lib.ListN.{length, drop}
use Rattle.std.specs.Prelude.{Bool, Result}
use Rattle.refusal.specs.declared.Refusal.{Refusal}
use Rattle.key.specs.declared.Key as code
use Rattle.node.specs.declared.Node.{Node}
use Rattle.node.specs.Nodes as nodes
use Rattle.node.specs.Values.{value_of}
use Rattle.node.specs.Written.{Writes}
use Rattle.node.proofs.NodeLaws.{info_of_value}
use Rattle.node.proofs.RoundTrips.{read_known, put_count}
use Rattle.nearest.specs.declared.NearestList.{NearestList}
use Rattle.nearest.specs.Lists.{held}
use Rattle.nearest.specs.Calls.{begun, offered}
use Rattle.nearest.specs.Sequence.{offers}
use Rattle.rules.specs.Room.{base_sizes, empty_room}
use Rattle.rules.specs.Call.{Call}
use Rattle.rules.specs.History.{Event, transcript}
use Rattle.banavoge_laws.specs.Answers.{written_code}
use Rattle.banavoge_laws.specs.Nodes.{node_places_of, node_code, node_after, node_written_code}
use Rattle.banavoge_laws.specs.Nearest.{kept_code}
use Rattle.histories.specs.ListHistory.{list_after, event_of, list_events, list_after_all, ReadsBack}
use Rattle.histories.proofs.Histories.{base_history_runs}
use Rattle.histories.proofs.ListHistories.{begun_empty, list_steps, list_reads_back}
use Rattle.histories.proofs.WrittenAndRead.{places_told}
use Rattle.vectors.specs.Examples.{Row, room_row, node_row, list_row, examples, EndsWith, ReadsAs, Keeps, offer_answers, row_events, Says, In}
use Rattle.vectors.specs.SeenByHost.{NodeSeen, offering_all, numbers_of, kept_codes, ListSeen, HostSees}
use Rattle.vectors.proofs.Holds.{examples_hold}

-- ---- a node row

node_seen : (bytes : List ℕ) (size : ℕ) (n : nodes.NodeInfo) → ReadsAs bytes size n → NodeSeen bytes size n
unfolding node_code node_after node_written_code written_code
node_seen bytes size n says =
    let long : length (nodes.packed_node n) ≡ size = ap length says.packs ∙ says.long in
    let next : 0 + length (nodes.packed_node n) ≡ size = omega arith in
    let known = read_known bytes n says.reads in
    record {
      read = λ answer before after c.
          (c.answers ∙ ap node_code says.reads, places_told after (value_of n) size (c.leaves ∙ ap (λ (r : nodes.Read). node_after 0 r before) says.reads ∙ ap (node_places_of (value_of n)) next));
      written = λ out left answer c h.
          let writes = subst (λ (i : nodes.NodeInfo). Writes i out c.given left) (info_of_value n known.1) c.relates.writes in
          let p = put_count n out left c.given writes known.0 (omega arith) in (
            c.codes ∙ ap node_written_code p.0 ∙ ap pos long,
            p.1 ∙ ap₂ (λ (x : List ℕ) (k : ℕ). x ++ drop k out) says.packs long,
          );
    }

-- ---- a list row

offers_numbered : (ns : List Node) (l : NearestList) → numbers_of (list_events l (offering_all ns)) ≡ kept_codes (offer_answers l ns)
unfolding numbers_of list_events event_of list_after offering_all kept_codes offer_answers
offers_numbered [] l = refl
offers_numbered (n ∷ ns) l = ap (λ (z : List ℤ). kept_code (offered l n).answer ∷ z) (offers_numbered ns (offered l n).list)

offers_left : (ns : List Node) (l : NearestList) → list_after_all l (offering_all ns) ≡ offers l ns
unfolding list_after_all list_after offering_all offers
offers_left [] l = refl
offers_left (n ∷ ns) l = offers_left ns (offered l n).list

list_seen : (target : code.Key) (size : ℕ) (news holding : List Node) (answers : List (Result Bool Refusal)) → Keeps target size news holding answers
    → ListSeen target size news holding answers
list_seen target size news holding answers says = record {
  seen = λ events m' h c.
      let first = sym (begun_empty h) in
      let numbers =
      ap numbers_of ((list_steps h).events_are ∙ ap₂ list_events first c) ∙ offers_numbered news (begun target size).list ∙ ap kept_codes says.answered in
      let holds = ap held (ap₂ list_after_all first c ∙ offers_left news (begun target size).list) ∙ says.holds in
      (numbers, subst (ReadsBack m') holds (list_reads_back h));
}

-- ---- every row

-- a row that says what the rules do is seen so
row_seen : (row : Row) → Says row → HostSees row
unfolding Says row_events HostSees
row_seen (room_row before call answer bytes) says = λ events b' h c.
    subst (λ (l : List Event). EndsWith l answer bytes)
    (sym ((base_history_runs events b' h).events_are ∙ ap (λ (calls : List Call). transcript base_sizes (empty_room base_sizes) calls) c)) says
row_seen (node_row bytes size n) says = node_seen bytes size n says
row_seen (list_row target size news holding answers) says = list_seen target size news holding answers says

-- THE JOINT STATEMENT, of what the host sees
pub host_sees : (row : Row) → In row examples → HostSees row
host_sees row i = row_seen row (examples_hold row i)
