-- What the functions of `node` promise, and that of `buckets` that writes nodes, carried over to the exported ones. Assumes nothing.
use mathlib.Core.Path.{◌≡◌, ◌∙◌, refl, sym, ap, subst}
use mathlib.Core.Bool.{Bool, true, false, cond}
use mathlib.Core.List.{List}
use Prim.Native.Nat.{ℕ, ◌+◌, ◌≤◌}
use native.Mathlib.Omega.{arith}
use lib.Dec.{leb}
use lib.IntN.{ℤ, pos}
use lib.ListN.{length}
use Rattle.std.proofs.Common.{Some, None, Result, Ok, Err}
use Rattle.refusal.specs.declared.Refusal.{Refusal}
use Rattle.key.specs.declared.Key.{Key}
use Rattle.node.specs.declared.Node.{Node}
use Rattle.node.specs.declared.walk.Next.{Next}
use Rattle.node.specs.Families.{known_family}
use Rattle.node.specs.Nodes.{packed_node, Read, node, refused}
use Rattle.node.specs.Reads.{shown_read}
use Rattle.node.specs.Steps.{Showing, shows, ends, refuses, place_after, count_after, shown_step}
use Rattle.node.specs.Values.{info_of, value_of}
use Rattle.node.specs.Written.{WritesNode, written_answer}
use Rattle.node.proofs.FamilyLaws.{address_fits, packed_length_lem}
use Rattle.node.proofs.NodeLaws.{length_value}
use Rattle.buckets_laws.specs.Whole.{buckets_whole}
use Rattle.buckets_laws.specs.Calls.{Asks, answer_bytes, nearest_answered}
use Rattle.buckets_laws.proofs.AnswerLaws.{answer_few}
use Rattle.buckets_laws.proofs.Theorems.{answer_not_whole}
use Rattle.banavoge_laws.specs.Answers.{refusal_code, Counted}
use Rattle.banavoge_laws.specs.Nearest.{HeldPlaces, held_places_of}
use Rattle.banavoge_laws.specs.Nodes.{NodePlaces, node_places, node_places_of, node_code, node_after, ReadsNode, step_code, step_after, StepsNode, CountedNodes}

-- ---- a node handed to its places, and the place of the next one beside it

pub told_next : (n : Node) (next : ℕ) (told : HeldPlaces) → told ≡ held_places_of n
    → node_places told.family told.address told.port told.key next ≡ node_places_of n next
told_next n next told e = ap (λ (x : HeldPlaces). node_places x.family x.address x.port x.key next) e

-- ---- one node

module _ (at : ℕ) where
  pub node_told : (read : Read) (n : Node) (next : ℕ) (before after : NodePlaces) → Ok (n, next) ≡ shown_read at read → after ≡ node_places_of n next
      → ReadsNode at read (pos 0) before after
  unfolding shown_read node_code node_after
  node_told (node m) n next before after e a =
      let p : (n, next) ≡ (value_of m, at + length (packed_node m)) = cc in
      record { answers = refl; leaves = a ∙ ap (λ (x : Node × ℕ). node_places_of x.0 x.1) p }
  node_told (refused why) n next before after e a = absurd (cc)

  pub node_turned : (read : Read) (why : Refusal) (z : ℤ) (before : NodePlaces) → Err why ≡ shown_read at read → z ≡ refusal_code why → ReadsNode at read z before before
  unfolding shown_read node_code node_after
  node_turned (node n) why z before e c = absurd (cc)
  node_turned (refused x) why z before e c = let q : why ≡ x = cc in record { answers = c ∙ ap refusal_code q; leaves = refl }

-- ---- a step

module _ (place count : ℕ) where
  pub step_told : (step : Showing) (next : Next) (before after : NodePlaces) → Ok (Some next) ≡ shown_step place count step → after ≡ node_places_of next.node next.place
      → StepsNode place step (pos 1) before after
  unfolding shown_step place_after step_code step_after
  step_told (shows n) next before after e a =
      let p : next ≡ record { node = value_of n; place = place + length (packed_node n); count = count_after (shows n) count } = cc in
      record { answers = refl; leaves = a ∙ ap (λ (x : Next). node_places_of x.node x.place) p }
  step_told ends next before after e a = absurd (cc)
  step_told (refuses why) next before after e a = absurd (cc)

  pub step_ended : (step : Showing) (before : NodePlaces) → Ok None ≡ shown_step place count step → StepsNode place step (pos 0) before before
  unfolding shown_step step_code step_after
  step_ended (shows n) before e = absurd (cc)
  step_ended ends before e = record { answers = refl; leaves = refl }
  step_ended (refuses why) before e = absurd (cc)

  pub step_turned : (step : Showing) (why : Refusal) (z : ℤ) (before : NodePlaces) → Err why ≡ shown_step place count step → z ≡ refusal_code why
      → StepsNode place step z before before
  unfolding shown_step step_code step_after
  step_turned (shows n) why z before e c = absurd (cc)
  step_turned ends why z before e c = absurd (cc)
  step_turned (refuses x) why z before e c = let q : why ≡ x = cc in record { answers = c ∙ ap refusal_code q; leaves = refl }

-- ---- a node written

counted : (k t : Bool) (m n : ℕ) (why other : Refusal) → cond k (cond t (Ok m) (Err why)) (Err other) ≡ Ok n → n ≡ m
counted true true m n why other e = cc
counted true false m n why other e = absurd (cc)
counted false t m n why other e = absurd (cc)

counted_nodes : (w : Result ℕ Refusal) → ((count : ℕ) → w ≡ Ok count → count ≤ 204) → CountedNodes w
unfolding CountedNodes
counted_nodes (Ok count) h = h count refl
counted_nodes (Err why) h = tt

-- a packed node has at most 51 bytes
pub node_counted : (n : Node) (out : List ℕ) (w : Result ℕ Refusal) (left : List ℕ) → WritesNode n out left w → CountedNodes w
unfolding written_answer
node_counted n out w left writes =
    counted_nodes w (λ count e.
    let c = counted (known_family (info_of n).family) (leb (length (packed_node (info_of n))) (length out)) (length (packed_node (info_of n))) count _ _ (sym writes.writes.answers ∙ e) in
    let l = length_value n writes.fits.long writes.fits.key.long in
    let p = packed_length_lem n.family in
    let f = address_fits n.family in
    omega arith)

-- ---- the nodes nearest to a target

pub asked_counted : (target : Key) (memory out left : List ℕ) (w : Result ℕ Refusal) → Asks target memory out left w → CountedNodes w
unfolding nearest_answered
asked_counted target memory out left w asks =
    counted_nodes w (λ count e.
    let c = counted (buckets_whole memory) (leb (length (answer_bytes memory target.0)) (length out)) (length (answer_bytes memory target.0)) count _ _ (sym asks.answers ∙ e) in
    go count e c (buckets_whole memory) refl)
  where
    go : (count : ℕ) → w ≡ Ok count → count ≡ length (answer_bytes memory target.0) → (b : Bool) → buckets_whole memory ≡ b → count ≤ 204
    go count e c true whole = let f = answer_few memory whole asks.bytes target.0 in omega arith
    go count e c false broken = let p = (answer_not_whole asks broken).0 in absurd (cc)

-- ---- a count of packed nodes is small

pub nodes_small : (w : Result ℕ Refusal) (count : ℕ) → CountedNodes w → w ≡ Ok count → count ≤ 2032
unfolding CountedNodes
nodes_small w count h e = let q : CountedNodes (Ok count) = subst CountedNodes e h in omega (arith, q)

small_nodes : (w : Result ℕ Refusal) → CountedNodes w → Counted w
unfolding CountedNodes Counted
small_nodes (Ok count) h = omega arith
small_nodes (Err why) h = tt

pub node_small : (n : Node) (out : List ℕ) (w : Result ℕ Refusal) (left : List ℕ) → WritesNode n out left w → Counted w
node_small n out w left writes = small_nodes w (node_counted n out w left writes)

pub asked_small : (target : Key) (memory out left : List ℕ) (w : Result ℕ Refusal) → Asks target memory out left w → Counted w
asked_small target memory out left w asks = small_nodes w (asked_counted target memory out left w asks)
