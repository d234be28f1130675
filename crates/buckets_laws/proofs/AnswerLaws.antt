-- The bytes of an answer. Document 02, request 05: "A question with a target gets the 4 nearest of all held nodes, or all when fewer, written nearest first
-- as a node list." They are at most 204, and a walk over them shows just these nodes and then says end. Assumes nothing.
use mathlib.Core.Path.{◌≡◌, refl}
use mathlib.Core.Bool.{true}
use mathlib.Core.Logic.{inl, inr}
use mathlib.Core.List.{List, [], ◌∷◌, map}
use Prim.Native.Nat.{ℕ, ◌*◌, ◌≤◌}
use native.Mathlib.Omega.{arith}
use lib.ListN.{length, length-append, length-map}
use Rattle.wire.specs.Numbers.{Bytes}
use Rattle.node.specs.declared.Node.{Node}
use Rattle.node.specs.Families.{known_family}
use Rattle.node.specs.Nodes.{packed_node}
use Rattle.node.specs.Values.{info_of, IsNode}
use Rattle.node.specs.Walks.{ended, walk_from, packed_nodes, AllFit}
use Rattle.node.proofs.FamilyLaws.{address_fits, packed_length_lem}
use Rattle.node.proofs.NodeLaws.{length_value}
use Rattle.node.proofs.RoundTrips.{value_fits}
use Rattle.node.proofs.WholeLists.{whole_shown}
use Rattle.nearest.specs.Sequence.{In}
use Rattle.nearest.proofs.Known.{known_each}
use Rattle.nearest_first.proofs.NearestLaws.{nearest_short, nearest_in}
use Rattle.buckets_laws.specs.Layout.{held_nodes}
use Rattle.buckets_laws.specs.Whole.{buckets_whole}
use Rattle.buckets_laws.specs.Calls.{nearest_held, answer_bytes}
use Rattle.buckets_laws.proofs.HeldNodes.{held_fits}
use Rattle.buckets_laws.proofs.HeldLaws.{held_known}

-- ---- any nodes

-- a packed node has at most 51 bytes
pub packed_few : (ns : List Node) → ((n : Node) → In n ns → IsNode n) → length (packed_nodes (map info_of ns)) ≤ 51 * length ns
unfolding packed_nodes
packed_few [] h = omega arith
packed_few (n ∷ ns) h =
    let r = packed_few ns (λ x i. h x (inr i)) in
    let is = h n (inl refl) in
    let l = length_value n is.long is.key.long in
    let p = packed_length_lem n.family in
    let a = address_fits n.family in
    let s = length-append (packed_node (info_of n)) (packed_nodes (map info_of ns)) in
    omega arith

pub values_fit : (ns : List Node) → ((n : Node) → In n ns → IsNode n) → ((n : Node) → In n ns → known_family n.family ≡ true) → AllFit (map info_of ns)
values_fit [] h k = tt
values_fit (n ∷ ns) h k = (value_fits n (h n (inl refl)) (k n (inl refl)), values_fit ns (λ x i. h x (inr i)) (λ x i. k x (inr i)))

-- ---- the nodes of an answer

module _ (memory : List ℕ) (whole : buckets_whole memory ≡ true) (bytes : Bytes memory) (target : List ℕ) where
  -- each is held
  pub answer_held : (n : Node) → In n (nearest_held memory target) → In n (held_nodes memory)
  unfolding nearest_held
  answer_held n i = nearest_in 4 target (held_nodes memory) n i

  -- "the 4 nearest"
  pub answer_four : length (nearest_held memory target) ≤ 4
  unfolding nearest_held
  answer_four = nearest_short 4 target (held_nodes memory)

  pub answer_few : length (answer_bytes memory target) ≤ 204
  unfolding answer_bytes
  answer_few =
      let p = packed_few (nearest_held memory target) (λ n i. (held_fits memory whole bytes n (answer_held n i)).1) in
      let f = answer_four in
      omega arith

  -- "as a node list": a walk shows them all, and no byte is left
  pub answer_walks : (steps : ℕ) → 5 ≤ steps
      → walk_from steps (answer_bytes memory target) 0 0 ≡ record { nodes = map info_of (nearest_held memory target); ending = ended }
  unfolding answer_bytes
  answer_walks steps h =
      whole_shown steps (map info_of (nearest_held memory target)) h
      (values_fit (nearest_held memory target) (λ n i. (held_fits memory whole bytes n (answer_held n i)).1)
      (λ n i. known_each (held_nodes memory) (held_known memory whole) n (answer_held n i)))
      (let e = length-map (nearest_held memory target) info_of in let f = answer_four in omega arith)
