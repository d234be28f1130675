-- The answer to a question, node by node: how many bytes those passed take, and what the output holds. Assumes nothing.
use Rattle.std.proofs.Common.{Result}
use Rattle.refusal.specs.declared.Refusal.{Refusal}
use mathlib.Core.Path.{◌≡◌, ◌∙◌, refl, sym, ap, ap₂}
use mathlib.Core.Bool.{true}
use mathlib.Core.List.{List, [], ◌∷◌, ◌++◌, map, map-append, append_assoc, append-nil}
use Prim.Native.Nat.{ℕ, zero, suc, ◌+◌, ◌-◌, ◌<◌, ◌≤◌}
use native.Mathlib.Nat.{le_of_suc-le-suc, not-suc-le-zero}
use native.Mathlib.Omega.{arith}
use native.Mathlib.Numerals.{add-one}
use lib.ListN.{length, get_or, take, drop, length-append, length-drop, take-append-drop, drop_of_length-le}
use lib.Seq.{length-take-le, get_or-take, take_all, take-suc, take-take, drop_at, drop-drop}
use borrow.Author.Tests.{le-leb}
use Rattle.wire.proofs.Copy.{written_part, length_lent, length_written}
use Rattle.node.specs.declared.Node.{Node}
use Rattle.node.specs.Families.{known_family, packed_length}
use Rattle.node.specs.Nodes.{NodeInfo, packed_node}
use Rattle.node.specs.Values.{info_of}
use Rattle.node.specs.Walks.{packed_nodes}
use Rattle.node.specs.Written.{written_output, WritesNode}
use Rattle.node.proofs.FamilyLaws.{packed_length_lem, address_fits}
use Rattle.node.proofs.NodeLaws.{length_value}
use Rattle.nearest.specs.Lists.{node_key, all_known}
use Rattle.nearest.proofs.Steps.{known_one}
use Rattle.nearest.proofs.Order.{both_true}
use Rattle.buckets_laws.specs.Layout.{record_node}
use Rattle.buckets.specs.declared.search.Found.{Found}
use Rattle.buckets.specs.Kept.{node_at, kept_nodes, kept_bytes, Starts}
use Rattle.buckets.proofs.KeptLaws.{kept_length, kept_at}
use Rattle.buckets.proofs.Places.{node_key_lem}

-- ---- packed nodes, one behind the other

pub packed_append : (ns ms : List NodeInfo) → packed_nodes (ns ++ ms) ≡ packed_nodes ns ++ packed_nodes ms
unfolding packed_nodes
packed_append [] ms = refl
packed_append (n ∷ ns) ms = ap (λ (x : List ℕ). packed_node n ++ x) (packed_append ns ms) ∙ sym (append_assoc (packed_node n) (packed_nodes ns) (packed_nodes ms))

pub packed_one : (n : NodeInfo) → packed_nodes (n ∷ []) ≡ packed_node n
unfolding packed_nodes
packed_one n = append-nil (packed_node n)

-- ---- known families

pub known_at : (ns : List Node) (i : ℕ) (d : Node) → all_known ns ≡ true → i < length ns → known_family (get_or ns i d).family ≡ true
known_at [] i d e h = absurd (not-suc-le-zero h)
known_at (n ∷ ns) zero d e h = (both_true (known_family n.family) (all_known ns) (sym (known_one n ns (known_family n.family) refl) ∙ e)).0
known_at (n ∷ ns) (suc i) d e h =
    known_at ns i d (both_true (known_family n.family) (all_known ns) (sym (known_one n ns (known_family n.family) refl) ∙ e)).1 (le_of_suc-le-suc h)

pub packed_most : (family : ℕ) → packed_length family ≤ 51
packed_most family = let p = packed_length_lem family in let a = address_fits family in omega arith

-- ---- a record in the memory

module _ (memory : List ℕ) (at : ℕ) (inside : at + 51 ≤ length memory) where
  record_long : length (take 51 (drop at memory)) ≡ 51
  record_long = length_lent memory at 51 inside

  address_long : length (node_at memory at).address ≡ 16
  unfolding record_node
  address_long = let l = record_long in length_lent (take 51 (drop at memory)) 33 16 (omega arith)

  key_long : length (node_key (node_at memory at)) ≡ 32
  key_long = ap length (node_key_lem memory at) ∙ length_lent memory at 32 (omega arith)

  pub packed_long : length (packed_node (info_of (node_at memory at))) ≡ packed_length (node_at memory at).family
  packed_long = length_value (node_at memory at) address_long key_long

-- ---- the first i of those kept, packed

abbrev pub front_bytes : List ℕ → List ℕ → ℕ → List ℕ
front_bytes memory starts i = packed_nodes (map info_of (map (node_at memory) (take i starts)))

module _ (memory starts : List ℕ) where
  pub front_none : front_bytes memory starts 0 ≡ []
  unfolding packed_nodes
  front_none = refl

  pub front_more : (i : ℕ) → i < length starts
      → front_bytes memory starts (i + 1) ≡ front_bytes memory starts i ++ packed_node (info_of (node_at memory (get_or starts i 0)))
  front_more i h =
      ap (front_bytes memory starts) (add-one i)
      ∙ ap (λ (x : List ℕ). packed_nodes (map info_of (map (node_at memory) x))) (take-suc starts i 0 h)
      ∙ ap (λ (x : List Node). packed_nodes (map info_of x)) (map-append (node_at memory) (take i starts) (get_or starts i 0 ∷ []))
      ∙ ap packed_nodes (map-append info_of (map (node_at memory) (take i starts)) (node_at memory (get_or starts i 0) ∷ []))
      ∙ packed_append (map info_of (map (node_at memory) (take i starts))) (info_of (node_at memory (get_or starts i 0)) ∷ [])
      ∙ ap (λ (x : List ℕ). front_bytes memory starts i ++ x) (packed_one (info_of (node_at memory (get_or starts i 0))))

  -- fewer nodes take no more bytes
  pub front_less : (i k : ℕ) → i ≤ k → length (front_bytes memory starts i) ≤ length (front_bytes memory starts k)
  front_less i k h =
      let f : List ℕ → List NodeInfo = λ x. map info_of (map (node_at memory) x) in
      let a = take i (take k starts) in
      let b = drop i (take k starts) in
      let e : front_bytes memory starts k ≡ front_bytes memory starts i ++ packed_nodes (f b) =
      ap (λ (x : List ℕ). packed_nodes (f x)) (sym (take-append-drop i (take k starts)))
      ∙ ap (λ (x : List Node). packed_nodes (map info_of x)) (map-append (node_at memory) a b)
      ∙ ap packed_nodes (map-append info_of (map (node_at memory) a) (map (node_at memory) b))
      ∙ packed_append (f a) (f b)
      ∙ ap (λ (x : List ℕ). packed_nodes (f x) ++ packed_nodes (f b)) (take-take i k starts h) in
      let l = ap length e ∙ length-append (front_bytes memory starts i) (packed_nodes (f b)) in
      omega arith

-- the places of those kept, as a part lent of all places
pub front_count : (memory : List ℕ) (kept : Found) → Starts memory kept → length (take kept.count kept.starts) ≡ kept.count
front_count memory kept s = length-take-le kept.count kept.starts (let f = s.few in let l = s.four in omega arith)

pub front_start : (kept : Found) (i : ℕ) → i < kept.count → get_or (take kept.count kept.starts) i 0 ≡ get_or kept.starts i 0
front_start kept i h = get_or-take kept.count kept.starts i 0 h

module _ (memory : List ℕ) (kept : Found) (s : Starts memory kept) (i : ℕ) (h : i < kept.count) where
  pub start_in : i < length kept.starts
  start_in = let f = s.few in let l = s.four in omega arith

  -- one node more
  pub front_longer : length (front_bytes memory kept.starts (i + 1))
      ≡ length (front_bytes memory kept.starts i) + packed_length (node_at memory (get_or kept.starts i 0)).family
  front_longer =
      let p = packed_long memory (get_or kept.starts i 0) (s.inside i h) in
      let n = packed_node (info_of (node_at memory (get_or kept.starts i 0))) in
      ap length (front_more memory kept.starts i start_in) ∙ length-append (front_bytes memory kept.starts i) n
      ∙ ap (λ (x : ℕ). length (front_bytes memory kept.starts i) + x) p

  pub kept_known : all_known (kept_nodes memory kept) ≡ true → known_family (node_at memory (get_or kept.starts i 0)).family ≡ true
  kept_known e =
      ap (λ (n : Node). known_family n.family) (sym (kept_at memory kept s i h))
      ∙ known_at (kept_nodes memory kept) i (node_at memory 0) e (let l = kept_length memory kept s in omega arith)

  -- it is written behind those before it
  module _ (known : all_known (kept_nodes memory kept) ≡ true) (out l : List ℕ) (room : length (kept_bytes memory kept) ≤ length out) (at : ℕ)
      (e : l ≡ front_bytes memory kept.starts i ++ drop at out) (a : at ≡ length (front_bytes memory kept.starts i)) where
    abbrev n : Node
    n = node_at memory (get_or kept.starts i 0)

    fits : at + packed_length n.family ≤ length out
    fits = let q = front_less memory kept.starts (i + 1) kept.count (omega arith) in let r = front_longer in omega arith

    long : length l ≡ length out
    long = ap length e ∙ length_written (front_bytes memory kept.starts i) out at (sym a) (omega (arith, fits))

    pub node_fits : (node : Node) → node ≡ n → at + packed_length node.family ≤ length out
    node_fits node same = let f = fits in let e = ap (λ (x : Node). packed_length x.family) same in omega arith

    pub room_left : at ≤ length l
    room_left = let q = fits in let r = long in omega arith

    lent_is : take (length l - at) (drop at l) ≡ drop at out
    lent_is =
        take_all (length l - at) (drop at l) (let d = length-drop at l in omega arith) ∙ ap (drop at) e
        ∙ drop_at (front_bytes memory kept.starts i) (drop at out) at (sym a)

    module _ (node : Node) (same : node ≡ n) (new : List ℕ) (answer : Result ℕ Refusal) (writes : WritesNode node (take (length l - at) (drop at l)) new answer) where
      left_is : new ≡ packed_node (info_of n) ++ drop (at + packed_length n.family) out
      unfolding written_output info_of
      left_is =
          let p = packed_long memory (get_or kept.starts i 0) (s.inside i h) in
          let d = length-drop at out in
          let q = le-leb (length (packed_node (info_of n))) (length (drop at out)) (let f = fits in omega arith) in
          writes.writes.leaves
          ∙ ap₂ (λ (x : Node) (y : List ℕ). written_output (info_of x) y) same lent_is
          ∙ rw (kept_known known, q)
          (ap (λ (k : ℕ). packed_node (info_of n) ++ drop k (drop at out)) p
          ∙ ap (λ (x : List ℕ). packed_node (info_of n) ++ x) (drop-drop (packed_length n.family) at out))

      pub written_more : take at l ++ (new ++ drop (length l - at) (drop at l))
          ≡ front_bytes memory kept.starts (i + 1) ++ drop (at + packed_length node.family) out
      written_more =
          let w = front_bytes memory kept.starts i in
          let r = drop (at + packed_length n.family) out in
          ap (λ (x : List ℕ). take at x ++ (new ++ drop (length l - at) (drop at x))) e
          ∙ written_part w new out at (length l - at) (sym a)
          ∙ ap (λ (x : List ℕ). (w ++ new) ++ x) (drop_of_length-le out {i = at + (length l - at)} (let q = long in let f = fits in omega arith))
          ∙ append-nil (w ++ new)
          ∙ ap (λ (x : List ℕ). w ++ x) left_is
          ∙ sym (append_assoc w (packed_node (info_of n)) r)
          ∙ ap (λ (x : List ℕ). x ++ r) (sym (front_more memory kept.starts i start_in))
          ∙ ap (λ (x : Node). front_bytes memory kept.starts (i + 1) ++ drop (at + packed_length x.family) out) (sym same)
