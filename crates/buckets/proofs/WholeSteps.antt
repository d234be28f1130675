-- The test of buckets, one check and one turn at a time. Assumes nothing.
use mathlib.Core.Path.{◌≡◌, ◌∙◌, refl, sym, ap, ap₂}
use mathlib.Core.Bool.{Bool, true, false, ◌&&◌}
use mathlib.Core.List.{List, [], ◌∷◌, map}
use Prim.Native.Nat.{ℕ, ◌+◌, ◌-◌, ◌<◌, ◌≤◌}
use native.Mathlib.Numerals.{add-one}
use native.Mathlib.Omega.{arith}
use lib.ListN.{length, take, drop, get_or, drop_of_length-le}
use lib.Seq.{drop-cons}
use borrow.Author.Tests.{eq-eqb, ne_eqb}
use Rattle.wire.proofs.Copy.{length_lent}
use Rattle.key.specs.Keys.{key_of}
use Rattle.key.specs.Bits.{shared_bits}
use Rattle.key.proofs.Lent.{key_itself}
use Rattle.node.specs.declared.Node.{Node}
use Rattle.node.specs.Families.{known_family}
use Rattle.nearest.specs.Lists.{node_key}
use Rattle.table_laws.specs.Table.{listed, record_at, is_table}
use Rattle.buckets_laws.specs.Layout.{base_of, bucket_at, record_node, bucket_nodes, record_start}
use Rattle.buckets_laws.specs.Whole.{belongs, all_belong}
use Rattle.buckets.specs.Kept.{node_at}
use Rattle.buckets.proofs.Places.{node_at_place, family_here, key_here, listed_place_low}

-- ---- one node, where its record begins

module _ (m : List ℕ) (at : ℕ) (inside : at + 51 ≤ length m) where
  pub base_here : key_of (take 32 m) ≡ base_of m
  base_here = key_itself (take 32 m) (length_lent m 0 32 (omega arith))

  module _ (b r : ℕ) (e : r ≡ shared_bits (key_of (take 32 m)) (key_of (take (at + 32 - at) (drop at m)))) where
    bits_here : r ≡ shared_bits (base_of m) (node_key (node_at m at))
    bits_here = e ∙ ap₂ shared_bits base_here (key_here m at inside)

    pub other_bucket : (r ≡ b → ⊥) → belongs (base_of m) b (node_at m at) ≡ false
    unfolding belongs
    other_bucket d = rw (ne_eqb (shared_bits (base_of m) (node_key (node_at m at))) b (λ q. d (bits_here ∙ q)))

    pub own_bucket_lem : r ≡ b → belongs (base_of m) b (node_at m at) ≡ known_family (get_or m (at + 32) 0)
    unfolding belongs
    own_bucket_lem q = rw (eq-eqb (shared_bits (base_of m) (node_key (node_at m at))) b (sym bits_here ∙ q), family_here m at)

-- ---- the nodes of one bucket, place by place

-- the nodes of the places from the i-th on that a bucket lists
abbrev pub nodes_from : List ℕ → ℕ → List Node
nodes_from t i = map (λ (place : ℕ). record_node (record_at 8 51 t place)) (drop i (listed 8 t))

pub all_nodes : (t : List ℕ) → bucket_nodes t ≡ nodes_from t 0
unfolding bucket_nodes
all_nodes t = refl

module _ (t : List ℕ) (is : is_table 8 51 t ≡ true) where
  module _ (i : ℕ) (h : i < length (listed 8 t)) where
    pub nodes_turn : nodes_from t i ≡ record_node (record_at 8 51 t (get_or (listed 8 t) i 0)) ∷ nodes_from t (i + 1)
    nodes_turn = rw (add-one, drop-cons (listed 8 t) i 0 h)

  pub nodes_end : (i : ℕ) → length (listed 8 t) ≤ i → nodes_from t i ≡ []
  nodes_end i h = ap (map (λ (place : ℕ). record_node (record_at 8 51 t place))) (drop_of_length-le (listed 8 t) {i = i} h)

module _ (m : List ℕ) (b : ℕ) (is : is_table 8 51 (bucket_at m b) ≡ true) (i : ℕ) (h : i < length (listed 8 (bucket_at m b)))
    (r : Bool) (e : r ≡ belongs (base_of m) b (node_at m (record_start b (get_or (listed 8 (bucket_at m b)) i 0)))) where
  turn : all_belong (base_of m) b (nodes_from (bucket_at m b) i) ≡ (r && all_belong (base_of m) b (nodes_from (bucket_at m b) (i + 1)))
  unfolding all_belong
  turn =
      ap (all_belong (base_of m) b) (nodes_turn (bucket_at m b) is i h)
      ∙ ap (λ (x : Bool). x && all_belong (base_of m) b (nodes_from (bucket_at m b) (i + 1)))
      (sym (e ∙ ap (belongs (base_of m) b) (node_at_place m b (get_or (listed 8 (bucket_at m b)) i 0) (listed_place_low (bucket_at m b) is i h))))

  pub belong_stop : r ≡ false → all_belong (base_of m) b (nodes_from (bucket_at m b) i) ≡ false
  belong_stop q = turn ∙ rw q

  pub belong_next : r ≡ true → all_belong (base_of m) b (nodes_from (bucket_at m b) i) ≡ all_belong (base_of m) b (nodes_from (bucket_at m b) (i + 1))
  belong_next q = turn ∙ rw q

-- a node by where the i-th place that is used has its record
pub at_start : (m : List ℕ) (b : ℕ) (used : List ℕ) (start : ℕ) → used ≡ listed 8 (bucket_at m b) → (i : ℕ) → start ≡ record_start b (get_or used i 0)
    → belongs (base_of m) b (node_at m start) ≡ belongs (base_of m) b (node_at m (record_start b (get_or (listed 8 (bucket_at m b)) i 0)))
at_start m b used start e i q =
    ap (λ (x : ℕ). belongs (base_of m) b (node_at m x)) (q ∙ ap (λ (l : List ℕ). record_start b (get_or l i 0)) e)

pub belong_end : (base : List ℕ) (b : ℕ) (t : List ℕ) → is_table 8 51 t ≡ true → (i : ℕ) → length (listed 8 t) ≤ i → all_belong base b (nodes_from t i) ≡ true
unfolding all_belong
belong_end base b t is i h = ap (all_belong base b) (nodes_end t is i h)
