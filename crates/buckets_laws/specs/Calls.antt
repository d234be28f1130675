-- The calls on buckets in lent bytes: for each, the answer and every byte of the memory and of the output afterwards. Document 02, request 05: "Refusals: 20 for
-- buckets that hold a wrong, doubled or base key; then 10."
use Rattle.std.specs.Prelude.{Result, Ok, Err, Bool, cond, List, ◌++◌, map, ◌≡◌, ℕ, leb, length, drop, replicate}
use Rattle.wire.specs.Numbers.{Bytes}
use Rattle.refusal.specs.declared.Refusal.{Refusal}
use Rattle.refusal.specs.declared.Refusal.TheVariants.{OutputTooShort, UnknownFamily, BucketsNotWhole}
use Rattle.key.specs.declared.Key.{Key}
use Rattle.key.specs.Keys.{IsKey}
use Rattle.node.specs.declared.Node.{Node}
use Rattle.node.specs.Families.{known_family}
use Rattle.node.specs.Values.{info_of}
use Rattle.node.specs.Walks.{packed_nodes}
use Rattle.nearest_first.specs.NearestFirst.{nearest_of}
use Rattle.lent_list_laws.specs.Layout.{Fits}
use Rattle.buckets_laws.specs.Layout.{all_buckets_length, buckets_length, held_nodes}
use Rattle.buckets_laws.specs.Whole.{buckets_whole}
use Rattle.buckets_laws.specs.Effect.{effect_on, is_kept, memory_after}

-- ---- begin: 10 for memory too short, which is left alone

unfoldable pub begun_answer : List ℕ → Result (Unit {0}) Refusal
begun_answer memory = cond (leb buckets_length (length memory)) (Ok tt) (Err OutputTooShort)

unfoldable pub zeros : ℕ → List ℕ
zeros n = replicate n 0

-- the base key, then 256 buckets of zeros, so that none lists a place; what stands behind them stays
unfoldable pub begun_memory : Key → List ℕ → List ℕ
begun_memory base memory =
    cond (leb buckets_length (length memory)) (base.0 ++ (zeros all_buckets_length ++ drop buckets_length memory)) memory

pub record Begins (base : Key) (memory left : List ℕ) (answer : Result (Unit {0}) Refusal) : Type 0 where
  -- as the types of the parameters have it
  pub bytes : Bytes memory
  pub key : IsKey base.0
  pub answers : answer ≡ begun_answer memory
  pub leaves : left ≡ begun_memory base memory

-- ---- offer: 20, then 15 for the node; then yes or no for kept

unfoldable pub offer_answered : List ℕ → Node → Result Bool Refusal
offer_answered memory n =
    cond (buckets_whole memory) (cond (known_family n.family) (Ok (is_kept (effect_on memory n))) (Err UnknownFamily)) (Err BucketsNotWhole)

unfoldable pub offer_left : List ℕ → Node → List ℕ
offer_left memory n = cond (buckets_whole memory) (cond (known_family n.family) (memory_after (effect_on memory n) memory n) memory) memory

pub record Offers (n : Node) (memory left : List ℕ) (answer : Result Bool Refusal) : Type 0 where
  -- as the types of the parameters have it
  pub bytes : Bytes memory
  pub node : Fits n
  pub answers : answer ≡ offer_answered memory n
  pub leaves : left ≡ offer_left memory n

-- ---- the question: 20, then 10 by the exact length

-- "the 4 nearest of all held nodes, or all when fewer"
unfoldable pub nearest_held : List ℕ → List ℕ → List Node
nearest_held memory target = nearest_of 4 target (held_nodes memory)

-- "written nearest first as a node list"
unfoldable pub answer_bytes : List ℕ → List ℕ → List ℕ
answer_bytes memory target = packed_nodes (map info_of (nearest_held memory target))

unfoldable pub nearest_answered : List ℕ → List ℕ → List ℕ → Result ℕ Refusal
nearest_answered memory target out =
    cond (buckets_whole memory)
    (cond (leb (length (answer_bytes memory target)) (length out)) (Ok (length (answer_bytes memory target))) (Err OutputTooShort))
    (Err BucketsNotWhole)

unfoldable pub nearest_left : List ℕ → List ℕ → List ℕ → List ℕ
nearest_left memory target out =
    cond (buckets_whole memory)
    (cond (leb (length (answer_bytes memory target)) (length out)) (answer_bytes memory target ++ drop (length (answer_bytes memory target)) out) out)
    out

pub record Asks (target : Key) (memory out left : List ℕ) (answer : Result ℕ Refusal) : Type 0 where
  -- as the types of the parameters have it
  pub bytes : Bytes memory
  pub key : IsKey target.0
  pub answers : answer ≡ nearest_answered memory target.0 out
  pub leaves : left ≡ nearest_left memory target.0 out
