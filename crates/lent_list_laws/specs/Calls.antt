-- The calls on a list in lent bytes: for each, the answer and every byte of the memory afterwards. Document 01, "The nearest list" and "Refusal
-- numbers": "Every lent state is tested in full before use: one too short, over its size, or holding a node of unknown family breaks its own rules."
use Rattle.std.specs.Prelude.{Bool, cond, List, ◌≡◌, ℕ, leb, ltb, length, get_or, Result, Ok, Err}
use Rattle.wire.specs.Numbers.{Bytes}
use Rattle.refusal.specs.declared.Refusal.{Refusal}
use Rattle.refusal.specs.declared.Refusal.TheVariants.{ListSize, ListNotWhole}
use Rattle.key.specs.declared.Key.{Key}
use Rattle.key.specs.Keys.{IsKey}
use Rattle.node.specs.declared.Node.{Node}
use Rattle.nearest.specs.Lists.{size_right}
use Rattle.nearest.specs.Calls.{begun, offered, removed}
use Rattle.lent_list_laws.specs.Layout.{size_place, list_length, list_at, stored, Fits}

-- ---- memory too short

-- "List calls: 12, 14": 12 where the size is there and is not 1 to 16; else 14, as where no byte is there
unfoldable pub short_refusal : List ℕ → Refusal
short_refusal memory = cond (ltb size_place (length memory)) (cond (size_right (get_or memory size_place 0)) ListNotWhole ListSize) ListNotWhole

-- ---- begin: 12 comes first, since the size is a parameter and no part of the memory; then 14 for memory too short

unfoldable pub begun_answer : Result (Unit {0}) Refusal → List ℕ → Result (Unit {0}) Refusal
begun_answer (Err why) memory = Err why
begun_answer (Ok _) memory = cond (leb list_length (length memory)) (Ok tt) (Err ListNotWhole)

-- a bad size leaves the empty list of size 8 for that target in memory that is long enough
pub record Begins (target : Key) (size : ℕ) (memory left : List ℕ) (answer : Result (Unit {0}) Refusal) : Type 0 where
  -- as the type of the parameter has it
  pub key : IsKey target.0
  pub answers : answer ≡ begun_answer (begun target size).answer memory
  pub leaves : left ≡ stored (begun target size).list memory

-- ---- offer and remove: of memory too short no more than its first byte is judged. A refusal hands back the list that stands there, and then what is left is
-- the memory as it was, by `refused_offer_leaves` and `refused_remove_leaves` of proofs/RefusedLeaves.

unfoldable pub offer_answered : List ℕ → Node → Result Bool Refusal
offer_answered memory n = cond (leb list_length (length memory)) (offered (list_at memory) n).answer (Err (short_refusal memory))

pub record Offers (n : Node) (memory left : List ℕ) (answer : Result Bool Refusal) : Type 0 where
  -- as the types of the parameters have it
  pub bytes : Bytes memory
  pub node : Fits n
  pub answers : answer ≡ offer_answered memory n
  pub leaves : left ≡ stored (offered (list_at memory) n).list memory

unfoldable pub remove_answered : List ℕ → Key → Result (Unit {0}) Refusal
remove_answered memory key = cond (leb list_length (length memory)) (removed (list_at memory) key).answer (Err (short_refusal memory))

pub record Removes (key : Key) (memory left : List ℕ) (answer : Result (Unit {0}) Refusal) : Type 0 where
  -- as the type of the parameter has it
  pub bytes : Bytes memory
  pub answers : answer ≡ remove_answered memory key
  pub leaves : left ≡ stored (removed (list_at memory) key).list memory
