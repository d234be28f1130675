-- What the exported functions on a nearest list answer. The relations are those of `lent_list_laws` (`Begins`, `Offers`, `Removes`), told as the numbers here; a
-- refusal sets no reference.
use Rattle.std.specs.Prelude.{Bool, true, false, List, ◌≡◌, ℕ, ℤ, pos, Option, Some, None, Result, Ok, Err}
use Rattle.refusal.specs.declared.Refusal.{Refusal}
use Rattle.key.specs.declared.Key.{Key}
use Rattle.node.specs.declared.Node.{Node}
use Rattle.banavoge_laws.specs.Answers.{refusal_code}

-- the key that a parameter of a call makes
abbrev pub key_given : List ℕ → Key
key_given bytes = record { 0 = bytes }

-- 0, or minus the refusal
unfoldable pub done_code : Result (Unit {0}) Refusal → ℤ
done_code (Ok done) = pos 0
done_code (Err why) = refusal_code why

-- 1 kept, 0 not kept, or minus the refusal
unfoldable pub kept_code : Result Bool Refusal → ℤ
kept_code (Ok true) = pos 1
kept_code (Ok false) = pos 0
kept_code (Err why) = refusal_code why

-- ---- the node at an index: 1 shown, 0 none there, or minus the refusal

-- what the four references refer to
pub record HeldPlaces : Type 0 where
  pub family : ℕ
  pub address : List ℕ
  pub port : ℕ
  pub key : List ℕ

abbrev pub held_places : ℕ → List ℕ → ℕ → List ℕ → HeldPlaces
held_places family address port key = record { family = family; address = address; port = port; key = key }

abbrev pub held_places_of : Node → HeldPlaces
held_places_of n = held_places n.family n.address n.port n.key.0

unfoldable pub held_code : Result (Option Node) Refusal → ℤ
held_code (Ok (Some n)) = pos 1
held_code (Ok None) = pos 0
held_code (Err why) = refusal_code why

-- only a node that is shown is set
unfoldable pub held_after : Result (Option Node) Refusal → HeldPlaces → HeldPlaces
held_after (Ok (Some n)) before = held_places_of n
held_after (Ok None) before = before
held_after (Err why) before = before

pub record ShowsHeld (shown : Result (Option Node) Refusal) (answer : ℤ) (before after : HeldPlaces) : Type 0 where
  pub answers : answer ≡ held_code shown
  pub leaves : after ≡ held_after shown before
