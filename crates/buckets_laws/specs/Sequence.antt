-- Buckets over whole sequences of calls: what `begin` leaves, and what offers make of it. A question is lent the memory to read and changes nothing of it.
use Rattle.std.specs.Prelude.{Result, Ok, Bool, List, ℕ}
use Rattle.refusal.specs.declared.Refusal.{Refusal}
use Rattle.key.specs.declared.Key.{Key}
use Rattle.node.specs.declared.Node.{Node}
use Rattle.buckets_laws.specs.Calls.{Begins, Offers}

-- memory in which buckets were begun with a base key, and which only offers changed, refused ones among them
pub data Reached (base : Key) : List ℕ → Type 0 where
  begins : {memory left : List ℕ} → Begins base memory left (Ok tt) → Reached base left
  offering : {memory left : List ℕ} → Reached base memory → (n : Node) (said : Result Bool Refusal) → Offers n memory left said → Reached base left
