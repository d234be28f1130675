-- Document 01, "The nearest list", over whole sequences of offers: what a list must hold after them.
use Rattle.std.specs.Prelude.{Bool, true, false, cond, List, [], ◌∷◌, ◌++◌, ◌⊎◌, ◌≡◌, ℕ, ◌-◌, ◌≤◌, length, replicate, Result, is_err}
use Rattle.refusal.specs.declared.Refusal.{Refusal}
use Rattle.key.specs.declared.Key.{Key}
use Rattle.key.specs.Keys.{IsKey, same_key, nearer}
use Rattle.node.specs.declared.Node.{Node}
use Rattle.node.specs.Families.{known_family}
use Rattle.nearest.specs.declared.NearestList.{NearestList}
use Rattle.nearest.specs.Lists.{largest_size, node_key, rising}
use Rattle.node.specs.Values.{blank_node}
use Rattle.nearest.specs.Effect.{holds}
use Rattle.nearest.specs.Calls.{begun, offered, removed}

-- nodes offered one after the other, each to the list that the last offer handed back
unfoldable pub offers : NearestList → List Node → NearestList
offers l [] = l
offers l (n ∷ ns) = offers (offered l n).list ns

-- whether an answer is a refusal
abbrev pub refused_offer : Result Bool Refusal → Bool
refused_offer answer = is_err answer

-- those of them that were offered without refusal
unfoldable pub accepted : NearestList → List Node → List Node
accepted l [] = []
accepted l (n ∷ ns) = cond (refused_offer (offered l n).answer) (accepted (offered l n).list ns) (n ∷ accepted (offered l n).list ns)

-- a node stands among nodes
abbrev pub In : Node → List Node → Type 0
In n [] = ⊥
In n (m ∷ ms) = (n ≡ m) ⊎ In n ms

-- the last node offered under its key: none that was offered after it has its key
abbrev pub Last : Node → List Node → Type 0
Last n [] = ⊥
Last n (m ∷ ms) = ((n ≡ m) × (holds (node_key n) ms ≡ false)) ⊎ Last n ms

-- exactly the k nearest of the distinct keys offered, in order, each with its last node, or all when fewer
pub record Nearest (target : List ℕ) (k : ℕ) (past ns : List Node) : Type 0 where
  -- nearest first, no key twice
  pub rises : rising target ns ≡ true
  pub short : length ns ≤ k
  pub last : (n : Node) → In n ns → Last n past
  -- a key that is left out is further than all of them, and they are k
  pub nearest : (n : Node) → Last n past → In n ns ⊎ ((length ns ≡ k) × ((m : Node) → In m ns → nearer target (node_key m) (node_key n) ≡ true))

-- each key is a key: 32 bytes
abbrev pub Keyed : List Node → Type 0
Keyed ns = (n : Node) → In n ns → IsKey (node_key n)

-- the nodes of known family, in order
unfoldable pub known_ones : List Node → List Node
known_ones [] = []
known_ones (n ∷ ns) = cond (known_family n.family) (n ∷ known_ones ns) (known_ones ns)

-- the list that holds these nodes, blank behind them
unfoldable pub list_of : Key → ℕ → List Node → NearestList
list_of target size ns = record { target = target; size = size; count = length ns; nodes = ns ++ replicate (largest_size - length ns) blank_node }

-- a list made by `begin` of a size and changed only by offers and removals
pub data Reached (target : Key) (size : ℕ) : NearestList → Type 0 where
  begins : Reached target size (begun target size).list
  offering : {l : NearestList} → Reached target size l → (n : Node) → IsKey (node_key n) → Reached target size (offered l n).list
  removing : {l : NearestList} → Reached target size l → (key : Key) → Reached target size (removed l key).list

-- the offers of one key, in order
unfoldable pub of_key : List ℕ → List Node → List Node
of_key key [] = []
of_key key (m ∷ ms) = cond (same_key (node_key m) key) (m ∷ of_key key ms) (of_key key ms)
