-- The k nearest found by going over the nodes once and keeping k of them: what the private functions that do so leave.
use Rattle.std.specs.Prelude.{List, [], ◌∷◌, ℕ, ◌≤◌, take}
use Rattle.key.specs.Keys.{distance}
use Rattle.node.specs.declared.Node.{Node}
use Rattle.nearest.specs.Lists.{node_key}
use Rattle.nearest.specs.Effect.{insert}
use Rattle.nearest.specs.Sequence.{In}

-- each node is put in before the first that is not nearer, and of all no more than k stay
abbrev pub kept_onto : ℕ → List ℕ → List Node → List Node → List Node
kept_onto k target best [] = best
kept_onto k target best (n ∷ ns) = kept_onto k target (take k (insert target n best)) ns

-- no node is further than one behind it; two may be equally far
abbrev pub Sorted : List ℕ → List Node → Type 0
Sorted target [] = Unit {0}
Sorted target (n ∷ ns) = ((m : Node) → In m ns → distance target (node_key n) ≤ distance target (node_key m)) × Sorted target ns
