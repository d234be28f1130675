-- Document 02, Req 05: "A question with a target gets the 4 nearest of all held nodes, or all when fewer, written nearest first as a node list."
use Rattle.std.specs.Prelude.{◌≡◌, false, List, [], ◌∷◌, ℕ, take}
use Rattle.node.specs.declared.Node.{Node}
use Rattle.nearest.specs.Lists.{node_key}
use Rattle.nearest.specs.Effect.{holds, insert}

-- nodes taken one by one, each put in before the first that is not nearer
abbrev pub arranged_onto : List ℕ → List Node → List Node → List Node
arranged_onto target done [] = done
arranged_onto target done (n ∷ ns) = arranged_onto target (insert target n done) ns

-- all of them, "nearest first"
abbrev pub nearest_first : List ℕ → List Node → List Node
nearest_first target ns = arranged_onto target [] ns

-- "the 4 nearest of all held nodes, or all when fewer, written nearest first": k stands for the 4, ns for the held nodes
abbrev pub nearest_of : ℕ → List ℕ → List Node → List Node
nearest_of k target ns = take k (nearest_first target ns)

-- no key stands twice
abbrev pub Apart : List Node → Type 0
Apart [] = Unit {0}
Apart (n ∷ ns) = (holds (node_key n) ns ≡ false) × Apart ns
