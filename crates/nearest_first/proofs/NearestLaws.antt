-- The k nearest of given nodes: how many they are, that they are of the given ones and nearest first. Assumes nothing.
use mathlib.Core.Path.{◌≡◌}
use mathlib.Core.Bool.{true}
use mathlib.Core.Logic.{⊎_elim}
use mathlib.Core.List.{List, []}
use Prim.Native.Nat.{ℕ, ◌≤◌}
use native.Mathlib.Omega.{arith}
use lib.ListN.{length, length-take}
use Rattle.node.specs.declared.Node.{Node}
use Rattle.nearest.specs.Lists.{all_known}
use Rattle.nearest.specs.Sequence.{In}
use Rattle.nearest.proofs.Members.{in_take}
use Rattle.nearest.proofs.Known.{known_each, each_known}
use Rattle.nearest_first.specs.NearestFirst.{nearest_first, nearest_of}
use Rattle.nearest_first.specs.Kept.{Sorted}
use Rattle.nearest_first.proofs.Arranged.{length_arranged, in_arranged, sorted_take, sorted_arranged}

module _ (k : ℕ) (t : List ℕ) (ns : List Node) where
  -- no more than k
  pub nearest_short : length (nearest_of k t ns) ≤ k
  nearest_short = let e = length-take k (nearest_first t ns) in omega arith

  -- "or all when fewer"
  pub nearest_all : length ns ≤ k → length (nearest_of k t ns) ≡ length ns
  nearest_all h = let e = length-take k (nearest_first t ns) in let l = length_arranged t [] ns in omega arith

  -- and k where there are so many
  pub nearest_full : k ≤ length ns → length (nearest_of k t ns) ≡ k
  nearest_full h = let e = length-take k (nearest_first t ns) in let l = length_arranged t [] ns in omega arith

  -- each is one of the given nodes
  pub nearest_in : (x : Node) → In x (nearest_of k t ns) → In x ns
  nearest_in x i = ⊎_elim (λ j. absurd j) (λ j. j) (in_arranged t [] ns x (in_take k (nearest_first t ns) x i))

  pub nearest_known : all_known ns ≡ true → all_known (nearest_of k t ns) ≡ true
  nearest_known f = each_known (nearest_of k t ns) (λ x i. known_each ns f x (nearest_in x i))

  -- "written nearest first"
  pub nearest_sorted : Sorted t (nearest_of k t ns)
  nearest_sorted = sorted_take t k (nearest_first t ns) (sorted_arranged t [] ns tt)
