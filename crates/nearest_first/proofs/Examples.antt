-- The 4 nearest computed: of none, of two and of five nodes, whose keys are zero but for the last byte. The target ends in 08, so that the distances are
--
--     last byte    09  0C  03  05  07
--     distance      1   4  11  13  15
--
-- Assumes nothing.
use mathlib.Core.Path.{◌≡◌, refl}
use mathlib.Core.List.{List, [], ◌∷◌}
use Prim.Native.Nat.{ℕ}
use Rattle.wire.specs.Numbers.{number_of}
use Rattle.key.specs.Keys.{same_key, xor_bytes, distance, nearer}
use Rattle.node.specs.declared.Node.{Node}
use Rattle.node.specs.Families.{known_family}
use Rattle.node.specs.Values.{blank_node}
use Rattle.nearest.specs.Lists.{held, holding, empty_of, size_right, all_known, rising_after, rising, keeps_rules}
use Rattle.nearest.specs.Effect.{holds, replace, insert, without, last_key, furthest, effect, after_effect, kept}
use Rattle.nearest.specs.Calls.{begun, checked, taken, offered_after, offered}
use Rattle.nearest.specs.Sequence.{offers}
use Rattle.nearest.proofs.Examples.{key_ending, node_ending}
use Rattle.nearest_first.specs.NearestFirst.{nearest_of}
use Rattle.nearest_first.specs.Kept.{kept_onto}

abbrev target : List ℕ
target = (key_ending 8).0

abbrev two : List Node
two = node_ending 7 ∷ node_ending 12 ∷ []

abbrev five : List Node
five = node_ending 7 ∷ node_ending 12 ∷ node_ending 3 ∷ node_ending 9 ∷ node_ending 5 ∷ []

abbrev four : List Node
four = node_ending 9 ∷ node_ending 12 ∷ node_ending 3 ∷ node_ending 5 ∷ []

pub of_none : nearest_of 4 target [] ≡ []
of_none = refl

-- "or all when fewer", nearest first
pub of_two : nearest_of 4 target two ≡ node_ending 12 ∷ node_ending 7 ∷ []
unfolding key_ending node_ending insert xor_bytes distance nearer number_of
of_two = refl

-- the furthest of five is left out
pub of_five : nearest_of 4 target five ≡ four
unfolding key_ending node_ending insert xor_bytes distance nearer number_of
of_five = refl

-- the same by keeping four on the way, and by offering each to a nearest list of size 4
pub kept_of_five : kept_onto 4 target [] five ≡ four
unfolding key_ending node_ending insert xor_bytes distance nearer number_of
kept_of_five = refl

pub offered_five : held (offers (begun (key_ending 8) 4).list five) ≡ four
unfolding key_ending node_ending offers begun checked taken offered_after offered blank_node holding empty_of size_right all_known rising_after rising keeps_rules holds replace insert without last_key furthest effect after_effect kept same_key xor_bytes distance nearer number_of known_family
offered_five = refl
