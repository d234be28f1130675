-- Document 01's examples of the nearest list, computed: P13, and the error of taking a difference for a distance. Assumes nothing.
use mathlib.Core.Path.{◌≡◌, refl}
use mathlib.Core.Bool.{Bool, true, false}
use mathlib.Core.List.{[], ◌∷◌, ◌++◌}
use Prim.Native.Nat.{ℕ}
use lib.ListN.{replicate}
use Rattle.std.specs.Prelude.{Ok}
use Rattle.nearest.specs.declared.Answered.{Answered}
use Rattle.wire.specs.Numbers.{number_of}
use Rattle.key.specs.declared.Key.{Key}
use Rattle.key.specs.Keys.{same_key, xor_bytes, distance, nearer}
use Rattle.node.specs.declared.Node.{Node}
use Rattle.node.specs.Families.{known_family}
use Rattle.nearest.specs.declared.NearestList.{NearestList}
use Rattle.nearest.specs.Lists.{held, holding, empty_of, size_right, all_known, rising_after, rising, keeps_rules}
use Rattle.node.specs.Values.{blank_node}
use Rattle.nearest.specs.Effect.{too_far, holds, replace, insert, without, last_key, furthest, effect, after_effect, kept}
use Rattle.nearest.specs.Calls.{begun, checked, effect_on, taken, offered_after, offered}

-- a key that is zero but for its last byte
unfoldable pub key_ending : ℕ → Key
key_ending n = record { 0 = replicate 31 0 ++ (n ∷ []) }

unfoldable pub node_ending : ℕ → Node
node_ending n = record { family = 2; address = replicate 16 0; port = 33445; key = key_ending n }

-- ---- P13: "target all zero, size 2; keys zero but for last byte 05, 03, 09, offered so: holds 03, 05; the third answer is no."

unfoldable pub start : NearestList
start = (begun (key_ending 0) 2).list

unfoldable pub first : Answered Bool
first = offered start (node_ending 5)

unfoldable pub second : Answered Bool
second = offered first.list (node_ending 3)

unfoldable pub third : Answered Bool
third = offered second.list (node_ending 9)

pub p13 : (held third.list ≡ node_ending 3 ∷ node_ending 5 ∷ []) × (first.answer ≡ Ok true) × (second.answer ≡ Ok true) × (third.answer ≡ Ok false)
    × (third.list ≡ second.list) × (effect_on second.list (node_ending 9) ≡ too_far)
unfolding key_ending node_ending start first second third begun checked taken offered_after offered blank_node holding empty_of size_right all_known rising_after rising keeps_rules holds replace insert without last_key furthest effect after_effect kept same_key xor_bytes distance nearer number_of known_family
p13 = (refl, refl, refl, refl, refl, refl)

-- ---- "for a target ending 08, 0C (distance 4) is nearer than 07 (distance 15)"

pub xor_is_no_difference : (distance (key_ending 8).0 (key_ending 12).0 ≡ 4) × (distance (key_ending 8).0 (key_ending 7).0 ≡ 15)
    × (nearer (key_ending 8).0 (key_ending 12).0 (key_ending 7).0 ≡ true)
unfolding key_ending xor_bytes distance nearer number_of
xor_is_no_difference = (refl, refl, refl)

-- so a list for that target holds 0C before 07
pub nearest_by_xor : held (offered (offered (begun (key_ending 8) 2).list (node_ending 7)).list (node_ending 12)).list ≡ node_ending 12 ∷ node_ending 7 ∷ []
unfolding key_ending node_ending begun checked taken offered_after offered blank_node holding empty_of size_right all_known rising_after rising keeps_rules holds replace insert without last_key furthest effect after_effect kept same_key xor_bytes distance nearer number_of known_family
nearest_by_xor = refl
