-- The key of the node in one of several slots, read where it stands among the bytes of all. Assumes nothing.
use mathlib.Core.Path.{◌≡◌, ◌∙◌, sym, ap}
use mathlib.Core.List.{List}
use Prim.Native.Nat.{ℕ, ◌+◌, ◌*◌, ◌<◌, ◌≤◌}
use native.Mathlib.Omega.{arith}
use lib.ListN.{length, get_or, take, drop}
use lib.Seq.{drop-drop}
use Rattle.wire.proofs.Copy.{length_lent, part_of_part}
use Rattle.key.specs.Keys.{key_of}
use Rattle.key.proofs.Lent.{key_itself}
use Rattle.node.specs.declared.Node.{Node}
use Rattle.nearest.specs.Lists.{node_key}
use Rattle.lent_list_laws.specs.Layout.{slot_at, slots_at}
use Rattle.lent_list_laws.proofs.SlotLaws.{slots_at_lem}

module _ (n i : ℕ) (s : List ℕ) (d : Node) (below : i < n) where
  key_in_slot : node_key (get_or (slots_at n s) i d) ≡ take 32 (drop (i * 51 + 19) s)
  unfolding slot_at
  key_in_slot =
      ap node_key (slots_at_lem n i s d below) ∙ part_of_part 32 19 51 (drop (i * 51) s) (omega arith) ∙ ap (take 32) (drop-drop 19 (i * 51) s)

  -- the bytes that are lent for a key are that key
  pub key_lent : i * 51 + 51 ≤ length s → (part : List ℕ) → part ≡ take 32 (drop (i * 51 + 19) s) → key_of part ≡ node_key (get_or (slots_at n s) i d)
  key_lent inside part e =
      ap key_of e ∙ key_itself (take 32 (drop (i * 51 + 19) s)) (length_lent s (i * 51 + 19) 32 (omega arith)) ∙ sym key_in_slot
