-- `slot::read` meets its contract: each part is that of the definition. Assumes nothing.
use Rattle.std.proofs.Common.{◌∙◌, sym, ap₂, ℕ, [], ◌∷◌, get_or, drop, arith}
use lib.ListN.{length-drop}
use lib.Seq.{get_or-drop}
use mir.Syntax.{w16}
use Rattle.std.specs.Int.{from_be_bytes}
use Rattle.wire.proofs.TwoBytes.{from_two}
use Rattle.node.proofs.NodeLaws.{same_value}
use Rattle.lent_list_laws.specs.Layout.{slot_at}
use Rattle.lent_list_laws.proofs.SlotLaws.{key_part}
use Rattle.lent_list.proofs.slot.read.Goals as goal

pub returns : goal.returns
unfolding slot_at
returns c =
    let b = c.args.bytes.now in
    let l = length-drop 17 b in
    let h = c.requires in
    same_value (get_or b 0 0) _ _ _ _ c.read.result _ c.copy_from_slice.ensures.after
    (c.from_be_bytes.ensures ∙ ap₂ (λ (x y : ℕ). from_be_bytes w16 (x ∷ y ∷ [])) (sym (get_or-drop 17 b 0 0)) (sym (get_or-drop 17 b 1 0)) ∙ from_two (drop 17 b) (omega arith))
    (c.read.ensures ∙ key_part b c.requires)
