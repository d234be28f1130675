-- `banavoge_key_in` meets its contract: 11 for a room that is not whole, 3 for a seat where nobody sits, else the key in the seat. Assumes nothing.
use mathlib.Core.Path.{refl, sym, ◌∙◌}
use mir.Syntax.{w32}
use mir.ValLaws.{to_z-of_z}
use Rattle.refusal.specs.declared.Refusal.TheVariants.{RoomNotWhole, NotSeated}
use Rattle.banavoge_laws.proofs.SittingLaws.{not_whole_told, vacant_told, key_told, tells_refusal, tells_key}
use Rattle.banavoge.proofs.sitting.banavoge_key_in.Goals as goal

pub returns-then-not-is_whole : goal.returns-then-not-is_whole
returns-then-not-is_whole c =
    let a = c.args in
    let broken = not_whole_told 40 32 a.room.now a.seat (sym c.is_whole.ensures ∙ c.if-not-is_whole.true) in
    tells_refusal 40 32 a.room.now a.seat _ _ RoomNotWhole broken (to_z-of_z w32 c.refused.result (record { sfits = c.refused.type_inv }) ∙ c.refused.ensures)

pub returns-then-not-is_taken : goal.returns-then-not-is_taken
returns-then-not-is_taken c =
    let a = c.args in
    let whole = sym c.is_whole.ensures ∙ c.if-not-is_whole.false in
    let empty = vacant_told 40 32 a.room.now a.seat whole (sym c.is_taken.ensures ∙ c.if-not-is_taken.true) in
    tells_refusal 40 32 a.room.now a.seat _ _ NotSeated empty (to_z-of_z w32 c.refused-then-not-is_taken.result (record { sfits = c.refused-then-not-is_taken.type_inv }) ∙ c.refused-then-not-is_taken.ensures)

pub returns : goal.returns
returns c =
    let a = c.args in
    let whole = sym c.is_whole.ensures ∙ c.if-not-is_whole.false in
    let taken = sym c.is_taken.ensures ∙ c.if-not-is_taken.false in
    let there = key_told 40 32 a.room.now a.seat whole taken c.key_in.result.0 c.key_in.ensures in
    tells_key 40 32 a.room.now a.seat _ _ c.key_in.result.0 there refl
