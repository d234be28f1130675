-- `banavoge_seat_of` meets its contract: 11 for a room that is not whole, else the seat that the search finds, or 3. Assumes nothing.
use mathlib.Core.Path.{sym, ◌∙◌}
use mir.Syntax.{w32}
use mir.ValLaws.{to_z-of_z}
use Rattle.banavoge_laws.proofs.SittingLaws.{not_whole_code, seat_code, none_code}
use Rattle.banavoge.proofs.sitting.banavoge_seat_of.Goals as goal

pub returns-then-not-is_whole : goal.returns-then-not-is_whole
returns-then-not-is_whole c =
    let a = c.args in
    let broken = not_whole_code 40 32 a.room.now a.key.now (sym c.is_whole.ensures ∙ c.if-not-is_whole.true) in
    to_z-of_z w32 c.refused.result (record { sfits = c.refused.type_inv }) ∙ c.refused.ensures ∙ sym broken

pub returns-in-Some : goal.returns-in-Some
returns-in-Some c =
    let a = c.args in
    let whole = sym c.is_whole.ensures ∙ c.if-not-is_whole.false in
    to_z-of_z w32 c.from.result (record { sfits = c.from.type_inv }) ∙ c.from.ensures
    ∙ sym (seat_code 40 32 a.room.now a.key.now whole c.seat_of.result c.seat_of.ensures c.in-Some.seat c.in-Some.is)

pub returns-in-None : goal.returns-in-None
returns-in-None c =
    let a = c.args in
    let whole = sym c.is_whole.ensures ∙ c.if-not-is_whole.false in
    to_z-of_z w32 c.refused-in-None.result (record { sfits = c.refused-in-None.type_inv }) ∙ c.refused-in-None.ensures
    ∙ sym (none_code 40 32 a.room.now a.key.now whole c.seat_of.result c.seat_of.ensures c.in-None.is)
