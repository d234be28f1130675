-- `arrive::leave_if_seated` meets its contract: where the key sits decides. Assumes nothing.
use Rattle.std.proofs.Common.{◌∙◌, sym}
use Rattle.room_laws.specs.Lookup.{seat_holding}
use Rattle.room_laws.proofs.LookupLaws.{seat_holding_finds}
use Rattle.room.proofs.AnswerLaws.{seat_found_lem, seat_not_found}
use Rattle.relay.proofs.LeaveCases.{leave_room}
use Rattle.relay.proofs.ArriveCases.{none_leaves, seat_taken_lem, one_leaves}
use Rattle.relay.proofs.arrive.leave_if_seated.Goals as goal

pub depart-requires : goal.depart-requires
depart-requires c =
    let found = c.in-Some in
    let a = c.args in
    let b = a.memory.now in
    let e = sym (seat_holding_finds a.sizes.seats a.sizes.numbers b c.requires.0 a.key.0)
    ∙ seat_found_lem (seat_holding a.sizes.seats a.sizes.numbers b a.key.0) found.old (sym c.seat_of.ensures ∙ found.is) in (
      c.requires.0,
      seat_taken_lem a.sizes.seats a.sizes.numbers b c.requires.0 a.key.0 a.out.now _ e,
      leave_room a.sizes.seats a.sizes.numbers b c.requires.0 _ a.out.now c.requires.1,
    )

pub returns-in-Some : goal.returns-in-Some
returns-in-Some c =
    let found = c.in-Some in
    let a = c.args in
    let b = a.memory.now in
    let e = sym (seat_holding_finds a.sizes.seats a.sizes.numbers b c.requires.0 a.key.0)
    ∙ seat_found_lem (seat_holding a.sizes.seats a.sizes.numbers b a.key.0) found.old (sym c.seat_of.ensures ∙ found.is) in
    one_leaves a.sizes.seats a.sizes.numbers b c.requires.0 a.key.0 a.out.now _ e _ _ _ c.depart.ensures

pub returns-in-None : goal.returns-in-None
returns-in-None c =
    let a = c.args in
    let b = a.memory.now in
    none_leaves a.sizes.seats a.sizes.numbers b c.requires.0 a.key.0 a.out.now
    (sym (seat_holding_finds a.sizes.seats a.sizes.numbers b c.requires.0 a.key.0)
    ∙ seat_not_found (seat_holding a.sizes.seats a.sizes.numbers b a.key.0) (sym c.seat_of.ensures ∙ c.in-None.is))
