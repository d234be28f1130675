-- `arrive::take_seat` meets its contract: the lowest empty seat decides. Assumes nothing.
use Rattle.std.proofs.Common.{◌≡◌, ◌∙◌, sym, Some, None, Err, arith}
use Rattle.refusal.specs.declared.Refusal.TheVariants.{RoomFull}
use Rattle.room_laws.specs.Lookup.{lowest_empty}
use Rattle.room_laws.proofs.LookupLaws.{lowest_empty_finds}
use Rattle.room.proofs.AnswerLaws.{seat_found_lem, seat_not_found}
use Rattle.relay_laws.specs.Calls.{answer_of}
use Rattle.relay.proofs.ArriveCases.{takes_none, takes_lowest}
use Rattle.relay.proofs.arrive.take_seat.Goals as goal

pub returns-in_err-seat : goal.returns-in_err-seat
unfolding answer_of
returns-in_err-seat c =
    let a = c.args in
    let b = a.memory.now in
    let none : c.lowest_empty.result ≡ None = grind arith in
    let why : c.from_residual.result ≡ Err RoomFull = grind arith in
    rw why (takes_none a.sizes.seats a.sizes.numbers a.key.0 b a.bytes
    (sym (lowest_empty_finds a.sizes.seats a.sizes.numbers b c.requires)
    ∙ seat_not_found (lowest_empty a.sizes.seats a.sizes.numbers b) (sym c.lowest_empty.ensures ∙ none)))

pub returns : goal.returns
unfolding answer_of
returns c =
    let a = c.args in
    let b = a.memory.now in
    let seat = c.in_ok-seat.seat in
    let some : c.lowest_empty.result ≡ Some seat = grind arith in
    takes_lowest a.sizes.seats a.sizes.numbers a.key.0 b a.bytes seat.0
    (sym (lowest_empty_finds a.sizes.seats a.sizes.numbers b c.requires)
    ∙ seat_found_lem (lowest_empty a.sizes.seats a.sizes.numbers b) seat (sym c.lowest_empty.ensures ∙ some))
    _ c.take_seat.ensures
