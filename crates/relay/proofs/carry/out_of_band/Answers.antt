-- `carry::out_of_band` meets its contract: the seat that holds the key decides. Assumes nothing.
use Rattle.std.proofs.Common.{◌∙◌, sym, arith}
use Rattle.room_laws.specs.View.{view_room, seat_held}
use Rattle.room_laws.specs.Lookup.{seat_holding}
use Rattle.room_laws.proofs.LookupLaws.{seat_holding_finds}
use Rattle.room.proofs.AnswerLaws.{seat_found_lem, seat_not_found}
use Rattle.records.proofs.Fits.{out_of_band_fits}
use Rattle.relay_laws.specs.Calls.{answer_of}
use Rattle.relay.proofs.CarryCases.{oob_nobody, oob_seat}
use Rattle.relay.proofs.carry.out_of_band.Goals as goal

pub returns-in_default : goal.returns-in_default
unfolding answer_of
returns-in_default c =
    let a = c.args in
    let s = a.sizes.seats in
    let n = a.sizes.numbers in
    let b = a.memory.now in
    let seat = a.client.seat.0 in
    let found = sym (seat_holding_finds s n b c.requires.0.0 a.wanted.0) ∙ seat_not_found (seat_holding s n b a.wanted.0) (sym c.seat_of.ensures ∙ c.in_default.is) in
    oob_nobody s n (view_room s n b) seat (seat_held s n b seat a.client.key.0) b a.out.now a.wanted.0 a.«data».now found

pub returns : goal.returns
unfolding answer_of
returns c =
    let a = c.args in
    let s = a.sizes.seats in
    let n = a.sizes.numbers in
    let b = a.memory.now in
    let seat = a.client.seat.0 in
    let other = c.in-Some.other in
    let found = sym (seat_holding_finds s n b c.requires.0.0 a.wanted.0) ∙ seat_found_lem (seat_holding s n b a.wanted.0) other (sym c.seat_of.ensures ∙ c.in-Some.is) in
    oob_seat s n (view_room s n b) seat (seat_held s n b seat a.client.key.0) b a.out.now a.wanted.0 a.«data».now other.0 found _ _
    (out_of_band_fits a.client.key.0 a.«data».now c.requires.1 c.requires.2 (let long = c.requires.0.1 in omega arith) c.out_of_band-bytes.ensures)
