-- `carry::data` meets its contract: the number, then the peer. Assumes nothing.
use Rattle.std.proofs.Common.{◌≡◌, ◌∙◌, sym, ◌-◌, Some, None, arith}
use Rattle.rules.specs.Room.{first_number, alone, joined}
use Rattle.rules.specs.Outcome.{peer}
use Rattle.room_laws.specs.View.{view_room, seat_held}
use Rattle.room.specs.Numbers.{route_numbered}
use Rattle.room.proofs.PeersFound.{found_joined, found_alone}
use Rattle.records.proofs.Fits.{data_fits}
use Rattle.relay_laws.specs.Calls.{answer_of}
use Rattle.relay.proofs.SeatedClient.{sits_numbered, wanted_free, wanted_wants, peer_is}
use Rattle.relay.proofs.CarryCases.{data_free, data_carried, carry_alone, carry_joined}
use Rattle.relay.proofs.carry.data.Goals as goal

pub returns-in_default : goal.returns-in_default
unfolding answer_of
returns-in_default c =
    let a = c.args in
    let s = a.sizes.seats in
    let n = a.sizes.numbers in
    let b = a.memory.now in
    let seat = a.client.seat.0 in
    let key = a.client.key.0 in
    let none : c.wanted_by.result ≡ None = grind arith in
    data_free s n (view_room s n b) seat (seat_held s n b seat key) b a.out.now a.number.0 a.«data».now
    (sym (sits_numbered s n b c.requires.0.0 seat key c.requires.0.1 a.number.0)
    ∙ wanted_free (route_numbered s n b seat a.number.0) (sym c.wanted_by.ensures ∙ none))

pub returns-in_default-of : goal.returns-in_default-of
unfolding answer_of
returns-in_default-of c =
    let a = c.args in
    let s = a.sizes.seats in
    let n = a.sizes.numbers in
    let b = a.memory.now in
    let seat = a.client.seat.0 in
    let key = a.client.key.0 in
    let wanted = c.in-Some.wanted in
    let some : c.wanted_by.result ≡ Some wanted = grind arith in
    let none : c.of.result ≡ None = grind arith in
    data_carried s n (view_room s n b) seat (seat_held s n b seat key) b a.out.now a.number.0 a.«data».now wanted.0
    (sym (sits_numbered s n b c.requires.0.0 seat key c.requires.0.1 a.number.0)
    ∙ wanted_wants (route_numbered s n b seat a.number.0) wanted (sym c.wanted_by.ensures ∙ some))
    alone (sym (found_alone (peer (view_room s n b) seat key wanted.0) c.of.result (peer_is s n b c.requires.0.0 seat key wanted.0 c.of.result c.of.ensures) none))
    _ _ (carry_alone s n b a.out.now seat a.«data».now)

pub returns : goal.returns
unfolding answer_of
returns c =
    let a = c.args in
    let s = a.sizes.seats in
    let n = a.sizes.numbers in
    let b = a.memory.now in
    let seat = a.client.seat.0 in
    let key = a.client.key.0 in
    let wanted = c.in-Some.wanted in
    let found = c.in-Some-of.peer in
    let some : c.wanted_by.result ≡ Some wanted = grind arith in
    let is : c.of.result ≡ Some found = grind arith in
    let right = found_joined (peer (view_room s n b) seat key wanted.0) c.of.result (peer_is s n b c.requires.0.0 seat key wanted.0 c.of.result c.of.ensures) found is in
    data_carried s n (view_room s n b) seat (seat_held s n b seat key) b a.out.now a.number.0 a.«data».now wanted.0
    (sym (sits_numbered s n b c.requires.0.0 seat key c.requires.0.1 a.number.0)
    ∙ wanted_wants (route_numbered s n b seat a.number.0) wanted (sym c.wanted_by.ensures ∙ some))
    (joined found.seat.0 (found.number.0 - first_number)) (sym right.0) _ _
    (carry_joined s n b a.out.now seat a.«data».now found.seat.0 found.number.0 right.1 _ _
    (data_fits found.number.0 a.«data».now right.1 c.requires.1 c.requires.2 (let long = c.requires.0.2 in omega arith) c.data-bytes.ensures))
