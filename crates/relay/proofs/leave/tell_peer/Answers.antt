-- `leave::tell_peer` meets its contract: a record where the number's route has a connected peer, none where not. Assumes nothing.
use Rattle.room_laws.specs.Lookup.{peer_wanting}
use Rattle.room.proofs.PeersFound.{found_joined}
use Rattle.records.proofs.Fits.{disconnected_fits}
use Rattle.relay.proofs.LeaveCases.{tell_none, tell_alone, tell_joined}
use Rattle.relay.proofs.SeatedClient.{peer_is}
use Rattle.relay.proofs.leave.tell_peer.Goals as goal

pub returns-in_default : goal.returns-in_default
returns-in_default c =
    let a = c.args in
    tell_none a.sizes.seats a.sizes.numbers a.memory.now c.requires.0 a.client.seat.0 a.client.key.0 c.requires.1 a.number.0 c.requires.3
    c.wanted_by.result c.wanted_by.ensures a.out.now a.at c.in_default.is

pub returns-in-Some-of : goal.returns-in-Some-of
returns-in-Some-of c =
    let a = c.args in
    let wanted = c.in-Some.wanted in
    let other = c.in-Some-of.peer in
    let found = peer_is a.sizes.seats a.sizes.numbers a.memory.now c.requires.0 a.client.seat.0 a.client.key.0 wanted.0 c.of.result c.of.ensures in
    tell_joined a.sizes.seats a.sizes.numbers a.memory.now c.requires.0 a.client.seat.0 a.client.key.0 c.requires.1 a.number.0 c.requires.3
    c.wanted_by.result c.wanted_by.ensures a.out.now a.at wanted c.in-Some.is c.of.result found other c.in-Some-of.is _ _
    (disconnected_fits other.number.0 (found_joined (peer_wanting a.sizes.seats a.sizes.numbers a.memory.now a.client.seat.0 a.client.key.0 wanted.0)
    c.of.result c.of.ensures other c.in-Some-of.is).1 c.requires.2 c.disconnected.ensures)

pub returns-in-None : goal.returns-in-None
returns-in-None c =
    let a = c.args in
    let wanted = c.in-Some.wanted in
    let found = peer_is a.sizes.seats a.sizes.numbers a.memory.now c.requires.0 a.client.seat.0 a.client.key.0 wanted.0 c.of.result c.of.ensures in
    tell_alone a.sizes.seats a.sizes.numbers a.memory.now c.requires.0 a.client.seat.0 a.client.key.0 c.requires.1 a.number.0 c.requires.3
    c.wanted_by.result c.wanted_by.ensures a.out.now a.at wanted c.in-Some.is c.of.result found c.in-None.is
