-- `request::give` meets its contract: the route, the answer and the notifications. Assumes nothing.
use native.Mathlib.Omega.{arith}
use Rattle.room_laws.specs.Lookup.{peer_wanting}
use Rattle.records.specs.Output.{given}
use Rattle.records.proofs.Fits.{response_fits}
use Rattle.relay.proofs.RequestCases.{response_next, gives}
use Rattle.relay.proofs.SeatedClient.{peer_is}
use Rattle.room.proofs.PeersFound.{found_right}
use Rattle.relay.proofs.request.give.Goals as goal

pub tell_both-requires : goal.tell_both-requires
tell_both-requires c =
    let a = c.args in
    let w = c.response-next in
    let next = response_next a.client.seat.0 a.number.0 a.wanted.0 c.well_formed.1.1.1.0.1.1.0.1.0.1 a.out.now 0 w.result w.new.out (response_fits a.number.0 a.wanted.0 (given a.number.0 c.requires.1) (omega arith) w.ensures) in
    let o = c.of-peer in
    let right = found_right (peer_wanting a.sizes.seats a.sizes.numbers a.memory.now a.client.seat.0 a.client.key.0 a.wanted.0) o.result o.ensures in
    (omega arith, c.requires.1, right)

pub returns : goal.returns
returns c =
    let a = c.args in
    let w = c.response-next in
    let t = c.tell_both in
    let o = c.of-peer in
    let g = c.give_route in
    gives a.sizes.seats a.sizes.numbers a.memory.now a.client.seat.0 a.client.key.0 a.wanted.0 a.number.0 c.requires.1
    o.result (peer_is a.sizes.seats a.sizes.numbers a.memory.now c.requires.0.0 a.client.seat.0 a.client.key.0 a.wanted.0 o.result o.ensures)
    g.new.memory g.ensures a.out.now w.result t.result w.new.out t.new.out
    (response_fits a.number.0 a.wanted.0 (given a.number.0 c.requires.1) (omega arith) w.ensures) t.ensures
