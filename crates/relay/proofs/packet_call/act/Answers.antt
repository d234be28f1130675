-- `packet_call::act` meets its contract: what the reader showed tells what was read, and each kind has its step. Assumes nothing.
use native.Mathlib.Omega.{arith}
use mathlib.Core.List.{◌∷◌, []}
use Rattle.packet_laws.specs.FromClient.{relay_read, Within}
use Rattle.packet_laws.specs.FromRelay as relay
use Rattle.packet.specs.RelayReads.{client_packet_of, client_part}
use Rattle.packet_laws.proofs.ReadBounds.{read_within}
use Rattle.rules.specs.Outcome.{act, to}
use Rattle.room_laws.specs.View.{view_room, seat_held}
use Rattle.records.proofs.Fits.{answered_fits}
use Rattle.relay_laws.specs.Calls.{answer_of}
use Rattle.relay_laws.proofs.OutcomeLeaves.{leaves_sent}
use Rattle.relay.proofs.PacketCases.{acted, shows_as, shows_request, shows_oob, shows_data}
use Rattle.relay.proofs.packet_call.act.Goals as goal

pub out_of_band-requires : goal.out_of_band-requires
unfolding Within
out_of_band-requires c =
    let a = c.args in
    let e = shows_oob a.packet.now a.shown c.requires.1 _ _ c.key-in-OobSend.result.0 c.payload.result.now c.in-OobSend.is c.key-in-OobSend.ensures c.payload.ensures.holds in
    let h = read_within a.packet.now _ e in
    ((c.requires.0.0, c.requires.0.2), h.0, h.1)

pub data-requires : goal.data-requires
unfolding Within client_part
data-requires c =
    let a = c.args in
    let e = shows_data a.packet.now a.shown c.requires.1 c.in-Data.number _ c.payload-in-Data.result.now c.in-Data.is c.payload-in-Data.ensures.holds in
    let h = read_within a.packet.now _ e in
    ((c.requires.0.0, c.requires.0.1, c.requires.0.2), h.0, h.1)

pub returns-in-RoutingRequest : goal.returns-in-RoutingRequest
returns-in-RoutingRequest c =
    let a = c.args in
    let b = a.memory.now in
    let e = shows_request a.packet.now a.shown c.requires.1 _ c.key.result.0 c.in-RoutingRequest.is c.key.ensures in
    acted a.sizes.seats a.sizes.numbers (view_room a.sizes.seats a.sizes.numbers b) a.client.seat.0 b a.out.now _ _ _ (seat_held a.sizes.seats a.sizes.numbers b a.client.seat.0 a.client.key.0) (relay_read a.packet.now) _ e
    c.step.ensures

pub returns-in-DropRoute : goal.returns-in-DropRoute
unfolding client_packet_of
returns-in-DropRoute c =
    let a = c.args in
    let b = a.memory.now in
    let e = shows_as a.packet.now a.shown c.requires.1 _ c.in-DropRoute.is in
    acted a.sizes.seats a.sizes.numbers (view_room a.sizes.seats a.sizes.numbers b) a.client.seat.0 b a.out.now _ _ _ (seat_held a.sizes.seats a.sizes.numbers b a.client.seat.0 a.client.key.0) (relay_read a.packet.now) _ e
    c.step-in-DropRoute.ensures

pub returns-in-Ping : goal.returns-in-Ping
unfolding client_packet_of answer_of act Within
returns-in-Ping c =
    let a = c.args in
    let b = a.memory.now in
    let e = shows_as a.packet.now a.shown c.requires.1 _ c.in-Ping.is in
    acted a.sizes.seats a.sizes.numbers (view_room a.sizes.seats a.sizes.numbers b) a.client.seat.0 b a.out.now _ _ _ (seat_held a.sizes.seats a.sizes.numbers b a.client.seat.0 a.client.key.0) (relay_read a.packet.now) _ e
    (leaves_sent a.sizes.seats a.sizes.numbers b a.out.now a.client.seat.0 (to a.client.seat.0 (relay.pong c.in-Ping.ping) ∷ []) _ _
    (answered_fits _ (read_within a.packet.now _ e) (omega arith) c.answered.ensures))

pub returns-in-Pong : goal.returns-in-Pong
unfolding client_packet_of
returns-in-Pong c =
    let a = c.args in
    let b = a.memory.now in
    let e = shows_as a.packet.now a.shown c.requires.1 _ c.in-Pong.is in
    acted a.sizes.seats a.sizes.numbers (view_room a.sizes.seats a.sizes.numbers b) a.client.seat.0 b a.out.now _ _ _ (seat_held a.sizes.seats a.sizes.numbers b a.client.seat.0 a.client.key.0) (relay_read a.packet.now) _ e
    (c.step-in-Pong.ensures a.client.key.0 a.out.now c.requires.0.1)

pub returns-in-OobSend : goal.returns-in-OobSend
returns-in-OobSend c =
    let a = c.args in
    let b = a.memory.now in
    let e = shows_oob a.packet.now a.shown c.requires.1 _ _ c.key-in-OobSend.result.0 c.payload.result.now c.in-OobSend.is c.key-in-OobSend.ensures c.payload.ensures.holds in
    acted a.sizes.seats a.sizes.numbers (view_room a.sizes.seats a.sizes.numbers b) a.client.seat.0 b a.out.now _ _ _ (seat_held a.sizes.seats a.sizes.numbers b a.client.seat.0 a.client.key.0) (relay_read a.packet.now) _ e
    c.out_of_band.ensures

pub returns-in-Data : goal.returns-in-Data
unfolding client_part
returns-in-Data c =
    let a = c.args in
    let b = a.memory.now in
    let e = shows_data a.packet.now a.shown c.requires.1 c.in-Data.number _ c.payload-in-Data.result.now c.in-Data.is c.payload-in-Data.ensures.holds in
    acted a.sizes.seats a.sizes.numbers (view_room a.sizes.seats a.sizes.numbers b) a.client.seat.0 b a.out.now _ _ _ (seat_held a.sizes.seats a.sizes.numbers b a.client.seat.0 a.client.key.0) (relay_read a.packet.now) _ e
    c.«data».ensures
