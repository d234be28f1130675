-- `packet_call::step` meets its contract: the seat, then the reader, then what the packet asks for. Assumes nothing.
use mathlib.Core.Path.{sym, ◌∙◌}
use Rattle.packet_laws.specs.FromClient.{relay_read}
use Rattle.packet.proofs.RelayLaws.{refusal_taken}
use Rattle.room_laws.specs.View.{view_room, seat_held}
use Rattle.relay_laws.specs.Calls.{answer_of}
use Rattle.relay.proofs.LeaveCases.{leave_sits}
use Rattle.relay.proofs.PacketCases.{from_seat, from_empty_lem, turned_down, shows_refused}
use Rattle.relay.proofs.packet_call.step.Goals as goal

pub returns-then-not-is_taken : goal.returns-then-not-is_taken
unfolding answer_of
returns-then-not-is_taken c =
    let a = c.args in
    from_empty_lem a.sizes.seats a.sizes.numbers a.memory.now c.requires.0 a.seat.0 a.out.now a.packet.now (sym c.is_taken.ensures ∙ c.if-not-is_taken.true)

pub returns-in_default : goal.returns-in_default
unfolding answer_of
returns-in_default c =
    let a = c.args in
    let b = a.memory.now in
    let key = c.key_in-key in
    let sits = leave_sits a.sizes.seats a.sizes.numbers b c.requires.0 a.seat.0 c.is_taken.result c.is_taken.ensures c.if-not-is_taken.false key.result.0 key.ensures in
    let e = shows_refused (relay_read a.packet.now) c.refusal.result (sym (refusal_taken _ _ c.refusal.result c.in_default.is c.refusal.ensures) ∙ c.read-read.ensures.exact) in
    let held = seat_held a.sizes.seats a.sizes.numbers b a.seat.0 key.result.0 in
    from_seat a.sizes.seats a.sizes.numbers (view_room a.sizes.seats a.sizes.numbers b) a.seat.0 b a.out.now _ _ _ held a.packet.now sits
    (turned_down a.sizes.seats a.sizes.numbers (view_room a.sizes.seats a.sizes.numbers b) a.seat.0 b a.out.now a.packet.now held (relay_read a.packet.now) c.refusal.result e)

pub act-requires : goal.act-requires
act-requires c =
    let a = c.args in
    let key = c.key_in-key in
    let sits = leave_sits a.sizes.seats a.sizes.numbers a.memory.now c.requires.0 a.seat.0 c.is_taken.result c.is_taken.ensures c.if-not-is_taken.false key.result.0 key.ensures in
    ((c.requires.0, sits, c.requires.1), sym c.in-Ok.is ∙ c.read-read.ensures.exact)

pub returns : goal.returns
returns c =
    let a = c.args in
    let b = a.memory.now in
    let key = c.key_in-key in
    let sits = leave_sits a.sizes.seats a.sizes.numbers b c.requires.0 a.seat.0 c.is_taken.result c.is_taken.ensures c.if-not-is_taken.false key.result.0 key.ensures in
    from_seat a.sizes.seats a.sizes.numbers (view_room a.sizes.seats a.sizes.numbers b) a.seat.0 b a.out.now _ _ _ (seat_held a.sizes.seats a.sizes.numbers b a.seat.0 key.result.0) a.packet.now sits c.act.ensures
