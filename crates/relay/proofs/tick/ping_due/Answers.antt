-- `tick::ping_due` meets its contract. The invariant: what was done and what the seats from here on ask for are all the pings, each in 12 bytes; the room is
-- whole and its clock as it was. Assumes nothing.
use mathlib.Core.Path.{refl, ◌∙◌}
use native.Mathlib.Omega.{arith}
use Rattle.rules.specs.Outcome.{ping_each, due_seats}
use Rattle.room_laws.specs.View.{view_room}
use Rattle.room_laws.proofs.WholeLaws.{whole_few_seats}
use Rattle.records.proofs.AppendLaws.{appends_length}
use Rattle.relay_laws.proofs.PartLaws.{begun, done}
use Rattle.relay_laws.proofs.TickParts.{pings_ended, pings_goes, one_within}
use Rattle.relay.proofs.tick.ping_due.Goals as goal

pub loop-place-init : goal.loop-place-init
unfolding due_seats
loop-place-init c =
    let a = c.args in
    let room = view_room a.sizes.seats a.sizes.numbers a.memory.now in (
      whole_few_seats a.sizes.seats a.sizes.numbers a.memory.now c.requires.0,
      omega arith,
      refl,
      refl,
      c.requires.0,
      c.requires.1,
      begun a.sizes.seats a.sizes.numbers (ping_each a.time a.number (due_seats a.time room)) a.memory.now a.out.now a.at,
    )

pub loop-place-preserved : goal.loop-place-preserved
loop-place-preserved c =
    let a = c.args in
    let l = c.loop-place in
    let p = c.ping_one-next in
    let room = view_room a.sizes.seats a.sizes.numbers a.memory.now in
    let goes = pings_goes a.sizes.seats a.sizes.numbers (ping_each a.time a.number (due_seats a.time room)) a.memory.now a.out.now a.at (let h = c.requires.3 in omega arith)
    l.memory l.invariant.4 l.place (omega arith) l.out l.next _ p.result _ a.time a.number (omega (arith, l.invariant.5))
    c.ranges.time.fits c.ranges.number.fits l.invariant.6 p.ensures in
    let more = one_within a.sizes.seats a.sizes.numbers a.time a.number l.memory l.place l.out l.next _ p.result _ p.ensures in (
      l.invariant.0,
      omega (arith, l.invariant.1, more),
      appends_length _ a.out.now a.at p.result _ goes.so_far.writes (omega (arith, l.invariant.0, l.invariant.1, more, c.requires.3)),
      goes.long ∙ l.invariant.3,
      goes.whole,
      goes.clock ∙ l.invariant.5,
      goes.so_far,
    )

pub returns : goal.returns
returns c =
    let a = c.args in
    let l = c.loop-place in
    let room = view_room a.sizes.seats a.sizes.numbers a.memory.now in
    let ended = pings_ended a.sizes.seats a.sizes.numbers l.memory l.invariant.4 a.time a.number l.place (omega arith) in
    done a.sizes.seats a.sizes.numbers (ping_each a.time a.number (due_seats a.time room)) a.memory.now a.out.now a.at _ l.memory l.out l.next ended.0 ended.1 l.invariant.6
