-- `tick::step` meets its contract: the two tests, the clock, the departures, the pings. Assumes nothing.
use mathlib.Core.Path.{ap, ◌∙◌}
use Prim.Native.Nat.{◌≤◌}
use native.Mathlib.Omega.{arith}
use Rattle.rules.specs.Room.{Room}
use Rattle.room_laws.specs.View.{view_room}
use Rattle.room_laws.proofs.LookupLaws.{clock_is}
use Rattle.records.proofs.AppendLaws.{appends_length}
use Rattle.relay_laws.specs.Calls.{answer_of}
use Rattle.relay_laws.proofs.TickParts.{clock_left, out_whole, out_clock, out_within, tick_left}
use Rattle.relay.proofs.TickCases.{ticks_zero, ticks_back, ticks_on}
use Rattle.relay.proofs.tick.step.Goals as goal

pub returns-then-number-eq0 : goal.returns-then-number-eq0
unfolding answer_of
returns-then-number-eq0 c =
    let a = c.args in
    ticks_zero a.sizes.seats a.sizes.numbers a.memory.now a.out.now a.time a.number c.if-number-eq0.true

pub returns-then-time-clock : goal.returns-then-time-clock
unfolding answer_of
returns-then-time-clock c =
    let a = c.args in
    let clock = clock_is a.sizes.seats a.sizes.numbers a.memory.now c.requires.0 in
    ticks_back a.sizes.seats a.sizes.numbers a.memory.now a.out.now a.time a.number c.if-number-eq0.false (omega (arith, c.clock.ensures, clock))

pub put_out-at-requires : goal.put_out-at-requires
put_out-at-requires c =
    let a = c.args in
    let clock = clock_is a.sizes.seats a.sizes.numbers a.memory.now c.requires.0 in
    let later : (view_room a.sizes.seats a.sizes.numbers a.memory.now).clock ≤ a.time = omega (arith, c.clock.ensures, clock) in
    let left = clock_left a.sizes.seats a.sizes.numbers a.memory.now c.requires.0 a.time a.number c.ranges.time.fits later _ c.set_clock.ensures in
    (left.1, omega (arith, ap (λ (r : Room). r.clock) left.0), c.requires.1)

pub ping_due-bytes-requires : goal.ping_due-bytes-requires
ping_due-bytes-requires c =
    let a = c.args in
    let clock = clock_is a.sizes.seats a.sizes.numbers a.memory.now c.requires.0 in
    let later : (view_room a.sizes.seats a.sizes.numbers a.memory.now).clock ≤ a.time = omega (arith, c.clock.ensures, clock) in
    let left = clock_left a.sizes.seats a.sizes.numbers a.memory.now c.requires.0 a.time a.number c.ranges.time.fits later _ c.set_clock.ensures in
    let p = c.put_out-at in
    let within = out_within a.sizes.seats a.sizes.numbers _ left.1 a.time a.out.now _ p.result _ p.ensures in
    let long = appends_length _ a.out.now 0 p.result _ p.ensures.writes (let h = c.requires.1 in omega arith) in (
      out_whole a.sizes.seats a.sizes.numbers _ left.1 a.time a.out.now _ p.result _ p.ensures,
      out_clock a.sizes.seats a.sizes.numbers _ left.1 a.time a.out.now _ p.result _ p.ensures ∙ ap (λ (r : Room). r.clock) left.0,
      (let ne = c.if-number-eq0.false in omega arith),
      omega (arith, c.requires.1, long, within),
    )

pub returns : goal.returns
unfolding answer_of
returns c =
    let a = c.args in
    let clock = clock_is a.sizes.seats a.sizes.numbers a.memory.now c.requires.0 in
    let later : (view_room a.sizes.seats a.sizes.numbers a.memory.now).clock ≤ a.time = omega (arith, c.clock.ensures, clock) in
    ticks_on a.sizes.seats a.sizes.numbers a.memory.now a.out.now a.time a.number c.if-number-eq0.false later _ _ _
    (tick_left a.sizes.seats a.sizes.numbers a.memory.now c.requires.0 a.time a.number c.ranges.time.fits a.out.now c.requires.1 later
    _ c.set_clock.ensures _ c.put_out-at.result _ c.put_out-at.ensures _ c.ping_due-bytes.result _ c.ping_due-bytes.ensures)
