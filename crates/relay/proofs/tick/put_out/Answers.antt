-- `tick::put_out` meets its contract. The invariant: what was done and what the seats from here on ask for are all the departures; the room is whole and its
-- clock as it was. Assumes nothing.
use mathlib.Core.Path.{◌≡◌, refl, ◌∙◌}
use mathlib.Core.Bool.{true}
use mathlib.Core.List.{List}
use Prim.Native.Nat.{ℕ, ◌+◌, ◌≤◌}
use native.Mathlib.Omega.{arith}
use Rattle.rules.specs.Room.{sizes_of}
use Rattle.rules.specs.Outcome.{leave_each, leavers}
use Rattle.rules.proofs.TickWithin.{departures_within}
use Rattle.room_laws.specs.View.{view_room}
use Rattle.room_laws.specs.Whole.{room_whole}
use Rattle.room_laws.proofs.WholeLaws.{whole_few_seats, whole_view}
use Rattle.records.proofs.AppendLaws.{appends_length}
use Rattle.relay_laws.proofs.PartLaws.{SoFar, begun, done, so_far_within}
use Rattle.relay_laws.proofs.TickParts.{leaves_from, leaves_ended, leaves_goes}
use Rattle.relay.proofs.tick.put_out.Goals as goal

pub loop-place-init : goal.loop-place-init
unfolding leavers
loop-place-init c =
    let a = c.args in
    let room = view_room a.sizes.seats a.sizes.numbers a.memory.now in (
      whole_few_seats a.sizes.seats a.sizes.numbers a.memory.now c.requires.0,
      refl,
      refl,
      c.requires.0,
      refl,
      begun a.sizes.seats a.sizes.numbers (leave_each room (leavers a.time room)) a.memory.now a.out.now 0,
    )

-- what is written so far is at most what all the departures take
written : (s n time : ℕ) (b₀ out₀ : List ℕ) → room_whole s n b₀ ≡ true → (memory out : List ℕ) (at place : ℕ)
    → SoFar s n (leave_each (view_room s n b₀) (leavers time (view_room s n b₀))) b₀ out₀ 0 (leaves_from s n memory time place) memory out at → at ≤ 3900
written s n time b₀ out₀ whole memory out at place so =
    omega (
      arith,
      so_far_within s n (leave_each (view_room s n b₀) (leavers time (view_room s n b₀))) b₀ out₀ 0 (leaves_from s n memory time place) memory out at so,
      departures_within (sizes_of s n) (whole_few_seats s n b₀ whole) (view_room s n b₀) (whole_view s n b₀ whole) (leavers time (view_room s n b₀)),
    )

pub put_out_one-at-requires : goal.put_out_one-at-requires
put_out_one-at-requires c =
    let a = c.args in
    let l = c.loop-place in
    (l.invariant.3, omega (arith, l.invariant.4, c.requires.1), omega (arith, l.invariant.1, c.requires.2, written a.sizes.seats a.sizes.numbers a.time a.memory.now a.out.now c.requires.0 l.memory l.out l.at l.place l.invariant.5))

pub loop-place-preserved : goal.loop-place-preserved
loop-place-preserved c =
    let a = c.args in
    let l = c.loop-place in
    let p = c.put_out_one-at in
    let room = view_room a.sizes.seats a.sizes.numbers a.memory.now in
    let goes = leaves_goes a.sizes.seats a.sizes.numbers (leave_each room (leavers a.time room)) a.memory.now a.out.now 0 (omega arith) l.memory l.invariant.3 l.place (omega arith)
    l.out l.at _ p.result _ a.time l.invariant.5 p.ensures in
    let within = written a.sizes.seats a.sizes.numbers a.time a.memory.now a.out.now c.requires.0 _ _ p.result (l.place + 1) goes.so_far in (
      l.invariant.0,
      appends_length _ a.out.now 0 p.result _ goes.so_far.writes (let h = c.requires.2 in omega arith),
      goes.long ∙ l.invariant.2,
      goes.whole,
      goes.clock ∙ l.invariant.4,
      goes.so_far,
    )

pub returns : goal.returns
returns c =
    let a = c.args in
    let l = c.loop-place in
    let room = view_room a.sizes.seats a.sizes.numbers a.memory.now in
    let ended = leaves_ended a.sizes.seats a.sizes.numbers l.memory l.invariant.3 a.time l.place (omega arith) in
    done a.sizes.seats a.sizes.numbers (leave_each room (leavers a.time room)) a.memory.now a.out.now 0 _ l.memory l.out l.at ended.0 ended.1 l.invariant.5
