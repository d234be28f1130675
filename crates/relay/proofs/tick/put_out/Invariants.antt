-- `tick::put_out` meets its contract. The invariant: what was done and what the seats from here on ask for are all the departures; the room is whole and its
-- clock as it was. Assumes nothing.
use mathlib.Core.Path.{◌≡◌}
use mathlib.Core.Bool.{true}
use Prim.Native.Nat.{◌≤◌}
use lib.ListN.{length}
use Rattle.rules.specs.Outcome.{leave_each, leavers}
use Rattle.room_laws.specs.View.{view_room}
use Rattle.room_laws.specs.Whole.{room_whole}
use Rattle.relay_laws.proofs.PartLaws.{SoFar}
use Rattle.relay_laws.proofs.TickParts.{leaves_from}
use Rattle.relay.proofs.tick.put_out.Given as goal

abbrev pub invariant-loop-place : goal.invariant-loop-place
invariant-loop-place l =
    (l.sizes.seats ≤ 40)
    × (length l.out ≡ length l.initial.out)
    × (length l.memory ≡ length l.initial.memory)
    × (room_whole l.sizes.seats l.sizes.numbers l.memory ≡ true)
    × ((view_room l.sizes.seats l.sizes.numbers l.memory).clock ≡ (view_room l.sizes.seats l.sizes.numbers l.initial.memory).clock)
    × SoFar l.sizes.seats l.sizes.numbers (leave_each (view_room l.sizes.seats l.sizes.numbers l.initial.memory) (leavers l.time (view_room l.sizes.seats l.sizes.numbers l.initial.memory))) l.initial.memory l.initial.out 0
    (leaves_from l.sizes.seats l.sizes.numbers l.memory l.time l.place) l.memory l.out l.at
