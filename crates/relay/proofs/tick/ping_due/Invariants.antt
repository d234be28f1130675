-- `tick::ping_due` meets its contract. The invariant: what was done and what the seats from here on ask for are all the pings, each in 12 bytes; the room is
-- whole and its clock as it was. Assumes nothing.
use mathlib.Core.Path.{◌≡◌}
use mathlib.Core.Bool.{true}
use Prim.Native.Nat.{◌+◌, ◌*◌, ◌≤◌}
use lib.ListN.{length}
use Rattle.rules.specs.Outcome.{ping_each, due_seats}
use Rattle.room_laws.specs.View.{view_room}
use Rattle.room_laws.specs.Whole.{room_whole}
use Rattle.relay_laws.proofs.PartLaws.{SoFar}
use Rattle.relay_laws.proofs.TickParts.{pings_from}
use Rattle.relay.proofs.tick.ping_due.Given as goal

abbrev pub invariant-loop-place : goal.invariant-loop-place
invariant-loop-place l =
    (l.sizes.seats ≤ 40)
    × (l.next ≤ l.at + 12 * l.place)
    × (length l.out ≡ length l.initial.out)
    × (length l.memory ≡ length l.initial.memory)
    × (room_whole l.sizes.seats l.sizes.numbers l.memory ≡ true)
    × ((view_room l.sizes.seats l.sizes.numbers l.memory).clock ≡ l.time)
    × SoFar l.sizes.seats l.sizes.numbers (ping_each l.time l.number (due_seats l.time (view_room l.sizes.seats l.sizes.numbers l.initial.memory))) l.initial.memory l.initial.out l.at
    (pings_from l.sizes.seats l.sizes.numbers l.memory l.time l.number l.place) l.memory l.out l.next
