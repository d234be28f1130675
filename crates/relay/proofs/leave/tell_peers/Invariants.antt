-- `leave::tell_peers` meets its contract. The invariant: the peers of the numbers passed are told. Assumes nothing.
use mathlib.Core.Path.{◌≡◌}
use Prim.Native.Nat.{◌≤◌}
use lib.ListN.{length, take}
use Rattle.rules.specs.Outcome.{tell_peers}
use Rattle.room_laws.specs.Layout.{routes_table}
use Rattle.room_laws.specs.View.{view_room, view_routes}
use Rattle.records.specs.Output.{Appends}
use Rattle.relay.proofs.leave.tell_peers.Given as goal

abbrev pub invariant-loop-place : goal.invariant-loop-place
invariant-loop-place l =
    (l.sizes.numbers ≤ 240)
    × (length l.out ≡ length l.initial.out)
    × Appends (tell_peers (view_room l.sizes.seats l.sizes.numbers l.memory) l.client.seat.0 l.client.key.0 (take l.place (view_routes l.sizes.numbers (routes_table l.sizes.seats l.sizes.numbers l.memory l.client.seat.0)))) l.initial.out l.at l.next l.out
