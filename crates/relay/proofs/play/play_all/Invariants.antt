-- `play::play_all` meets its contract. The invariant: what is left to play, with the counts so far, leads to what the whole run comes to. Assumes nothing.
use mathlib.Core.Path.{◌≡◌}
use mathlib.Core.Bool.{true}
use Prim.Native.Nat.{◌-◌, ◌≤◌}
use lib.ListN.{length}
use Rattle.room_laws.specs.Whole.{room_whole}
use Rattle.relay.proofs.TurnCases.{Leads}
use Rattle.relay.proofs.play.play_all.Given as goal

abbrev pub invariant-loop-call : goal.invariant-loop-call
invariant-loop-call l =
    (l.played ≤ l.allowance)
    × (l.read ≤ length l.calls)
    × (l.written ≤ length l.out)
    × (length l.out ≡ length l.initial.out)
    × (length l.memory ≡ length l.initial.memory)
    × (room_whole l.sizes.seats l.sizes.numbers l.memory ≡ true)
    × Leads l.sizes.seats l.sizes.numbers l.allowance l.calls l.initial.memory l.initial.out l.memory l.out l.played l.read l.written

abbrev pub decreases-loop-call : goal.decreases-loop-call
decreases-loop-call l = l.allowance - l.played
