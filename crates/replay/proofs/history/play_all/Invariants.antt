-- `history::play_all` meets its contract: each call takes a byte or more, and no more than are left. Assumes nothing.
use Prim.Native.Nat.{◌-◌, ◌≤◌}
use lib.ListN.{length}
use Rattle.replay.proofs.history.play_all.Given as goal

abbrev pub invariant-loop-call : goal.invariant-loop-call
invariant-loop-call l = (l.at ≤ length l.input) × (l.calls ≤ l.at)

abbrev pub decreases-loop-call : goal.decreases-loop-call
decreases-loop-call l = length l.input - l.at
