-- `handed::tell_all` ends: each record told takes a byte or more. Assumes nothing.
use lib.ListN.{length}
use Rattle.replay.proofs.handed.tell_all.Given as goal

abbrev pub decreases-loop-seat : goal.decreases-loop-seat
decreases-loop-seat l = length l.rest
