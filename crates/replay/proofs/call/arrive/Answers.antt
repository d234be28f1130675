-- `call::arrive` is safe and ends: what is told of the output is what the call counted. Assumes nothing.
use mathlib.Core.Path.{sym}
use lib.Seq.{length-take-le}
use Rattle.replay.proofs.Within.{accepted_within}
use Rattle.replay.proofs.call.arrive.Goals as goal

pub slice_bounds-out-end : goal.slice_bounds-out-end
slice_bounds-out-end c = accepted_within 40 32 _ _ _ _ _ _ c.arrive.ensures.leaves _ c.in-Ok.is

pub slice_bounds-tell_all-end : goal.slice_bounds-tell_all-end
slice_bounds-tell_all-end c = sym (length-take-le _ _ (accepted_within 40 32 _ _ _ _ _ _ c.arrive.ensures.leaves _ c.in-Ok.is))
