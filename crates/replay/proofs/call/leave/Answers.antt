-- `call::leave` is safe and ends: what is told of the output is what the call counted. Assumes nothing.
use Rattle.replay.proofs.Within.{count_within}
use Rattle.replay.proofs.call.leave.Goals as goal

pub tell_answer-requires : goal.tell_answer-requires
tell_answer-requires c = count_within 40 32 _ _ _ _ _ _ c.leave-answer.ensures
