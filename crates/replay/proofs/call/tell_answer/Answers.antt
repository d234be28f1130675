-- `call::tell_answer` is safe and ends: the count of an accepted answer is what it wrote. Assumes nothing.
use mathlib.Core.Path.{sym, subst}
use Prim.Native.Nat.{◌≤◌}
use lib.ListN.{length}
use lib.Seq.{length-take-le}
use Rattle.std.specs.Prelude.{Result}
use Rattle.relay_laws.specs.Calls.{answer_of, written}
use Rattle.records.specs.declared.Accepted.{Accepted}
use Rattle.refusal.specs.declared.Refusal.{Refusal}
use Rattle.replay.proofs.call.tell_answer.Goals as goal

pub slice_bounds-tell_all-end : goal.slice_bounds-tell_all-end
unfolding written answer_of
slice_bounds-tell_all-end c =
    sym (length-take-le _ _ (subst (λ (a : Result Accepted Refusal). written (answer_of a) ≤ length c.args.out.now) c.in-Ok.is c.requires))
