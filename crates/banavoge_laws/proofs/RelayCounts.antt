-- The count that a call of the relay answers is small: no call writes more than the papers' bound for lent output, 2,048 bytes or, of a tick, 5,120. Assumes nothing.
use mathlib.Core.Path.{◌≡◌, refl, subst}
use mathlib.Core.Bool.{Bool, true, false, cond}
use mathlib.Core.List.{List}
use Prim.Native.Nat.{ℕ, ◌≤◌}
use native.Mathlib.Omega.{arith}
use lib.ListN.{length}
use Rattle.std.proofs.Common.{Result, Ok}
use Rattle.refusal.specs.declared.Refusal.{Refusal}
use Rattle.refusal.specs.declared.Refusal.TheVariants.{RoomNotWhole}
use Rattle.rules.specs.Call.{Call, most_needed, Answer}
use Rattle.rules.specs.Outcome.{Outcome, refuse, accept, sent_bytes, outcome}
use Rattle.rules.specs.Accepted.{RefusedOrAccepted, refusal, acceptance}
use Rattle.rules.proofs.RefusedOrAccepted.{outcome_made}
use Rattle.rules.proofs.WithinOutput.{needs_within}
use Rattle.room_laws.specs.View.{view_room}
use Rattle.room_laws.specs.Whole.{room_whole}
use Rattle.room_laws.proofs.OutcomeLaws.{outcome_within}
use Rattle.records.specs.declared.Accepted as code
use Rattle.relay_laws.specs.Calls.{answer_of, Leaves, tested, with_output}
use Rattle.relay_laws.proofs.CallsLaws.{by_length}
use Rattle.banavoge_laws.specs.RelayCalls.{CallCounted}

-- an answer counts the bytes sent
counted : (o : Outcome) → RefusedOrAccepted o → length (sent_bytes o.sent) ≤ most_needed → CallCounted o.answer
unfolding refuse accept CallCounted
counted o (refusal why given e) h = rw e tt
counted o (acceptance seat changes sent e) h = rw e (rw e at h)

module _ (b : List ℕ) (call : Call) where
  tested_counted : CallCounted (tested 40 32 b call).answer
  unfolding tested refuse CallCounted
  tested_counted = go (room_whole 40 32 b) refl
    where
      go : (t : Bool) → room_whole 40 32 b ≡ t → CallCounted (cond t (outcome (view_room 40 32 b) call) (refuse RoomNotWhole)).answer
      go true e = counted (outcome (view_room 40 32 b) call) (outcome_made (view_room 40 32 b) call) (omega (arith, outcome_within 40 32 b e call, needs_within call))
      go false e = tt

  with_counted : (out : List ℕ) → CallCounted (with_output 40 32 b out call).answer
  unfolding with_output refuse CallCounted
  with_counted out = by_length (λ o. CallCounted o.answer) (length out) call (tested 40 32 b call) tested_counted tt

  pub call_counted : (out : List ℕ) (given : Answer) (b' out' : List ℕ) → Leaves 40 32 (with_output 40 32 b out call) b out given b' out' → CallCounted given
  call_counted out given b' out' w = rw w.answers (with_counted out)

-- the same of an answer of the code
pub given_small : (g : Result code.Accepted Refusal) (accepted : code.Accepted) → CallCounted (answer_of g) → g ≡ Ok accepted → accepted.bytes ≤ most_needed
unfolding CallCounted answer_of
given_small g accepted c e = subst (λ (x : Result code.Accepted Refusal). CallCounted (answer_of x)) e c
