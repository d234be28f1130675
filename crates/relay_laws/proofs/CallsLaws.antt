-- The tests before a step: the output, then the room.
use mathlib.Core.Path.{◌≡◌, refl}
use mathlib.Core.Bool.{Bool, true, false, cond}
use mathlib.Core.List.{List}
use Prim.Native.Nat.{ℕ, ◌≤◌, ◌<◌}
use lib.Dec.{leb}
use lib.ListN.{length}
use borrow.Author.Tests.{le-leb, lt-leb}
use Rattle.refusal.specs.declared.Refusal.TheVariants.{OutputTooShort, RoomNotWhole}
use Rattle.rules.specs.Call.{Call, Answer, refused, needed}
use Rattle.rules.specs.Outcome.{Outcome, refuse, outcome}
use Rattle.rules.specs.Accepted.{RefusedOrAccepted, refusal}
use Rattle.rules.proofs.RefusedOrAccepted.{outcome_made}
use Rattle.room_laws.specs.View.{view_room}
use Rattle.room_laws.specs.Whole.{room_whole}
use Rattle.relay_laws.specs.Calls.{Leaves, tested, if_long, with_output}
use Rattle.relay_laws.proofs.OutcomeLeaves.{leaves_refused}

module _ (s n : ℕ) (b out : List ℕ) (call : Call) where
  pub not_whole : room_whole s n b ≡ false → Leaves s n (tested s n b call) b out (refused RoomNotWhole) b out
  unfolding tested
  not_whole e = rw e (leaves_refused s n b out RoomNotWhole)

  pub is_tested : room_whole s n b ≡ true → (given : Answer) (b' out' : List ℕ) → Leaves s n (outcome (view_room s n b) call) b out given b' out' → Leaves s n (tested s n b call) b out given b' out'
  unfolding tested
  is_tested e given b' out' w = rw e w

  pub too_short : length out < needed call → Leaves s n (with_output s n b out call) b out (refused OutputTooShort) b out
  unfolding with_output if_long
  too_short h = rw (lt-leb (needed call) (length out) h) (leaves_refused s n b out OutputTooShort)

  pub long_enough : needed call ≤ length out → (given : Answer) (b' out' : List ℕ) → Leaves s n (tested s n b call) b out given b' out' → Leaves s n (with_output s n b out call) b out given b' out'
  unfolding with_output if_long
  long_enough h given b' out' w = rw (le-leb (needed call) (length out) h) w

-- what holds of a step, and of the refusal for a short output, holds of the step with any output
pub by_length : (P : Outcome → Type 0) (space : ℕ) (call : Call) (o : Outcome) → P o → P (refuse OutputTooShort) → P (if_long space call o)
unfolding if_long
by_length P space call o long short = go (leb (needed call) space)
  where
    go : (t : Bool) → P (cond t o (refuse OutputTooShort))
    go true = long
    go false = short

-- what holds of the step and of the two refusals before it holds of the call on lent memory
pub by_call : (P : Outcome → Type 0) (s n : ℕ) (b out : List ℕ) (call : Call) → P (outcome (view_room s n b) call) → P (refuse RoomNotWhole) → P (refuse OutputTooShort)
    → P (with_output s n b out call)
unfolding with_output tested
by_call P s n b out call step broken short = by_length P (length out) call (tested s n b call) (go (room_whole s n b)) short
  where
    go : (t : Bool) → P (cond t (outcome (view_room s n b) call) (refuse RoomNotWhole))
    go true = step
    go false = broken

-- so it is refused or accepted
pub call_made : (s n : ℕ) (b out : List ℕ) (call : Call) → RefusedOrAccepted (with_output s n b out call)
call_made s n b out call = by_call RefusedOrAccepted s n b out call (outcome_made (view_room s n b) call) (refusal RoomNotWhole refl refl) (refusal OutputTooShort refl refl)
