-- The number that an exported call answers tells its answer: the count, with the seat that stands in an Arrive's place, that of a Leave or a packet, which is its
-- own, or of a tick 0; a number below 0 is that of one refusal. So what the host sees of a call is its answer. Assumes nothing.
use mathlib.Core.Path.{◌≡◌, refl, sym, ap, ◌∙◌}
use Prim.Native.Nat.{ℕ, zero, suc, ◌≤◌}
use native.Mathlib.Omega.{arith}
use lib.IntN.{pos, negsuc, neg_ℤ}
use Rattle.refusal.specs.declared.Refusal.{Refusal}
use Rattle.refusal.specs.Numbers.{refusal_number, refusal_of}
use Rattle.refusal.proofs.LookedUp.{looked_up}
use Rattle.rules.specs.Call.{Answer, accepted, refused}
use Rattle.rules.specs.Outcome.{Outcome, refuse, accept}
use Rattle.rules.specs.Accepted.{MadeAt, refusal, acceptance}
use Rattle.banavoge_laws.specs.Answers.{refusal_code}
use Rattle.banavoge_laws.specs.RelayCalls.{count_code, seat_after}
use Rattle.histories.specs.Seen.{answered}

-- the number that a refusal is answered by is below 0: minus its own
pub record BelowZero (why : Refusal) : Type 0 where
  pub less : ℕ
  pub is : refusal_code why ≡ negsuc less
  pub number : refusal_number why ≡ suc less

pub below_zero : (why : Refusal) → BelowZero why
unfolding refusal_code
below_zero why = go (refusal_number why) refl (looked_up why).positive
  where
    go : (k : ℕ) → refusal_number why ≡ k → 1 ≤ k → BelowZero why
    go zero e h = absurd (omega arith)
    go (suc k) e h = record { less = k; is = ap (λ (n : ℕ). neg_ℤ (pos n)) e; number = e }

-- so it is the number of no answer
pub below_not : (why : Refusal) (n : ℕ) → refusal_code why ≡ pos n → ⊥
below_not why n e = let b = (below_zero why).is in let z : ◌≡◌ {A = ℕ} 0 1 = cc in omega arith

-- nor that of another refusal
pub same_refusal : (why other : Refusal) → refusal_code why ≡ refusal_code other → why ≡ other
same_refusal why other e =
    let a = below_zero why in
    let b = below_zero other in
    let q : negsuc a.less ≡ negsuc b.less = sym a.is ∙ e ∙ b.is in
    let l : a.less ≡ b.less = cc in
    sym (looked_up why).found ∙ ap refusal_of (a.number ∙ ap suc l ∙ sym b.number) ∙ (looked_up other).found

-- and tells the refusal
pub refusal_answered : (seat : ℕ) (why : Refusal) → answered seat (refusal_code why) ≡ refused why
unfolding answered
refusal_answered seat why =
    let b = below_zero why in ap (answered seat) b.is ∙ ap (λ (k : ℕ). refused (refusal_of k)) (sym b.number) ∙ ap refused (looked_up why).found

-- an Arrive's, with what stands in the place for its seat
pub seat_answered : (before : ℕ) (given : Answer) → answered (seat_after given before) (count_code given) ≡ given
unfolding answered count_code seat_after
seat_answered before (accepted seat count) = refl
seat_answered before (refused why) = refusal_answered before why

-- that of a call that is made in a seat
pub count_answered : (seat : ℕ) (o : Outcome) → MadeAt seat o → answered seat (count_code o.answer) ≡ o.answer
unfolding answered count_code refuse accept
count_answered seat o (refusal why given e) = rw e (refusal_answered seat why)
count_answered seat o (acceptance changes sent e) = rw e
