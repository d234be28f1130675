-- A tick that is refused, or goes on. Assumes nothing.
use mathlib.Core.Path.{◌≡◌}
use mathlib.Core.List.{List}
use mathlib.Core.Logic.{◌≢◌}
use Prim.Native.Nat.{ℕ, ◌≤◌, ◌<◌}
use borrow.Author.Tests.{eq-eqb, ne_eqb, lt-ltb, le-ltb}
use Rattle.refusal.specs.declared.Refusal.TheVariants.{ZeroPing, ClockBack}
use Rattle.rules.specs.Call.{Answer, tick, refused}
use Rattle.rules.specs.Outcome.{tick_from, tick_at, outcome}
use Rattle.room_laws.specs.View.{view_room}
use Rattle.relay_laws.specs.Calls.{Leaves}
use Rattle.relay_laws.proofs.OutcomeLeaves.{leaves_refused}

module _ (s n : ℕ) (b out : List ℕ) (time number : ℕ) where
  pub ticks_zero : number ≡ 0 → Leaves s n (outcome (view_room s n b) (tick time number)) b out (refused ZeroPing) b out
  unfolding outcome tick_at
  ticks_zero e = rw (eq-eqb number 0 e) (leaves_refused s n b out ZeroPing)

  pub ticks_back : number ≢ 0 → time < (view_room s n b).clock → Leaves s n (outcome (view_room s n b) (tick time number)) b out (refused ClockBack) b out
  unfolding outcome tick_at
  ticks_back e h = rw (ne_eqb number 0 e, lt-ltb time (view_room s n b).clock h) (leaves_refused s n b out ClockBack)

  pub ticks_on : number ≢ 0 → (view_room s n b).clock ≤ time → (given : Answer) (b' out' : List ℕ)
      → Leaves s n (tick_from (view_room s n b) time number) b out given b' out' → Leaves s n (outcome (view_room s n b) (tick time number)) b out given b' out'
  unfolding outcome tick_at
  ticks_on e h given b' out' l = rw (ne_eqb number 0 e, le-ltb time (view_room s n b).clock h) l
