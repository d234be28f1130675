-- Whether a seat of a whole room is overdue, or due, at a time that is not before the clock: told by the number outstanding, the time of its last ping and
-- whether it is taken. Assumes nothing.
use mathlib.Core.Path.{◌≡◌, refl, sym, ap, ap₂, ◌∙◌}
use mathlib.Core.Bool.{Bool, true, false, ◌&&◌, not, and-false, and-true}
use mathlib.Core.List.{List}
use mathlib.Core.Logic.{◌≢◌}
use Prim.Native.Nat.{ℕ, ◌-◌, ◌≤◌}
use native.Mathlib.Omega.{arith}
use lib.Dec.{eqb, leb}
use borrow.Author.Tests.{le-ltb, eq-eqb, ne_eqb}
use Rattle.rules.specs.Room.{Held, Seat, vacant, holds, is_vacant, ping_in, seat_at}
use Rattle.rules.specs.Outcome.{overdue, is_overdue, is_due}
use Rattle.room_laws.specs.View.{view_room}
use Rattle.room_laws.specs.Whole.{room_whole}
use Rattle.room_laws.specs.Lookup.{taken, ping_time_of, outstanding_of}
use Rattle.room_laws.proofs.LookupLaws.{taken_is, ping_time_is, outstanding_is}
use Rattle.room_laws.proofs.WholeLaws.{whole_view}
use Rattle.relay_laws.specs.Steps.{NotBefore, has_passed}

module _ (s n : ℕ) (b : List ℕ) (whole : room_whole s n b ≡ true) (time : ℕ) (now : NotBefore s n b time) (i : ℕ) where
  -- a time that has come
  passed_held : (held : Held) → seat_at (view_room s n b) i ≡ holds held → (seconds : ℕ) → has_passed (ping_time_of s n b i) time seconds ≡ leb seconds (time - held.ping.time)
  unfolding has_passed
  passed_held held e seconds =
      let p : held.ping.time ≤ (view_room s n b).clock = (whole_view s n b whole).ping_times i held e in
      rw (ping_time_is s n b whole i held e, le-ltb time held.ping.time (omega arith))

  overdue_told : (not (eqb (outstanding_of s n b i) 0) && (has_passed (ping_time_of s n b i) time 10 && taken s n b i)) ≡ is_overdue time (seat_at (view_room s n b) i)
  unfolding is_overdue overdue ping_in is_vacant
  overdue_told = rw (taken_is s n b whole i) (go (seat_at (view_room s n b) i) refl)
    where
      go : (x : Seat) → seat_at (view_room s n b) i ≡ x
          → (not (eqb (outstanding_of s n b i) 0) && (has_passed (ping_time_of s n b i) time 10 && not (is_vacant x))) ≡ is_overdue time x
      go vacant e = ap (λ (t : Bool). not (eqb (outstanding_of s n b i) 0) && t) (and-false (has_passed (ping_time_of s n b i) time 10)) ∙ and-false (not (eqb (outstanding_of s n b i) 0))
      go (holds held) e = rw (outstanding_is s n b whole i held e, passed_held held e 10, and-true (leb 10 (time - held.ping.time)))

  due_told : (eqb (outstanding_of s n b i) 0 && (has_passed (ping_time_of s n b i) time 30 && taken s n b i)) ≡ is_due time (seat_at (view_room s n b) i)
  unfolding is_due is_vacant
  due_told = rw (taken_is s n b whole i) (go (seat_at (view_room s n b) i) refl)
    where
      go : (x : Seat) → seat_at (view_room s n b) i ≡ x
          → (eqb (outstanding_of s n b i) 0 && (has_passed (ping_time_of s n b i) time 30 && not (is_vacant x))) ≡ is_due time x
      go vacant e = ap (λ (t : Bool). eqb (outstanding_of s n b i) 0 && t) (and-false (has_passed (ping_time_of s n b i) time 30)) ∙ and-false (eqb (outstanding_of s n b i) 0)
      go (holds held) e = rw (outstanding_is s n b whole i held e, passed_held held e 30, and-true (leb 30 (time - held.ping.time)))

  -- ---- the three tests, one after the other

  abbrev none : Bool
  none = eqb (outstanding_of s n b i) 0

  abbrev since : ℕ → Bool
  since seconds = has_passed (ping_time_of s n b i) time seconds

  pub none_outstanding : outstanding_of s n b i ≡ 0 → false ≡ is_overdue time (seat_at (view_room s n b) i)
  none_outstanding e = sym (ap (λ (t : Bool). not t && (since 10 && taken s n b i)) (eq-eqb (outstanding_of s n b i) 0 e)) ∙ overdue_told

  pub not_overdue_yet : has_passed (ping_time_of s n b i) time 10 ≡ false → false ≡ is_overdue time (seat_at (view_room s n b) i)
  not_overdue_yet e = sym (and-false (not none)) ∙ sym (ap (λ (t : Bool). not none && (t && taken s n b i)) e) ∙ overdue_told

  pub overdue_if_taken : outstanding_of s n b i ≢ 0 → has_passed (ping_time_of s n b i) time 10 ≡ true → taken s n b i ≡ is_overdue time (seat_at (view_room s n b) i)
  overdue_if_taken h e =
      sym (ap₂ (λ (t u : Bool). not t && (u && taken s n b i)) (ne_eqb (outstanding_of s n b i) 0 h) e) ∙ overdue_told

  pub one_outstanding : outstanding_of s n b i ≢ 0 → false ≡ is_due time (seat_at (view_room s n b) i)
  one_outstanding h = sym (ap (λ (t : Bool). t && (since 30 && taken s n b i)) (ne_eqb (outstanding_of s n b i) 0 h)) ∙ due_told

  pub not_due_yet : has_passed (ping_time_of s n b i) time 30 ≡ false → false ≡ is_due time (seat_at (view_room s n b) i)
  not_due_yet e = sym (and-false none) ∙ sym (ap (λ (t : Bool). none && (t && taken s n b i)) e) ∙ due_told

  pub due_if_taken : outstanding_of s n b i ≡ 0 → has_passed (ping_time_of s n b i) time 30 ≡ true → taken s n b i ≡ is_due time (seat_at (view_room s n b) i)
  due_if_taken h e = sym (ap₂ (λ (t u : Bool). t && (u && taken s n b i)) (eq-eqb (outstanding_of s n b i) 0 h) e) ∙ due_told
