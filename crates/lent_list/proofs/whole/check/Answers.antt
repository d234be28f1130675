-- `whole::check` meets its contract: each way out is a case of `StandingLaws`, and of `Judge` of `nearest` for a list that is there. Assumes nothing.
use borrow.Author.Tests.{eqb-true, eqb-false}
use mathlib.Core.Path.{◌∙◌, sym, ap, ap₂}
use native.Mathlib.Omega.{arith}
use Rattle.wire.proofs.Copy.{length_lent}
use Rattle.nearest.specs.Lists.{all_known, rising}
use Rattle.nearest.proofs.Judge.{size_bounds, too_long, unknown_held, not_rising, passes}
use Rattle.lent_list_laws.specs.Layout.{list_at}
use Rattle.lent_list.proofs.StandingLaws.{standing_long, no_byte, no_size, too_short, held_slots}
use Rattle.lent_list.proofs.whole.check.Goals as goal
use Rattle.lent_list.proofs.whole.check.Goals.{then-not-all_known-via-then-not-all_known, then-not-all_known-via-else-not-all_known+then-not-rising}

pub returns-then-is_empty : goal.returns-then-is_empty
returns-then-is_empty c = no_byte c.args.memory.now (eqb-true _ _ (sym c.is_empty.ensures ∙ c.if-is_empty.true))

pub returns-then-not-size_right : goal.returns-then-not-size_right
returns-then-not-size_right c =
    let some = eqb-false _ _ (sym c.is_empty.ensures ∙ c.if-is_empty.false) in
    no_size c.args.memory.now (omega arith) (rw c.from-size.ensures at (sym c.size_right.ensures ∙ c.if-not-size_right.true))

pub returns-then-memory-lt-BYTES : goal.returns-then-memory-lt-BYTES
returns-then-memory-lt-BYTES c =
    let some = eqb-false _ _ (sym c.is_empty.ensures ∙ c.if-is_empty.false) in
    too_short c.args.memory.now (omega arith) (rw c.from-size.ensures at (sym c.size_right.ensures ∙ c.if-not-size_right.false)) (omega arith)

pub returns-then-size-from : goal.returns-then-size-from
unfolding list_at
returns-then-size-from c =
    let m = c.args.memory.now in
    let right = rw c.from-size.ensures at (sym c.size_right.ensures ∙ c.if-not-size_right.false) in
    too_long (list_at m) right (rw (c.from.ensures, c.from-size.ensures) at c.if-size-from.true) ∙ sym (standing_long m (omega arith))

pub of-list-requires : goal.of-list-requires
of-list-requires c =
    let b = size_bounds _ (sym c.size_right.ensures ∙ c.if-not-size_right.false) in
    record { long = omega arith; few = let e = c.from.ensures in omega arith }

pub rising-requires : goal.rising-requires
rising-requires c = rw (c.target.ensures, c.of-list.ensures) (length_lent c.args.memory.now 2 32 (omega arith))

pub returns-then-not-all_known : goal.returns-then-not-all_known
unfolding list_at
returns-then-not-all_known c =
    let m = c.args.memory.now in
    let right = rw c.from-size.ensures at (sym c.size_right.ensures ∙ c.if-not-size_right.false) in
    let within = rw (c.from.ensures, c.from-size.ensures) at c.if-size-from.false in
    let b = size_bounds _ right in
    let there = held_slots m (omega arith) (omega arith) _ (rw c.of-list.ensures at c.held-held.ensures) in
    elim c.then-not-all_known.branch [
      | then-not-all_known-via-then-not-all_known w ↦
          unknown_held (list_at m) right within (sym (c.all_known.ensures ∙ ap all_known there) ∙ w.if-not-all_known.true) ∙ sym (standing_long m (omega arith))
      | then-not-all_known-via-else-not-all_known+then-not-rising w ↦
          not_rising (list_at m) right within (sym (c.all_known.ensures ∙ ap all_known there) ∙ w.if-not-all_known.false)
          (sym (w.rising.ensures ∙ ap₂ rising (rw c.of-list.ensures at w.target.ensures) there) ∙ w.if-not-rising.true) ∙ sym (standing_long m (omega arith))
    ]

pub returns : goal.returns
unfolding list_at
returns c =
    let m = c.args.memory.now in
    let right = rw c.from-size.ensures at (sym c.size_right.ensures ∙ c.if-not-size_right.false) in
    let within = rw (c.from.ensures, c.from-size.ensures) at c.if-size-from.false in
    let b = size_bounds _ right in
    let there = held_slots m (omega arith) (omega arith) _ (rw c.of-list.ensures at c.held-held.ensures) in
    passes (list_at m) right within (sym (c.all_known.ensures ∙ ap all_known there) ∙ c.if-not-all_known.false)
    (sym (c.rising.ensures ∙ ap₂ rising (rw c.of-list.ensures at c.target.ensures) there) ∙ c.if-not-rising.false) ∙ sym (standing_long m (omega arith))
