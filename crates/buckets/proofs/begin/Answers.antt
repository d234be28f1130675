-- `begin` meets its contract. Assumes nothing.
use borrow.Author.Rules.{rules}
use mathlib.Core.Path.{refl, sym, subst}
use mathlib.Core.List.{List, ◌++◌}
use Prim.Native.Nat.{ℕ, ◌≤◌}
use native.Mathlib.Omega.{arith}
use lib.ListN.{length}
use Rattle.std.proofs.Common.{Ok}
use Rattle.wire.proofs.Copy.{length_lent}
use Rattle.wire.proofs.Numbers.{bytes_each}
use Rattle.buckets_laws.specs.Calls.{Begins}
use Rattle.key.proofs.Owned.{is_key}
use Rattle.buckets.proofs.BeginSteps.{behind_written, front_length, zeros_filled, begun_done, begun_short}
use Rattle.buckets.proofs.begin.Goals as goal

pub returns-then-memory-lt-BYTES : goal.returns-then-memory-lt-BYTES
returns-then-memory-lt-BYTES c =
    begun_short c.args.base c.args.memory.now (bytes_each c.args.memory.now (λ i. grind arith)) (is_key c.args.base c.well_formed.1.0.0 c.well_formed.1.0.1.1) c.if-memory-lt-BYTES.true

pub returns : goal.returns
returns c =
    let m = c.args.memory.now in
    let h = c.if-memory-lt-BYTES.false in
    let low : 32 ≤ length m = omega arith in
    let f = zeros_filled _ 106752 c.fill.new.self (c.fill.ensures.after (λ y e. search rules)) (length_lent m 32 106752 (omega arith)) in
    subst (λ (x : List ℕ). Begins c.args.base m (c.write.new.out ++ x) (Ok tt)) (sym (behind_written 32 106752 106784 m c.fill.new.self low refl))
    (begun_done m h c.args.base (bytes_each m (λ i. grind arith)) (is_key c.args.base c.well_formed.1.0.0 c.well_formed.1.0.1.1)
    c.fill.new.self c.write.new.out _ f (front_length 32 106752 m c.fill.new.self low) c.write.ensures)
