-- `wire::write_number` meets its contract. The invariant: the bytes still to write, then those written, are the number's bytes.
-- Assumes nothing.
use mathlib.Core.Path.{◌≡◌, ◌∙◌, sym, ap}
use mathlib.Core.List.{List, ◌++◌, append-nil}
use Prim.Native.Nat.{ℕ, suc, ◌-◌}
use native.Mathlib.Omega.{arith}
use lib.ListN.{length, drop, length-set}
use lib.Seq.{drop-length}
use Rattle.wire.specs.Numbers.{bytes_of}
use Rattle.wire.proofs.Numbers.{bytes_of_store}
use Rattle.wire.proofs.write_number.Goals as goal

pub loop-i-init : goal.loop-i-init
loop-i-init c =
    let a = c.args in
    sym (ap (λ (l : List ℕ). bytes_of (length a.out.now) a.number ++ l) (drop-length a.out.now) ∙ append-nil _)

pub loop-i-preserved : goal.loop-i-preserved
loop-i-preserved c =
    let l = c.loop-i in
    let e : l.i ≡ suc (l.i - 1) = omega arith in
    simp length-set (l.invariant ∙ ap (λ (n : ℕ). bytes_of n l.left ++ drop n l.out) e ∙ bytes_of_store (l.i - 1) l.left l.out (omega arith))

pub returns : goal.returns
unfolding bytes_of
returns c =
    let l = c.loop-i in
    let e : l.i ≡ 0 = omega arith in
    sym (ap (λ (n : ℕ). bytes_of n c.args.number) (sym l.auto.out) ∙ l.invariant ∙ ap (λ (n : ℕ). bytes_of n l.left ++ drop n l.out) e)
