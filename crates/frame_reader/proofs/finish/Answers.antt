-- `frame_reader::finish` meets its contract: a frame whole in the piece is shown there, and another gets in the keep what it lacks. Assumes nothing.
use mathlib.Core.Path.{◌∙◌, sym, ap}
use mathlib.Core.List.{List}
use Prim.Native.Nat.{ℕ, ◌-◌}
use native.Mathlib.Omega.{arith}
use lib.ListN.{length, take}
use lib.Seq.{length-take-le}
use borrow.Author.Tests.{le-leb}
use Rattle.frame.specs.Reader.{over}
use Rattle.frame_reader.proofs.CopyLaws.{copied, finished}
use Rattle.frame_reader.proofs.finish.Goals as goal

pub returns-clause-keep_after : goal.returns-clause-keep_after
returns-clause-keep_after c =
    let a = c.args in
    let some = le-leb 1 (length (take a.held a.keep.now)) (omega (arith, length-take-le a.held a.keep.now (omega arith))) in
    let lacked_length = length-take-le (a.size - a.held) a.piece.now (omega arith) in
    copied a.held (a.size - a.held) a.keep.now (take (a.size - a.held) a.piece.now) c.copy_from_slice.new.self (sym lacked_length) (omega arith) c.copy_from_slice.ensures.after
    ∙ ap (λ (l : List ℕ). over l a.keep.now) (finished a.size a.held a.keep.now a.piece.now (omega arith) (omega arith)) ∙ simp some
