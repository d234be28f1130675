-- `frame_reader::hold` meets its contract: the piece stands behind the bytes held. Assumes nothing.
use mathlib.Core.Path.{sym, ap}
use Prim.Native.Nat.{ℕ, ◌+◌, ◌-◌}
use native.Mathlib.Omega.{arith}
use lib.ListN.{length}
use Rattle.std.specs.Prelude.{Ok}
use Rattle.frame.specs.declared.Shown.TheVariants.{More}
use Rattle.frame_reader.proofs.JoinedLaws.{there_length}
use Rattle.frame_reader.proofs.CopyLaws.{copied}
use Rattle.frame_reader.proofs.hold.Goals as goal

pub returns-clause-value : goal.returns-clause-value
returns-clause-value c =
    let a = c.args in
    ap (λ (n : ℕ). record { shown = Ok More; reader = record { held = n }; used = length a.piece.now })
    (sym (there_length a.held a.keep.now a.piece.now (omega arith)))

pub returns-clause-keep_after : goal.returns-clause-keep_after
returns-clause-keep_after c =
    let a = c.args in
    copied a.held (a.held + length a.piece.now - a.held) a.keep.now a.piece.now c.copy_from_slice.new.self (omega arith) (omega arith) c.copy_from_slice.ensures.after
