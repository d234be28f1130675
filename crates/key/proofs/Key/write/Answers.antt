-- `Key::write` meets its contract. Assumes nothing.
use mathlib.Core.Path.{◌∙◌, sym, ap}
use mathlib.Core.List.{List, ◌++◌}
use Prim.Native.Nat.{ℕ}
use lib.ListN.{drop}
use lib.Seq.{length-take-le}
use borrow.Author.Tests.{lt-leb, le-leb}
use Rattle.key.specs.Keys.{with_key}
use Rattle.key.proofs.Owned.{is_key}
use Rattle.key.proofs.Key.write.Goals as goal

pub copy_from_slice-requires : goal.copy_from_slice-requires
copy_from_slice-requires c =
    length-take-le 32 c.args.out.now c.if-out-ge-BYTES.true ∙ sym (is_key c.args.self c.well_formed.0.0 c.well_formed.0.1.1).long

pub returns-then-out-ge-BYTES : goal.returns-then-out-ge-BYTES
unfolding with_key
returns-then-out-ge-BYTES c =
    simp (le-leb _ _ c.if-out-ge-BYTES.true) (ap (λ (l : List ℕ). l ++ drop 32 c.args.out.now) c.copy_from_slice.ensures.after)

pub returns-else-out-ge-BYTES : goal.returns-else-out-ge-BYTES
unfolding with_key
returns-else-out-ge-BYTES c = simp (lt-leb _ _ c.if-out-ge-BYTES.false)
