-- `Records::has_key` meets its contract: what is no place has no key. Assumes nothing.
use mathlib.Core.Path.{sym, ap, ◌∙◌}
use mathlib.Core.List.{List}
use Prim.Native.Nat.{ℕ}
use native.Mathlib.Omega.{arith}
use borrow.Author.Tests.{le-ltb}
use Rattle.key.specs.Keys.{same_key}
use Rattle.table_laws.proofs.KeyOrder.{slices_same}
use Rattle.table_laws.proofs.SearchLaws.{none_same}
use Rattle.table.proofs.records.Records.has_key.Goals as goal

pub returns-then-place-self : goal.returns-then-place-self
returns-then-place-self c = c.eq.ensures ∙ slices_same c.key.result.now c.as_slice.result.now ∙ ap (same_key c.key.result.now) c.as_slice.ensures ∙ ap (λ (x : List ℕ). same_key x c.args.key.now) c.key.ensures.bytes

pub returns-else-place-self : goal.returns-else-place-self
returns-else-place-self c =
    let s = c.args.self in
    rw (le-ltb c.args.place s.shape.places c.if-place-self.false)
    (sym (none_same s.shape.places s.shape.width s.bytes.now s.table c.args.place c.if-place-self.false c.args.key.now (omega arith)))
