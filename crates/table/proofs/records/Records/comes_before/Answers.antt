-- `Records::comes_before` meets its contract: what is no place has no key. Assumes nothing.
use mathlib.Core.Path.{sym, ap, ◌∙◌}
use mathlib.Core.List.{List}
use Prim.Native.Nat.{ℕ}
use borrow.Author.Tests.{le-ltb}
use Rattle.table_laws.specs.Bytes.{key_before}
use Rattle.table_laws.proofs.SearchLaws.{none_before}
use Rattle.table.proofs.records.Records.comes_before.Goals as goal

pub returns-then-place-self : goal.returns-then-place-self
returns-then-place-self c = c.key_before.ensures ∙ ap (λ (x : List ℕ). key_before x c.args.key.now) c.key.ensures.bytes

pub returns-else-place-self : goal.returns-else-place-self
returns-else-place-self c =
    let s = c.args.self in
    rw (le-ltb c.args.place s.shape.places c.if-place-self.false)
    (sym (none_before s.shape.places s.shape.width s.bytes.now s.table c.args.place c.if-place-self.false c.args.key.now))
