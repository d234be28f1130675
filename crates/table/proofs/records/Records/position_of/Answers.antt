-- `Records::position_of` meets its contract. The invariant: those passed come before the key, and what is left decides. Assumes nothing.
use mathlib.Core.Path.{sym, ap, ◌∙◌}
use mathlib.Core.List.{List}
use Prim.Native.Nat.{ℕ}
use native.Mathlib.Omega.{arith}
use Rattle.table_laws.specs.Table.{key_at, position}
use Rattle.table_laws.proofs.SearchLaws.{position_here, position_on, position_end}
use Rattle.table.proofs.records.Records.position_of.Goals as goal

pub returns-then-not-comes_before : goal.returns-then-not-comes_before
returns-then-not-comes_before c =
    let l = c.loop-place in
    let s = c.args.self in
    let p = s.shape.places in
    let f = key_at p s.shape.width s.bytes.now in
    let k : List ℕ = c.args.key.now in
    let q = position_here p f k c.listed-place-items.result.now l.place-index c.from.result (omega arith) c.from.ensures (sym c.comes_before.ensures ∙ c.if-not-comes_before.true) in
    let e = ap (position f k) c.listed-place-items.ensures in
    omega arith

pub loop-place-preserved : goal.loop-place-preserved
loop-place-preserved c =
    let l = c.loop-place in
    let s = c.args.self in
    let p = s.shape.places in
    let f = key_at p s.shape.width s.bytes.now in
    let q = position_on p f c.args.key.now c.listed-place-items.result.now l.place-index c.from.result (omega arith) c.from.ensures (sym c.comes_before.ensures ∙ c.if-not-comes_before.false) in
    (omega arith, omega arith)

pub returns : goal.returns
returns c =
    let l = c.loop-place in
    let s = c.args.self in
    let p = s.shape.places in
    let f = key_at p s.shape.width s.bytes.now in
    let k : List ℕ = c.args.key.now in
    let q = position_end p f k c.listed-place-items.result.now l.place-index (omega arith) in
    let e = ap (position f k) c.listed-place-items.ensures in
    omega arith
