-- `Records::all_rise` meets its contract. The invariant: what was passed rises up to the last place, and what is left behind it decides. Assumes nothing.
use mathlib.Core.Path.{sym, ap, ap₂, ◌∙◌}
use mathlib.Core.List.{List}
use Prim.Native.Nat.{ℕ}
use native.Mathlib.Omega.{arith}
use lib.ListN.{length}
use borrow.Author.Tests.{lt-ltb, le-ltb}
use Rattle.table_laws.specs.Bytes.{key_before}
use Rattle.table_laws.specs.Table.{key_at}
use Rattle.table_laws.proofs.KeyOrder.{step_out, step_falls, step_on, rising_end}
use Rattle.table_laws.proofs.Listed.{whole_many, whole_empty, whole_begins}
use Rattle.table.proofs.records.Records.all_rise.Goals as goal

pub returns-then-places-from : goal.returns-then-places-from
returns-then-places-from c = let s = c.args.self in sym (whole_many s.shape.places s.shape.width s.bytes.now (omega arith))

pub returns-in_default : goal.returns-in_default
returns-in_default c =
    let s = c.args.self in
    sym (whole_empty s.shape.places s.shape.width s.bytes.now (omega arith) (ap length (sym c.listed.ensures) ∙ c.in_default.ensures.cases))

pub returns-then-places-first : goal.returns-then-places-first
returns-then-places-first c =
    let s = c.args.self in
    let p = s.shape.places in
    sym (whole_begins p s.shape.width s.bytes.now (omega arith) c.in-Some.first.now c.in-Some.rest.now (sym c.listed.ensures ∙ c.in-Some.ensures.cases.0)
    ∙ rw (le-ltb c.in-Some.first.now p (omega arith)))

pub loop-next-init : goal.loop-next-init
loop-next-init c =
    let s = c.args.self in
    let p = s.shape.places in
    let f = key_at p s.shape.width s.bytes.now in
    let m : ℕ = c.in-Some.first.now in (
      c.key-last.ensures.long,
      (
        m,
        (
          c.key-last.ensures.bytes ∙ ap f c.from-first.ensures,
          whole_begins p s.shape.width s.bytes.now (omega arith) m c.in-Some.rest.now (sym c.listed.ensures ∙ c.in-Some.ensures.cases.0) ∙ rw (lt-ltb m p (omega arith)),
        ),
      ),
    )

pub returns-then-places-next : goal.returns-then-places-next
returns-then-places-next c =
    let l = c.loop-next in
    let v = l.invariant.1 in
    let s = c.args.self in
    let p = s.shape.places in
    let f = key_at p s.shape.width s.bytes.now in
    sym (v.1.1 ∙ step_out p f v.0 c.in-Some.rest.now l.next-index c.from-next.result (omega arith) c.from-next.ensures c.if-places-next.true)

pub returns-then-not-key_before : goal.returns-then-not-key_before
returns-then-not-key_before c =
    let l = c.loop-next in
    let v = l.invariant.1 in
    let s = c.args.self in
    let p = s.shape.places in
    let f = key_at p s.shape.width s.bytes.now in
    sym (v.1.1
    ∙ step_falls p f v.0 c.in-Some.rest.now l.next-index c.from-next.result (omega arith) c.from-next.ensures
    (ap₂ key_before (sym v.1.0) (sym c.key-next.ensures.bytes) ∙ sym c.key_before.ensures ∙ c.if-not-key_before.true))

pub loop-next-preserved : goal.loop-next-preserved
loop-next-preserved c =
    let l = c.loop-next in
    let v = l.invariant.1 in
    let s = c.args.self in
    let p = s.shape.places in
    let f = key_at p s.shape.width s.bytes.now in
    let m = c.from-next.result in
    let ns : List ℕ = c.in-Some.rest.now in (
      c.key-next.ensures.long,
      (
        m,
        (
          c.key-next.ensures.bytes,
          v.1.1
              ∙ step_on p f v.0 ns l.next-index m (omega arith) c.from-next.ensures c.if-places-next.false
              (ap₂ key_before (sym v.1.0) (sym c.key-next.ensures.bytes) ∙ sym c.key_before.ensures ∙ c.if-not-key_before.false),
        ),
      ),
    )

pub returns : goal.returns
returns c =
    let l = c.loop-next in
    let v = l.invariant.1 in
    let s = c.args.self in
    let p = s.shape.places in
    sym (v.1.1 ∙ rising_end p (key_at p s.shape.width s.bytes.now) v.0 c.in-Some.rest.now l.next-index (omega arith))
