-- `Records::all_rise` meets its contract. The invariant: what was passed rises up to the last place, and what is left behind it decides. Assumes nothing.
use mathlib.Core.Path.{◌≡◌, refl, sym, ap, ap₂, ◌∙◌}
use mathlib.Core.Bool.{Bool, true, false, ◌||◌}
use mathlib.Core.List.{List}
use Prim.Native.Nat.{ℕ}
use native.Mathlib.Omega.{arith}
use lib.Dec.{eqb}
use lib.ListN.{length, get_or}
use Rattle.std.specs.Option.{is_some}
use borrow.Author.Tests.{lt-ltb, le-ltb}
use Rattle.key.proofs.Lent.{key_itself}
use Rattle.table_laws.specs.Bytes.{key_before}
use Rattle.table_laws.specs.Table.{key_at, find_key, listed, place_below}
use Rattle.table_laws.proofs.KeyOrder.{step_out, step_falls, step_on, rising_end}
use Rattle.table_laws.proofs.Listed.{whole_begins}
use Rattle.table_laws.proofs.SearchLaws.{find_end}
use Rattle.table_laws.proofs.WithoutLaws.{without_not_whole, without_many, without_empty, without_found, without_missed, pass_first, pass_on}
use Rattle.table.proofs.records.Records.all_rise_without.Goals as goal

or_none : (s t : Bool) → (s || t) ≡ false → (s ≡ false) × (t ≡ false)
or_none true t e = cc
or_none false t e = (refl, e)

pub returns-then-places-from : goal.returns-then-places-from
returns-then-places-from c = let s = c.args.self in sym (without_many s.shape.places s.shape.width s.bytes.now c.args.key.now (omega arith))

pub returns-in_default : goal.returns-in_default
returns-in_default c =
    let s = c.args.self in
    sym (without_empty s.shape.places s.shape.width s.bytes.now c.args.key.now (omega arith) (ap length (sym c.listed.ensures) ∙ c.in_default.ensures.cases))

pub returns-then-places-first : goal.returns-then-places-first
returns-then-places-first c =
    let s = c.args.self in
    let p = s.shape.places in
    sym (without_not_whole p s.shape.width s.bytes.now c.args.key.now
    (whole_begins p s.shape.width s.bytes.now (omega arith) c.in-Some.first.now c.in-Some.rest.now (sym c.listed.ensures ∙ c.in-Some.ensures.cases.0)
    ∙ rw (le-ltb c.in-Some.first.now p (omega arith))))

pub loop-next-init : goal.loop-next-init
loop-next-init c =
    let s = c.args.self in
    let p = s.shape.places in
    let w = s.shape.width in
    let b = s.bytes.now in
    let f = key_at p w b in
    let m : ℕ = c.in-Some.first.now in
    let ns : List ℕ = c.in-Some.rest.now in
    let k : List ℕ = c.args.key.now in
    let e = sym c.listed.ensures ∙ c.in-Some.ensures.cases.0 in
    let at = c.key-last.ensures.bytes ∙ ap f c.from-first.ensures in (
      c.key-last.ensures.long,
      (m, (at, whole_begins p w b (omega arith) m ns e ∙ rw (lt-ltb m p (omega arith)))),
      λ o. ap (find_key p f k) e ∙ pass_first p f k m (ap (λ (x : List ℕ). eqb (get_or x 0 0) (get_or k 0 0)) (sym at) ∙ o) ns,
    )

pub returns-then-places-next : goal.returns-then-places-next
returns-then-places-next c =
    let l = c.loop-next in
    let v = l.invariant.1 in
    let s = c.args.self in
    let p = s.shape.places in
    let f = key_at p s.shape.width s.bytes.now in
    sym (without_not_whole p s.shape.width s.bytes.now c.args.key.now
    (v.1.1 ∙ step_out p f v.0 c.in-Some.rest.now l.next-index c.from-next.result (omega arith) c.from-next.ensures c.if-places-next.true))

pub returns-then-not-key_before : goal.returns-then-not-key_before
returns-then-not-key_before c =
    let l = c.loop-next in
    let v = l.invariant.1 in
    let s = c.args.self in
    let p = s.shape.places in
    let f = key_at p s.shape.width s.bytes.now in
    sym (without_not_whole p s.shape.width s.bytes.now c.args.key.now
    (v.1.1
    ∙ step_falls p f v.0 c.in-Some.rest.now l.next-index c.from-next.result (omega arith) c.from-next.ensures
    (ap₂ key_before (sym v.1.0) (sym c.key-next.ensures.bytes) ∙ sym c.key_before.ensures ∙ c.if-not-key_before.true)))

pub loop-next-preserved : goal.loop-next-preserved
loop-next-preserved c =
    let l = c.loop-next in
    let v = l.invariant.1 in
    let s = c.args.self in
    let p = s.shape.places in
    let f = key_at p s.shape.width s.bytes.now in
    let m = c.from-next.result in
    let ns : List ℕ = c.in-Some.rest.now in
    let k : List ℕ = c.args.key.now in (
      c.key-next.ensures.long,
      (
        m,
        (
          c.key-next.ensures.bytes,
          v.1.1
              ∙ step_on p f v.0 ns l.next-index m (omega arith) c.from-next.ensures c.if-places-next.false
              (ap₂ key_before (sym v.1.0) (sym c.key-next.ensures.bytes) ∙ sym c.key_before.ensures ∙ c.if-not-key_before.false),
        ),
      ),
      λ o. let q = or_none _ _ o in
          l.invariant.2 q.0
          ∙ pass_on p f k m (ap (λ (x : List ℕ). eqb (get_or x 0 0) (get_or k 0 0)) (sym c.key-next.ensures.bytes) ∙ q.1) ns l.next-index (omega arith) c.from-next.ensures,
    )

pub returns-then-not-alike : goal.returns-then-not-alike
returns-then-not-alike c =
    let l = c.loop-next in
    let v = l.invariant.1 in
    let s = c.args.self in
    let p = s.shape.places in
    let f = key_at p s.shape.width s.bytes.now in
    let k : List ℕ = c.args.key.now in
    let ns : List ℕ = c.in-Some.rest.now in
    rw c.if-not-alike.true
    (sym (without_missed p s.shape.width s.bytes.now k (v.1.1 ∙ rising_end p f v.0 ns l.next-index (omega arith))
    (l.invariant.2 c.if-not-alike.true ∙ find_end p f k ns l.next-index (omega arith))))

pub returns-else-not-alike : goal.returns-else-not-alike
returns-else-not-alike c =
    let l = c.loop-next in
    let v = l.invariant.1 in
    let s = c.args.self in
    let p = s.shape.places in
    let f = key_at p s.shape.width s.bytes.now in
    without_found p s.shape.width s.bytes.now c.args.key.now (v.1.1 ∙ rising_end p f v.0 c.in-Some.rest.now l.next-index (omega arith))
    c.is_none.result (ap is_some (sym (c.place_of.ensures ∙ ap (λ (x : List ℕ). place_below p (find_key p f x (listed p s.bytes.now))) (c.read.ensures ∙ key_itself c.args.key.now c.requires))) ∙ c.is_none.ensures)
