-- `Records::place_of` meets its contract. The invariant: none of those passed has the key, and what is left decides. Assumes nothing.
use mathlib.Core.Path.{◌≡◌, sym, ap, ◌∙◌}
use mathlib.Core.List.{List}
use Prim.Native.Nat.{ℕ}
use native.Mathlib.Omega.{arith}
use Rattle.table_laws.specs.Table.{key_at, find_key, place_below}
use Rattle.table_laws.proofs.PlaceBelow.{place_in, place_past}
use Rattle.table_laws.proofs.SearchLaws.{find_here, find_on, find_end, found_below}
use Rattle.table.proofs.records.Records.place_of.Goals as goal

pub returns-then-has_key : goal.returns-then-has_key
returns-then-has_key c =
    let l = c.loop-place in
    let s = c.args.self in
    let p = s.shape.places in
    let f = key_at p s.shape.width s.bytes.now in
    let k : List ℕ = c.args.key.now in
    let q = sym c.has_key.ensures ∙ c.if-has_key.true in
    let n = c.from-place.result in
    let e : find_key p f k c.listed-place-items.result.now ≡ n
    = l.invariant ∙ find_here p f k c.listed-place-items.result.now l.place-index n (omega arith) c.from-place.ensures q in
    sym (ap (λ (x : List ℕ). place_below p (find_key p f k x)) (sym c.listed-place-items.ensures)
    ∙ ap (place_below p) e
    ∙ place_in p n (found_below p s.shape.width s.bytes.now s.table n k (omega arith) q))

pub loop-place-preserved : goal.loop-place-preserved
loop-place-preserved c =
    let l = c.loop-place in
    let s = c.args.self in
    let p = s.shape.places in
    l.invariant
    ∙ find_on p (key_at p s.shape.width s.bytes.now) c.args.key.now c.listed-place-items.result.now l.place-index c.from-place.result (omega arith) c.from-place.ensures
    (sym c.has_key.ensures ∙ c.if-has_key.false)

pub returns : goal.returns
returns c =
    let l = c.loop-place in
    let s = c.args.self in
    let p = s.shape.places in
    let f = key_at p s.shape.width s.bytes.now in
    let k : List ℕ = c.args.key.now in
    sym (ap (λ (x : List ℕ). place_below p (find_key p f k x)) (sym c.listed-place-items.ensures)
    ∙ ap (place_below p) (l.invariant ∙ find_end p f k c.listed-place-items.result.now l.place-index (omega arith))
    ∙ place_past p p (omega arith))
