-- `whole::all_belong` meets its contract. The invariant: the nodes passed belong, and those left decide. Assumes nothing.
use mathlib.Core.Path.{sym, ap, ◌∙◌}
use mathlib.Core.List.{List}
use Prim.Native.Nat.{ℕ}
use native.Mathlib.Omega.{arith}
use lib.ListN.{length, get_or}
use Rattle.table_laws.specs.Table.{used_places}
use Rattle.buckets_laws.specs.Layout.{base_of, bucket_at, record_start}
use Rattle.buckets_laws.specs.Whole.{all_belong}
use Rattle.buckets.proofs.Places.{record_inside, used_listed, listed_place_low}
use Rattle.buckets.proofs.WholeSteps.{all_nodes, belong_stop, belong_next, belong_end, at_start}
use Rattle.buckets.proofs.whole.all_belong.Goals as goal

pub loop-place-init : goal.loop-place-init
loop-place-init c = let a = c.args in ap (all_belong (base_of a.memory.now) a.bucket) (all_nodes (bucket_at a.memory.now a.bucket))

pub record_start-at-requires : goal.record_start-at-requires
record_start-at-requires c =
    let a = c.args in
    let u = c.used-used.ensures ∙ ap (used_places 8) c.bucket_at.ensures ∙ used_listed (bucket_at a.memory.now a.bucket) c.requires.2 in
    let q = ap length u in
    let p = listed_place_low (bucket_at a.memory.now a.bucket) c.requires.2 c.loop-place.place-index (omega arith) in
    let e = c.from.ensures ∙ ap (λ (x : List ℕ). get_or x c.loop-place.place-index 0) u in
    (c.requires.1, omega arith)

pub belongs-requires : goal.belongs-requires
belongs-requires c =
    let a = c.args in
    let u = c.used-used.ensures ∙ ap (used_places 8) c.bucket_at.ensures ∙ used_listed (bucket_at a.memory.now a.bucket) c.requires.2 in
    let q = ap length u in
    let p = listed_place_low (bucket_at a.memory.now a.bucket) c.requires.2 c.loop-place.place-index (omega arith) in
    let e = c.from.ensures ∙ ap (λ (x : List ℕ). get_or x c.loop-place.place-index 0) u in
    let r = record_inside a.memory.now a.bucket c.from.result (omega arith) c.requires.0 c.requires.1 in
    let s = c.record_start-at.ensures in
    omega arith

pub returns-then-not-belongs : goal.returns-then-not-belongs
returns-then-not-belongs c =
    let l = c.loop-place in
    let a = c.args in
    let u = c.used-used.ensures ∙ ap (used_places 8) c.bucket_at.ensures ∙ used_listed (bucket_at a.memory.now a.bucket) c.requires.2 in
    let q = ap length u in
    sym (l.invariant
    ∙ belong_stop a.memory.now a.bucket c.requires.2 l.place-index (omega arith) c.belongs.result
    (c.belongs.ensures ∙ at_start a.memory.now a.bucket _ _ u l.place-index (c.record_start-at.ensures ∙ ap (record_start a.bucket) c.from.ensures))
    c.if-not-belongs.true)

pub loop-place-preserved : goal.loop-place-preserved
loop-place-preserved c =
    let l = c.loop-place in
    let a = c.args in
    let u = c.used-used.ensures ∙ ap (used_places 8) c.bucket_at.ensures ∙ used_listed (bucket_at a.memory.now a.bucket) c.requires.2 in
    let q = ap length u in
    l.invariant
    ∙ belong_next a.memory.now a.bucket c.requires.2 l.place-index (omega arith) c.belongs.result
    (c.belongs.ensures ∙ at_start a.memory.now a.bucket _ _ u l.place-index (c.record_start-at.ensures ∙ ap (record_start a.bucket) c.from.ensures))
    c.if-not-belongs.false

pub returns : goal.returns
returns c =
    let l = c.loop-place in
    let a = c.args in
    let u = c.used-used.ensures ∙ ap (used_places 8) c.bucket_at.ensures ∙ used_listed (bucket_at a.memory.now a.bucket) c.requires.2 in
    let q = ap length u in
    sym (l.invariant ∙ belong_end (base_of a.memory.now) a.bucket (bucket_at a.memory.now a.bucket) c.requires.2 l.place-index (omega arith))
