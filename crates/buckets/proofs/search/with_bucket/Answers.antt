-- `search::with_bucket` meets its contract. The invariant: the nodes passed are put in. Assumes nothing.
use mathlib.Core.Path.{◌∙◌, refl, ap, subst}
use mathlib.Core.List.{List, [], ◌∷◌}
use Prim.Native.Nat.{ℕ}
use native.Mathlib.Omega.{arith}
use lib.ListN.{length, get_or}
use Rattle.table_laws.specs.Table.{used_places}
use Rattle.buckets_laws.specs.Layout.{record_start}
use Rattle.buckets_laws.proofs.WholeLaws.{whole_long}
use Rattle.buckets.specs.Kept.{node_at, kept_nodes, KeptWith}
use Rattle.buckets.proofs.KeptLaws.{bucket_used, place_low, listed_inside, node_passed, nodes_passed}
use Rattle.buckets.proofs.search.with_bucket.Goals as goal

pub bucket_at-requires : goal.bucket_at-requires
bucket_at-requires c = (whole_long c.args.memory.now c.requires.1, c.requires.2)

pub loop-place-init : goal.loop-place-init
loop-place-init c = record { well = c.requires.0; nodes = refl }

pub record_start-at-requires : goal.record_start-at-requires
record_start-at-requires c =
    let a = c.args in
    let i = c.loop-place.place-index in
    let u = c.used-used.ensures ∙ ap (used_places 8) c.bucket_at.ensures ∙ bucket_used a.memory.now c.requires.1 a.bucket c.requires.2 in
    let q = ap length u in
    let p = place_low a.memory.now c.requires.1 a.bucket c.requires.2 i (omega arith) in
    let e = c.from.ensures ∙ ap (λ (x : List ℕ). get_or x i 0) u in
    (c.requires.2, omega arith)

pub with_node-kept-requires : goal.with_node-kept-requires
with_node-kept-requires c =
    let a = c.args in
    let i = c.loop-place.place-index in
    let u = c.used-used.ensures ∙ ap (used_places 8) c.bucket_at.ensures ∙ bucket_used a.memory.now c.requires.1 a.bucket c.requires.2 in
    let q = ap length u in
    let h = listed_inside a.memory.now c.requires.1 a.bucket c.requires.2 i (omega arith) in
    let e = c.record_start-at.ensures ∙ ap (record_start a.bucket) (c.from.ensures ∙ ap (λ (x : List ℕ). get_or x i 0) u) in
    (c.loop-place.invariant.well, omega arith)

pub loop-place-preserved : goal.loop-place-preserved
loop-place-preserved c =
    let a = c.args in
    let l = c.loop-place in
    let i = l.place-index in
    let m = a.memory.now in
    let t = a.target.now in
    let u = c.used-used.ensures ∙ ap (used_places 8) c.bucket_at.ensures ∙ bucket_used m c.requires.1 a.bucket c.requires.2 in
    let q = ap length u in
    let e = c.record_start-at.ensures ∙ ap (record_start a.bucket) (c.from.ensures ∙ ap (λ (x : List ℕ). get_or x i 0) u) in
    node_passed m t (kept_nodes m a.kept) c.requires.1 a.bucket c.requires.2 i (omega arith) l.kept l.invariant c.with_node-kept.result
    (subst (λ (x : ℕ). KeptWith m t l.kept (node_at m x ∷ []) c.with_node-kept.result) e c.with_node-kept.ensures)

pub returns : goal.returns
returns c =
    let a = c.args in
    let l = c.loop-place in
    let u = c.used-used.ensures ∙ ap (used_places 8) c.bucket_at.ensures ∙ bucket_used a.memory.now c.requires.1 a.bucket c.requires.2 in
    let q = ap length u in
    let h = c.loop-place-test.false in
    nodes_passed a.memory.now a.target.now (kept_nodes a.memory.now a.kept) c.requires.1 a.bucket c.requires.2 l.place-index (omega arith) l.kept l.invariant
