-- `offer` meets its contract, on each way out. A node by value has fields as their types have them, by `c.well_formed`. Assumes nothing.
use mathlib.Core.Path.{◌≡◌, ◌∙◌, ap, sym, subst}
use mathlib.Core.Bool.{true, not}
use mathlib.Core.List.{List}
use Prim.Native.Nat.{ℕ}
use native.Mathlib.Omega.{arith}
use Rattle.wire.proofs.Numbers.{bytes_each}
use Rattle.node.proofs.Owned.{is_node}
use Rattle.table_laws.specs.Table.{is_table}
use Rattle.buckets_laws.proofs.WholeLaws.{whole_long, bucket_inside}
use Rattle.buckets.proofs.CallSteps.{offers_broken, offers_unknown, offers_base, own_table, own_lent, offers_entered}
use Rattle.buckets.proofs.offer.Goals as goal

pub returns-then-not-is_whole : goal.returns-then-not-is_whole
returns-then-not-is_whole c =
    offers_broken c.args.node c.args.memory.now (bytes_each c.args.memory.now (λ i. grind arith)) (c.well_formed.1.0.1.1.0.1, is_node c.args.node c.well_formed.1.0.0 c.well_formed.1.0.1.1) _ c.is_whole.ensures (ap not c.if-not-is_whole.true)

pub returns-then-not-known : goal.returns-then-not-known
returns-then-not-known c =
    offers_unknown c.args.node c.args.memory.now (bytes_each c.args.memory.now (λ i. grind arith)) (c.well_formed.1.0.1.1.0.1, is_node c.args.node c.well_formed.1.0.0 c.well_formed.1.0.1.1)
    (sym c.is_whole.ensures ∙ c.if-not-is_whole.false) (sym c.known.ensures ∙ c.if-not-known.true)

pub slice_bounds-shared_bits-end : goal.slice_bounds-shared_bits-end
slice_bounds-shared_bits-end c =
    let l = whole_long c.args.memory.now (sym c.is_whole.ensures ∙ c.if-not-is_whole.false) in
    omega arith

pub returns-then-bucket-ge-BUCKETS : goal.returns-then-bucket-ge-BUCKETS
returns-then-bucket-ge-BUCKETS c =
    offers_base c.args.node c.args.memory.now (bytes_each c.args.memory.now (λ i. grind arith)) (c.well_formed.1.0.1.1.0.1, is_node c.args.node c.well_formed.1.0.0 c.well_formed.1.0.1.1)
    (sym c.is_whole.ensures ∙ c.if-not-is_whole.false) (sym c.known.ensures ∙ c.if-not-known.false)
    _ c.shared_bits-bucket.ensures c.if-bucket-ge-BUCKETS.true

pub slice_bounds-enter-end : goal.slice_bounds-enter-end
slice_bounds-enter-end c =
    let m = c.args.memory.now in
    let l = whole_long m (sym c.is_whole.ensures ∙ c.if-not-is_whole.false) in
    let e = c.bucket_start-at.ensures in
    let i = bucket_inside m c.shared_bits-bucket.result l c.if-bucket-ge-BUCKETS.false in
    omega arith

pub enter-requires : goal.enter-requires
enter-requires c =
    let m = c.args.memory.now in
    let w = sym c.is_whole.ensures ∙ c.if-not-is_whole.false in
    let k = sym c.known.ensures ∙ c.if-not-known.false in
    let b = bytes_each m (λ i. grind arith) in
    let e = c.shared_bits-bucket.ensures in
    let h = c.if-bucket-ge-BUCKETS.false in
    subst (λ (t : List ℕ). is_table 8 51 t ≡ true) (sym (own_lent c.args.node m b (c.well_formed.1.0.1.1.0.1, is_node c.args.node c.well_formed.1.0.0 c.well_formed.1.0.1.1) w k _ e h _ c.bucket_start-at.ensures))
    (own_table c.args.node m b (c.well_formed.1.0.1.1.0.1, is_node c.args.node c.well_formed.1.0.0 c.well_formed.1.0.1.1) w k _ e h)

pub returns : goal.returns
returns c =
    let m = c.args.memory.now in
    let w = sym c.is_whole.ensures ∙ c.if-not-is_whole.false in
    let k = sym c.known.ensures ∙ c.if-not-known.false in
    let b = bytes_each m (λ i. grind arith) in
    offers_entered c.args.node m b (c.well_formed.1.0.1.1.0.1, is_node c.args.node c.well_formed.1.0.0 c.well_formed.1.0.1.1) w k _ c.shared_bits-bucket.ensures c.if-bucket-ge-BUCKETS.false _ c.bucket_start-at.ensures _ _ c.enter.ensures
