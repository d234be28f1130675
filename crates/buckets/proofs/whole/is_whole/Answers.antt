-- `whole::is_whole` meets its contract. The invariant: the buckets passed are whole. Assumes nothing.
use mathlib.Core.Path.{◌≡◌, refl, ◌∙◌, sym, ap}
use Prim.Native.Nat.{suc}
use native.Mathlib.Numerals.{add-one}
use native.Mathlib.Omega.{arith}
use Rattle.buckets_laws.specs.Whole.{whole_below}
use Rattle.buckets_laws.proofs.WholeLaws.{below_stays, below_more, buckets_short, buckets_by_all}
use Rattle.buckets.proofs.whole.is_whole.Goals as goal

pub returns-then-memory-lt-END : goal.returns-then-memory-lt-END
returns-then-memory-lt-END c = sym (buckets_short c.args.memory.now c.if-memory-lt-END.true)

pub loop-bucket-init : goal.loop-bucket-init
unfolding whole_below
loop-bucket-init c = refl

pub returns-then-not-bucket_whole : goal.returns-then-not-bucket_whole
returns-then-not-bucket_whole c =
    let l = c.loop-bucket in
    let m = c.args.memory.now in
    let out = below_more m l.bucket l.invariant ∙ sym c.bucket_whole.ensures ∙ c.if-not-bucket_whole.true in
    sym (buckets_by_all m c.if-memory-lt-END.false ∙ below_stays m 256 (suc l.bucket) (omega arith) out)

pub loop-bucket-preserved : goal.loop-bucket-preserved
loop-bucket-preserved c =
    let l = c.loop-bucket in
    let m = c.args.memory.now in
    rw add-one (below_more m l.bucket l.invariant ∙ sym c.bucket_whole.ensures ∙ c.if-not-bucket_whole.false)

pub returns : goal.returns
returns c =
    let l = c.loop-bucket in
    let m = c.args.memory.now in
    let e : l.bucket ≡ 256 = omega arith in
    sym (buckets_by_all m c.if-memory-lt-END.false ∙ ap (whole_below m) (sym e) ∙ l.invariant)
