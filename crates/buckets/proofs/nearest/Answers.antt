-- `nearest` meets its contract, on each way out. Assumes nothing.
use mathlib.Core.Path.{◌∙◌, sym}
use native.Mathlib.Omega.{arith}
use Rattle.wire.proofs.Numbers.{bytes_each}
use Rattle.key.proofs.Owned.{is_key}
use Rattle.buckets.proofs.CallSteps.{asks_broken, kept_known, asks_short, asks_answered}
use Rattle.buckets.proofs.nearest.Goals as goal

pub returns-then-not-is_whole : goal.returns-then-not-is_whole
returns-then-not-is_whole c =
    asks_broken c.args.target c.args.memory.now c.args.out.now (bytes_each c.args.memory.now (λ i. (c.type_inv.memory i).fits)) (is_key c.args.target c.well_formed.1.0.0 c.well_formed.1.0.1.1)
    (sym c.is_whole.ensures ∙ c.if-not-is_whole.true)

pub nearest-kept-requires : goal.nearest-kept-requires
nearest-kept-requires c = sym c.is_whole.ensures ∙ c.if-not-is_whole.false

pub returns-then-out-length : goal.returns-then-out-length
returns-then-out-length c =
    asks_short c.args.target c.args.memory.now c.args.out.now (bytes_each c.args.memory.now (λ i. (c.type_inv.memory i).fits)) (is_key c.args.target c.well_formed.1.0.0 c.well_formed.1.0.1.1)
    (sym c.is_whole.ensures ∙ c.if-not-is_whole.false) c.nearest-kept.result c.nearest-kept.ensures.nodes _ c.length-length.ensures c.if-out-length.true

pub write-requires : goal.write-requires
write-requires c =
    let e = c.length-length.ensures in
    let h = c.if-out-length.false in (
      c.nearest-kept.ensures.well.starts,
      kept_known c.args.target c.args.memory.now c.args.out.now (bytes_each c.args.memory.now (λ i. (c.type_inv.memory i).fits)) (is_key c.args.target c.well_formed.1.0.0 c.well_formed.1.0.1.1)
          (sym c.is_whole.ensures ∙ c.if-not-is_whole.false) c.nearest-kept.result c.nearest-kept.ensures.nodes,
      omega arith,
    )

pub returns : goal.returns
returns c =
    asks_answered c.args.target c.args.memory.now c.args.out.now (bytes_each c.args.memory.now (λ i. (c.type_inv.memory i).fits)) (is_key c.args.target c.well_formed.1.0.0 c.well_formed.1.0.1.1)
    (sym c.is_whole.ensures ∙ c.if-not-is_whole.false) c.nearest-kept.result c.nearest-kept.ensures.nodes _ c.length-length.ensures c.if-out-length.false
    _ c.write.ensures
