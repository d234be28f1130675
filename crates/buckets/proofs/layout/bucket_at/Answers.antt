-- `layout::bucket_at` meets its contract: a bucket ends 417 bytes behind its start. Assumes nothing.
use mathlib.Core.Path.{◌∙◌, ap}
use Prim.Native.Nat.{ℕ}
use native.Mathlib.Nat.{add-sub_cancel_left}
use lib.ListN.{take, drop}
use Rattle.buckets_laws.specs.Layout.{bucket_at}
use Rattle.buckets.proofs.layout.bucket_at.Goals as goal

pub returns : goal.returns
unfolding bucket_at
returns c =
    let m = c.args.memory.now in
    let at = c.bucket_start-at.result in
    ap (λ (k : ℕ). take k (drop at m)) (add-sub_cancel_left at 417)
    ∙ ap (λ (k : ℕ). take 417 (drop k m)) c.bucket_start-at.ensures
