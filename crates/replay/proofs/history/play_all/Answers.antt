-- `history::play_all` meets its contract: a stored call takes no more than there is. Assumes nothing.
use native.Mathlib.Omega.{arith}
use Rattle.replay.proofs.Within.{size_within, part_within}
use Rattle.replay.proofs.history.play_all.Goals as goal

pub overflow_add-at-in-Some : goal.overflow_add-at-in-Some
overflow_add-at-in-Some c =
    let w = size_within _ _ _ _ c.read.ensures c.in-Some.is in
    let p = part_within _ _ _ c.args.input.now c.loop-call.invariant.0 w.1 in
    omega arith

pub slice_bounds-play-count : goal.slice_bounds-play-count
slice_bounds-play-count c =
    let w = size_within _ _ _ _ c.read.ensures c.in-Some.is in
    omega arith

pub slice_bounds-play-start : goal.slice_bounds-play-start
slice_bounds-play-start c =
    let w = size_within _ _ _ _ c.read.ensures c.in-Some.is in
    omega arith

pub slice_bounds-play-end : goal.slice_bounds-play-end
slice_bounds-play-end c =
    let w = size_within _ _ _ _ c.read.ensures c.in-Some.is in
    part_within _ _ _ c.args.input.now c.loop-call.invariant.0 w.1

pub loop-call-preserved : goal.loop-call-preserved
loop-call-preserved c =
    let w = size_within _ _ _ _ c.read.ensures c.in-Some.is in
    (part_within _ _ _ c.args.input.now c.loop-call.invariant.0 w.1, omega arith)

pub loop-call-smaller : goal.loop-call-smaller
loop-call-smaller c =
    let w = size_within _ _ _ _ c.read.ensures c.in-Some.is in
    let p = part_within _ _ _ c.args.input.now c.loop-call.invariant.0 w.1 in
    omega arith
