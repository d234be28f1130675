-- `handed::tell_all` is safe and ends: a record takes a byte or more, and no more than there are. Assumes nothing.
use native.Mathlib.Omega.{arith}
use Rattle.records.proofs.ReadLaws.{record_within}
use Rattle.replay.proofs.Within.{left_less}
use Rattle.replay.proofs.handed.tell_all.Goals as goal

pub slice_bounds-println-count : goal.slice_bounds-println-count
slice_bounds-println-count c = let w = record_within _ _ _ _ c.read.ensures c.in-Record.is in omega arith

pub slice_bounds-println-start : goal.slice_bounds-println-start
slice_bounds-println-start c = let w = record_within _ _ _ _ c.read.ensures c.in-Record.is in omega arith

pub slice_bounds-println-end : goal.slice_bounds-println-end
slice_bounds-println-end c = let w = record_within _ _ _ _ c.read.ensures c.in-Record.is in omega arith

pub slice_bounds-rest-count : goal.slice_bounds-rest-count
slice_bounds-rest-count c = let w = record_within _ _ _ _ c.read.ensures c.in-Record.is in omega arith

pub slice_bounds-rest-start : goal.slice_bounds-rest-start
slice_bounds-rest-start c = let w = record_within _ _ _ _ c.read.ensures c.in-Record.is in omega arith

pub loop-seat-smaller : goal.loop-seat-smaller
loop-seat-smaller c = let w = record_within _ _ _ _ c.read.ensures c.in-Record.is in left_less _ _ _ (omega arith) w.1
