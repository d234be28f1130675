-- `frame_reader::go_on` meets its contract: what stands at the front decides, as in `read_front`. Assumes nothing.
use borrow.Author.Rules.{rules}
use mathlib.Core.Path.{◌∙◌, refl, sym}
use mathlib.Core.List.{◌++◌}
use native.Mathlib.Omega.{arith}
use lib.ListN.{take}
use lib.Seq.{length-take-le}
use Rattle.frame.proofs.FrontLaws.{long_of, long_bounds, unfinished_bound, grown}
use Rattle.frame_reader.proofs.JoinedLaws.{there_length}
use Rattle.frame_reader.proofs.go_on.Goals as goal

pub hold-requires : goal.hold-requires
hold-requires c =
    let a = c.args in
    let e = sym c.front_of.ensures ∙ c.in-Unfinished.is in
    omega (arith, there_length a.held a.keep.now a.piece.now (omega arith), unfinished_bound (take a.held a.keep.now ++ a.piece.now) e)

pub finish-requires : goal.finish-requires
finish-requires c =
    let a = c.args in
    let there = take a.held a.keep.now ++ a.piece.now in
    let e = sym c.front_of.ensures ∙ c.in-Whole.is in
    let whole = long_of there _ e in
    let l = there_length a.held a.keep.now a.piece.now (omega arith) in
    let some = grown (take a.held a.keep.now) a.piece.now _ (search rules) e in
    record {
      fits_keep = omega (arith, (long_bounds there _ whole).1);
      is_there = omega (arith, whole.there, l);
      past_held = omega (arith, some, length-take-le a.held a.keep.now (omega arith));
    }

pub returns-in-Unfinished : goal.returns-in-Unfinished
returns-in-Unfinished c = rw (sym c.front_of.ensures ∙ c.in-Unfinished.is) c.hold.ensures

pub returns-in-BadLength : goal.returns-in-BadLength
returns-in-BadLength c = rw (sym c.front_of.ensures ∙ c.in-BadLength.is) (record { value = c.refused.ensures; keep_after = refl })

pub returns-in-Whole : goal.returns-in-Whole
returns-in-Whole c = rw (sym c.front_of.ensures ∙ c.in-Whole.is) c.finish.ensures
