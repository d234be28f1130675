-- `frame_reader::joined::front_of` meets its contract: its tests are those of `front`, in their order. Assumes nothing.
use mathlib.Core.Path.{◌≡◌, ◌∙◌, sym, ap}
use mathlib.Core.Bool.{true, false}
use mathlib.Core.List.{◌++◌}
use native.Mathlib.Omega.{arith}
use lib.ListN.{length-append}
use Rattle.std.proofs.lemmas.Bool.Decides.{nat_tests}
use Rattle.frame.specs.Frames.{length_right}
use Rattle.frame.proofs.FrontLaws.{front_few, front_wrong, front_short, front_long}
use Rattle.frame_reader.proofs.joined.front_of.Goals as goal

pub returns-in_default : goal.returns-in_default
returns-in_default c = sym (front_few (c.args.held.now ++ c.args.piece.now) c.in_default.ensures)

pub returns-then-not-contains : goal.returns-then-not-contains
unfolding length_right
returns-then-not-contains c =
    let there = c.args.held.now ++ c.args.piece.now in
    let is = c.in-Some.ensures in
    let a = c.if-not-contains.ensures.cases in
    let d = c.new.ensures in
    let wrong : length_right c.in-Some.length ≡ false = grind (arith, nat_tests, a, d) in
    sym (front_wrong there (record { two = is.0; wrong = ap length_right (sym is.1) ∙ wrong }))

pub returns-then-held-piece : goal.returns-then-held-piece
unfolding length_right
returns-then-held-piece c =
    let there = c.args.held.now ++ c.args.piece.now in
    let is = c.in-Some.ensures in
    let a = c.if-not-contains.ensures.cases in
    let d = c.new.ensures in
    let right : length_right c.in-Some.length ≡ true = grind (arith, nat_tests, a, d) in
    sym (front_short there (record { two = is.0; right = ap length_right (sym is.1) ∙ right; lacks = omega (arith, length-append c.args.held.now c.args.piece.now) }))

pub returns : goal.returns
unfolding length_right
returns c =
    let there = c.args.held.now ++ c.args.piece.now in
    let is = c.in-Some.ensures in
    let a = c.if-not-contains.ensures.cases in
    let d = c.new.ensures in
    let right : length_right c.in-Some.length ≡ true = grind (arith, nat_tests, a, d) in
    sym (front_long there _ (record { two = is.0; right = ap length_right (sym is.1) ∙ right; ends = omega arith; there = omega (arith, length-append c.args.held.now c.args.piece.now) }))
