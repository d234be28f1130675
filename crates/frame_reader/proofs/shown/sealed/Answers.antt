-- `frame_reader::shown::sealed` meets its contract: what is shown past its first two bytes is a part of the same whole. Assumes nothing.
use borrow.Author.Rules.{rules}
use borrow.Author.Tests.{le-leb, lt-leb}
use Rattle.frame_reader.specs.Parts.{sealed_part}
use Rattle.frame_reader.proofs.PartLaws.{part_length, past_part}
use Rattle.frame_reader.proofs.shown.sealed.Goals as goal

pub returns-then-whole-lt-LENGTH_BYTES : goal.returns-then-whole-lt-LENGTH_BYTES
unfolding sealed_part
returns-then-whole-lt-LENGTH_BYTES c =
    let short = rw (part_length c.frame-whole.ensures) at c.if-whole-lt-LENGTH_BYTES.true in rw (lt-leb _ _ short) (search rules)

pub returns : goal.returns
unfolding sealed_part
returns c =
    let whole = c.frame-whole.ensures in
    let long = rw (part_length whole) at c.if-whole-lt-LENGTH_BYTES.false in
    rw (le-leb _ _ long) (past_part whole 2 long (search rules))
