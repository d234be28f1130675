-- `frame_reader::shown::frame` meets its contract. Each way out is one case of `frame_part`. Assumes nothing.
use borrow.Author.Rules.{rules}
use Rattle.frame_reader.specs.Parts.{frame_part}
use Rattle.frame_reader.proofs.shown.frame.Goals as goal
use Rattle.frame_reader.proofs.shown.frame.Goals.{in_default-via-in-Ok-InPiece+else-end-piece, in_default-via-in-Ok-InKeep+else-end-keep, in_default-via-in-Ok+in_default, in_default-via-in_default}

pub returns-in-Ok-InPiece : goal.returns-in-Ok-InPiece
unfolding frame_part
returns-in-Ok-InPiece c = search rules

pub returns-in-Ok-InKeep : goal.returns-in-Ok-InKeep
unfolding frame_part
returns-in-Ok-InKeep c = search rules

pub returns-in_default : goal.returns-in_default
unfolding frame_part
returns-in_default c = elim c.in_default.branch [ in_default-via-in-Ok-InPiece+else-end-piece w ↦ search rules | in_default-via-in-Ok-InKeep+else-end-keep w ↦ search rules | in_default-via-in-Ok+in_default w ↦ search rules | in_default-via-in_default w ↦ search rules ]
