-- What the exported reader of frames tells through references: the outcome is that of `frame` (`read_frame`). A refusal sets held and used alone, as document 02 has it:
-- "0 if refused", "After 18 the reader gives 18 until begun anew; after 10 it is as before."
use Rattle.std.specs.Prelude.{List, ◌≡◌, ℕ, ℤ, pos, Result, Ok, Err}
use Rattle.refusal.specs.declared.Refusal.{Refusal}
use Rattle.frame.specs.declared.Shown.{Shown}
use Rattle.frame.specs.declared.Shown.TheVariants.{More, InPiece, InKeep}
use Rattle.frame.specs.declared.Read.{Read}
use Rattle.frame.specs.Reader.{Outcome}
use Rattle.banavoge_laws.specs.Answers.{refusal_code}

-- what the three references refer to
pub record FramePlaces : Type 0 where
  pub held : ℕ
  pub used : ℕ
  pub end : ℕ

abbrev pub frame_places : ℕ → ℕ → ℕ → FramePlaces
frame_places held used end = record { held = held; used = used; end = end }

-- 0 more, 1 a frame in the piece, 2 a frame in the keep, or minus the refusal
unfoldable pub shown_code : Result Shown Refusal → ℤ
shown_code (Ok More) = pos 0
shown_code (Ok (InPiece end)) = pos 1
shown_code (Ok (InKeep end)) = pos 2
shown_code (Err why) = refusal_code why

-- where a frame ends; only a frame that is shown sets it
unfoldable pub end_after : Result Shown Refusal → ℕ → ℕ
end_after (Ok More) before = before
end_after (Ok (InPiece end)) before = end
end_after (Ok (InKeep end)) before = end
end_after (Err why) before = before

unfoldable pub frame_places_after : Read → FramePlaces → FramePlaces
frame_places_after read before = frame_places read.reader.held read.used (end_after read.shown before.end)

pub record ReadsFrame (outcome : Outcome) (answer : ℤ) (before after : FramePlaces) (left : List ℕ) : Type 0 where
  pub answers : answer ≡ shown_code outcome.read.shown
  pub sets : after ≡ frame_places_after outcome.read before
  pub leaves : left ≡ outcome.keep
