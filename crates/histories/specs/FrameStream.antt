-- A stream of frames as the host reads it, document 02, Req 01: calls of `banavoge_frame_read` from a new reader, each with what the last one left of the number held and
-- of the keep, and with any first bytes of what is not used yet, or none, as its piece. A call is the relation that the contract of the export states.
use Rattle.std.specs.Prelude.{List, [], ◌∷◌, ◌++◌, ◌≡◌, ℕ, zero, suc, ◌+◌, ◌≤◌, ℤ, pos, negsuc, length, take, drop}
use Rattle.refusal.specs.declared.Refusal.TheVariants.{OutputTooShort, BadFrame}
use Rattle.frame.specs.Frames.{bad, parted, frames_of}
use Rattle.frame.specs.Reader.{reader_holding, read_frame}
use Rattle.banavoge_laws.specs.Answers.{refusal_code}
use Rattle.banavoge_laws.specs.Frames.{FramePlaces, frame_places, ReadsFrame}

-- ---- one call

-- of a reader that holds so many bytes, whatever stood in the other two places: what it answers, and the places and the keep afterwards
pub record FrameCall (held : ℕ) (keep piece : List ℕ) (answer : ℤ) (after : FramePlaces) (left : List ℕ) : Type 0 where
  pub used_before : ℕ
  pub end_before : ℕ
  pub reads : ReadsFrame (read_frame (reader_holding held) keep piece) answer (frame_places held used_before end_before) after left

-- the frame that it shows: "either inside the piece or inside the keep"
unfoldable pub frames_seen : ℤ → ℕ → (piece left : List ℕ) → List (List ℕ)
frames_seen (pos zero) end piece left = []
frames_seen (pos (suc zero)) end piece left = take end piece ∷ []
frames_seen (pos (suc (suc n))) end piece left = take end left ∷ []
frames_seen (negsuc n) end piece left = []

-- ---- one after the other

-- "From a new reader with its keep untouched, however the stream is cut": calls none of which is refused, with how many bytes of the stream they used, the frames
-- that they showed, and the reader and the keep at the end. A new reader holds 0 bytes, of a keep with any contents
pub data Reading (stream : List ℕ) : (used : ℕ) (shown : List (List ℕ)) (held : ℕ) (keep : List ℕ) → Type 0 where
  begun : (keep : List ℕ) → Reading stream 0 [] 0 keep
  then_read : {used held answer : ℕ} {shown : List (List ℕ)} {keep left : List ℕ} {after : FramePlaces} → Reading stream used shown held keep → (n : ℕ)
      → FrameCall held keep (take n (drop used stream)) (pos answer) after left
      → Reading stream (used + after.used) (shown ++ frames_seen (pos answer) after.end (take n (drop used stream)) left) after.held left

-- the next call is refused with 18: the frames shown are all that the stream has "up to its first bad length", which stands in what was used and the piece
pub record EndsBad (stream : List ℕ) (used : ℕ) (shown : List (List ℕ)) (n : ℕ) : Type 0 where
  pub all : frames_of stream ≡ parted shown bad
  pub there : frames_of (take (used + n) stream) ≡ parted shown bad

-- ---- what a call leaves

-- "copied only when it began in an earlier scrap": a frame shown in the piece leaves the keep, and one shown in the keep was begun before
pub record CopiedOnly (held : ℕ) (keep : List ℕ) (answer : ℤ) (left : List ℕ) : Type 0 where
  pub in_piece : answer ≡ pos 1 → left ≡ keep
  pub in_keep : answer ≡ pos 2 → 1 ≤ held

-- a frame that stands whole in the piece, with none begun before and a keep that is long enough
pub record ShownInPiece (size : ℕ) (keep : List ℕ) (answer : ℤ) (after : FramePlaces) (left : List ℕ) : Type 0 where
  pub answers : answer ≡ pos 1
  pub sets : after ≡ frame_places 0 size size
  pub leaves : left ≡ keep

-- how much is used and written: bytes of the piece, at least one where it has any and the call is not refused, and all where the answer is 0, more; and of the
-- keep at most the first 2,050 bytes
pub record Bounded (keep piece : List ℕ) (answer : ℤ) (after : FramePlaces) (left : List ℕ) : Type 0 where
  pub within : after.used ≤ length piece
  pub moves : (n : ℕ) → answer ≡ pos n → 1 ≤ length piece → 1 ≤ after.used
  pub all : answer ≡ pos 0 → after.used ≡ length piece
  pub as_long : length left ≡ length keep
  pub behind : drop 2050 left ≡ drop 2050 keep

-- ---- refusals: "0 if refused", "After 18 the reader gives 18 until begun anew; after 10 it is as before."

-- what a refusal leaves: the number held as before by 10, or 2,051 by 18; and 0 used, and the place of the end and the keep as before
pub data RefusedFrame (before : FramePlaces) (keep : List ℕ) (answer : ℤ) (after : FramePlaces) (left : List ℕ) : Type 0 where
  too_short : answer ≡ refusal_code OutputTooShort → length keep ≤ 2049 → after ≡ frame_places before.held 0 before.end → left ≡ keep → RefusedFrame before keep answer after left
  bad_frame : answer ≡ refusal_code BadFrame → 2050 ≤ length keep → after ≡ frame_places 2051 0 before.end → left ≡ keep → RefusedFrame before keep answer after left

-- any calls one after the other, each with the number held that the last one left, and with any keep and piece
pub data FrameCalls : ℕ → Type 0 where
  none : {held : ℕ} → FrameCalls held
  next : {held : ℕ} {answer : ℤ} {after : FramePlaces} {keep piece left : List ℕ} → FrameCall held keep piece answer after left → FrameCalls after.held
      → FrameCalls held

-- each of them is refused: nothing is used, and no frame is shown
abbrev pub AllRefused : {held : ℕ} → FrameCalls held → Type 0
AllRefused none = Unit {0}
AllRefused (next {held} {answer} {after} {keep} {piece} {left} c later) =
    RefusedFrame (frame_places held c.used_before c.end_before) keep answer after left × AllRefused later

-- an answer that the contract allows, of any reader, keep and piece
pub record AnsweredCall (held : ℕ) (keep piece : List ℕ) : Type 0 where
  pub answer : ℤ
  pub after : FramePlaces
  pub left : List ℕ
  pub call : FrameCall held keep piece answer after left
