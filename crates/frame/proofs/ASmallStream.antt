-- Lengths, the front of some bytes, a short stream and calls of the reader on it, computed. The frame is the shortest: the length 17, then 17 bytes 5. The keep has 2,050
-- bytes 7. Assumes nothing.
use mathlib.Core.Path.{◌≡◌, refl}
use mathlib.Core.Bool.{true, false}
use mathlib.Core.List.{List, [], ◌∷◌, ◌++◌}
use Prim.Native.Nat.{ℕ}
use lib.ListN.{replicate}
use Rattle.wire.specs.Numbers.{number_of}
use Rattle.std.specs.Prelude.{Err}
use Rattle.refusal.specs.declared.Refusal.{Refusal}
use Rattle.refusal.specs.declared.Refusal.TheVariants.{OutputTooShort, BadFrame}
use Rattle.frame.specs.declared.Front.TheVariants.{Unfinished, BadLength, Whole}
use Rattle.frame.specs.declared.Reader.{Reader}
use Rattle.frame.specs.declared.Shown.TheVariants.{More, InPiece, InKeep}
use Rattle.frame.specs.Frames.{length_of, length_right, front_with, front, unfinished, bad, parted, parted_by, frames_of, concatenated}
use Rattle.frame.specs.Reader.{Outcome, reader_holding, shows, read_frame}

-- ---- lengths

pub length_read : length_of (8 ∷ 1 ∷ 7 ∷ []) ≡ 2049
unfolding length_of number_of
length_read = refl

pub length_16 : length_right 16 ≡ false
unfolding length_right
length_16 = refl

pub length_17 : length_right 17 ≡ true
unfolding length_right
length_17 = refl

pub length_2048 : length_right 2048 ≡ true
unfolding length_right
length_2048 = refl

pub length_2049 : length_right 2049 ≡ false
unfolding length_right
length_2049 = refl

-- ---- what stands at the front

abbrev frame : List ℕ
frame = 0 ∷ 17 ∷ replicate 17 5

-- one byte is no length yet, not even 9, though every length that begins with 9 is above 2,048
pub one_byte : front (9 ∷ []) ≡ Unfinished
unfolding front
one_byte = refl

pub two_bytes_bad : front (0 ∷ 16 ∷ []) ≡ BadLength
unfolding front front_with length_right length_of number_of
two_bytes_bad = refl

pub two_bytes : front (0 ∷ 17 ∷ []) ≡ Unfinished
unfolding front front_with length_right length_of number_of
two_bytes = refl

pub one_byte_lacks : front (0 ∷ 17 ∷ replicate 16 5) ≡ Unfinished
unfolding front front_with length_right length_of number_of
one_byte_lacks = refl

pub whole : front (frame ++ (0 ∷ [])) ≡ Whole 19
unfolding front front_with length_right length_of number_of
whole = refl

-- ---- streams

pub two_frames : frames_of (frame ++ (frame ++ (0 ∷ 17 ∷ 5 ∷ []))) ≡ parted (frame ∷ frame ∷ []) (unfinished (0 ∷ 17 ∷ 5 ∷ []))
unfolding frames_of parted_by front front_with length_right length_of number_of
two_frames = refl

pub no_bytes : frames_of [] ≡ parted [] (unfinished [])
unfolding frames_of parted_by
no_bytes = refl

-- no frame behind a bad length is one of the stream's
pub one_frame_then_bad : frames_of (frame ++ (0 ∷ 16 ∷ frame)) ≡ parted (frame ∷ []) bad
unfolding frames_of parted_by front front_with length_right length_of number_of
one_frame_then_bad = refl

pub two_joined : concatenated ((1 ∷ 2 ∷ []) ∷ (3 ∷ []) ∷ []) ≡ 1 ∷ 2 ∷ 3 ∷ []
unfolding concatenated
two_joined = refl

-- ---- calls

abbrev keep : List ℕ
keep = replicate 2050 7

-- the same with its first bytes written
abbrev holds : List ℕ → ℕ → List ℕ
holds bytes behind = bytes ++ replicate behind 7

-- a frame in the piece, with a byte behind it: the keep is not written
pub in_the_piece : read_frame (reader_holding 0) keep (frame ++ (0 ∷ [])) ≡ shows (InPiece 19) (reader_holding 0) 19 keep
unfolding read_frame front front_with length_right length_of number_of
in_the_piece = refl

-- its first three bytes
pub three_bytes : read_frame (reader_holding 0) keep (0 ∷ 17 ∷ 5 ∷ []) ≡ shows More (reader_holding 3) 3 (holds (0 ∷ 17 ∷ 5 ∷ []) 2047)
unfolding read_frame front front_with length_right length_of number_of
three_bytes = refl

-- and the others, with two bytes behind them, which are not used
pub in_the_keep : read_frame (reader_holding 3) (holds (0 ∷ 17 ∷ 5 ∷ []) 2047) (replicate 16 5 ++ (0 ∷ 18 ∷ [])) ≡ shows (InKeep 19) (reader_holding 0) 16 (holds frame 2031)
unfolding read_frame front front_with length_right length_of number_of
in_the_keep = refl

-- a refusal, written out: none of the piece is used
abbrev refused : Refusal → Reader → List ℕ → Outcome
refused why reader keep = record { read = record { shown = Err why; reader = reader; used = 0 }; keep = keep }

-- a bad length, of which the first byte came before
pub bad_length_cut : read_frame (reader_holding 1) (holds (0 ∷ []) 2049) (16 ∷ 5 ∷ []) ≡ refused BadFrame (reader_holding 2051) (holds (0 ∷ []) 2049)
unfolding read_frame front front_with length_right length_of number_of
bad_length_cut = refl

-- a reader that holds a whole frame, one with a bad length, and one that was left so by 18
pub whole_held : read_frame (reader_holding 19) (holds frame 2031) [] ≡ refused BadFrame (reader_holding 2051) (holds frame 2031)
unfolding read_frame front front_with length_right length_of number_of
whole_held = refl

pub bad_held : read_frame (reader_holding 2) (holds (0 ∷ 16 ∷ []) 2048) frame ≡ refused BadFrame (reader_holding 2051) (holds (0 ∷ 16 ∷ []) 2048)
unfolding read_frame front front_with length_right length_of number_of
bad_held = refl

pub broken_held : read_frame (reader_holding 2051) keep frame ≡ refused BadFrame (reader_holding 2051) keep
unfolding read_frame front front_with length_right length_of number_of
broken_held = refl

-- a keep of 2,049 bytes, with a reader that was left so by 18: 10 is checked first, and the reader is as before
pub short_keep : read_frame (reader_holding 2051) (replicate 2049 7) frame ≡ refused OutputTooShort (reader_holding 2051) (replicate 2049 7)
unfolding read_frame
short_keep = refl
