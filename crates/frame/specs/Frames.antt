-- Document 02, Req 01: frames, and a stream of bytes parted into its frames.
use Rattle.std.specs.Prelude.{Bool, ◌&&◌, cond, List, [], ◌∷◌, ◌++◌, ◌≡◌, ℕ, zero, suc, ◌+◌, leb, length, take, drop}
use Rattle.wire.specs.Numbers.{number_of}
use Rattle.frame.specs.declared.Front.{Front}
use Rattle.frame.specs.declared.Front.TheVariants.{Unfinished, BadLength, Whole}

-- "Each frame is a 2-byte length and that many sealed bytes.": the length, where both of its bytes are there
unfoldable pub length_of : List ℕ → ℕ
length_of bytes = number_of (take 2 bytes)

-- "18 for a length under 17 or above 2,048"
unfoldable pub length_right : ℕ → Bool
length_right n = leb 17 n && leb n 2048

-- what stands at the front of `there` bytes in all, of which the first two make the length n
unfoldable pub front_with : ℕ → ℕ → Front
front_with n there = cond (length_right n) (cond (leb (2 + n) there) (Whole (2 + n)) Unfinished) BadLength

-- what stands at the front of bytes; a length is judged "as soon as both length bytes are there"
unfoldable pub front : List ℕ → Front
front bytes = cond (leb 2 (length bytes)) (front_with (length_of bytes) (length bytes)) Unfinished

-- ---- a stream

-- what comes behind the frames of a stream: bytes that start an unfinished frame, or are none; or a bad length
pub data Rest : Type 0 where
  unfinished : List ℕ → Rest
  bad : Rest

-- its frames in order, each with its length, and what comes behind them
pub record Parted : Type 0 where
  pub frames : List (List ℕ)
  pub rest : Rest

abbrev pub parted : List (List ℕ) → Rest → Parted
parted frames rest = record { frames = frames; rest = rest }

-- one frame more before those of a stream
abbrev pub before : List ℕ → Parted → Parted
before frame later = parted (frame ∷ later.frames) later.rest

-- the first frame, then what the bytes behind it are parted into
abbrev pub parted_at : Front → List ℕ → (List ℕ → Parted) → Parted
parted_at Unfinished bytes later = parted [] (unfinished bytes)
parted_at BadLength bytes later = parted [] bad
parted_at (Whole size) bytes later = before (take size bytes) (later (drop size bytes))

-- parted into at most so many frames; what is left behind them is told as unfinished, and not looked at
unfoldable pub parted_by : ℕ → List ℕ → Parted
parted_by zero bytes = parted [] (unfinished bytes)
parted_by (suc n) bytes = parted_at (front bytes) bytes (parted_by n)

-- all of its frames: a stream has no more of them than bytes, so none is left behind. `frames_at` has it without a count: what stands at the front, then `frames_of`
-- of the bytes behind that
unfoldable pub frames_of : List ℕ → Parted
frames_of stream = parted_by (length stream) stream

-- ---- what is said of it

-- frames one behind the other
unfoldable pub concatenated : List (List ℕ) → List ℕ
concatenated [] = []
concatenated (frame ∷ frames) = frame ++ concatenated frames

-- each of these is a whole frame and no byte more
abbrev pub AllWhole : List (List ℕ) → Type 0
AllWhole [] = Unit {0}
AllWhole (frame ∷ frames) = (front frame ≡ Whole (length frame)) × AllWhole frames
