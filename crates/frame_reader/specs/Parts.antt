-- A complete frame as a part of one of two lent slices, the piece or the keep: "A complete frame is shown either inside the piece or inside the keep". What a contract
-- sees of a lent slice is `ref_ptr`, the block of memory that it points into and the offset there, and `now`, its bytes.
use Rattle.std.specs.Prelude.{cond, List, ◌≡◌, ℕ, ◌+◌, ◌-◌, ◌≤◌, leb, length, take, drop, Result, Ok, Err}
use Rattle.std.specs.Borrow.{Bor}
use Rattle.refusal.specs.declared.Refusal.{Refusal}
use Rattle.frame.specs.declared.Shown.{Shown}
use Rattle.frame.specs.declared.Shown.TheVariants.{More, InPiece, InKeep}

abbrev pub Lent : Type 0
Lent = Bor (List ℕ)

-- `count` bytes of a lent slice, from `at` on
pub record LentPart : Type 0 where
  pub whole : Lent
  pub at : ℕ
  pub count : ℕ

-- the slice `r` is that part: it points into the whole, at the part's place, and its bytes are those that stand there
pub record IsPart (part : LentPart) (r : Lent) : Type 0 where
  pub block : r.ref_ptr.0 ≡ part.whole.ref_ptr.0
  pub offset : r.ref_ptr.1 ≡ part.whole.ref_ptr.1 + part.at
  pub bytes : r.now ≡ take part.count (drop part.at part.whole.now)
  pub inside : part.at + part.count ≤ length part.whole.now

-- the first `count` bytes
abbrev pub front_part : Lent → ℕ → LentPart
front_part s count = record { whole = s; at = 0; count = count }

-- a part without its first `n` bytes
abbrev pub past : ℕ → LentPart → LentPart
past n part = record { whole = part.whole; at = part.at + n; count = part.count - n }

-- the frame that a call shows: the front of the piece or of the keep; the empty front of the piece where it shows none, or one that ends past the slice
unfoldable pub frame_part : Result Shown Refusal → (keep piece : Lent) → LentPart
frame_part (Ok More) keep piece = front_part piece 0
frame_part (Ok (InPiece end)) keep piece = cond (leb end (length piece.now)) (front_part piece end) (front_part piece 0)
frame_part (Ok (InKeep end)) keep piece = cond (leb end (length keep.now)) (front_part keep end) (front_part piece 0)
frame_part (Err why) keep piece = front_part piece 0

-- its sealed bytes: "a 2-byte length and that many sealed bytes"; the empty front of the piece where no two bytes are shown
unfoldable pub sealed_part : Result Shown Refusal → (keep piece : Lent) → LentPart
sealed_part shown keep piece =
    cond (leb 2 (frame_part shown keep piece).count) (past 2 (frame_part shown keep piece)) (front_part piece 0)
