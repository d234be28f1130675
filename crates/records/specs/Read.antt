-- Records read back: the one at the front of bytes, and all in a run of bytes. "What is sent is a run of records in the lent output: seat (1 byte),
-- length (2), the packet."
use Rattle.std.specs.Prelude.{cond, List, [], ◌∷◌, ℕ, zero, suc, ◌<◌, leb, length, take, drop}
use Rattle.wire.specs.Numbers.{number_of}
use Rattle.rules.specs.Call.{Sent}
use Rattle.rules.specs.Outcome.{record_bytes}
use Rattle.records.specs.declared.RecordRead.{RecordRead}
use Rattle.records.specs.declared.RecordRead.TheVariants as code

-- ---- at the front

-- no byte, bytes that end inside a record, or a record
pub data First : Type 0 where
  none : First
  cut_short : First
  whole : Sent → First

-- a seat and a length, and as many bytes behind them as the length says
unfoldable pub sized : ℕ → ℕ → List ℕ → First
sized seat size rest = cond (leb size (length rest)) (whole (record { seat = seat; bytes = take size rest })) cut_short

unfoldable pub first_record : List ℕ → First
first_record [] = none
first_record (seat ∷ rest) = cond (leb 2 (length rest)) (sized seat (number_of (take 2 rest)) (drop 2 rest)) cut_short

-- as the code has it: the packet stands behind the head, up to the end of the record
unfoldable pub shown_first : First → RecordRead
shown_first none = code.None
shown_first cut_short = code.CutShort
shown_first (whole s) = code.Record (record { 0 = s.seat }) (length (record_bytes s))

-- ---- all

-- the records in a run of bytes, up to `most` of them
unfoldable pub records_in : ℕ → List ℕ → List Sent
records_in zero bytes = []
records_in (suc most) [] = []
records_in (suc most) (seat ∷ rest) =
    let size = number_of (take 2 rest) in
    record { seat = seat; bytes = take size (drop 2 rest) } ∷ records_in most (drop size (drop 2 rest))

-- lengths from here on do not fit the two bytes of a record's length
abbrev pub too_long : ℕ
too_long = 65536

-- the packets of records are short enough
abbrev pub Short : List Sent → Type 0
Short [] = Unit {0}
Short (s ∷ rest) = (length s.bytes < too_long) × Short rest
