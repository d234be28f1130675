-- Document 02, Req 01: what a call of the reader answers, and every byte of its keep afterwards.
use Rattle.std.specs.Prelude.{cond, List, ◌++◌, ℕ, ◌-◌, leb, length, take, drop, Ok, Err}
use Rattle.refusal.specs.declared.Refusal.{Refusal}
use Rattle.refusal.specs.declared.Refusal.TheVariants.{OutputTooShort, BadFrame}
use Rattle.frame.specs.declared.Front.{Front}
use Rattle.frame.specs.declared.Front.TheVariants.{Unfinished, BadLength, Whole}
use Rattle.frame.specs.declared.Reader.{Reader}
use Rattle.frame.specs.declared.Shown.{Shown}
use Rattle.frame.specs.declared.Shown.TheVariants.{More, InPiece, InKeep}
use Rattle.frame.specs.declared.Read.{Read}
use Rattle.frame.specs.Frames.{front}

-- "a lent keep of 2,050 bytes"
abbrev pub keep_bytes : ℕ
keep_bytes = 2050

-- a reader that holds so many bytes
abbrev pub reader_holding : ℕ → Reader
reader_holding n = record { held = n }

-- one more than the longest frame has: 2,050 bytes or more start no unfinished frame, whatever the keep holds
abbrev pub broken : Reader
broken = reader_holding 2051

-- the bytes that a reader holds stand at the front of its keep
abbrev pub held_bytes : Reader → List ℕ → List ℕ
held_bytes reader keep = take reader.held keep

-- bytes written over the front of a keep
abbrev pub over : List ℕ → List ℕ → List ℕ
over bytes keep = bytes ++ drop (length bytes) keep

-- what a call answers, and its keep afterwards
pub record Outcome : Type 0 where
  pub read : Read
  pub keep : List ℕ

abbrev pub shows : Shown → Reader → ℕ → List ℕ → Outcome
shows shown reader used keep = record { read = record { shown = Ok shown; reader = reader; used = used }; keep = keep }

-- "A call [..] counts the bytes used, 0 if refused"
abbrev pub refused_read : Refusal → Reader → Read
refused_read why reader = record { shown = Err why; reader = reader; used = 0 }

abbrev pub refuses : Refusal → Reader → List ℕ → Outcome
refuses why reader keep = record { read = refused_read why reader; keep = keep }

-- "A call ends with its first complete frame or the piece", by what stands at the front of the bytes held and the piece behind them. "A complete frame is shown
-- either inside the piece or inside the keep, copied only when it began in an earlier scrap." "After 18 the reader gives 18 until begun anew"
abbrev pub read_front : Front → (held piece keep : List ℕ) → Outcome
read_front Unfinished held piece keep = shows More (reader_holding (length (held ++ piece))) (length piece) (over (held ++ piece) keep)
read_front BadLength held piece keep = refuses BadFrame broken keep
read_front (Whole size) held piece keep =
    let copied = over (take size (held ++ piece)) keep in
    cond (leb 1 (length held)) (shows (InKeep size) (reader_holding 0) (size - length held) copied) (shows (InPiece size) (reader_holding 0) size keep)

-- "18 for a reader holding 2 or more bytes that start no unfinished frame": 0 bytes, or 1, always start one
abbrev pub read_held : Front → (held piece keep : List ℕ) → Outcome
read_held Unfinished held piece keep = read_front (front (held ++ piece)) held piece keep
read_held BadLength held piece keep = refuses BadFrame broken keep
read_held (Whole size) held piece keep = refuses BadFrame broken keep

-- "10 for a keep that is too short, checked first", "after 10 it is as before"
unfoldable pub read_frame : Reader → (keep piece : List ℕ) → Outcome
read_frame reader keep piece =
    let held = held_bytes reader keep in
    cond (leb keep_bytes (length keep)) (read_held (front held) held piece keep) (refuses OutputTooShort reader keep)
