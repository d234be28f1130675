-- The export that reads frames. Its contract is what stands here, and asks nothing of the caller. Assumes nothing.
use Rattle.frame.specs.Reader.{reader_holding, read_frame}
use Rattle.banavoge_laws.specs.Frames.{frame_places, ReadsFrame}
use Rattle.banavoge.proofs.frames.banavoge_frame_read.Kinds as frame-read-kinds
use Rattle.banavoge.proofs.frames.banavoge_frame_read.Reads as frame-read-reads
use Rattle.contracts.specs.Promises.{Promises}

pub banavoge_frame_read_lem : Promises 5 frame-read-kinds.ps frame-read-kinds.r frame-read-reads.Asked frame-read-reads.Post
    (λ κs (held, (keep, (piece, (used, (end, _))))) answer (held', (keep', (_, (used', (end', _))))).
    ReadsFrame (read_frame (reader_holding held.now) keep.now piece.now) answer (frame_places held.now used.now end.now) (frame_places held'.now used'.now end'.now) keep'.now)
banavoge_frame_read_lem = record { asks_nothing = λ κs args. tt; gives = λ κs args answer left p. p }
