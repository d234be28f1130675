-- The exported run of stored calls. Each contract is what stands here, and asks nothing of the caller. Assumes nothing.
use Rattle.relay.specs.Play.{Plays}
use Rattle.banavoge_laws.specs.Answers.{ToldAs}
use Rattle.banavoge_laws.specs.Runs.{counts, telling, run_told}
use Rattle.banavoge.proofs.runs.banavoge_play.Kinds as play-kinds
use Rattle.banavoge.proofs.runs.banavoge_play.Reads as play-reads
use Rattle.contracts.specs.Promises.{Promises}

pub banavoge_play_lem : Promises 6 play-kinds.ps play-kinds.r play-reads.Asked play-reads.Post
    (λ κs (room, (calls, (allowance, (out, (played, (read, (written, _))))))) answer (room', (_, (_, (out', (played', (read', (written', _))))))).
    ToldAs (run_told (counts played.now read.now written.now)) (Plays 40 32 allowance calls.now room.now out.now room'.now out'.now) (telling answer played'.now read'.now written'.now))
banavoge_play_lem = record { asks_nothing = λ κs args. tt; gives = λ κs args answer left p. p }
