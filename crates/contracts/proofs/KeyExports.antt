-- The exports on keys. Each contract is what stands here, and asks nothing of the caller. Assumes nothing.
use mathlib.Core.Path.{◌≡◌}
use Rattle.key.specs.Keys.{same_key, nearer}
use Rattle.banavoge.proofs.keys.banavoge_same_key.Kinds as same-key-kinds
use Rattle.banavoge.proofs.keys.banavoge_same_key.Reads as same-key-reads
use Rattle.banavoge.proofs.keys.banavoge_nearer.Kinds as nearer-kinds
use Rattle.banavoge.proofs.keys.banavoge_nearer.Reads as nearer-reads
use Rattle.contracts.specs.Promises.{Promises}

pub banavoge_same_key_lem : Promises 2 same-key-kinds.ps same-key-kinds.r same-key-reads.Asked same-key-reads.Post
    (λ κs (a, (b, _)) answer _.
    answer ≡ same_key a.now b.now)
banavoge_same_key_lem = record { asks_nothing = λ κs args. tt; gives = λ κs args answer left p. p }

pub banavoge_nearer_lem : Promises 3 nearer-kinds.ps nearer-kinds.r nearer-reads.Asked nearer-reads.Post
    (λ κs (target, (a, (b, _))) answer _.
    answer ≡ nearer target.now a.now b.now)
banavoge_nearer_lem = record { asks_nothing = λ κs args. tt; gives = λ κs args answer left p. p }
