-- The exports on k-buckets. Each contract is what stands here, and asks nothing of the caller. Assumes nothing.
use mathlib.Core.Path.{◌≡◌}
use Rattle.buckets_laws.specs.Layout.{buckets_length}
use Rattle.buckets_laws.specs.Calls.{Begins, Offers, Asks}
use Rattle.banavoge_laws.specs.Answers.{ToldAs}
use Rattle.banavoge_laws.specs.Nodes.{node_given, node_written_code}
use Rattle.banavoge_laws.specs.Nearest.{key_given, done_code, kept_code}
use Rattle.banavoge.proofs.k_buckets.banavoge_buckets_bytes.Kinds as buckets-bytes-kinds
use Rattle.banavoge.proofs.k_buckets.banavoge_buckets_bytes.Reads as buckets-bytes-reads
use Rattle.banavoge.proofs.k_buckets.banavoge_buckets_begin.Kinds as buckets-begin-kinds
use Rattle.banavoge.proofs.k_buckets.banavoge_buckets_begin.Reads as buckets-begin-reads
use Rattle.banavoge.proofs.k_buckets.banavoge_buckets_offer.Kinds as buckets-offer-kinds
use Rattle.banavoge.proofs.k_buckets.banavoge_buckets_offer.Reads as buckets-offer-reads
use Rattle.banavoge.proofs.k_buckets.banavoge_buckets_nearest.Kinds as buckets-nearest-kinds
use Rattle.banavoge.proofs.k_buckets.banavoge_buckets_nearest.Reads as buckets-nearest-reads
use Rattle.contracts.specs.Promises.{Promises}

pub banavoge_buckets_bytes_lem : Promises 0 buckets-bytes-kinds.ps buckets-bytes-kinds.r buckets-bytes-reads.Asked buckets-bytes-reads.Post
    (λ κs _ answer _.
    answer ≡ buckets_length)
banavoge_buckets_bytes_lem = record { asks_nothing = λ κs args. tt; gives = λ κs args answer left p. p }

pub banavoge_buckets_begin_lem : Promises 2 buckets-begin-kinds.ps buckets-begin-kinds.r buckets-begin-reads.Asked buckets-begin-reads.Post
    (λ κs (buckets, (base, _)) answer (buckets', _).
    ToldAs done_code (Begins (key_given base.now) buckets.now buckets'.now) answer)
banavoge_buckets_begin_lem = record { asks_nothing = λ κs args. tt; gives = λ κs args answer left p. p }

pub banavoge_buckets_offer_lem : Promises 3 buckets-offer-kinds.ps buckets-offer-kinds.r buckets-offer-reads.Asked buckets-offer-reads.Post
    (λ κs (buckets, (family, (address, (port, (key, _))))) answer (buckets', _).
    ToldAs kept_code (Offers (node_given family address.now port key.now) buckets.now buckets'.now) answer)
banavoge_buckets_offer_lem = record { asks_nothing = λ κs args. tt; gives = λ κs args answer left p. p }

pub banavoge_buckets_nearest_lem : Promises 3 buckets-nearest-kinds.ps buckets-nearest-kinds.r buckets-nearest-reads.Asked buckets-nearest-reads.Post
    (λ κs (buckets, (target, (out, _))) answer (_, (_, (out', _))).
    ToldAs node_written_code (Asks (key_given target.now) buckets.now out.now out'.now) answer)
banavoge_buckets_nearest_lem = record { asks_nothing = λ κs args. tt; gives = λ κs args answer left p. p }
