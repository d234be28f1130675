-- The exports on nearest lists. Each contract is what stands here, and asks nothing of the caller. Assumes nothing.
use mathlib.Core.Path.{◌≡◌}
use Rattle.lent_list_laws.specs.Layout.{list_length}
use Rattle.lent_list_laws.specs.Calls.{Begins, Offers, Removes}
use Rattle.lent_list.specs.Held.{held_at}
use Rattle.banavoge_laws.specs.Answers.{ToldAs}
use Rattle.banavoge_laws.specs.Nodes.{node_given}
use Rattle.banavoge_laws.specs.Nearest.{key_given, done_code, kept_code, held_places, ShowsHeld}
use Rattle.banavoge.proofs.nearest_lists.banavoge_nearest_bytes.Kinds as nearest-bytes-kinds
use Rattle.banavoge.proofs.nearest_lists.banavoge_nearest_bytes.Reads as nearest-bytes-reads
use Rattle.banavoge.proofs.nearest_lists.banavoge_nearest_begin.Kinds as nearest-begin-kinds
use Rattle.banavoge.proofs.nearest_lists.banavoge_nearest_begin.Reads as nearest-begin-reads
use Rattle.banavoge.proofs.nearest_lists.banavoge_nearest_offer.Kinds as nearest-offer-kinds
use Rattle.banavoge.proofs.nearest_lists.banavoge_nearest_offer.Reads as nearest-offer-reads
use Rattle.banavoge.proofs.nearest_lists.banavoge_nearest_remove.Kinds as nearest-remove-kinds
use Rattle.banavoge.proofs.nearest_lists.banavoge_nearest_remove.Reads as nearest-remove-reads
use Rattle.banavoge.proofs.nearest_lists.banavoge_nearest_node.Kinds as nearest-node-kinds
use Rattle.banavoge.proofs.nearest_lists.banavoge_nearest_node.Reads as nearest-node-reads
use Rattle.contracts.specs.Promises.{Promises}

pub banavoge_nearest_bytes_lem : Promises 0 nearest-bytes-kinds.ps nearest-bytes-kinds.r nearest-bytes-reads.Asked nearest-bytes-reads.Post
    (λ κs _ answer _.
    answer ≡ list_length)
banavoge_nearest_bytes_lem = record { asks_nothing = λ κs args. tt; gives = λ κs args answer left p. p }

pub banavoge_nearest_begin_lem : Promises 2 nearest-begin-kinds.ps nearest-begin-kinds.r nearest-begin-reads.Asked nearest-begin-reads.Post
    (λ κs (list, (target, (size, _))) answer (list', _).
    ToldAs done_code (Begins (key_given target.now) size list.now list'.now) answer)
banavoge_nearest_begin_lem = record { asks_nothing = λ κs args. tt; gives = λ κs args answer left p. p }

pub banavoge_nearest_offer_lem : Promises 3 nearest-offer-kinds.ps nearest-offer-kinds.r nearest-offer-reads.Asked nearest-offer-reads.Post
    (λ κs (list, (family, (address, (port, (key, _))))) answer (list', _).
    ToldAs kept_code (Offers (node_given family address.now port key.now) list.now list'.now) answer)
banavoge_nearest_offer_lem = record { asks_nothing = λ κs args. tt; gives = λ κs args answer left p. p }

pub banavoge_nearest_remove_lem : Promises 2 nearest-remove-kinds.ps nearest-remove-kinds.r nearest-remove-reads.Asked nearest-remove-reads.Post
    (λ κs (list, (key, _)) answer (list', _).
    ToldAs done_code (Removes (key_given key.now) list.now list'.now) answer)
banavoge_nearest_remove_lem = record { asks_nothing = λ κs args. tt; gives = λ κs args answer left p. p }

pub banavoge_nearest_node_lem : Promises 5 nearest-node-kinds.ps nearest-node-kinds.r nearest-node-reads.Asked nearest-node-reads.Post
    (λ κs (list, (index, (family, (address, (port, (key, _)))))) answer (_, (_, (family', (address', (port', (key', _)))))).
    ShowsHeld (held_at list.now index) answer (held_places family.now address.now port.now key.now) (held_places family'.now address'.now port'.now key'.now))
banavoge_nearest_node_lem = record { asks_nothing = λ κs args. tt; gives = λ κs args answer left p. p }
