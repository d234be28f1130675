-- Each export that writes and is lent no room is one of `OtherExport`: what a refusal leaves (`histories`, `OtherRefusedLeaves`) is what the export leaves. And
-- the contracts of the exports on a nearest list and on buckets are the beginning and the steps of a history of them (`ListHistories`, `BucketHistories`), and
-- that of `banavoge_frame_read` is a call on a stream (`FrameStreams`). Assumes nothing.
use mathlib.Core.Path.{◌≡◌, refl, subst}
use mathlib.Core.Bool.{true}
use mathlib.Core.List.{[]}
use Prim.Native.Nat.{◌≤◌}
use lib.IntN.{pos}
use lib.ListN.{length}
use Rattle.banavoge.proofs.readers.banavoge_relay_read.Kinds as relay-read-kinds
use Rattle.banavoge.proofs.readers.banavoge_relay_read.Reads as relay-read-reads
use Rattle.banavoge.proofs.readers.banavoge_client_read.Kinds as client-read-kinds
use Rattle.banavoge.proofs.readers.banavoge_client_read.Reads as client-read-reads
use Rattle.banavoge.proofs.readers.banavoge_relay_key.Kinds as relay-key-kinds
use Rattle.banavoge.proofs.readers.banavoge_relay_key.Reads as relay-key-reads
use Rattle.banavoge.proofs.readers.banavoge_client_key.Kinds as client-key-kinds
use Rattle.banavoge.proofs.readers.banavoge_client_key.Reads as client-key-reads
use Rattle.banavoge.proofs.writers.banavoge_routing_request.Kinds as routing-request-kinds
use Rattle.banavoge.proofs.writers.banavoge_routing_request.Reads as routing-request-reads
use Rattle.banavoge.proofs.writers.banavoge_routing_response.Kinds as routing-response-kinds
use Rattle.banavoge.proofs.writers.banavoge_routing_response.Reads as routing-response-reads
use Rattle.banavoge.proofs.writers.banavoge_connect_notification.Kinds as connect-notification-kinds
use Rattle.banavoge.proofs.writers.banavoge_connect_notification.Reads as connect-notification-reads
use Rattle.banavoge.proofs.writers.banavoge_disconnect_notification.Kinds as disconnect-notification-kinds
use Rattle.banavoge.proofs.writers.banavoge_disconnect_notification.Reads as disconnect-notification-reads
use Rattle.banavoge.proofs.writers.banavoge_drop.Kinds as drop-kinds
use Rattle.banavoge.proofs.writers.banavoge_drop.Reads as drop-reads
use Rattle.banavoge.proofs.writers.banavoge_ping.Kinds as ping-kinds
use Rattle.banavoge.proofs.writers.banavoge_ping.Reads as ping-reads
use Rattle.banavoge.proofs.writers.banavoge_pong.Kinds as pong-kinds
use Rattle.banavoge.proofs.writers.banavoge_pong.Reads as pong-reads
use Rattle.banavoge.proofs.writers.banavoge_oob_send.Kinds as oob-send-kinds
use Rattle.banavoge.proofs.writers.banavoge_oob_send.Reads as oob-send-reads
use Rattle.banavoge.proofs.writers.banavoge_oob_received.Kinds as oob-received-kinds
use Rattle.banavoge.proofs.writers.banavoge_oob_received.Reads as oob-received-reads
use Rattle.banavoge.proofs.writers.banavoge_data.Kinds as data-kinds
use Rattle.banavoge.proofs.writers.banavoge_data.Reads as data_Reads
use Rattle.banavoge.proofs.nodes.banavoge_node_read.Kinds as node-read-kinds
use Rattle.banavoge.proofs.nodes.banavoge_node_read.Reads as node-read-reads
use Rattle.banavoge.proofs.nodes.banavoge_nodes_step.Kinds as nodes-step-kinds
use Rattle.banavoge.proofs.nodes.banavoge_nodes_step.Reads as nodes-step-reads
use Rattle.banavoge.proofs.nodes.banavoge_node_write.Kinds as node-write-kinds
use Rattle.banavoge.proofs.nodes.banavoge_node_write.Reads as node-write-reads
use Rattle.banavoge.proofs.nearest_lists.banavoge_nearest_begin.Kinds as nearest-begin-kinds
use Rattle.banavoge.proofs.nearest_lists.banavoge_nearest_begin.Reads as nearest-begin-reads
use Rattle.banavoge.proofs.nearest_lists.banavoge_nearest_offer.Kinds as nearest-offer-kinds
use Rattle.banavoge.proofs.nearest_lists.banavoge_nearest_offer.Reads as nearest-offer-reads
use Rattle.banavoge.proofs.nearest_lists.banavoge_nearest_remove.Kinds as nearest-remove-kinds
use Rattle.banavoge.proofs.nearest_lists.banavoge_nearest_remove.Reads as nearest-remove-reads
use Rattle.banavoge.proofs.nearest_lists.banavoge_nearest_node.Kinds as nearest-node-kinds
use Rattle.banavoge.proofs.nearest_lists.banavoge_nearest_node.Reads as nearest-node-reads
use Rattle.banavoge.proofs.k_buckets.banavoge_buckets_begin.Kinds as buckets-begin-kinds
use Rattle.banavoge.proofs.k_buckets.banavoge_buckets_begin.Reads as buckets-begin-reads
use Rattle.banavoge.proofs.k_buckets.banavoge_buckets_offer.Kinds as buckets-offer-kinds
use Rattle.banavoge.proofs.k_buckets.banavoge_buckets_offer.Reads as buckets-offer-reads
use Rattle.banavoge.proofs.k_buckets.banavoge_buckets_nearest.Kinds as buckets-nearest-kinds
use Rattle.banavoge.proofs.k_buckets.banavoge_buckets_nearest.Reads as buckets-nearest-reads
use Rattle.banavoge.proofs.frames.banavoge_frame_read.Kinds as frame-read-kinds
use Rattle.banavoge.proofs.frames.banavoge_frame_read.Reads as frame-read-reads
use Rattle.refusal.specs.declared.Refusal.TheVariants.{ListSize}
use Rattle.nearest.specs.Lists.{default_size, size_right}
use Rattle.lent_list_laws.specs.Layout.{list_length}
use Rattle.lent_list_laws.specs.Calls.{Begins}
use Rattle.buckets_laws.specs.Calls as buckets
use Rattle.banavoge_laws.specs.Answers.{refusal_code, ToldAs}
use Rattle.banavoge_laws.specs.Frames.{frame_places}
use Rattle.banavoge_laws.specs.Fields.{places}
use Rattle.banavoge_laws.specs.Nodes.{node_places, node_given}
use Rattle.banavoge_laws.specs.Nearest.{key_given, done_code, held_places}
use Rattle.contracts.specs.Promises.{Gives}
use Rattle.contracts.proofs.FrameExports.{banavoge_frame_read_lem}
use Rattle.contracts.proofs.ReaderExports.{banavoge_relay_read_lem, banavoge_client_read_lem, banavoge_relay_key_lem, banavoge_client_key_lem}
use Rattle.contracts.proofs.WriterExports.{banavoge_routing_request_lem, banavoge_routing_response_lem, banavoge_connect_notification_lem, banavoge_disconnect_notification_lem, banavoge_drop_lem, banavoge_ping_lem, banavoge_pong_lem, banavoge_oob_send_lem, banavoge_oob_received_lem, banavoge_data_lem}
use Rattle.contracts.proofs.NodeExports.{banavoge_node_read_lem, banavoge_nodes_step_lem, banavoge_node_write_lem}
use Rattle.contracts.proofs.ListExports.{banavoge_nearest_begin_lem, banavoge_nearest_offer_lem, banavoge_nearest_remove_lem, banavoge_nearest_node_lem}
use Rattle.contracts.proofs.BucketExports.{banavoge_buckets_begin_lem, banavoge_buckets_offer_lem, banavoge_buckets_nearest_lem}
use Rattle.histories.specs.ListHistory.{offering, removing, reading, list_event, no_held, ListStep, ListBegun, of_size, of_bad_size}
use Rattle.histories.specs.ListHistory as list
use Rattle.histories.specs.BucketHistory.{bucket_event, BucketStep, BucketsBegun}
use Rattle.histories.specs.BucketHistory as bucket
use Rattle.histories.specs.OtherExports.{lent_bytes, lent_fields, lent_node, lent_held, lent_frame, OtherExport, asks_buckets, begins, begins_buckets, both_write, client_keys, client_reads, client_writes, node_reads, node_writes, nodes_step, offers, offers_bucket, relay_keys, relay_reads, relay_writes, removes, shows, reads_frame}
use Rattle.histories.specs.FrameStream.{FrameCall}

-- ---- what a refusal leaves

pub relay_read_exported : Gives 5 relay-read-kinds.ps relay-read-kinds.r relay-read-reads.Post
    (λ κs (packet, (number, (ping, (start, (length, _))))) answer (_, (number', (ping', (start', (length', _))))).
    OtherExport (lent_fields (places number.now ping.now start.now length.now)) answer (lent_fields (places number'.now ping'.now start'.now length'.now)))
relay_read_exported κs args answer left p = relay_reads _ (banavoge_relay_read_lem.gives κs args answer left p).does

pub client_read_exported : Gives 5 client-read-kinds.ps client-read-kinds.r client-read-reads.Post
    (λ κs (packet, (number, (ping, (start, (length, _))))) answer (_, (number', (ping', (start', (length', _))))).
    OtherExport (lent_fields (places number.now ping.now start.now length.now)) answer (lent_fields (places number'.now ping'.now start'.now length'.now)))
client_read_exported κs args answer left p = client_reads _ (banavoge_client_read_lem.gives κs args answer left p).does

pub relay_key_exported : Gives 2 relay-key-kinds.ps relay-key-kinds.r relay-key-reads.Post
    (λ κs (packet, (key, _)) answer (_, (key', _)).
    OtherExport (lent_bytes key.now) answer (lent_bytes key'.now))
relay_key_exported κs args answer left p = relay_keys _ (banavoge_relay_key_lem.gives κs args answer left p)

pub client_key_exported : Gives 2 client-key-kinds.ps client-key-kinds.r client-key-reads.Post
    (λ κs (packet, (key, _)) answer (_, (key', _)).
    OtherExport (lent_bytes key.now) answer (lent_bytes key'.now))
client_key_exported κs args answer left p = client_keys _ (banavoge_client_key_lem.gives κs args answer left p)

pub routing_request_exported : Gives 2 routing-request-kinds.ps routing-request-kinds.r routing-request-reads.Post
    (λ κs (key, (out, _)) answer (_, (out', _)).
    OtherExport (lent_bytes out.now) answer (lent_bytes out'.now))
routing_request_exported κs args answer left p = client_writes _ (banavoge_routing_request_lem.gives κs args answer left p)

pub routing_response_exported : Gives 2 routing-response-kinds.ps routing-response-kinds.r routing-response-reads.Post
    (λ κs (number, (key, (out, _))) answer (_, (_, (out', _))).
    OtherExport (lent_bytes out.now) answer (lent_bytes out'.now))
routing_response_exported κs args answer left p = relay_writes _ (banavoge_routing_response_lem.gives κs args answer left p)

pub connect_notification_exported : Gives 1 connect-notification-kinds.ps connect-notification-kinds.r connect-notification-reads.Post
    (λ κs (number, (out, _)) answer (_, (out', _)).
    OtherExport (lent_bytes out.now) answer (lent_bytes out'.now))
connect_notification_exported κs args answer left p = relay_writes _ (banavoge_connect_notification_lem.gives κs args answer left p)

pub disconnect_notification_exported : Gives 1 disconnect-notification-kinds.ps disconnect-notification-kinds.r disconnect-notification-reads.Post
    (λ κs (number, (out, _)) answer (_, (out', _)).
    OtherExport (lent_bytes out.now) answer (lent_bytes out'.now))
disconnect_notification_exported κs args answer left p = relay_writes _ (banavoge_disconnect_notification_lem.gives κs args answer left p)

pub drop_exported : Gives 1 drop-kinds.ps drop-kinds.r drop-reads.Post
    (λ κs (number, (out, _)) answer (_, (out', _)).
    OtherExport (lent_bytes out.now) answer (lent_bytes out'.now))
drop_exported κs args answer left p = client_writes _ (banavoge_drop_lem.gives κs args answer left p)

pub ping_exported : Gives 1 ping-kinds.ps ping-kinds.r ping-reads.Post
    (λ κs (n, (out, _)) answer (_, (out', _)).
    OtherExport (lent_bytes out.now) answer (lent_bytes out'.now))
ping_exported κs args answer left p = both_write _ _ (banavoge_ping_lem.gives κs args answer left p)

pub pong_exported : Gives 1 pong-kinds.ps pong-kinds.r pong-reads.Post
    (λ κs (n, (out, _)) answer (_, (out', _)).
    OtherExport (lent_bytes out.now) answer (lent_bytes out'.now))
pong_exported κs args answer left p = both_write _ _ (banavoge_pong_lem.gives κs args answer left p)

pub oob_send_exported : Gives 3 oob-send-kinds.ps oob-send-kinds.r oob-send-reads.Post
    (λ κs (key, (payload, (out, _))) answer (_, (_, (out', _))).
    OtherExport (lent_bytes out.now) answer (lent_bytes out'.now))
oob_send_exported κs args answer left p = client_writes _ (banavoge_oob_send_lem.gives κs args answer left p)

pub oob_received_exported : Gives 3 oob-received-kinds.ps oob-received-kinds.r oob-received-reads.Post
    (λ κs (key, (payload, (out, _))) answer (_, (_, (out', _))).
    OtherExport (lent_bytes out.now) answer (lent_bytes out'.now))
oob_received_exported κs args answer left p = relay_writes _ (banavoge_oob_received_lem.gives κs args answer left p)

pub data_exported : Gives 2 data-kinds.ps data-kinds.r data_Reads.Post
    (λ κs (number, (payload, (out, _))) answer (_, (_, (out', _))).
    OtherExport (lent_bytes out.now) answer (lent_bytes out'.now))
data_exported κs args answer left p = both_write _ _ (banavoge_data_lem.gives κs args answer left p)

pub node_read_exported : Gives 6 node-read-kinds.ps node-read-kinds.r node-read-reads.Post
    (λ κs (list, (at, (family, (address, (port, (key, (next, _))))))) answer (_, (_, (family', (address', (port', (key', (next', _))))))).
    OtherExport (lent_node (node_places family.now address.now port.now key.now next.now)) answer (lent_node (node_places family'.now address'.now port'.now key'.now next'.now)))
node_read_exported κs args answer left p = node_reads _ _ (banavoge_node_read_lem.gives κs args answer left p).does

pub nodes_step_exported : Gives 6 nodes-step-kinds.ps nodes-step-kinds.r nodes-step-reads.Post
    (λ κs (list, (place, (count, (family, (address, (port, (key, (next, _)))))))) answer (_, (_, (_, (family', (address', (port', (key', (next', _)))))))).
    OtherExport (lent_node (node_places family.now address.now port.now key.now next.now)) answer (lent_node (node_places family'.now address'.now port'.now key'.now next'.now)))
nodes_step_exported κs args answer left p = nodes_step _ _ _ (banavoge_nodes_step_lem.gives κs args answer left p).does

pub node_write_exported : Gives 3 node-write-kinds.ps node-write-kinds.r node-write-reads.Post
    (λ κs (family, (address, (port, (key, (out, _))))) answer (_, (_, (_, (_, (out', _))))).
    OtherExport (lent_bytes out.now) answer (lent_bytes out'.now))
node_write_exported κs args answer left p = node_writes _ (banavoge_node_write_lem.gives κs args answer left p)

pub nearest_begin_exported : Gives 2 nearest-begin-kinds.ps nearest-begin-kinds.r nearest-begin-reads.Post
    (λ κs (list, (target, (size, _))) answer (list', _).
    size_right size ≡ true → OtherExport (lent_bytes list.now) answer (lent_bytes list'.now))
nearest_begin_exported κs args answer left p right = begins _ _ right (banavoge_nearest_begin_lem.gives κs args answer left p)

pub nearest_offer_exported : Gives 3 nearest-offer-kinds.ps nearest-offer-kinds.r nearest-offer-reads.Post
    (λ κs (list, (family, (address, (port, (key, _))))) answer (list', _).
    OtherExport (lent_bytes list.now) answer (lent_bytes list'.now))
nearest_offer_exported κs args answer left p = offers _ (banavoge_nearest_offer_lem.gives κs args answer left p)

pub nearest_remove_exported : Gives 2 nearest-remove-kinds.ps nearest-remove-kinds.r nearest-remove-reads.Post
    (λ κs (list, (key, _)) answer (list', _).
    OtherExport (lent_bytes list.now) answer (lent_bytes list'.now))
nearest_remove_exported κs args answer left p = removes _ (banavoge_nearest_remove_lem.gives κs args answer left p)

pub nearest_node_exported : Gives 5 nearest-node-kinds.ps nearest-node-kinds.r nearest-node-reads.Post
    (λ κs (list, (index, (family, (address, (port, (key, _)))))) answer (_, (_, (family', (address', (port', (key', _)))))).
    OtherExport (lent_held (held_places family.now address.now port.now key.now)) answer (lent_held (held_places family'.now address'.now port'.now key'.now)))
nearest_node_exported κs args answer left p = shows _ _ (banavoge_nearest_node_lem.gives κs args answer left p)

pub buckets_begin_exported : Gives 2 buckets-begin-kinds.ps buckets-begin-kinds.r buckets-begin-reads.Post
    (λ κs (buckets, (base, _)) answer (buckets', _).
    OtherExport (lent_bytes buckets.now) answer (lent_bytes buckets'.now))
buckets_begin_exported κs args answer left p = begins_buckets _ (banavoge_buckets_begin_lem.gives κs args answer left p)

pub buckets_offer_exported : Gives 3 buckets-offer-kinds.ps buckets-offer-kinds.r buckets-offer-reads.Post
    (λ κs (buckets, (family, (address, (port, (key, _))))) answer (buckets', _).
    OtherExport (lent_bytes buckets.now) answer (lent_bytes buckets'.now))
buckets_offer_exported κs args answer left p = offers_bucket _ (banavoge_buckets_offer_lem.gives κs args answer left p)

pub buckets_nearest_exported : Gives 3 buckets-nearest-kinds.ps buckets-nearest-kinds.r buckets-nearest-reads.Post
    (λ κs (buckets, (target, (out, _))) answer (_, (_, (out', _))).
    OtherExport (lent_bytes out.now) answer (lent_bytes out'.now))
buckets_nearest_exported κs args answer left p = asks_buckets _ _ (banavoge_buckets_nearest_lem.gives κs args answer left p)

pub frame_read_exported : Gives 5 frame-read-kinds.ps frame-read-kinds.r frame-read-reads.Post
    (λ κs (held, (keep, (piece, (used, (end, _))))) answer (held', (keep', (_, (used', (end', _))))).
    OtherExport (lent_frame keep.now (frame_places held.now used.now end.now)) answer (lent_frame keep'.now (frame_places held'.now used'.now end'.now)))
frame_read_exported κs args answer left p = reads_frame _ (banavoge_frame_read_lem.gives κs args answer left p)

-- ---- a stream of frames

pub frame_read_call : Gives 5 frame-read-kinds.ps frame-read-kinds.r frame-read-reads.Post
    (λ κs (held, (keep, (piece, (used, (end, _))))) answer (held', (keep', (_, (used', (end', _))))).
    FrameCall held.now keep.now piece.now answer (frame_places held'.now used'.now end'.now) keep'.now)
frame_read_call κs args answer left p = record { used_before = _; end_before = _; reads = banavoge_frame_read_lem.gives κs args answer left p }

-- ---- a list's history

-- `banavoge_nearest_begin` that answers 0, and that answers minus 12 in memory long enough
pub begin_of_size : Gives 2 nearest-begin-kinds.ps nearest-begin-kinds.r nearest-begin-reads.Post
    (λ κs (list, (target, (size, _))) answer (list', _). answer ≡ pos 0 → ListBegun (key_given target.now) size list'.now)
begin_of_size κs args answer left p zero =
    of_size args.0.now (subst (ToldAs done_code (Begins _ _ args.0.now left.0.now)) zero (banavoge_nearest_begin_lem.gives κs args answer left p))

pub begin_of_bad_size : Gives 2 nearest-begin-kinds.ps nearest-begin-kinds.r nearest-begin-reads.Post
    (λ κs (list, (target, (size, _))) answer (list', _).
    answer ≡ refusal_code ListSize → list_length ≤ length list.now → ListBegun (key_given target.now) default_size list'.now)
begin_of_bad_size κs args answer left p twelve long =
    of_bad_size _ args.0.now long (subst (ToldAs done_code (Begins _ _ args.0.now left.0.now)) twelve (banavoge_nearest_begin_lem.gives κs args answer left p))

pub offer_step : Gives 3 nearest-offer-kinds.ps nearest-offer-kinds.r nearest-offer-reads.Post
    (λ κs (list, (family, (address, (port, (key, _))))) answer (list', _).
    ListStep list.now (list_event (offering (node_given family address.now port key.now)) answer no_held) list'.now)
offer_step κs args answer left p = list.offers _ answer (banavoge_nearest_offer_lem.gives κs args answer left p) refl

pub remove_step : Gives 2 nearest-remove-kinds.ps nearest-remove-kinds.r nearest-remove-reads.Post
    (λ κs (list, (key, _)) answer (list', _). ListStep list.now (list_event (removing (key_given key.now)) answer no_held) list'.now)
remove_step κs args answer left p = list.removes _ answer (banavoge_nearest_remove_lem.gives κs args answer left p) refl

pub held_step : Gives 5 nearest-node-kinds.ps nearest-node-kinds.r nearest-node-reads.Post
    (λ κs (list, (index, (family, (address, (port, (key, _)))))) answer (_, (_, (family', (address', (port', (key', _)))))).
    ListStep list.now (list_event (reading index (held_places family.now address.now port.now key.now)) answer (held_places family'.now address'.now port'.now key'.now)) list.now)
held_step κs args answer left p = list.reads _ answer _ _ (banavoge_nearest_node_lem.gives κs args answer left p) refl refl

-- ---- a history of buckets

-- `banavoge_buckets_begin` that answers 0
pub buckets_begun : Gives 2 buckets-begin-kinds.ps buckets-begin-kinds.r buckets-begin-reads.Post
    (λ κs (buckets, (base, _)) answer (buckets', _). answer ≡ pos 0 → BucketsBegun (key_given base.now) buckets'.now)
buckets_begun κs args answer left p zero = record {
  memory = args.0.now;
  begins = subst (ToldAs done_code (buckets.Begins _ args.0.now left.0.now)) zero (banavoge_buckets_begin_lem.gives κs args answer left p);
}

pub buckets_offer_step : Gives 3 buckets-offer-kinds.ps buckets-offer-kinds.r buckets-offer-reads.Post
    (λ κs (buckets, (family, (address, (port, (key, _))))) answer (buckets', _).
    BucketStep buckets.now (bucket_event (bucket.offering (node_given family address.now port key.now)) answer []) buckets'.now)
buckets_offer_step κs args answer left p = bucket.offers _ answer (banavoge_buckets_offer_lem.gives κs args answer left p) refl

pub buckets_nearest_step : Gives 3 buckets-nearest-kinds.ps buckets-nearest-kinds.r buckets-nearest-reads.Post
    (λ κs (buckets, (target, (out, _))) answer (_, (_, (out', _))).
    BucketStep buckets.now (bucket_event (bucket.asking (key_given target.now) out.now) answer out'.now) buckets.now)
buckets_nearest_step κs args answer left p = bucket.asks _ answer _ _ (banavoge_buckets_nearest_lem.gives κs args answer left p) refl refl
