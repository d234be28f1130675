-- The exported writers of packets. Each contract is what stands here, and asks nothing of the caller. Assumes nothing.
use Rattle.packet_write.specs.Written.{ClientWrites, RelayWrites, PingWrites, PongWrites, DataWrites}
use Rattle.banavoge_laws.specs.Answers.{ToldAs, written_code}
use Rattle.packet_laws.specs.FromClient.{routing_request, drop_route, oob_send}
use Rattle.packet_laws.specs.FromRelay.{routing_response, connect_notice, disconnect_notice, oob_received}
use Rattle.banavoge.proofs.writers.banavoge_routing_request.Kinds as routing-request-kinds
use Rattle.banavoge.proofs.writers.banavoge_routing_request.Reads as routing-request-reads
use Rattle.banavoge.proofs.writers.banavoge_routing_response.Kinds as routing-response-kinds
use Rattle.banavoge.proofs.writers.banavoge_routing_response.Reads as routing-response-reads
use Rattle.banavoge.proofs.writers.banavoge_connect_notification.Kinds as connect-notification-kinds
use Rattle.banavoge.proofs.writers.banavoge_connect_notification.Reads as connect-notification-reads
use Rattle.banavoge.proofs.writers.banavoge_disconnect_notification.Kinds as disconnect-notification-kinds
use Rattle.banavoge.proofs.writers.banavoge_disconnect_notification.Reads as disconnect-notification-reads
use Rattle.banavoge.proofs.writers.banavoge_drop.Kinds as drop-kinds
use Rattle.banavoge.proofs.writers.banavoge_drop.Reads as drop-reads
use Rattle.banavoge.proofs.writers.banavoge_ping.Kinds as ping-kinds
use Rattle.banavoge.proofs.writers.banavoge_ping.Reads as ping-reads
use Rattle.banavoge.proofs.writers.banavoge_pong.Kinds as pong-kinds
use Rattle.banavoge.proofs.writers.banavoge_pong.Reads as pong-reads
use Rattle.banavoge.proofs.writers.banavoge_oob_send.Kinds as oob-send-kinds
use Rattle.banavoge.proofs.writers.banavoge_oob_send.Reads as oob-send-reads
use Rattle.banavoge.proofs.writers.banavoge_oob_received.Kinds as oob-received-kinds
use Rattle.banavoge.proofs.writers.banavoge_oob_received.Reads as oob-received-reads
use Rattle.banavoge.proofs.writers.banavoge_data.Kinds as data-kinds
use Rattle.banavoge.proofs.writers.banavoge_data.Reads as data_Reads
use Rattle.contracts.specs.Promises.{Promises}

pub banavoge_routing_request_lem : Promises 2 routing-request-kinds.ps routing-request-kinds.r routing-request-reads.Asked routing-request-reads.Post
    (λ κs (key, (out, _)) answer (_, (out', _)).
    ToldAs written_code (ClientWrites (routing_request key.now) out.now out'.now) answer)
banavoge_routing_request_lem = record { asks_nothing = λ κs args. tt; gives = λ κs args answer left p. p }

pub banavoge_routing_response_lem : Promises 2 routing-response-kinds.ps routing-response-kinds.r routing-response-reads.Asked routing-response-reads.Post
    (λ κs (number, (key, (out, _))) answer (_, (_, (out', _))).
    ToldAs written_code (RelayWrites (routing_response number key.now) out.now out'.now) answer)
banavoge_routing_response_lem = record { asks_nothing = λ κs args. tt; gives = λ κs args answer left p. p }

pub banavoge_connect_notification_lem : Promises 1 connect-notification-kinds.ps connect-notification-kinds.r connect-notification-reads.Asked connect-notification-reads.Post
    (λ κs (number, (out, _)) answer (_, (out', _)).
    ToldAs written_code (RelayWrites (connect_notice number) out.now out'.now) answer)
banavoge_connect_notification_lem = record { asks_nothing = λ κs args. tt; gives = λ κs args answer left p. p }

pub banavoge_disconnect_notification_lem : Promises 1 disconnect-notification-kinds.ps disconnect-notification-kinds.r disconnect-notification-reads.Asked disconnect-notification-reads.Post
    (λ κs (number, (out, _)) answer (_, (out', _)).
    ToldAs written_code (RelayWrites (disconnect_notice number) out.now out'.now) answer)
banavoge_disconnect_notification_lem = record { asks_nothing = λ κs args. tt; gives = λ κs args answer left p. p }

pub banavoge_drop_lem : Promises 1 drop-kinds.ps drop-kinds.r drop-reads.Asked drop-reads.Post
    (λ κs (number, (out, _)) answer (_, (out', _)).
    ToldAs written_code (ClientWrites (drop_route number) out.now out'.now) answer)
banavoge_drop_lem = record { asks_nothing = λ κs args. tt; gives = λ κs args answer left p. p }

pub banavoge_ping_lem : Promises 1 ping-kinds.ps ping-kinds.r ping-reads.Asked ping-reads.Post
    (λ κs (n, (out, _)) answer (_, (out', _)).
    ToldAs written_code (PingWrites n out.now out'.now) answer)
banavoge_ping_lem = record { asks_nothing = λ κs args. tt; gives = λ κs args answer left p. p }

pub banavoge_pong_lem : Promises 1 pong-kinds.ps pong-kinds.r pong-reads.Asked pong-reads.Post
    (λ κs (n, (out, _)) answer (_, (out', _)).
    ToldAs written_code (PongWrites n out.now out'.now) answer)
banavoge_pong_lem = record { asks_nothing = λ κs args. tt; gives = λ κs args answer left p. p }

pub banavoge_oob_send_lem : Promises 3 oob-send-kinds.ps oob-send-kinds.r oob-send-reads.Asked oob-send-reads.Post
    (λ κs (key, (payload, (out, _))) answer (_, (_, (out', _))).
    ToldAs written_code (ClientWrites (oob_send key.now payload.now) out.now out'.now) answer)
banavoge_oob_send_lem = record { asks_nothing = λ κs args. tt; gives = λ κs args answer left p. p }

pub banavoge_oob_received_lem : Promises 3 oob-received-kinds.ps oob-received-kinds.r oob-received-reads.Asked oob-received-reads.Post
    (λ κs (key, (payload, (out, _))) answer (_, (_, (out', _))).
    ToldAs written_code (RelayWrites (oob_received key.now payload.now) out.now out'.now) answer)
banavoge_oob_received_lem = record { asks_nothing = λ κs args. tt; gives = λ κs args answer left p. p }

pub banavoge_data_lem : Promises 2 data-kinds.ps data-kinds.r data_Reads.Asked data_Reads.Post
    (λ κs (number, (payload, (out, _))) answer (_, (_, (out', _))).
    ToldAs written_code (DataWrites number payload.now out.now out'.now) answer)
banavoge_data_lem = record { asks_nothing = λ κs args. tt; gives = λ κs args answer left p. p }
