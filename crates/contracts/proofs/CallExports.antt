-- The exported calls of the relay. Each contract is what stands here, and asks nothing of the caller. Assumes nothing.
use Rattle.relay_laws.specs.Calls.{Arrives, Departs, Sends, Ticks}
use Rattle.banavoge_laws.specs.Answers.{ToldAs}
use Rattle.banavoge_laws.specs.RelayCalls.{count_code, told, arrival_told}
use Rattle.banavoge.proofs.relay_calls.banavoge_arrive.Kinds as arrive-kinds
use Rattle.banavoge.proofs.relay_calls.banavoge_arrive.Reads as arrive-reads
use Rattle.banavoge.proofs.relay_calls.banavoge_leave.Kinds as leave-kinds
use Rattle.banavoge.proofs.relay_calls.banavoge_leave.Reads as leave_reads
use Rattle.banavoge.proofs.relay_calls.banavoge_packet.Kinds as packet-kinds
use Rattle.banavoge.proofs.relay_calls.banavoge_packet.Reads as packet-reads
use Rattle.banavoge.proofs.relay_calls.banavoge_tick.Kinds as tick-kinds
use Rattle.banavoge.proofs.relay_calls.banavoge_tick.Reads as tick_reads
use Rattle.contracts.specs.Promises.{Promises}

pub banavoge_arrive_lem : Promises 4 arrive-kinds.ps arrive-kinds.r arrive-reads.Asked arrive-reads.Post
    (λ κs (room, (key, (out, (seat, _)))) answer (room', (_, (out', (seat', _)))).
    ToldAs (arrival_told seat.now) (Arrives 40 32 key.now room.now out.now room'.now out'.now) (told answer seat'.now))
banavoge_arrive_lem = record { asks_nothing = λ κs args. tt; gives = λ κs args answer left p. p }

pub banavoge_leave_lem : Promises 2 leave-kinds.ps leave-kinds.r leave_reads.Asked leave_reads.Post
    (λ κs (room, (seat, (out, _))) answer (room', (_, (out', _))).
    ToldAs count_code (Departs 40 32 seat room.now out.now room'.now out'.now) answer)
banavoge_leave_lem = record { asks_nothing = λ κs args. tt; gives = λ κs args answer left p. p }

pub banavoge_packet_lem : Promises 3 packet-kinds.ps packet-kinds.r packet-reads.Asked packet-reads.Post
    (λ κs (room, (seat, (packet, (out, _)))) answer (room', (_, (_, (out', _)))).
    ToldAs count_code (Sends 40 32 seat packet.now room.now out.now room'.now out'.now) answer)
banavoge_packet_lem = record { asks_nothing = λ κs args. tt; gives = λ κs args answer left p. p }

pub banavoge_tick_lem : Promises 2 tick-kinds.ps tick-kinds.r tick_reads.Asked tick_reads.Post
    (λ κs (room, (time, (number, (out, _)))) answer (room', (_, (_, (out', _)))).
    ToldAs count_code (Ticks 40 32 time number room.now out.now room'.now out'.now) answer)
banavoge_tick_lem = record { asks_nothing = λ κs args. tt; gives = λ κs args answer left p. p }
