-- From the contract of an exported call to histories: what the contract states, as the toolchain generates it of the source, is a step of a history, seen by the
-- number that the export answers. So the theorems on histories are about what the host calls; and a call whose contract says less has no step. The sizes are
-- document 01's. Assumes nothing.
use mathlib.Core.Path.{◌≡◌, refl, subst}
use mathlib.Core.List.{List, [], ◌++◌}
use lib.IntN.{pos}
use Rattle.refusal.specs.declared.Refusal.TheVariants.{OutputTooShort}
use Rattle.rules.specs.Call.{arrive, leave, packet_call, tick}
use Rattle.rules.specs.History.{Event}
use Rattle.banavoge.proofs.rooms.banavoge_room_empty.Kinds as empty-kinds
use Rattle.banavoge.proofs.rooms.banavoge_room_empty.Reads as empty-reads
use Rattle.banavoge.proofs.rooms.banavoge_room_check.Kinds as check-kinds
use Rattle.banavoge.proofs.rooms.banavoge_room_check.Reads as check-reads
use Rattle.banavoge.proofs.relay_calls.banavoge_arrive.Kinds as arrive-kinds
use Rattle.banavoge.proofs.relay_calls.banavoge_arrive.Reads as arrive-reads
use Rattle.banavoge.proofs.relay_calls.banavoge_leave.Kinds as leave-kinds
use Rattle.banavoge.proofs.relay_calls.banavoge_leave.Reads as leave_reads
use Rattle.banavoge.proofs.relay_calls.banavoge_packet.Kinds as packet-kinds
use Rattle.banavoge.proofs.relay_calls.banavoge_packet.Reads as packet-reads
use Rattle.banavoge.proofs.relay_calls.banavoge_tick.Kinds as tick-kinds
use Rattle.banavoge.proofs.relay_calls.banavoge_tick.Reads as tick_reads
use Rattle.banavoge.proofs.sitting.banavoge_key_in.Kinds as key-in-kinds
use Rattle.banavoge.proofs.sitting.banavoge_key_in.Reads as key-in-reads
use Rattle.banavoge.proofs.sitting.banavoge_seat_of.Kinds as seat-of-kinds
use Rattle.banavoge.proofs.sitting.banavoge_seat_of.Reads as seat-of-reads
use Rattle.banavoge.proofs.runs.banavoge_play.Kinds as play-kinds
use Rattle.banavoge.proofs.runs.banavoge_play.Reads as play-reads
use Rattle.room_laws.specs.Store.{MakesEmpty}
use Rattle.banavoge_laws.specs.Answers.{ToldAs}
use Rattle.banavoge_laws.specs.Rooms.{done_or, room_code}
use Rattle.banavoge_laws.specs.Runs.{counts, telling}
use Rattle.contracts.specs.Promises.{Gives}
use Rattle.contracts.proofs.RoomExports.{banavoge_room_empty_lem, banavoge_room_check_lem}
use Rattle.contracts.proofs.CallExports.{banavoge_arrive_lem, banavoge_leave_lem, banavoge_packet_lem, banavoge_tick_lem}
use Rattle.contracts.proofs.SittingExports.{banavoge_key_in_lem, banavoge_seat_of_lem}
use Rattle.contracts.proofs.RunExports.{banavoge_play_lem}
use Rattle.histories.specs.Seen.{seen}
use Rattle.histories.specs.Lent.{Lent, lent_with}
use Rattle.histories.specs.History.{Step, arrives, departs, sends, ticks, BeginsEmpty, AnyCalls, History}
use Rattle.histories.specs.RunSeen.{run_seen}
use Rattle.histories.specs.ExportedCalls.{host_memory, no_places, with_seat, Exported}
use Rattle.histories.specs.ExportedCalls as exported
use Rattle.histories.specs.Runs.{ThenRun}
use Rattle.histories.proofs.RunHistories.{calls_then_run, history_then_run}

-- `banavoge_room_empty` that answers 0 begins a history
pub empty_begins : Gives 1 empty-kinds.ps empty-kinds.r empty-reads.Post (λ κs (room, _) answer (room', _). answer ≡ pos 0 → BeginsEmpty 40 32 room'.now)
empty_begins κs args answer left p zero =
    record { memory = args.0.now; empties = subst (ToldAs (done_or OutputTooShort) (MakesEmpty 40 32 args.0.now left.0.now)) zero (banavoge_room_empty_lem.gives κs args answer left p) }

-- `banavoge_arrive`
pub arrive_step : Gives 4 arrive-kinds.ps arrive-kinds.r arrive-reads.Post
    (λ κs (room, (key, (out, _))) answer (room', (_, (out', (seat', _)))).
    let call = arrive key.now in
    Step 40 32 room.now (lent_with call out.now) (seen call seat'.now answer out'.now) room'.now)
arrive_step κs args answer left p = arrives _ _ _ _ _ answer (banavoge_arrive_lem.gives κs args answer left p) refl refl

-- `banavoge_leave`
pub leave_step : Gives 2 leave-kinds.ps leave-kinds.r leave_reads.Post
    (λ κs (room, (seat, (out, _))) answer (room', (_, (out', _))).
    let call = leave seat in
    Step 40 32 room.now (lent_with call out.now) (seen call seat answer out'.now) room'.now)
leave_step κs args answer left p = departs _ _ _ answer (banavoge_leave_lem.gives κs args answer left p) refl refl

-- `banavoge_packet`
pub packet_step : Gives 3 packet-kinds.ps packet-kinds.r packet-reads.Post
    (λ κs (room, (seat, (packet, (out, _)))) answer (room', (_, (_, (out', _)))).
    let call = packet_call seat packet.now in
    Step 40 32 room.now (lent_with call out.now) (seen call seat answer out'.now) room'.now)
packet_step κs args answer left p = sends _ _ _ _ answer (banavoge_packet_lem.gives κs args answer left p) refl refl

-- `banavoge_tick`
pub tick_step : Gives 2 tick-kinds.ps tick-kinds.r tick_reads.Post
    (λ κs (room, (time, (number, (out, _)))) answer (room', (_, (_, (out', _)))).
    let call = tick time number in
    Step 40 32 room.now (lent_with call out.now) (seen call 0 answer out'.now) room'.now)
tick_step κs args answer left p = ticks _ _ _ _ answer (banavoge_tick_lem.gives κs args answer left p) refl refl

-- `banavoge_play` behind any calls goes on with them, and behind a history with that
pub play_behind_calls : Gives 6 play-kinds.ps play-kinds.r play-reads.Post
    (λ κs (room, (calls, (allowance, (out, (played, (read, (written, _))))))) answer (room', (_, (_, (out', (played', (read', (written', _))))))).
    let t = telling answer played'.now read'.now written'.now in
    (lents : List Lent) (events : List Event) → AnyCalls 40 32 lents events room.now → ThenRun 40 32 lents (events ++ run_seen calls.now t out'.now) room'.now)
play_behind_calls κs args answer left p lents events h = calls_then_run 40 32 _ _ _ _ _ _ _ _ lents events h (banavoge_play_lem.gives κs args answer left p)

pub play_behind_history : Gives 6 play-kinds.ps play-kinds.r play-reads.Post
    (λ κs (room, (calls, (allowance, (out, (played, (read, (written, _))))))) answer (room', (_, (_, (out', (played', (read', (written', _))))))).
    let t = telling answer played'.now read'.now written'.now in
    (events : List Event) → History 40 32 events room.now → History 40 32 (events ++ run_seen calls.now t out'.now) room'.now)
play_behind_history κs args answer left p events h = history_then_run 40 32 _ _ _ _ _ _ _ _ events h (banavoge_play_lem.gives κs args answer left p)

-- ---- each export that is lent the memory of a room is one of `Exported`: what a refusal leaves (`histories`, `RefusedLeaves`) is what the export leaves

pub room_empty_exported : Gives 1 empty-kinds.ps empty-kinds.r empty-reads.Post
    (λ κs (room, _) answer (room', _). Exported 40 32 (host_memory room.now [] no_places) answer (host_memory room'.now [] no_places))
room_empty_exported κs args answer left p = exported.empties (banavoge_room_empty_lem.gives κs args answer left p)

pub room_check_exported : Gives 1 check-kinds.ps check-kinds.r check-reads.Post
    (λ κs (room, _) answer _. Exported 40 32 (host_memory room.now [] no_places) answer (host_memory room.now [] no_places))
unfolding room_code
room_check_exported κs args answer left p = exported.checks (banavoge_room_check_lem.gives κs args answer left p)

pub arrive_exported : Gives 4 arrive-kinds.ps arrive-kinds.r arrive-reads.Post
    (λ κs (room, (key, (out, (seat, _)))) answer (room', (_, (out', (seat', _)))).
    Exported 40 32 (with_seat room.now out.now seat.now) answer (with_seat room'.now out'.now seat'.now))
arrive_exported κs args answer left p = exported.arrives _ (banavoge_arrive_lem.gives κs args answer left p)

pub leave_exported : Gives 2 leave-kinds.ps leave-kinds.r leave_reads.Post
    (λ κs (room, (seat, (out, _))) answer (room', (_, (out', _))).
    Exported 40 32 (host_memory room.now out.now no_places) answer (host_memory room'.now out'.now no_places))
leave_exported κs args answer left p = exported.departs _ (banavoge_leave_lem.gives κs args answer left p)

pub packet_exported : Gives 3 packet-kinds.ps packet-kinds.r packet-reads.Post
    (λ κs (room, (seat, (packet, (out, _)))) answer (room', (_, (_, (out', _)))).
    Exported 40 32 (host_memory room.now out.now no_places) answer (host_memory room'.now out'.now no_places))
packet_exported κs args answer left p = exported.sends _ _ (banavoge_packet_lem.gives κs args answer left p)

pub tick_exported : Gives 2 tick-kinds.ps tick-kinds.r tick_reads.Post
    (λ κs (room, (time, (number, (out, _)))) answer (room', (_, (_, (out', _)))).
    Exported 40 32 (host_memory room.now out.now no_places) answer (host_memory room'.now out'.now no_places))
tick_exported κs args answer left p = exported.ticks _ _ (banavoge_tick_lem.gives κs args answer left p)

pub key_in_exported : Gives 2 key-in-kinds.ps key-in-kinds.r key-in-reads.Post
    (λ κs (room, (seat, (key, _))) answer (_, (_, (key', _))).
    Exported 40 32 (host_memory room.now key.now no_places) answer (host_memory room.now key'.now no_places))
key_in_exported κs args answer left p = exported.tells_key _ (banavoge_key_in_lem.gives κs args answer left p)

pub seat_of_exported : Gives 2 seat-of-kinds.ps seat-of-kinds.r seat-of-reads.Post
    (λ κs (room, (key, _)) answer _. Exported 40 32 (host_memory room.now [] no_places) answer (host_memory room.now [] no_places))
seat_of_exported κs args answer left p = exported.tells_seat _ (banavoge_seat_of_lem.gives κs args answer left p)

pub play_exported : Gives 6 play-kinds.ps play-kinds.r play-reads.Post
    (λ κs (room, (calls, (allowance, (out, (played, (read, (written, _))))))) answer (room', (_, (_, (out', (played', (read', (written', _))))))).
    Exported 40 32 (host_memory room.now out.now (counts played.now read.now written.now)) answer
    (host_memory room'.now out'.now (counts played'.now read'.now written'.now)))
play_exported κs args answer left p = exported.plays _ _ (banavoge_play_lem.gives κs args answer left p)
