-- The record for a client, by computation: two histories, one of them with ticks, and what each call adds to the record for KC, which is C. Every kind of entry
-- is there. What adds nothing: other clients' refused calls, packets that are none, pings and pongs, their requests and out-of-band sends for another key, their
-- drops and data on a number that does not name C, and calls that are nobody's, but for ticks. Also what C is handed and answered in them, when a 0 counts, and
-- what is struck out of a record with C's own departures by ticks. Assumes nothing.
use mathlib.Core.Path.{◌≡◌, refl}
use mathlib.Core.Bool.{true, false}
use mathlib.Core.List.{List, [], ◌∷◌, ◌++◌, map}
use Prim.Native.Nat.{ℕ}
use Rattle.refusal.specs.declared.Refusal.TheVariants.{RoomFull, PacketSize, NoSuchRoute}
use lib.ListN.{replicate}
use Rattle.wire.specs.Numbers.{bytes_of}
use Rattle.rules.specs.Room.{sizes_of, base_sizes, Key}
use Rattle.rules.specs.Call.{Call, arrive, leave, packet_call, tick, accepted, refused}
use Rattle.rules.specs.History.{Event, happens}
use Rattle.rules.specs.Transcript.{from_empty, stands}
use Rattle.rules.specs.After.{past_after}
use Rattle.isolation.specs.Record.{Entry, arrived, departed, own, to_c, dropped_c, data_for_c, ticked, record_for, without_own, packets_for, answers_for, zero_for_c}
use Rattle.isolation.proofs.Recorded.{recorded}
use Rattle.rules.proofs.Computed.{ka, kb, kc, opened}

-- a call, and what it adds to the record for C
pub record Row : Type 0 where
  pub call : Call
  pub adds : List Entry

row : Call → List Entry → Row
row call adds = record { call = call; adds = adds }

calls_in : List Row → List Call
calls_in rows = map (λ (r : Row). r.call) rows

added : List Row → List Entry
added [] = []
added (r ∷ rows) = r.adds ++ added rows

-- a fourth client
kd : Key
kd = replicate 32 0x44

-- the calls of a client in a seat
ask : ℕ → Key → Call
ask seat key = packet_call seat (0 ∷ key)

dropping : ℕ → ℕ → Call
dropping seat number = packet_call seat (3 ∷ number ∷ [])

sending : ℕ → ℕ → ℕ → Call
sending seat number byte = packet_call seat (number ∷ byte ∷ [])

out_of_band : ℕ → Key → Call
out_of_band seat key = packet_call seat (6 ∷ (key ++ (0x62 ∷ [])))

ping : ℕ → Call
ping seat = packet_call seat (4 ∷ bytes_of 8 7)

pong : ℕ → Call
pong seat = packet_call seat (5 ∷ bytes_of 8 7)

-- C sits in seat 0, KA in seat 1, KB in seat 2; each has one number, 16 (10 hex)
rows : List Row
rows =
    -- "every accepted arrival and every departure, by key"; "The departure and arrival both stand in the record for C.", of C, which comes back, the call too
    row (arrive kc) (arrived kc ∷ own (arrive kc) ∷ [])
    ∷ row (arrive ka) (arrived ka ∷ [])
    ∷ row (arrive ka) (departed ka ∷ arrived ka ∷ [])
    ∷ row (arrive kc) (departed kc ∷ arrived kc ∷ own (arrive kc) ∷ [])
    -- a request for C, and data on it that is refused while C has none for KA
    ∷ row (ask 1 kc) (to_c ka (ask 1 kc) ∷ [])
    ∷ row (ask 1 kc) (to_c ka (ask 1 kc) ∷ [])
    ∷ row (sending 1 0x10 0x61) []
    ∷ row (ask 0 ka) (own (ask 0 ka) ∷ [])
    -- data and out-of-band bytes for C
    ∷ row (sending 1 0x10 0x61) (data_for_c ka (0x61 ∷ []) ∷ [])
    ∷ row (out_of_band 1 kc) (to_c ka (out_of_band 1 kc) ∷ [])
    -- a request for another key, answered with 0; ping, pong, out-of-band bytes for another key; a refused drop
    ∷ row (ask 1 kb) []
    ∷ row (ping 1) []
    ∷ row (pong 1) []
    ∷ row (out_of_band 1 kb) []
    ∷ row (dropping 1 0x11) []
    -- C's own: a request for its own key, answered with 0, and a refused drop; data, a ping, and bytes that are no packet, which add nothing where they are KA's
    ∷ row (ask 0 kc) (own (ask 0 kc) ∷ [])
    ∷ row (dropping 0 0x11) (own (dropping 0 0x11) ∷ [])
    ∷ row (sending 0 0x10 0x64) (own (sending 0 0x10 0x64) ∷ [])
    ∷ row (ping 0) (own (ping 0) ∷ [])
    ∷ row (packet_call 0 []) (own (packet_call 0 []) ∷ [])
    ∷ row (packet_call 1 []) []
    -- a third client drops its 16, which is not KA's
    ∷ row (arrive kb) (arrived kb ∷ [])
    ∷ row (ask 2 ka) []
    ∷ row (dropping 2 0x10) []
    -- KA drops its 16, which names C
    ∷ row (dropping 1 0x10) (dropped_c ka ∷ [])
    -- then it names KB: data goes on to KB, and is dropped
    ∷ row (ask 1 kb) []
    ∷ row (ask 2 ka) []
    ∷ row (sending 1 0x10 0x63) []
    ∷ row (dropping 1 0x10) []
    -- it names C again; KA leaves, comes back, and has it for KB
    ∷ row (ask 1 kc) (to_c ka (ask 1 kc) ∷ [])
    ∷ row (leave 1) (departed ka ∷ [])
    ∷ row (arrive ka) (arrived ka ∷ [])
    ∷ row (ask 1 kb) []
    ∷ row (dropping 1 0x10) []
    -- the room is full: another client's refused arrival. KA's 16 names C once more; KA comes back without leaving, and has 16 for KB
    ∷ row (arrive kd) []
    ∷ row (ask 1 kc) (to_c ka (ask 1 kc) ∷ [])
    ∷ row (arrive ka) (departed ka ∷ arrived ka ∷ [])
    ∷ row (ask 1 kb) []
    ∷ row (dropping 1 0x10) []
    -- C leaves; what its seat is then asked for is nobody's
    ∷ row (leave 0) (departed kc ∷ own (leave 0) ∷ [])
    ∷ row (ping 0) []
    ∷ row (leave 0) []
    -- another client takes it, and C's arrival is refused
    ∷ row (arrive kd) (arrived kd ∷ [])
    ∷ row (arrive kc) (own (arrive kc) ∷ [])
    ∷ []

-- its events
seen : List Event
seen = happens (sizes_of 3 1) (calls_in rows)

the_record : record_for (from_empty (sizes_of 3 1)) [] kc seen ≡ added rows
unfolding opened recorded seen calls_in added rows row ask dropping sending out_of_band ping pong kd
the_record = refl

-- "neither history answers another client's request for C with 0": those for another key, and C's own, do not count
no_zero_for_c : zero_for_c (from_empty (sizes_of 3 1)) [] kc seen ≡ false
unfolding opened recorded seen calls_in rows row ask dropping sending out_of_band ping pong kd
no_zero_for_c = refl

-- this one does: KA has used its number for KB
zero_for_c_lem : zero_for_c (from_empty (sizes_of 3 1)) [] kc (happens (sizes_of 3 1) (arrive kc ∷ arrive ka ∷ ask 1 kb ∷ ask 1 kc ∷ [])) ≡ true
unfolding opened recorded ask
zero_for_c_lem = refl

-- the answer and the connect notification; data; out-of-band bytes; the answer 0; a pong; then disconnect, connect and disconnect notifications
handed_to_c : packets_for (from_empty (sizes_of 3 1)) [] kc seen
    ≡ (1 ∷ 0x10 ∷ ka) ∷ (2 ∷ 0x10 ∷ []) ∷ (0x10 ∷ 0x61 ∷ []) ∷ (7 ∷ (ka ++ (0x62 ∷ []))) ∷ (1 ∷ 0 ∷ kc)
    ∷ (5 ∷ bytes_of 8 7) ∷ (3 ∷ 0x10 ∷ []) ∷ (2 ∷ 0x10 ∷ []) ∷ (3 ∷ 0x10 ∷ []) ∷ (2 ∷ 0x10 ∷ []) ∷ (3 ∷ 0x10 ∷ []) ∷ []
unfolding opened recorded seen calls_in rows row ask dropping sending out_of_band ping pong kd
handed_to_c = refl

-- C's calls alone, in turn
answered_to_c : answers_for (from_empty (sizes_of 3 1)) [] kc seen
    ≡ accepted 0 0 ∷ accepted 0 0 ∷ accepted 0 47 ∷ accepted 0 37 ∷ refused NoSuchRoute ∷ accepted 0 5 ∷ accepted 0 12 ∷ refused PacketSize
    ∷ accepted 0 0 ∷ refused RoomFull ∷ []
unfolding opened recorded seen calls_in rows row ask dropping sending out_of_band ping pong kd
answered_to_c = refl

-- "A request stands from an answer other than 0": the request that was answered with 0 stands under no number
zero_does_not_stand : stands (from_empty (sizes_of 3 1)) (past_after [] (happens (sizes_of 3 1) (arrive kc ∷ arrive ka ∷ ask 1 kb ∷ ask 1 kc ∷ []))) ka 0 kc ≡ false
unfolding opened recorded ask
zero_does_not_stand = refl

-- ---- P9, and the students' error "Keeping a link to a seat after its client left (P9).": C sits where KA sat, KB sends data to KA, and C is handed nothing

nothing_for_kc : packets_for (from_empty base_sizes) [] kc (happens base_sizes (arrive ka ∷ arrive kb ∷ ask 0 kb ∷ ask 1 ka ∷ leave 0 ∷ arrive kc ∷ sending 1 0x10 0x61 ∷ [])) ≡ []
unfolding opened recorded ask sending
nothing_for_kc = refl

-- ---- ticks

-- C sits in seat 0, KA in seat 1, KB in seat 2, each with one number
tick_rows : List Row
tick_rows =
    row (arrive kc) (arrived kc ∷ own (arrive kc) ∷ [])
    ∷ row (arrive ka) (arrived ka ∷ [])
    ∷ row (arrive kb) (arrived kb ∷ [])
    ∷ row (ask 0 ka) (own (ask 0 ka) ∷ [])
    ∷ row (ask 1 kc) (to_c ka (ask 1 kc) ∷ [])
    -- all three are pinged with 7, and C answers
    ∷ row (tick 30 7) (ticked 30 7 [] ∷ [])
    ∷ row (pong 0) (own (pong 0) ∷ [])
    -- nobody is overdue; "each joins every record for C in full", the refused ones too: a number of 0, a clock that goes back
    ∷ row (tick 39 8) (ticked 39 8 [] ∷ [])
    ∷ row (tick 40 0) (ticked 40 0 [] ∷ [])
    ∷ row (tick 38 9) (ticked 38 9 [] ∷ [])
    -- the two that did not answer are put out by one tick, in seat order; it is one entry
    ∷ row (tick 40 9) (ticked 40 9 (ka ∷ kb ∷ []) ∷ [])
    -- a call in a seat that the tick emptied is nobody's; "a Leave after a tick reads otherwise"
    ∷ row (pong 1) []
    ∷ row (arrive ka) (arrived ka ∷ [])
    ∷ row (tick 41 9) (ticked 41 9 [] ∷ [])
    ∷ row (leave 1) (departed ka ∷ [])
    -- C is pinged again, and put out itself; it is in the record as others are
    ∷ row (tick 60 2) (ticked 60 2 [] ∷ [])
    ∷ row (tick 70 3) (ticked 70 3 (kc ∷ []) ∷ [])
    -- while C is away
    ∷ row (pong 0) []
    ∷ row (tick 71 4) (ticked 71 4 [] ∷ [])
    ∷ []

tick_events : List Event
tick_events = happens (sizes_of 3 1) (calls_in tick_rows)

the_tick_record : record_for (from_empty (sizes_of 3 1)) [] kc tick_events ≡ added tick_rows
unfolding opened recorded tick_events calls_in added tick_rows row ask pong
the_tick_record = refl

-- the answer, the connect notification, a ping, the disconnect notification as KA is put out, a ping
ticks_handed_to_c : packets_for (from_empty (sizes_of 3 1)) [] kc tick_events
    ≡ (1 ∷ 0x10 ∷ ka) ∷ (2 ∷ 0x10 ∷ []) ∷ (4 ∷ bytes_of 8 7) ∷ (3 ∷ 0x10 ∷ []) ∷ (4 ∷ bytes_of 8 2) ∷ []
unfolding opened recorded tick_events calls_in tick_rows row ask pong
ticks_handed_to_c = refl

-- a tick is no call of C's
ticks_answered_to_c : answers_for (from_empty (sizes_of 3 1)) [] kc tick_events ≡ accepted 0 0 ∷ accepted 0 37 ∷ accepted 0 0 ∷ []
unfolding opened recorded tick_events calls_in tick_rows row ask pong
ticks_answered_to_c = refl

-- two that are connected are put out by one tick. Where C has the higher seat it is told first that KA is gone: it holds its seat when that is written
higher : List Event
higher = happens (sizes_of 3 1) (arrive ka ∷ arrive kc ∷ ask 0 kc ∷ ask 1 ka ∷ tick 30 7 ∷ tick 40 8 ∷ [])

told_before_it_goes : packets_for (from_empty (sizes_of 3 1)) [] kc higher ≡ (1 ∷ 0x10 ∷ ka) ∷ (2 ∷ 0x10 ∷ []) ∷ (4 ∷ bytes_of 8 7) ∷ (3 ∷ 0x10 ∷ []) ∷ []
unfolding opened recorded higher ask
told_before_it_goes = refl

-- where it has the lower it is gone before KA goes
lower : List Event
lower = happens (sizes_of 3 1) (arrive kc ∷ arrive ka ∷ ask 0 ka ∷ ask 1 kc ∷ tick 30 7 ∷ tick 40 8 ∷ [])

not_told_after_it_goes : packets_for (from_empty (sizes_of 3 1)) [] kc lower ≡ (1 ∷ 0x10 ∷ ka) ∷ (2 ∷ 0x10 ∷ []) ∷ (4 ∷ bytes_of 8 7) ∷ []
unfolding opened recorded lower ask
not_told_after_it_goes = refl

-- both stand in its record, in seat order; C alone is struck out
both_put_out : record_for (from_empty (sizes_of 3 1)) [] kc lower
    ≡ arrived kc ∷ own (arrive kc) ∷ arrived ka ∷ own (ask 0 ka) ∷ to_c ka (ask 1 kc) ∷ ticked 30 7 [] ∷ ticked 40 8 (kc ∷ ka ∷ []) ∷ []
unfolding opened recorded lower ask
both_put_out = refl

struck_out : map (without_own kc) (record_for (from_empty (sizes_of 3 1)) [] kc lower)
    ≡ arrived kc ∷ own (arrive kc) ∷ arrived ka ∷ own (ask 0 ka) ∷ to_c ka (ask 1 kc) ∷ ticked 30 7 [] ∷ ticked 40 8 (ka ∷ []) ∷ []
unfolding opened recorded lower ask
struck_out = refl
