-- Document 02, "Notice dead laptops", in a room of three seats with two numbers: facts of the definitions, each by computation, with the answers and the bytes
-- of every record. The refusals and their order, and that a refused tick leaves the clock; a ping at 30 seconds and none at 29; a departure at 10 seconds and none
-- at 9, by the tick's own time; what pongs do and other packets do not; who is told of a departure, in which order; and the same by what has happened. Assumes
-- nothing.
use mathlib.Core.Path.{◌≡◌, refl}
use mathlib.Core.Bool.{true, false}
use mathlib.Core.List.{List, [], ◌∷◌, ◌++◌}
use Prim.Native.Nat.{ℕ}
use native.Mathlib.Omega.{arith}
use lib.ListN.{replicate, drop}
use Rattle.refusal.specs.declared.Refusal.TheVariants.{ZeroPing}
use Rattle.rules.specs.Room.{Sizes, sizes_of, Held, vacant, holds, Room, none_since, newcomer, set_ping, set_seats, empty_room, seat_at}
use Rattle.rules.specs.Whole.{Whole}
use Rattle.rules.specs.Call.{Call, arrive, leave, packet_call, tick, accepted, refused, needed}
use Rattle.rules.specs.History.{happens}
use Rattle.rules.specs.Transcript.{Past, nobody, client_of, Start, from_empty, clock_of, ping_of, sitter, put_out, stands}
use Rattle.rules.specs.After.{past_after}
use Rattle.rules.proofs.Computed.{ka, kb, kc, opened, Shown, wrote, show, show_all, took, gets, ask}

abbrev pub small : Sizes
small = sizes_of 3 2

-- what calls show, from the empty room
unfoldable pub shows : List Call → List Shown
shows calls = show_all (happens small calls)

-- an accepted tick that sends nothing
unfoldable pub quiet : Shown
quiet = wrote 0 0 []

-- the records: a ping of kind 4 with a number below 256, and a disconnect notification of kind 3
unfoldable pub ping_to : ℕ → ℕ → List ℕ
ping_to seat n = seat ∷ 0 ∷ 9 ∷ 4 ∷ (replicate 7 0 ++ (n ∷ []))

unfoldable pub lost : ℕ → ℕ → List ℕ
lost seat number = seat ∷ 0 ∷ 2 ∷ 3 ∷ number ∷ []

-- a pong of a client, and a ping of it
unfoldable pub pong : ℕ → ℕ → Call
pong seat n = packet_call seat (5 ∷ (replicate 7 0 ++ (n ∷ [])))

unfoldable pub ping : ℕ → ℕ → Call
ping seat n = packet_call seat (4 ∷ (replicate 7 0 ++ (n ∷ [])))

-- an empty packet shows whether a seat holds a client: 4 from one that does, 3 from an empty one
unfoldable pub probe : ℕ → Call
probe seat = packet_call seat []

unfoldable pub computed : Unit {0}
unfolding opened show show_all took gets ask shows quiet ping_to lost pong ping probe
computed = tt

-- ---- "Refusals: 10 (tick output under 5,120), 11, 7, 19 for a clock that goes back."

pub output_needed : needed (tick 1 1) ≡ 5120
output_needed = refl

-- 7 before 19; the same time again does not go back; the clock is "first 0"
pub refusals : shows (tick 0 1 ∷ tick 5 1 ∷ tick 4 0 ∷ tick 6 0 ∷ tick 4 1 ∷ tick 5 1 ∷ tick 6 1 ∷ []) ≡ quiet ∷ quiet ∷ gets 7 ∷ gets 7 ∷ gets 19 ∷ quiet ∷ quiet ∷ []
unfolding computed
refusals = refl

-- a refused tick leaves the clock: the one at 50 does not move it on, and the one at 4 not back
pub refused_keeps_clock : drop 1 (shows (tick 5 1 ∷ tick 50 0 ∷ tick 4 1 ∷ tick 4 1 ∷ tick 6 1 ∷ [])) ≡ gets 7 ∷ gets 19 ∷ gets 19 ∷ quiet ∷ []
unfolding computed
refused_keeps_clock = refl

-- and pings nobody, and puts nobody out
pub refused_does_nothing : drop 1 (shows (arrive ka ∷ tick 30 0 ∷ tick 30 7 ∷ tick 40 0 ∷ probe 0 ∷ [])) ≡ gets 7 ∷ wrote 0 12 (ping_to 0 7) ∷ gets 7 ∷ gets 4 ∷ []
unfolding computed
refused_does_nothing = refl

-- ---- "last pinged 30 seconds ago or more"

-- by the tick's time: not at 29, and at 30, with the tick's number
pub pinged_at_30 : drop 1 (shows (arrive ka ∷ tick 29 6 ∷ tick 30 7 ∷ [])) ≡ quiet ∷ wrote 0 12 (ping_to 0 7) ∷ []
unfolding computed
pinged_at_30 = refl

-- and where the clock goes from 0 to 30 at once
pub pinged_at_once : drop 1 (shows (arrive ka ∷ tick 30 7 ∷ [])) ≡ wrote 0 12 (ping_to 0 7) ∷ []
unfolding computed
pinged_at_once = refl

-- "An arrival starts with the last clock as its ping time."
pub arrival_time : drop 2 (shows (tick 20 1 ∷ arrive ka ∷ tick 30 6 ∷ tick 49 7 ∷ tick 50 8 ∷ [])) ≡ quiet ∷ quiet ∷ wrote 0 12 (ping_to 0 8) ∷ []
unfolding computed
arrival_time = refl

-- ---- "whose ping has stood unanswered for 10 seconds or more leaves"

-- not at 39, and it is not pinged again then: KA is seated, 4. At 40 it is gone: its seat is empty, 3
pub gone_at_10 : drop 2 (shows (arrive ka ∷ tick 30 7 ∷ tick 39 8 ∷ probe 0 ∷ tick 40 9 ∷ leave 0 ∷ [])) ≡ quiet ∷ gets 4 ∷ quiet ∷ gets 3 ∷ []
unfolding computed
gone_at_10 = refl

-- by the tick's time, where the clock goes from 30 to 40 at once
pub gone_at_once : drop 2 (shows (arrive ka ∷ tick 30 7 ∷ tick 40 8 ∷ leave 0 ∷ [])) ≡ quiet ∷ gets 3 ∷ []
unfolding computed
gone_at_once = refl

-- nor is it pinged where the clock goes on by 30: "every remaining seat"
pub gone_not_pinged : drop 2 (shows (arrive ka ∷ tick 30 7 ∷ tick 60 8 ∷ leave 0 ∷ [])) ≡ quiet ∷ gets 3 ∷ []
unfolding computed
gone_not_pinged = refl

-- ---- "A pong with the outstanding number clears it; other pongs do nothing."

-- the pong at 35 answers the ping of 30. It does not move the time: the next ping is at 60, and not at 59
pub answered : drop 2 (shows (arrive ka ∷ tick 30 7 ∷ tick 35 1 ∷ pong 0 7 ∷ tick 45 1 ∷ probe 0 ∷ tick 59 8 ∷ tick 60 9 ∷ []))
    ≡ quiet ∷ wrote 0 0 [] ∷ quiet ∷ gets 4 ∷ quiet ∷ wrote 0 12 (ping_to 0 9) ∷ []
unfolding computed
answered = refl

-- and that one has to be answered too: its pong bears the old number
pub old_number : drop 2 (shows (arrive ka ∷ tick 30 7 ∷ pong 0 7 ∷ tick 60 9 ∷ pong 0 7 ∷ tick 70 1 ∷ leave 0 ∷ []))
    ≡ wrote 0 0 [] ∷ wrote 0 12 (ping_to 0 9) ∷ wrote 0 0 [] ∷ quiet ∷ gets 3 ∷ []
unfolding computed
old_number = refl

-- one with another number, before or after the ping, is accepted and does nothing
pub wrong_number : drop 1 (shows (arrive ka ∷ pong 0 7 ∷ tick 30 7 ∷ pong 0 8 ∷ tick 40 1 ∷ leave 0 ∷ []))
    ≡ wrote 0 0 [] ∷ wrote 0 12 (ping_to 0 7) ∷ wrote 0 0 [] ∷ quiet ∷ gets 3 ∷ []
unfolding computed
wrong_number = refl

-- one that comes late finds its client gone, 3; and 0 is no ping number, 7
pub late : drop 3 (shows (arrive ka ∷ tick 30 7 ∷ tick 40 8 ∷ pong 0 7 ∷ arrive ka ∷ pong 0 0 ∷ [])) ≡ gets 3 ∷ took 0 ∷ gets 7 ∷ []
unfolding computed
late = refl

-- no other packet is an answer: a ping of its own with the same number, a request, out of band to itself
pub other_packets : drop 5 (shows (arrive ka ∷ tick 30 7 ∷ ping 0 7 ∷ ask 0 kb ∷ packet_call 0 (6 ∷ (ka ++ (1 ∷ []))) ∷ tick 40 8 ∷ leave 0 ∷ [])) ≡ quiet ∷ gets 3 ∷ []
unfolding computed
other_packets = refl

-- one client's pong does not answer another's ping
pub anothers_pong : drop 3 (shows (arrive ka ∷ arrive kb ∷ tick 30 7 ∷ pong 1 7 ∷ tick 40 8 ∷ leave 0 ∷ probe 1 ∷ [])) ≡ wrote 1 0 [] ∷ quiet ∷ gets 3 ∷ gets 4 ∷ []
unfolding computed
anothers_pong = refl

-- ---- "leaves as if it had called"

-- KA's 16 is for KB, and KB's 17 for KA
unfoldable pub connected : List Call
connected = arrive ka ∷ arrive kb ∷ ask 0 kb ∷ ask 1 kc ∷ ask 1 ka ∷ []

-- both are pinged, in rising order; KB answers; KA is put out, and KB is told with its own number. Its request goes on waiting, 9; KA comes back, and both are told
-- connected when it asks again
pub put_out_tells : drop 5 (shows (connected ++ (tick 30 7 ∷ pong 1 7 ∷ tick 40 8 ∷ packet_call 1 (0x11 ∷ 1 ∷ []) ∷ arrive ka ∷ ask 0 kb ∷ [])))
    ≡ wrote 0 24 (ping_to 0 7 ++ ping_to 1 7) ∷ wrote 1 0 [] ∷ wrote 0 5 (lost 1 0x11) ∷ gets 9 ∷ took 0
    ∷ wrote 0 47 ((0 ∷ 0 ∷ 0x22 ∷ 1 ∷ 0x10 ∷ kb) ++ (0 ∷ 0 ∷ 2 ∷ 2 ∷ 0x10 ∷ 1 ∷ 0 ∷ 2 ∷ 2 ∷ 0x11 ∷ [])) ∷ []
unfolding computed connected
put_out_tells = refl

-- two connected clients that one tick puts out: the lower goes first and tells the higher, which goes next and has nobody to tell
pub both_put_out : drop 6 (shows (connected ++ (tick 30 7 ∷ tick 40 8 ∷ leave 0 ∷ leave 1 ∷ []))) ≡ wrote 0 5 (lost 1 0x11) ∷ gets 3 ∷ gets 3 ∷ []
unfolding computed connected
both_put_out = refl

-- ---- "First, in rising seat order", "Then every remaining seat"

-- KC, which arrives at 10, is connected with KA by its 16 and with KB by its 17
unfoldable pub three : List Call
three = arrive ka ∷ arrive kb ∷ tick 10 1 ∷ arrive kc ∷ ask 0 kc ∷ ask 1 kc ∷ ask 2 ka ∷ ask 2 kb ∷ []

-- at 30 KA and KB are pinged; at 40 KA goes, then KB, and each tells KC; then KC is pinged
pub departures_then_pings : drop 8 (shows (three ++ (tick 30 7 ∷ tick 40 8 ∷ [])))
    ≡ wrote 0 24 (ping_to 0 7 ++ ping_to 1 7) ∷ wrote 0 22 (lost 2 0x10 ++ (lost 2 0x11 ++ ping_to 2 8)) ∷ []
unfolding computed three
departures_then_pings = refl

-- the seats that are emptied are the lowest that an arrival takes
pub seats_emptied : drop 10 (shows (three ++ (tick 30 7 ∷ tick 40 8 ∷ arrive kb ∷ arrive ka ∷ []))) ≡ took 0 ∷ took 1 ∷ []
unfolding computed three
seats_emptied = refl

-- ---- the same, by what has happened

abbrev pub begin : Start
begin = from_empty small

unfoldable pub after : List Call → Past
after calls = past_after [] (happens small calls)

-- whom the tick at 40 puts out, in rising seat order; a refused one nobody
pub who_is_put_out : (put_out begin (after (three ++ (tick 30 7 ∷ []))) (tick 40 8) (accepted 0 22) ≡ ka ∷ kb ∷ [])
    × (put_out begin (after (three ++ (tick 30 7 ∷ []))) (tick 39 8) (accepted 0 0) ≡ [])
    × (put_out begin (after (three ++ (tick 30 7 ∷ []))) (tick 40 0) (refused ZeroPing) ≡ [])
unfolding computed three after
who_is_put_out = (refl, refl, refl)

-- who sits where then, the clock, and the pings: of an empty seat none is outstanding
unfoldable pub then : Past
then = after (three ++ (tick 30 7 ∷ tick 40 8 ∷ tick 39 9 ∷ []))

pub sits_then : (sitter begin then 0 ≡ nobody) × (sitter begin then 1 ≡ nobody) × (sitter begin then 2 ≡ client_of kc) × (clock_of begin then ≡ 40)
unfolding computed three after then
sits_then = (refl, refl, refl, refl)

pub pings_then : (ping_of begin then 0 ≡ none_since 0) × (ping_of begin then 2 ≡ record { time = 40; number = 8 })
unfolding computed three after then
pings_then = (refl, refl)

-- "A request stands [..] until its number is dropped or its client leaves.": KA's for KC does not stand any more, KC's for KA does
pub stands_then : (stands begin then ka 0x10 kc ≡ false) × (stands begin then kc 0x10 ka ≡ true)
unfolding computed three after then
stands_then = (refl, refl)

-- a disconnect notification is no ping: KB answered at 30, and at 40 it is told that KA is gone
pub notice_is_no_ping : ping_of begin (after (connected ++ (tick 30 7 ∷ pong 1 7 ∷ tick 40 8 ∷ []))) 1 ≡ none_since 30
unfolding computed connected after
notice_is_no_ping = refl

-- KA's ping, before and after a pong with another number and the right one
pub ping_stands : ping_of begin (after (arrive ka ∷ tick 30 7 ∷ tick 35 8 ∷ pong 0 8 ∷ [])) 0 ≡ record { time = 30; number = 7 }
unfolding computed after
ping_stands = refl

pub ping_answered_lem : ping_of begin (after (arrive ka ∷ tick 30 7 ∷ tick 35 8 ∷ pong 0 7 ∷ [])) 0 ≡ none_since 30
unfolding computed after
ping_answered_lem = refl

pub arrival_ping : ping_of begin (after (tick 20 1 ∷ arrive ka ∷ [])) 0 ≡ none_since 20
unfolding computed after
arrival_ping = refl

-- ---- "A ping time after the clock makes a room not whole."

unfoldable pub pinged_at1 : Held
pinged_at1 = set_ping (newcomer small 0 ka) (none_since 1)

-- the clock is 0
unfoldable pub early : Room
early = set_seats (empty_room small) (holds pinged_at1 ∷ vacant ∷ vacant ∷ [])

pub ping_after_clock : Whole small early → ⊥
unfolding seat_at empty_room early pinged_at1
ping_after_clock whole = let h = whole.ping_times 0 pinged_at1 refl in omega arith
