-- Document 01, "Examples" and "Errors that students make", as far as they speak of the room: facts of the definitions at 40 seats and 32 numbers, each by
-- computation. P1 to P11; the bounds of requests, arrivals, out-of-band packets and data; data goes on under the receiver's number; nothing goes to who took the
-- seat of a client that left; a disconnect leaves the peer's request standing. And one history each for sentences of "The room" and "Refusal numbers" that these
-- do not meet: ping and pong, a request made twice, a client's own key, notifications between clients whose numbers differ, a leave with two peers, and refusals
-- 3 before 4, 4, 5 and a drop's 8. With document 02's P3, and a seated key that arrives in a full room. Assumes nothing.
use mathlib.Core.Path.{◌≡◌, refl}
use mathlib.Core.Bool.{true}
use mathlib.Core.List.{List, [], ◌∷◌, ◌++◌}
use Prim.Native.Nat.{ℕ, zero, suc}
use lib.ListN.{replicate, drop}
use Rattle.rules.specs.Room.{Key, base_sizes}
use Rattle.rules.specs.Call.{Call, arrive, leave, packet_call}
use Rattle.rules.specs.History.{happens}
use Rattle.rules.specs.Transcript.{from_empty, stands}
use Rattle.rules.specs.After.{past_after}
use Rattle.rules.proofs.Computed.{ka, kb, kc, opened, Shown, wrote, show, show_all, took, gets, ask}

-- what calls show, from the empty room
shows : List Call → List Shown
shows calls = show_all (happens base_sizes calls)

-- ---- P1 to P9, with P8 after P4 and after P5

-- "10 61 62", "data on 11 hex"
data10 : ℕ → Call
data10 seat = packet_call seat (0x10 ∷ 0x61 ∷ 0x62 ∷ [])

data11 : ℕ → Call
data11 seat = packet_call seat (0x11 ∷ 0x61 ∷ 0x62 ∷ [])

-- "P3 becomes seat 0, 0 bytes." The calls in this order: P1, P2, P3; P4, P7, P8; P5, P6, P8; P9 in three
p1_to_p9 : shows (arrive ka ∷ arrive kb ∷ arrive ka ∷ ask 0 kb ∷ data10 0 ∷ data11 0 ∷ ask 1 ka ∷ data10 0 ∷ data11 0 ∷ leave 0 ∷ arrive kc ∷ data10 1 ∷ [])
    ≡ took 0 ∷ took 1 ∷ took 0
    ∷ wrote 0 37 (0 ∷ 0 ∷ 0x22 ∷ 1 ∷ 0x10 ∷ kb) ∷ gets 9 ∷ gets 8
    ∷ wrote 1 47 ((1 ∷ 0 ∷ 0x22 ∷ 1 ∷ 0x10 ∷ ka) ++ (1 ∷ 0 ∷ 2 ∷ 2 ∷ 0x10 ∷ 0 ∷ 0 ∷ 2 ∷ 2 ∷ 0x10 ∷ []))
    ∷ wrote 0 6 (1 ∷ 0 ∷ 3 ∷ 0x10 ∷ 0x61 ∷ 0x62 ∷ []) ∷ gets 8
    ∷ wrote 0 5 (1 ∷ 0 ∷ 2 ∷ 3 ∷ 0x10 ∷ []) ∷ took 0 ∷ gets 9 ∷ []
unfolding opened shows show_all show took gets ask data10 data11
p1_to_p9 = refl

-- ---- P10 and P11, for a seated client

p10_and_p11 : shows (arrive ka ∷ packet_call 0 (4 ∷ replicate 8 0) ∷ packet_call 0 (0x10 ∷ []) ∷ []) ≡ took 0 ∷ gets 7 ∷ gets 6 ∷ []
unfolding opened shows show_all show took gets
p10_and_p11 = refl

-- ---- "32nd request numbered 47; 33rd answered 0."

-- requests of seat 0 for so many keys: 32 bytes of the first number, 32 of the next, .. From 64 on none of them is KA's own, whose bytes are 17
ask_all : ℕ → ℕ → List Call
ask_all first zero = []
ask_all first (suc many) = ask 0 (replicate 32 first) ∷ ask_all (suc first) many

request_33 : drop 32 (shows (arrive ka ∷ ask_all 64 33))
    ≡ wrote 0 37 (0 ∷ 0 ∷ 0x22 ∷ 1 ∷ 47 ∷ replicate 32 95) ∷ wrote 0 37 (0 ∷ 0 ∷ 0x22 ∷ 1 ∷ 0 ∷ replicate 32 96) ∷ []
unfolding opened shows show_all show ask ask_all
request_33 = refl

-- ---- "40th arrival accepted; 41st refused with 1."

arrive_all : ℕ → ℕ → List Call
arrive_all first zero = []
arrive_all first (suc many) = arrive (replicate 32 first) ∷ arrive_all (suc first) many

arrival_41 : drop 39 (shows (arrive_all 0 41)) ≡ took 39 ∷ gets 1 ∷ []
unfolding opened shows show_all show took gets arrive_all
arrival_41 = refl

-- ---- "Out-of-band of 34 and 1,057 bytes accepted; 33 and 1,058 refused with 6. Packet of 2,032 data accepted; 2,033 refused with 4."

-- out of band to a key, so many bytes 61
out_of_band : ℕ → Key → ℕ → Call
out_of_band seat key many = packet_call seat (6 ∷ (key ++ replicate many 0x61))

-- the sender's key is put in
out_of_band_bounds : drop 2 (shows (arrive ka ∷ arrive kb ∷ out_of_band 0 kb 1 ∷ out_of_band 0 kb 1024 ∷ out_of_band 0 kb 0 ∷ out_of_band 0 kb 1025 ∷ []))
    ≡ wrote 0 37 (1 ∷ 0 ∷ 0x22 ∷ 7 ∷ (ka ++ replicate 1 0x61)) ∷ wrote 0 1060 (1 ∷ 0x04 ∷ 0x21 ∷ 7 ∷ (ka ++ replicate 1024 0x61)) ∷ gets 6 ∷ gets 6 ∷ []
unfolding opened shows show_all show gets out_of_band
out_of_band_bounds = refl

-- "the sender included", and "With no such seat it is accepted and nothing is sent"
out_of_band_seats : drop 1 (shows (arrive ka ∷ out_of_band 0 ka 1 ∷ out_of_band 0 kb 1 ∷ [])) ≡ wrote 0 37 (0 ∷ 0 ∷ 0x22 ∷ 7 ∷ (ka ++ replicate 1 0x61)) ∷ wrote 0 0 [] ∷ []
unfolding opened shows show_all show out_of_band
out_of_band_seats = refl

data_bounds : drop 4 (shows (arrive ka ∷ arrive kb ∷ ask 0 kb ∷ ask 1 ka ∷ packet_call 0 (0x10 ∷ replicate 2031 0x61) ∷ packet_call 0 (0x10 ∷ replicate 2032 0x61) ∷ []))
    ≡ wrote 0 2035 (1 ∷ 0x07 ∷ 0xf0 ∷ 0x10 ∷ replicate 2031 0x61) ∷ gets 4 ∷ []
unfolding opened shows show_all show gets ask
data_bounds = refl

-- ---- "Ping sends the asker a pong with the same number. Pong does nothing."

ping_and_pong : drop 1 (shows (arrive ka ∷ packet_call 0 (4 ∷ replicate 8 0x61) ∷ packet_call 0 (5 ∷ replicate 8 0x61) ∷ []))
    ≡ wrote 0 12 (0 ∷ 0 ∷ 9 ∷ 5 ∷ replicate 8 0x61) ∷ wrote 0 0 [] ∷ []
unfolding opened shows show_all show
ping_and_pong = refl

-- ---- "a key already named by this seat gets its old number again and nothing else happens", here of a connected one

asked_twice : drop 4 (shows (arrive ka ∷ arrive kb ∷ ask 0 kb ∷ ask 1 ka ∷ ask 0 kb ∷ [])) ≡ wrote 0 37 (0 ∷ 0 ∷ 0x22 ∷ 1 ∷ 0x10 ∷ kb) ∷ []
unfolding opened shows show_all show ask
asked_twice = refl

-- ---- a client that asks for its own key: "The answer becomes 0 and no route is taken"

answered_zero : Shown
answered_zero = wrote 0 37 (0 ∷ 0 ∷ 0x22 ∷ 1 ∷ 0 ∷ ka)

-- on an empty table, and again: number 16 stays free, data on it is 8, and the next key gets it
own_key_on_empty : drop 1 (shows (arrive ka ∷ ask 0 ka ∷ ask 0 ka ∷ data10 0 ∷ ask 0 kb ∷ []))
    ≡ answered_zero ∷ answered_zero ∷ gets 8 ∷ wrote 0 37 (0 ∷ 0 ∷ 0x22 ∷ 1 ∷ 0x10 ∷ kb) ∷ []
unfolding opened shows show_all show gets ask data10 answered_zero
own_key_on_empty = refl

-- between two others, which get 16 and 17
own_key_on_thin : drop 2 (shows (arrive ka ∷ ask 0 kb ∷ ask 0 ka ∷ ask 0 kc ∷ [])) ≡ answered_zero ∷ wrote 0 37 (0 ∷ 0 ∷ 0x22 ∷ 1 ∷ 0x11 ∷ kc) ∷ []
unfolding opened shows show_all show ask answered_zero
own_key_on_thin = refl

-- on a full table, where a key that it names still gets its old number
own_key_on_full : drop 33 (shows (arrive ka ∷ ask_all 64 32 ++ (ask 0 ka ∷ ask 0 (replicate 32 64) ∷ [])))
    ≡ answered_zero ∷ wrote 0 37 (0 ∷ 0 ∷ 0x22 ∷ 1 ∷ 0x10 ∷ replicate 32 64) ∷ []
unfolding opened shows show_all show ask ask_all answered_zero
own_key_on_full = refl

-- another client's key is not its own: KB, which asks for KA's while KA asks for its own, gets a number
anothers_key : drop 2 (shows (arrive ka ∷ arrive kb ∷ ask 0 ka ∷ ask 1 ka ∷ [])) ≡ answered_zero ∷ wrote 1 37 (1 ∷ 0 ∷ 0x22 ∷ 1 ∷ 0x10 ∷ ka) ∷ []
unfolding opened shows show_all show ask answered_zero
anothers_key = refl

-- ---- "each with its own number", "with the peer's own number", where the two numbers differ: KA's for KB is 18, KB's for KA is 17

numbers_differ : List Call
numbers_differ = arrive ka ∷ arrive kb ∷ ask_all 0 2 ++ (ask 0 kb ∷ ask 1 kc ∷ ask 1 ka ∷ [])

own_numbers : drop 6 (shows (numbers_differ ++ (packet_call 0 (3 ∷ 0x12 ∷ []) ∷ [])))
    ≡ wrote 1 47 ((1 ∷ 0 ∷ 0x22 ∷ 1 ∷ 0x11 ∷ ka) ++ (1 ∷ 0 ∷ 2 ∷ 2 ∷ 0x11 ∷ 0 ∷ 0 ∷ 2 ∷ 2 ∷ 0x12 ∷ []))
    ∷ wrote 0 5 (1 ∷ 0 ∷ 2 ∷ 3 ∷ 0x11 ∷ []) ∷ []
unfolding opened shows show_all show ask ask_all numbers_differ
own_numbers = refl

-- ---- "in rising route number, each connected peer is told disconnected": KA's 16 is for KC in seat 2, its 17 for KB in seat 1

leave_in_order : drop 8 (shows (arrive ka ∷ arrive kb ∷ arrive kc ∷ ask 0 kc ∷ ask 0 kb ∷ ask 2 kb ∷ ask 2 ka ∷ ask 1 ka ∷ leave 0 ∷ []))
    ≡ wrote 0 10 (2 ∷ 0 ∷ 2 ∷ 3 ∷ 0x11 ∷ 1 ∷ 0 ∷ 2 ∷ 3 ∷ 0x10 ∷ []) ∷ []
unfolding opened shows show_all show ask
leave_in_order = refl

-- ---- "1 is given only to a key not seated"; 3, and before 4; 4 and 5; 8 for a drop of a number that names no route: 15, one that is free, 48, one that was dropped

back_in_a_full_room : drop 40 (shows (arrive_all 0 40 ++ (arrive (replicate 32 39) ∷ arrive ka ∷ arrive (replicate 32 40) ∷ []))) ≡ took 39 ∷ took 17 ∷ gets 1 ∷ []
unfolding opened shows show_all show took gets arrive_all
back_in_a_full_room = refl

empty_seats : shows (leave 0 ∷ leave 40 ∷ packet_call 0 [] ∷ packet_call 40 (0 ∷ ka) ∷ []) ≡ gets 3 ∷ gets 3 ∷ gets 3 ∷ gets 3 ∷ []
unfolding opened shows show_all show gets
empty_seats = refl

not_taken : shows (arrive ka ∷ packet_call 0 [] ∷ packet_call 0 (1 ∷ []) ∷ []) ≡ took 0 ∷ gets 4 ∷ gets 5 ∷ []
unfolding opened shows show_all show took gets
not_taken = refl

dropping : ℕ → Call
dropping number = packet_call 0 (3 ∷ number ∷ [])

dropped_none : drop 2 (shows (arrive ka ∷ ask 0 kb ∷ dropping 15 ∷ dropping 17 ∷ dropping 48 ∷ dropping 16 ∷ dropping 16 ∷ [])) ≡ gets 8 ∷ gets 8 ∷ gets 8 ∷ wrote 0 0 [] ∷ gets 8 ∷ []
unfolding opened shows show_all show gets ask dropping
dropped_none = refl

-- ---- "Sending the sender's number on. If KB asked for KC first, its number for KA is 17, and P6 must show 11 hex."

receivers_number : drop 4 (shows (arrive ka ∷ arrive kb ∷ ask 1 kc ∷ ask 0 kb ∷ ask 1 ka ∷ data10 0 ∷ []))
    ≡ wrote 1 47 ((1 ∷ 0 ∷ 0x22 ∷ 1 ∷ 0x11 ∷ ka) ++ (1 ∷ 0 ∷ 2 ∷ 2 ∷ 0x11 ∷ 0 ∷ 0 ∷ 2 ∷ 2 ∷ 0x10 ∷ []))
    ∷ wrote 0 6 (1 ∷ 0 ∷ 3 ∷ 0x11 ∷ 0x61 ∷ 0x62 ∷ []) ∷ []
unfolding opened shows show_all show ask data10
receivers_number = refl

-- ---- "Keeping a link to a seat after its client left (P9)."

-- KC sits where KA sat, and KB sends data to KA
taken_over : List Call
taken_over = arrive ka ∷ arrive kb ∷ ask 0 kb ∷ ask 1 ka ∷ leave 0 ∷ arrive kc ∷ data10 1 ∷ []

no_link_to_seat : drop 5 (shows taken_over) ≡ took 0 ∷ gets 9 ∷ []
unfolding opened shows show_all show took gets ask data10 taken_over
no_link_to_seat = refl

-- ---- "Clearing the peer's request at a disconnect: when the other asks again, both must be told connected."

-- KA and KB are connected; then KA drops its number, or leaves and comes back
connected_then : List Call → List Call
connected_then calls = arrive ka ∷ arrive kb ∷ ask 0 kb ∷ ask 1 ka ∷ calls

-- KB's request for KA stands
stands_after_drop : stands (from_empty base_sizes) (past_after [] (happens base_sizes (connected_then (packet_call 0 (3 ∷ 0x10 ∷ []) ∷ [])))) kb 0x10 ka ≡ true
unfolding opened ask connected_then
stands_after_drop = refl

stands_after_leave : stands (from_empty base_sizes) (past_after [] (happens base_sizes (connected_then (leave 0 ∷ [])))) kb 0x10 ka ≡ true
unfolding opened ask connected_then
stands_after_leave = refl

-- and KA, which asks again, and KB are told connected
both_told : Shown
both_told = wrote 0 47 ((0 ∷ 0 ∷ 0x22 ∷ 1 ∷ 0x10 ∷ kb) ++ (0 ∷ 0 ∷ 2 ∷ 2 ∷ 0x10 ∷ 1 ∷ 0 ∷ 2 ∷ 2 ∷ 0x10 ∷ []))

told_after_drop : drop 4 (shows (connected_then (packet_call 0 (3 ∷ 0x10 ∷ []) ∷ ask 0 kb ∷ []))) ≡ wrote 0 5 (1 ∷ 0 ∷ 2 ∷ 3 ∷ 0x10 ∷ []) ∷ both_told ∷ []
unfolding opened shows show_all show ask connected_then both_told
told_after_drop = refl

told_after_leave : drop 4 (shows (connected_then (leave 0 ∷ arrive ka ∷ ask 0 kb ∷ []))) ≡ wrote 0 5 (1 ∷ 0 ∷ 2 ∷ 3 ∷ 0x10 ∷ []) ∷ took 0 ∷ both_told ∷ []
unfolding opened shows show_all show took ask connected_then both_told
told_after_leave = refl
