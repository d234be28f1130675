-- Document 02, "One call when a laptop comes back", in a room of three seats with two numbers: facts of the definitions, each by computation, with the answers and
-- the bytes of every record. A client that arrives where it sits has left first: its peers are told, in rising number; it takes the lowest empty seat, in a full
-- room its own; it has no routes, and its ping time is the clock. And the same by what has happened. Assumes nothing.
use mathlib.Core.Path.{◌≡◌, refl}
use mathlib.Core.Bool.{true, false}
use mathlib.Core.List.{List, [], ◌∷◌, ◌++◌}
use lib.ListN.{drop}
use Rattle.rules.specs.Room.{none_since}
use Rattle.refusal.specs.declared.Refusal.TheVariants.{RoomFull, AlreadySeated}
use Rattle.rules.specs.Call.{Call, arrive, leave, packet_call, tick, accepted, refused, needed}
use Rattle.rules.specs.Accepted.{is_given, all_given}
use Rattle.rules.specs.Transcript.{nobody, client_of, ping_of, sitter, is_seated, stands}
use Rattle.rules.proofs.Computed.{ka, kb, kc, wrote, took, gets, ask}
use Rattle.rules.proofs.AComputedTicks.{shows, quiet, ping_to, lost, probe, computed, connected, begin, after}

-- "arrival checks 10 (2,048)"
pub arrival_output_needed : needed (arrive ka) ≡ 2048
arrival_output_needed = refl

-- ---- "P3 becomes seat 0, 0 bytes."

-- without peers, and twice in a row
pub comes_back_alone : shows (arrive ka ∷ arrive ka ∷ arrive ka ∷ arrive kb ∷ []) ≡ took 0 ∷ took 0 ∷ took 0 ∷ took 1 ∷ []
unfolding computed
comes_back_alone = refl

-- ---- "1 is given only to a key not seated"

pub comes_back_full : drop 3 (shows (arrive ka ∷ arrive kb ∷ arrive kc ∷ arrive kb ∷ arrive [] ∷ [])) ≡ took 1 ∷ gets 1 ∷ []
unfolding computed
comes_back_full = refl

-- ---- "takes the lowest empty seat"

-- KA has left: KC, which sat in seat 2, sits in seat 0 then, and its old seat is empty
pub comes_back_lower : drop 4 (shows (arrive ka ∷ arrive kb ∷ arrive kc ∷ leave 0 ∷ arrive kc ∷ probe 2 ∷ probe 0 ∷ arrive ka ∷ [])) ≡ took 0 ∷ gets 3 ∷ gets 4 ∷ took 2 ∷ []
unfolding computed
comes_back_lower = refl

-- ---- "notices and all"

-- KA's 16 is for KB, and KB's 17 for KA: KB is told with its own number, and its request goes on waiting, 9
pub comes_back_told : drop 5 (shows (connected ++ (arrive ka ∷ packet_call 1 (0x11 ∷ 1 ∷ []) ∷ []))) ≡ wrote 0 5 (lost 1 0x11) ∷ gets 9 ∷ []
unfolding computed connected
comes_back_told = refl

-- and once KA asks again, both are told connected
pub comes_back_asks : drop 6 (shows (connected ++ (arrive ka ∷ ask 0 kb ∷ [])))
    ≡ wrote 0 47 ((0 ∷ 0 ∷ 0x22 ∷ 1 ∷ 0x10 ∷ kb) ++ (0 ∷ 0 ∷ 2 ∷ 2 ∷ 0x10 ∷ 1 ∷ 0 ∷ 2 ∷ 2 ∷ 0x11 ∷ [])) ∷ []
unfolding computed connected
comes_back_asks = refl

-- two peers, in rising number: KA's 16 is for KC in seat 2, its 17 for KB in seat 1
pub comes_back_in_order : drop 7 (shows (arrive ka ∷ arrive kb ∷ arrive kc ∷ ask 0 kc ∷ ask 0 kb ∷ ask 2 ka ∷ ask 1 ka ∷ arrive ka ∷ []))
    ≡ wrote 0 10 (lost 2 0x10 ++ lost 1 0x10) ∷ []
unfolding computed
comes_back_in_order = refl

-- it has no routes: data on 16 is 8, and 16 is the lowest free number
pub comes_back_without_routes : drop 2 (shows (arrive ka ∷ ask 0 kb ∷ arrive ka ∷ packet_call 0 (0x10 ∷ 1 ∷ []) ∷ ask 0 kc ∷ []))
    ≡ took 0 ∷ gets 8 ∷ wrote 0 37 (0 ∷ 0 ∷ 0x22 ∷ 1 ∷ 0x10 ∷ kc) ∷ []
unfolding computed
comes_back_without_routes = refl

-- ---- "An arrival starts with the last clock as its ping time."

-- pinged at 30, it comes back at 35: it is not put out at 45, and pinged at 65, not at 64
pub comes_back_pinged : drop 2 (shows (arrive ka ∷ tick 30 7 ∷ tick 35 1 ∷ arrive ka ∷ tick 45 1 ∷ probe 0 ∷ tick 64 1 ∷ tick 65 9 ∷ []))
    ≡ quiet ∷ took 0 ∷ quiet ∷ gets 4 ∷ quiet ∷ wrote 0 12 (ping_to 0 9) ∷ []
unfolding computed
comes_back_pinged = refl

-- ---- the same, by what has happened

-- KC moves from seat 2 to seat 0: it sits there alone, none of its requests stands, and no ping is outstanding in either seat
unfoldable pub moved : List Call
moved = arrive ka ∷ arrive kb ∷ arrive kc ∷ ask 2 kb ∷ ask 1 kc ∷ tick 30 7 ∷ leave 0 ∷ tick 35 8 ∷ arrive kc ∷ []

pub moved_sits : (sitter begin (after moved) 0 ≡ client_of kc) × (sitter begin (after moved) 1 ≡ client_of kb) × (sitter begin (after moved) 2 ≡ nobody)
unfolding computed after moved
moved_sits = (refl, refl, refl)

pub moved_pings : (ping_of begin (after moved) 0 ≡ none_since 35) × (ping_of begin (after moved) 1 ≡ record { time = 30; number = 7 }) × (ping_of begin (after moved) 2 ≡ none_since 0)
unfolding computed after moved
moved_pings = (refl, refl, refl)

-- in its own seat too: KA is pinged at 30 and comes back at 35
pub stayed_ping : ping_of begin (after (arrive ka ∷ tick 30 7 ∷ tick 35 8 ∷ arrive ka ∷ [])) 0 ≡ none_since 35
unfolding computed after
stayed_ping = refl

-- KB's request for KC goes on waiting
pub moved_stands : (stands begin (after moved) kc 0x10 kb ≡ false) × (stands begin (after moved) kb 0x10 kc ≡ true)
unfolding computed after moved
moved_stands = (refl, refl)

pub moved_seated : (is_seated begin (after moved) kc ≡ true) × (is_seated begin (after moved) ka ≡ false)
unfolding computed after moved
moved_seated = (refl, refl)

-- ---- "2 is retired"

pub two_retired : (is_given (refused AlreadySeated) ≡ false) × (is_given (refused RoomFull) ≡ true) × (is_given (accepted 2 2) ≡ true)
unfolding is_given
two_retired = (refl, refl, refl)

-- one such answer is told among others
pub two_told : all_given (record { call = arrive ka; answer = accepted 0 0; sent = [] } ∷ record { call = arrive ka; answer = refused AlreadySeated; sent = [] } ∷ []) ≡ false
unfolding is_given all_given
two_told = refl
