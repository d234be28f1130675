-- What a tick is answered and does, and what a pong does, at one moment: `rules`' history of three clients (`AComputedTicks.antt`). KA and KB sit in seats 0 and 1
-- and were pinged at 30 with the number 7; KC, who came at 10, sits in seat 2 and names both. The clock is 30. Assumes nothing.
use mathlib.Core.Path.{◌≡◌, refl, sym, ap, ◌∙◌}
use mathlib.Core.Bool.{true, false, cond}
use mathlib.Core.List.{List, [], ◌∷◌, ◌++◌}
use mathlib.Core.Logic.{◌≢◌}
use Prim.Native.Nat.{ℕ}
use native.Mathlib.Omega.{arith}
use lib.Dec.{eqb}
use lib.ListN.{length}
use borrow.Author.Tests.{ne_eqb}
use Rattle.refusal.specs.declared.Refusal.TheVariants.{ZeroPing, ClockBack}
use Rattle.key.specs.Keys.{same_key}
use Rattle.packet_laws.specs.FromRelay as relay
use Rattle.rules.specs.Room.{Ping, Room, none_since, empty_room}
use Rattle.rules.specs.Whole.{Whole}
use Rattle.rules.specs.Call.{Call, arrive, leave, tick, accepted, refused, Sent}
use Rattle.rules.specs.Outcome.{sent_bytes, to, outcome, room_after}
use Rattle.rules.specs.History.{Event, event}
use Rattle.rules.specs.Transcript.{Past, nobody, client_of, clock_of, ping_of, ping_sent_to, sitter, stands}
use Rattle.rules.specs.After.{room_after_all, Tied}
use Rattle.after_calls.specs.PingAndOutOfBand.{PongDoes}
use Rattle.after_calls.specs.Told.{LeaveTells}
use Rattle.after_calls.specs.Ticks.{TickAnswered, zero_ping, clock_back, ticks, AsBefore, Overdue, Due, nobody_sat, it_left, leave_event, LeavesFrom, PingsFrom, done, leaves, pings, passes, TickDoes}
use Rattle.rules.proofs.Computed.{ka, kb, kc}
use Rattle.rules.proofs.AComputedTicks.{small, begin, connected, three, after, pong, computed}
use Rattle.rules.proofs.Whole.{whole_after, whole_from_empty}
use Rattle.rules.proofs.Tied.{either, tied_after, tied_from_empty}
use Rattle.after_calls.proofs.Told.{leave_tells}

unfoldable pub calls : List Call
calls = three ++ (tick 30 7 ∷ [])

unfoldable pub past30 : Past
past30 = after calls

unfoldable pub room30 : Room
room30 = room_after_all small (empty_room small) calls

-- a tick then
unfoldable pub ticking : ℕ → ℕ → Event
ticking time number = event room30 (tick time number)

unfoldable pub moment : Unit {0}
unfolding computed room_after_all three after calls past30 room30 ticking
moment = tt

-- the clock, the ping of each seat and who sits there, by computation
pub clock_then : clock_of begin past30 ≡ 30
unfolding moment
clock_then = refl

pub pings_then : (ping_of begin past30 0 ≡ record { time = 30; number = 7 }) × (ping_of begin past30 1 ≡ record { time = 30; number = 7 }) × (ping_of begin past30 2 ≡ none_since 10)
unfolding moment
pings_then = (refl, refl, refl)

pub sits_then : (sitter begin past30 0 ≡ client_of ka) × (sitter begin past30 2 ≡ client_of kc) × (sitter begin past30 3 ≡ nobody)
unfolding moment
sits_then = (refl, refl, refl)

-- ---- what it is answered: 7 before 19, and the same time is not before the clock. The one at 40 writes 22 bytes

pub answers_then : ((ticking 29 0).answer ≡ refused ZeroPing) × ((ticking 29 8).answer ≡ refused ClockBack) × ((ticking 30 8).answer ≡ accepted 0 0) × ((ticking 40 8).answer ≡ accepted 0 22)
unfolding moment
answers_then = (refl, refl, refl, refl)

pub written_then : (length (sent_bytes (ticking 30 8).sent) ≡ 0) × (length (sent_bytes (ticking 40 8).sent) ≡ 22)
unfolding moment
written_then = (refl, refl)

pub zero_ping_lem : TickAnswered begin past30 29 0 (ticking 29 0)
zero_ping_lem = zero_ping refl answers_then.0

pub clock_back_lem : TickAnswered begin past30 29 8 (ticking 29 8)
clock_back_lem = clock_back (λ q. omega arith) (omega (arith, clock_then)) answers_then.1

pub same_time : TickAnswered begin past30 30 8 (ticking 30 8)
same_time = ticks (λ q. omega arith) (omega (arith, clock_then)) (answers_then.2 ∙ ap (accepted 0) (sym written_then.0))

pub at_40 : TickAnswered begin past30 40 8 (ticking 40 8)
at_40 = ticks (λ q. omega arith) (omega (arith, clock_then)) (answers_then.3 ∙ ap (accepted 0) (sym written_then.1))

-- ---- "whose ping has stood unanswered for 10 seconds or more"

pub overdue_at_40 : Overdue begin past30 40 0
overdue_at_40 = record { outstanding = rw pings_then.0 (λ q. omega arith); old = rw pings_then.0 (omega arith) }

pub not_at_39 : Overdue begin past30 39 0 → ⊥
not_at_39 o = let h = rw pings_then.0 at o.old in omega arith

-- KC has none outstanding
pub never_pinged : Overdue begin past30 40 2 → ⊥
never_pinged o = o.outstanding (rw pings_then.2)

-- ---- "with none outstanding, last pinged 30 seconds ago or more"

pub due_at_40 : Due begin past30 40 2
due_at_40 = record { key = kc; sits = rw sits_then.1; none_outstanding = rw pings_then.2; old = rw pings_then.2 (omega arith) }

pub not_due_at_39 : Due begin past30 39 2 → ⊥
not_due_at_39 d = let h = rw pings_then.2 at d.old in omega arith

-- KA and KB have one outstanding, and nobody sits in seat 3
pub outstanding_not_due : (time : ℕ) → Due begin past30 time 0 → ⊥
outstanding_not_due time d = let h = rw pings_then.0 at d.none_outstanding in omega arith

pub second_not_due : (time : ℕ) → Due begin past30 time 1 → ⊥
second_not_due time d = let h = rw pings_then.1 at d.none_outstanding in omega arith

pub nobody_not_due : (time : ℕ) → Due begin past30 time 3 → ⊥
nobody_not_due time d = let h = d.sits in let e = sits_then.2 in absurd (cc)

-- ---- what is said of the tick at 40, of each of the seats

module _ (does : TickDoes small begin past30 40 8 (ticking 40 8)) where
  abbrev pub now : Past
  now = ticking 40 8 ∷ past30

  pub says_clock : clock_of begin now ≡ 40
  says_clock = does.clock

  -- KA is gone, and its request for KC stands no more
  pub says_gone : sitter begin now 0 ≡ nobody
  says_gone = (does.leaves.empty 0).1 (it_left overdue_at_40)

  pub says_ended : stands begin now ka 16 kc ≡ false
  says_ended = does.leaves.ended 0 ka sits_then.0 overdue_at_40 16 kc

  pub says_left : ping_of begin now 0 ≡ none_since 0
  says_left = does.pings.left 0 overdue_at_40

  -- KC stays, is pinged, and its request for KA stands
  pub says_stays : sitter begin now 2 ≡ sitter begin past30 2
  says_stays = does.leaves.stays 2 never_pinged

  pub says_sent : ping_sent_to 2 (ticking 40 8).sent ≡ true
  says_sent = (does.pings.told 2).1 due_at_40

  pub says_pinged : ping_of begin now 2 ≡ record { time = 40; number = 8 }
  says_pinged = does.pings.pinged 2 due_at_40

  -- nobody was in seat 3
  pub says_empty : sitter begin now 3 ≡ nobody
  says_empty = (does.leaves.empty 3).1 (nobody_sat sits_then.2)

-- ---- the pings that are sent, in rising seat order

pub pings_at_40 : PingsFrom begin past30 40 8 0 3 (to 2 (relay.ping 8) ∷ [])
pings_at_40 = passes (outstanding_not_due 40) (passes (second_not_due 40) (pings due_at_40 done))

-- those of the tick at 30, when KA and KB had none outstanding since they came
pub pings_before : (ping_of begin (after three) 0 ≡ none_since 0) × (ping_of begin (after three) 1 ≡ none_since 0) × (ping_of begin (after three) 2 ≡ none_since 10)
unfolding moment
pings_before = (refl, refl, refl)

pub sits_before : (sitter begin (after three) 0 ≡ client_of ka) × (sitter begin (after three) 1 ≡ client_of kb)
unfolding moment
sits_before = (refl, refl)

pub pings_at_30 : PingsFrom begin (after three) 30 7 0 3 (to 0 (relay.ping 7) ∷ to 1 (relay.ping 7) ∷ [])
pings_at_30 = pings first (pings second (passes third done))
  where
    first : Due begin (after three) 30 0
    first = record { key = ka; sits = sits_before.0; none_outstanding = rw pings_before.0; old = rw pings_before.0 (omega arith) }

    second : Due begin (after three) 30 1
    second = record { key = kb; sits = sits_before.1; none_outstanding = rw pings_before.1; old = rw pings_before.1 (omega arith) }

    third : Due begin (after three) 30 2 → ⊥
    third d = let h = rw pings_before.2 at d.old in omega arith

-- ---- "leaves as if it had called": the clients in seats 0 and 1 were pinged at 30, and the tick at 40 puts both out, one after the other

unfoldable pub room_by : List Call → Room
room_by made = room_after_all small (empty_room small) made

-- when the first has left
unfoldable pub room_then : List Call → Room
room_then made = room_after small (room_by made) (outcome (room_by made) (leave 0))

module _ (made : List Call) where
  whole_by : Whole small (room_by made)
  unfolding room_by
  whole_by = whole_from_empty small made

  tied_by : Tied begin (after made) (room_by made)
  unfolding room_by after
  tied_by = tied_from_empty small made

  -- what each tells, by the Leave calls one after the other
  first_tells : LeaveTells small begin (after made) 0 (event (room_by made) (leave 0)).sent
  first_tells = leave_tells small begin (after made) (room_by made) whole_by tied_by 0

  second_tells : LeaveTells small begin (event (room_by made) (leave 0) ∷ after made) 1 (event (room_then made) (leave 1)).sent
  unfolding room_then
  second_tells =
      leave_tells small begin (event (room_by made) (leave 0) ∷ after made) (room_then made) (whole_after small (room_by made) whole_by (leave 0))
      (tied_after small begin (after made) (room_by made) whole_by tied_by (leave 0)) 1

  out : (seat : ℕ) → ping_of begin (after made) seat ≡ record { time = 30; number = 7 } → Overdue begin (after made) 40 seat
  out seat e = record { outstanding = rw e (λ q. omega arith); old = rw e (omega arith) }

  pub two_leave : (front back : List Sent)
      → (ping_of begin (after made) 0 ≡ record { time = 30; number = 7 }) × (ping_of begin (after made) 1 ≡ record { time = 30; number = 7 })
      → event (room_by made) (leave 0) ≡ leave_event 0 front → (event (room_then made) (leave 1)).sent ≡ back
      → LeavesFrom small begin (after made) 40 (after made) 0 2 (front ++ (back ++ []))
  two_leave front back pinged e f = leaves front (out 0 pinged.0) (rw e at first_tells) (leaves back (out 1 pinged.1) (rw (e, f) at second_tells) done)

-- KA and KB are connected, KA's 16 with KB's 17: KA goes first and tells KB; when KB goes there is nobody to tell
unfoldable pub pair : List Call
pair = connected ++ (tick 30 7 ∷ [])

pub both_leave : LeavesFrom small begin (after pair) 40 (after pair) 0 2 (to 1 (relay.disconnect_notice 17) ∷ [])
unfolding moment connected pair room_by room_then
both_leave = two_leave pair (to 1 (relay.disconnect_notice 17) ∷ []) [] (refl, refl) refl refl

-- KA's and KB's requests for KC stand, and KC's for both: each tells KC, KA first
pub both_tell : LeavesFrom small begin (after calls) 40 (after calls) 0 2 (to 2 (relay.disconnect_notice 16) ∷ to 2 (relay.disconnect_notice 17) ∷ [])
unfolding moment room_by room_then
both_tell = two_leave calls (to 2 (relay.disconnect_notice 16) ∷ []) (to 2 (relay.disconnect_notice 17) ∷ []) (refl, refl) refl refl

-- ---- "A pong with the outstanding number clears it; other pongs do nothing." Of KA, alone in the room and pinged at 30, at 35

-- what a call of seat 0 does to another seat
pub another_seat : (other : ℕ) → other ≢ 0 → (x y : Ping) → cond (eqb 0 other) x y ≡ y
another_seat other apart x y = rw (ne_eqb 0 other (λ q. apart (sym q)))

unfoldable pub alone : List Call
alone = arrive ka ∷ tick 30 7 ∷ tick 35 9 ∷ []

unfoldable pub past35 : Past
past35 = after alone

unfoldable pub room35 : Room
room35 = room_after_all small (empty_room small) alone

unfoldable pub ponging : ℕ → Event
ponging n = event room35 (pong 0 n)

pub right_pong : PongDoes begin past35 0 7 (ponging 7)
unfolding moment alone past35 room35 ponging
right_pong = record {
  clears = λ q. refl;
  others = λ q. absurd (q refl);
  elsewhere = λ other apart. another_seat other apart _ _;
  clock = refl;
  seats = λ here. refl;
  requests = λ asker number wanted. either (same_key ka asker) _;
}

pub wrong_pong : PongDoes begin past35 0 8 (ponging 8)
unfolding moment alone past35 room35 ponging
wrong_pong = record {
  clears = λ q. absurd (omega arith);
  others = λ q. refl;
  elsewhere = λ other apart. another_seat other apart _ _;
  clock = refl;
  seats = λ here. refl;
  requests = λ asker number wanted. either (same_key ka asker) _;
}

-- ---- a tick that is refused does nothing: one that would put KA out, but for its number 0

pub refused_does_nothing : AsBefore begin past35 (event room35 (tick 40 0))
unfolding moment alone past35 room35
refused_does_nothing = record { sent = refl; clock = refl; seats = λ seat. refl; pings = λ seat. refl; requests = λ key number wanted. refl }
