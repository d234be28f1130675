-- Demand 3 says something. Two histories of different lengths, in which another client's numbers and traffic differ, meet its conditions, and C is handed an
-- answer, a connect notification and data in them; and two more with ticks, in which C is handed a ping and is told that the other was put out. The condition
-- on 0 can't be dropped, not even for one of the two histories. And what adds nothing to the record for C, after whatever has happened: it can be in one
-- history and not in the other; and that every tick adds an entry. What of a tick's entry can't be dropped is shown in `TicksNeeded`. Assumes nothing.
use mathlib.Core.Path.{◌≡◌, refl, sym, ap, ◌∙◌}
use mathlib.Core.Bool.{Bool, true, false, true≢false}
use mathlib.Core.Logic.{◌≢◌}
use mathlib.Core.List.{List, [], ◌∷◌, ◌++◌}
use Prim.Native.Nat.{ℕ}
use native.Mathlib.Omega.{arith}
use lib.ListN.{length}
use Rattle.refusal.specs.declared.Refusal.{Refusal}
use Rattle.wire.specs.Numbers.{bytes_of}
use Rattle.key.specs.Keys.{same_key}
use Rattle.packet_laws.specs.Read.{Read}
use Rattle.packet_laws.specs.Read as read
use Rattle.packet_laws.specs.FromClient as client
use Rattle.rules.specs.Room.{Sizes, Key, base_sizes, empty_room}
use Rattle.rules.specs.Call.{Call, arrive, leave, packet_call, tick, Answer, accepted, refused}
use Rattle.rules.specs.History.{Event, transcript, happens}
use Rattle.rules.specs.Transcript.{Past, nobody, client_of, Start, from_empty, is_accepted, is_seated, put_out, maker, stands}
use Rattle.rules.specs.After.{past_after}
use Rattle.isolation.specs.Record.{Entry, arrived, own, to_c, data_for_c, ticked, entry_if, by_key, other_packet, other_call, if_accepted, made_by, of_tick, entries_by, entries, record_for, packets_for, answers_for, zero_for_c}
use Rattle.isolation.proofs.Recorded.{recorded}
use Rattle.rules.proofs.Computed.{ka, kb, kc, opened}
use Rattle.rules.proofs.Tied.{refused_puts_out}

-- ---- examples: KC is C

-- the other client's number for C is 16
short : List Call
short = arrive kc ∷ arrive ka ∷ packet_call 0 (0 ∷ ka) ∷ packet_call 1 (0 ∷ kc) ∷ packet_call 1 (0x10 ∷ 0x61 ∷ 0x62 ∷ []) ∷ []

-- it is 17, and the other client also asks for a third key, pings, and sends data on 16, which is refused
long : List Call
long =
    arrive kc ∷ arrive ka ∷ packet_call 1 (0 ∷ kb) ∷ packet_call 1 (4 ∷ bytes_of 8 7) ∷ packet_call 0 (0 ∷ ka) ∷ packet_call 1 (0 ∷ kc)
    ∷ packet_call 1 (0x10 ∷ 0x61 ∷ []) ∷ packet_call 1 (0x11 ∷ 0x61 ∷ 0x62 ∷ []) ∷ []

-- what both are for C
the_record : List Entry
the_record = arrived kc ∷ own (arrive kc) ∷ arrived ka ∷ own (packet_call 0 (0 ∷ ka)) ∷ to_c ka (packet_call 1 (0 ∷ kc)) ∷ data_for_c ka (0x61 ∷ 0x62 ∷ []) ∷ []

-- an answer to its request, a connect notification, data
the_packets : List (List ℕ)
the_packets = (1 ∷ 0x10 ∷ ka) ∷ (2 ∷ 0x10 ∷ []) ∷ (0x10 ∷ 0x61 ∷ 0x62 ∷ []) ∷ []

the_answers : List Answer
the_answers = accepted 0 0 ∷ accepted 0 37 ∷ []

record Meets (calls : List Call) (es : List Entry) (packets : List (List ℕ)) (answers : List Answer) : Type 0 where
  no_zero : zero_for_c (from_empty base_sizes) [] kc (happens base_sizes calls) ≡ false
  entered : record_for (from_empty base_sizes) [] kc (happens base_sizes calls) ≡ es
  given : packets_for (from_empty base_sizes) [] kc (happens base_sizes calls) ≡ packets
  answered : answers_for (from_empty base_sizes) [] kc (happens base_sizes calls) ≡ answers

short_meets : Meets short the_record the_packets the_answers
unfolding opened recorded short the_record the_packets the_answers
short_meets = record { no_zero = refl; entered = refl; given = refl; answered = refl }

long_meets : Meets long the_record the_packets the_answers
unfolding opened recorded long the_record the_packets the_answers
long_meets = record { no_zero = refl; entered = refl; given = refl; answered = refl }

-- of different lengths
lengths_differ : (length short ≡ 5) × (length long ≡ 8)
unfolding short long
lengths_differ = (refl, refl)

-- the other client's number for C is 16 in one and 17 in the other
numbers_differ : (stands (from_empty base_sizes) (past_after [] (happens base_sizes short)) ka 16 kc ≡ true) × (stands (from_empty base_sizes) (past_after [] (happens base_sizes long)) ka 17 kc ≡ true)
unfolding opened recorded short long
numbers_differ = (refl, refl)

-- ---- examples with ticks

-- C answers its ping and KA does not, so that KA is put out
short_ticks : List Call
short_ticks =
    arrive kc ∷ arrive ka ∷ packet_call 0 (0 ∷ ka) ∷ packet_call 1 (0 ∷ kc) ∷ tick 30 5 ∷ packet_call 0 (5 ∷ bytes_of 8 5) ∷ tick 40 6 ∷ []

-- KA's number is 17, and it pings, and answers with a number that was not asked
long_ticks : List Call
long_ticks =
    arrive kc ∷ arrive ka ∷ packet_call 1 (0 ∷ kb) ∷ packet_call 0 (0 ∷ ka) ∷ packet_call 1 (0 ∷ kc) ∷ tick 30 5 ∷ packet_call 1 (5 ∷ bytes_of 8 6)
    ∷ packet_call 0 (5 ∷ bytes_of 8 5) ∷ packet_call 1 (4 ∷ bytes_of 8 7) ∷ tick 40 6 ∷ []

the_tick_record : List Entry
the_tick_record =
    arrived kc ∷ own (arrive kc) ∷ arrived ka ∷ own (packet_call 0 (0 ∷ ka)) ∷ to_c ka (packet_call 1 (0 ∷ kc)) ∷ ticked 30 5 []
    ∷ own (packet_call 0 (5 ∷ bytes_of 8 5)) ∷ ticked 40 6 (ka ∷ []) ∷ []

-- an answer, a connect notification, a ping, a disconnect notification
the_tick_packets : List (List ℕ)
the_tick_packets = (1 ∷ 0x10 ∷ ka) ∷ (2 ∷ 0x10 ∷ []) ∷ (4 ∷ bytes_of 8 5) ∷ (3 ∷ 0x10 ∷ []) ∷ []

the_tick_answers : List Answer
the_tick_answers = accepted 0 0 ∷ accepted 0 37 ∷ accepted 0 0 ∷ []

short_ticks_meet : Meets short_ticks the_tick_record the_tick_packets the_tick_answers
unfolding opened recorded short_ticks the_tick_record the_tick_packets the_tick_answers
short_ticks_meet = record { no_zero = refl; entered = refl; given = refl; answered = refl }

long_ticks_meet : Meets long_ticks the_tick_record the_tick_packets the_tick_answers
unfolding opened recorded long_ticks the_tick_record the_tick_packets the_tick_answers
long_ticks_meet = record { no_zero = refl; entered = refl; given = refl; answered = refl }

-- ---- the condition on 0

-- one number for each seat
small : Sizes
small = record { seats = 2; numbers = 1 }

answered_number : List Call
answered_number = arrive kc ∷ arrive ka ∷ packet_call 0 (0 ∷ ka) ∷ packet_call 1 (0 ∷ kc) ∷ []

-- the other client has used its number for a third key
answered_zero : List Call
answered_zero = arrive kc ∷ arrive ka ∷ packet_call 1 (0 ∷ kb) ∷ packet_call 0 (0 ∷ ka) ∷ packet_call 1 (0 ∷ kc) ∷ []

one_has_none : zero_for_c (from_empty small) [] kc (happens small answered_number) ≡ false
unfolding opened recorded small answered_number
one_has_none = refl

one_has : zero_for_c (from_empty small) [] kc (happens small answered_zero) ≡ true
unfolding opened recorded small answered_zero
one_has = refl

records_equal : record_for (from_empty small) [] kc (happens small answered_number) ≡ record_for (from_empty small) [] kc (happens small answered_zero)
unfolding opened recorded small answered_number answered_zero
records_equal = refl

-- C is told of the connection in one of them only
number_handed : length (packets_for (from_empty small) [] kc (happens small answered_number)) ≡ 2
unfolding opened recorded small answered_number
number_handed = refl

zero_handed : length (packets_for (from_empty small) [] kc (happens small answered_zero)) ≡ 1
unfolding opened recorded small answered_zero
zero_handed = refl

packets_differ : packets_for (from_empty small) [] kc (happens small answered_number) ≢ packets_for (from_empty small) [] kc (happens small answered_zero)
packets_differ e = let z : ◌≡◌ {A = ℕ} 2 1 = sym number_handed ∙ ap length e ∙ zero_handed in absurd (omega arith)

-- so the theorem without the condition for the second history is false
pub needs_no_zero : ((sizes : Sizes) (c : Key) (h₁ h₂ : List Call)
    → zero_for_c (from_empty sizes) [] c (transcript sizes (empty_room sizes) h₁) ≡ false
    → record_for (from_empty sizes) [] c (transcript sizes (empty_room sizes) h₁) ≡ record_for (from_empty sizes) [] c (transcript sizes (empty_room sizes) h₂)
    → packets_for (from_empty sizes) [] c (transcript sizes (empty_room sizes) h₁) ≡ packets_for (from_empty sizes) [] c (transcript sizes (empty_room sizes) h₂)) → ⊥
needs_no_zero claim = packets_differ (claim small kc answered_number answered_zero one_has_none records_equal)

-- ---- every tick adds one entry to every record, and a refused one puts out nobody

module _ (start : Start) (past : Past) (c : Key) (e : Event) (time number : ℕ) (ticks : e.call ≡ tick time number) where
  pub tick_adds_one : entries start past c e ≡ ticked time number (put_out start past e.call e.answer) ∷ []
  unfolding entries entries_by of_tick maker
  tick_adds_one = rw ticks

  pub refused_tick_adds_one : (why : Refusal) → e.answer ≡ refused why → entries start past c e ≡ ticked time number [] ∷ []
  refused_tick_adds_one why h =
      tick_adds_one ∙ ap (λ (out : List Key). ticked time number out ∷ []) (ap (put_out start past e.call) h ∙ refused_puts_out why start past e.call)

-- ---- what adds nothing to the record for C

abbrev pub is_tick : Call → Bool
is_tick (arrive key) = false
is_tick (leave seat) = false
is_tick (packet_call seat bytes) = false
is_tick (tick time number) = true

module _ (start : Start) (past : Past) (c : Key) (e : Event) where
  -- a call that is nobody's, but for a tick
  pub nobodys_adds_nothing : is_tick e.call ≡ false → maker start past e.call ≡ nobody → entries start past c e ≡ []
  unfolding entries entries_by
  nobodys_adds_nothing h by = rw by (go e.call h (put_out start past e.call e.answer))
    where
      go : (call : Call) → is_tick call ≡ false → (out : List Key) → of_tick call out ≡ []
      go (arrive key) h out = unfold of_tick in refl
      go (leave seat) h out = unfold of_tick in refl
      go (packet_call seat bytes) h out = unfold of_tick in refl
      go (tick time number) h out = absurd (true≢false h)

  -- another client's
  module _ (key : Key) (by : maker start past e.call ≡ client_of key) (else : same_key key c ≡ false) where
    -- refused call
    pub refused_adds_nothing : is_accepted e.answer ≡ false → entries start past c e ≡ []
    unfolding entries entries_by made_by by_key entry_if if_accepted is_accepted
    refused_adds_nothing h = rw (by, else) (go e.call e.answer h (other_call c key e.call (λ number. stands start past key number c)))
      where
        go : (call : Call) (answer : Answer) → is_accepted answer ≡ false → (es : List Entry)
            → (by_key (is_seated start past key) key call answer ++ if_accepted answer es) ≡ []
        go call (accepted seat count) h es = absurd (true≢false h)
        go (arrive k) (refused why) h es = refl
        go (leave seat) (refused why) h es = refl
        go (packet_call seat bytes) (refused why) h es = refl
        go (tick time number) (refused why) h es = refl

    -- packets
    module _ (seat : ℕ) (bytes : List ℕ) (sends : e.call ≡ packet_call seat bytes) where
      adds_nothing : (r : Read client.FromClient) → client.relay_read bytes ≡ r → other_packet c key (packet_call seat bytes) (λ number. stands start past key number c) r ≡ [] → entries start past c e ≡ []
      unfolding entries entries_by made_by by_key other_call if_accepted
      adds_nothing r q h = rw (by, else, sends, q, h) (go e.answer)
        where
          go : (answer : Answer) → if_accepted answer [] ≡ []
          go (accepted seat count) = refl
          go (refused why) = refl

      pub ping_adds_nothing : (n : ℕ) → client.relay_read bytes ≡ read.packet (client.ping n) → entries start past c e ≡ []
      unfolding other_packet
      ping_adds_nothing n q = adds_nothing _ q refl

      pub pong_adds_nothing : (n : ℕ) → client.relay_read bytes ≡ read.packet (client.pong n) → entries start past c e ≡ []
      unfolding other_packet
      pong_adds_nothing n q = adds_nothing _ q refl

      -- a request or an out-of-band send for another key
      pub request_adds_nothing : (wanted : Key) → client.relay_read bytes ≡ read.packet (client.routing_request wanted) → same_key wanted c ≡ false → entries start past c e ≡ []
      unfolding other_packet entry_if
      request_adds_nothing wanted q h = adds_nothing _ q (rw h)

      pub oob_adds_nothing : (wanted : Key) (payload : List ℕ) → client.relay_read bytes ≡ read.packet (client.oob_send wanted payload) → same_key wanted c ≡ false → entries start past c e ≡ []
      unfolding other_packet entry_if
      oob_adds_nothing wanted payload q h = adds_nothing _ q (rw h)

      -- a drop or data on a number that does not name C
      pub drop_adds_nothing : (number : ℕ) → client.relay_read bytes ≡ read.packet (client.drop_route number) → stands start past key number c ≡ false → entries start past c e ≡ []
      unfolding other_packet entry_if
      drop_adds_nothing number q h = adds_nothing _ q (rw h)

      pub data_adds_nothing : (number : ℕ) (payload : List ℕ) → client.relay_read bytes ≡ read.packet (client.routed_data number payload) → stands start past key number c ≡ false → entries start past c e ≡ []
      unfolding other_packet entry_if
      data_adds_nothing number payload q h = adds_nothing _ q (rw h)
