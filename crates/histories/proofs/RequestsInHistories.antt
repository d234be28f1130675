-- Of any calls that the host makes from the empty room in lent memory, whatever outputs it lent, by what it has seen: a key sits in one seat, so two connected
-- clients have different keys (demand 2: "two different seated clients"); and nothing stands from a key for itself. Of a request with output long enough it is
-- said that it is answered, and when with 0. Of one for the client's own key it is said, byte for byte, what it leaves: document 02, "The answer becomes 0 and no
-- route is taken". And the same, but for the bytes, of every such request inside a history. Assumes nothing.
use mathlib.Core.Path.{◌≡◌, refl, sym, ap, ap₂, subst, ◌∙◌}
use mathlib.Core.List.{List, [], ◌∷◌, ◌++◌, append-nil}
use mathlib.Core.Logic.{◌↔◌, ◌≢◌}
use Prim.Native.Nat.{ℕ, ◌≤◌}
use native.Mathlib.Omega.{arith}
use lib.IntN.{ℤ, pos}
use lib.ListN.{length, drop}
use borrow.Author.Tests.{le-leb}
use Rattle.wire.specs.Numbers.{bytes_of}
use Rattle.packet_laws.specs.Read as read
use Rattle.packet_laws.specs.FromClient as client
use Rattle.packet_laws.specs.FromRelay as relay
use Rattle.packet_laws.proofs.ReadBounds.{request_key_long}
use Rattle.rules.specs.Room.{sizes_of, Key, set_key, seat_at}
use Rattle.rules.specs.Whole.{Whole}
use Rattle.rules.specs.Call.{Call, packet_call, Sent, needed}
use Rattle.rules.specs.Outcome.{Outcome, record_bytes, sent_bytes, accept, to, answer_only}
use Rattle.rules.specs.History.{Event, event}
use Rattle.rules.specs.Transcript.{client_of, from_empty, sitter}
use Rattle.rules.specs.After.{past_after, Tied}
use Rattle.rules.proofs.FindLaws.{held_of}
use Rattle.rules.proofs.Tied.{seat_holds}
use Rattle.after_calls.specs.GoesOn.{Connected}
use Rattle.after_calls.specs.Given.{Asked}
use Rattle.after_calls.specs.Told.{RequestTells}
use Rattle.after_calls.specs.OwnKey.{NoneForItself, ZeroGround, OwnKey}
use Rattle.after_calls.proofs.OneSeat.{one_seat, connected_differ, asked_or_not}
use Rattle.after_calls.proofs.Told.{request_tells, request_tells_from_empty}
use Rattle.after_calls.proofs.OwnKey.{none_for_itself, zero_exactly, own_outcome, own_key_lem, zero_exactly_from_empty, own_key_from_empty}
use Rattle.room_laws.specs.View.{view_room}
use Rattle.room_laws.specs.Store.{store_all}
use Rattle.room_laws.proofs.WholeLaws.{whole_view}
use Rattle.relay_laws.specs.Calls.{Leaves, tested, if_long, with_output, Sends}
use Rattle.banavoge_laws.specs.Answers.{ToldAs}
use Rattle.banavoge_laws.specs.RelayCalls.{count_code}
use Rattle.histories.specs.Seen.{seen_as, seen}
use Rattle.histories.specs.Lent.{Lent, lent_with}
use Rattle.histories.specs.History.{Step, sends, AnyCalls, History, calls_of}
use Rattle.histories.proofs.Histories.{any_calls_run, any_calls_tied, after_calls_lem, history_event}

-- ---- at any moment

module _ (s n : ℕ) (lents : List Lent) (events : List Event) (b : List ℕ) (h : AnyCalls s n lents events b) where
  whole_then : Whole (sizes_of s n) (view_room s n b)
  whole_then = whole_view s n b (any_calls_run s n lents events b h).whole

  tied_then : Tied (from_empty (sizes_of s n)) (past_after [] events) (view_room s n b)
  tied_then = any_calls_tied s n lents events b h

  pub one_seat_after_calls : (key : Key) (seat other : ℕ) → sitter (from_empty (sizes_of s n)) (past_after [] events) seat ≡ client_of key
      → sitter (from_empty (sizes_of s n)) (past_after [] events) other ≡ client_of key → seat ≡ other
  one_seat_after_calls = one_seat (sizes_of s n) (from_empty (sizes_of s n)) (past_after [] events) (view_room s n b) whole_then tied_then

  pub connected_differ_after_calls : (seat number other number' : ℕ) (c : Connected (from_empty (sizes_of s n)) (past_after [] events) seat number other number')
      → c.key ≢ c.wanted
  connected_differ_after_calls = connected_differ (sizes_of s n) (from_empty (sizes_of s n)) (past_after [] events) (view_room s n b) whole_then tied_then

  pub asked_or_not_after_calls : (key wanted : Key) → Asked (from_empty (sizes_of s n)) (past_after [] events) key wanted
  asked_or_not_after_calls = asked_or_not (sizes_of s n) (from_empty (sizes_of s n)) (past_after [] events) (view_room s n b) whole_then tied_then

  pub none_for_itself_after_calls : NoneForItself (from_empty (sizes_of s n)) (past_after [] events)
  none_for_itself_after_calls = none_for_itself (sizes_of s n) (from_empty (sizes_of s n)) (past_after [] events) (view_room s n b) whole_then tied_then

-- ---- a request after any calls

module _ (s n : ℕ) (lents : List Lent) (events : List Event) (b : List ℕ) (h : AnyCalls s n lents events b) (seat : ℕ) (key : Key)
    (by : sitter (from_empty (sizes_of s n)) (past_after [] events) seat ≡ client_of key) (bytes out b' out' : List ℕ) (answer : ℤ) (long : needed (packet_call seat bytes) ≤ length out)
    (sent : ToldAs count_code (Sends s n seat bytes b out b' out') answer) where
  -- the call, as it is lent and as it is seen
  abbrev lent : Lent
  lent = lent_with (packet_call seat bytes) out

  abbrev asking : Event
  asking = seen (packet_call seat bytes) seat answer out'

  step : Step s n b lent asking b'
  step = sends seat bytes out out' answer sent refl refl

  -- the answer, with a number or 0, comes first; behind it, where the two are now connected, both are told
  pub request_tells_after_calls : (wanted : Key) → client.relay_read bytes ≡ read.packet (client.routing_request wanted)
      → RequestTells (from_empty (sizes_of s n)) (past_after [] events) seat key wanted asking
  unfolding seen seen_as event
  request_tells_after_calls wanted r =
      after_calls_lem s n (λ past e. e.call ≡ packet_call seat bytes → sitter (from_empty (sizes_of s n)) past seat ≡ client_of key → RequestTells (from_empty (sizes_of s n)) past seat key wanted e)
      (λ past room whole tie call c by.
      subst (λ (x : Call). RequestTells (from_empty (sizes_of s n)) past seat key wanted (event room x)) (sym c)
      (request_tells (sizes_of s n) (from_empty (sizes_of s n)) past room whole tie seat (set_key (held_of (seat_at room seat)) key)
      (seat_holds (sizes_of s n) (from_empty (sizes_of s n)) past room whole tie seat key by) wanted bytes r))
      lents events b h lent asking b' step long refl by

  -- 0 exactly where the key is the client's own, or its table is full and does not name the key
  pub zero_after_calls : (wanted : Key) → client.relay_read bytes ≡ read.packet (client.routing_request wanted) → (number : ℕ) (later : List Sent)
      → asking.sent ≡ to seat (relay.routing_response number wanted) ∷ later → (number ≡ 0) ↔ ZeroGround (sizes_of s n) (from_empty (sizes_of s n)) (past_after [] events) key wanted
  unfolding seen seen_as event
  zero_after_calls wanted r =
      after_calls_lem s n (λ past e. e.call ≡ packet_call seat bytes → sitter (from_empty (sizes_of s n)) past seat ≡ client_of key → (number : ℕ) (later : List Sent)
      → e.sent ≡ to seat (relay.routing_response number wanted) ∷ later → (number ≡ 0) ↔ ZeroGround (sizes_of s n) (from_empty (sizes_of s n)) past key wanted)
      (λ past room whole tie call c by number later q.
      zero_exactly (sizes_of s n) (from_empty (sizes_of s n)) past room whole tie seat key by wanted bytes r number later (ap (λ (x : Call). (event room x).sent) (sym c) ∙ q))
      lents events b h lent asking b' step long refl by

  -- a request for the own key
  module _ (r : client.relay_read bytes ≡ read.packet (client.routing_request key)) where
    -- by what is seen
    pub own_key_after_calls : OwnKey (from_empty (sizes_of s n)) (past_after [] events) seat key asking
    unfolding seen seen_as event
    own_key_after_calls =
        after_calls_lem s n (λ past e. e.call ≡ packet_call seat bytes → sitter (from_empty (sizes_of s n)) past seat ≡ client_of key → OwnKey (from_empty (sizes_of s n)) past seat key e)
        (λ past room whole tie call c by.
        subst (λ (x : Call). OwnKey (from_empty (sizes_of s n)) past seat key (event room x)) (sym c) (own_key_lem (sizes_of s n) (from_empty (sizes_of s n)) past room whole tie seat key by bytes r))
        lents events b h lent asking b' step long refl by

    own_left : with_output s n b out (packet_call seat bytes) ≡ answer_only seat 0 key
    unfolding with_output if_long tested
    own_left =
        rw (le-leb 2048 (length out) long, (any_calls_run s n lents events b h).whole)
        (own_outcome (sizes_of s n) (from_empty (sizes_of s n)) (past_after [] events) (view_room s n b) (whole_then s n lents events b h) (tied_then s n lents events b h) seat key by bytes r)

    -- its one record is 37 bytes: the seat, the length 34 in two bytes, and the answer, which is 1, 0 and the key
    own_record : sent_bytes (answer_only seat 0 key).sent ≡ seat ∷ 0 ∷ 34 ∷ 1 ∷ 0 ∷ key
    unfolding accept sent_bytes record_bytes to relay.relay_bytes bytes_of
    own_record = rw (request_key_long bytes key r) (ap (λ (l : List ℕ). seat ∷ 0 ∷ 34 ∷ 1 ∷ 0 ∷ l) (append-nil key))

    -- byte for byte: the room is as before, 37 is answered, and what stands behind the record in the output is as before
    pub own_key_leaves : (b' ≡ b) × (answer ≡ pos 37) × (out' ≡ (seat ∷ 0 ∷ 34 ∷ 1 ∷ 0 ∷ key) ++ drop 37 out)
    unfolding accept store_all count_code
    own_key_leaves =
        let left = subst (λ (o : Outcome). Leaves s n o b out sent.given b' out') own_left sent.relates in
        let many : length (sent_bytes (answer_only seat 0 key).sent) ≡ 37 = omega (arith, ap length own_record, request_key_long bytes key r) in (
          left.stores,
          sent.codes ∙ ap count_code left.answers ∙ ap pos many,
          left.writes ∙ ap₂ (λ (l : List ℕ) (m : ℕ). l ++ drop m out) own_record many,
        )

-- ---- a request inside a history

module _ (s n : ℕ) (events : List Event) (last : List ℕ) (h : History s n events last) (before : List Event) (e : Event) (later : List Event)
    (t : events ≡ before ++ (e ∷ later)) (seat : ℕ) (bytes : List ℕ) (key : Key) (c : e.call ≡ packet_call seat bytes)
    (by : sitter (from_empty (sizes_of s n)) (past_after [] before) seat ≡ client_of key) where
  pub request_tells_in_histories : (wanted : Key) → client.relay_read bytes ≡ read.packet (client.routing_request wanted)
      → RequestTells (from_empty (sizes_of s n)) (past_after [] before) seat key wanted e
  request_tells_in_histories wanted r =
      request_tells_from_empty (sizes_of s n) (calls_of events) before e later (history_event s n events last h before e later t) seat bytes key wanted c r by

  pub zero_in_histories : (wanted : Key) → client.relay_read bytes ≡ read.packet (client.routing_request wanted) → (number : ℕ) (sent : List Sent)
      → e.sent ≡ to seat (relay.routing_response number wanted) ∷ sent → (number ≡ 0) ↔ ZeroGround (sizes_of s n) (from_empty (sizes_of s n)) (past_after [] before) key wanted
  zero_in_histories =
      zero_exactly_from_empty (sizes_of s n) (calls_of events) before e later (history_event s n events last h before e later t) seat bytes key c by

  pub own_key_in_histories : client.relay_read bytes ≡ read.packet (client.routing_request key) → OwnKey (from_empty (sizes_of s n)) (past_after [] before) seat key e
  own_key_in_histories =
      own_key_from_empty (sizes_of s n) (calls_of events) before e later (history_event s n events last h before e later t) seat bytes key c by
