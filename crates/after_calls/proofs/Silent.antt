-- For every history: "where the clock moves by at most one second a tick, a client that never answers is gone when the clock is 40 past its latest arrival."
-- While it sits it is in one of two stages: none is outstanding, it was last pinged at its arrival and that is less than 30 seconds ago; or the ping of the
-- thirtieth second is outstanding, and that is less than 10 seconds ago. Each call keeps it there or puts it out. Assumes nothing.
use mathlib.Core.Path.{◌≡◌, refl, sym, ap, ◌∙◌, subst}
use mathlib.Core.Bool.{Bool, true, false, ◌&&◌, not, cond, true≢false, false≢true}
use mathlib.Core.List.{List, [], ◌∷◌, ◌++◌}
use mathlib.Core.Logic.{◌↔◌, ◌≢◌}
use Prim.Native.Nat.{ℕ, suc, ◌+◌, ◌<◌, ◌≤◌}
use native.Mathlib.Omega.{arith}
use lib.Dec.{eqb, leb}
use borrow.Author.Tests.{eqb-true, leb-true, leb-false, not-true}
use Rattle.key.specs.Keys.{same_key}
use Rattle.key.proofs.Same.{same_refl, same_sound}
use Rattle.packet_laws.specs.Read.{Read}
use Rattle.packet_laws.specs.Read as read
use Rattle.packet_laws.specs.FromClient as client
use Rattle.refusal.specs.declared.Refusal.{Refusal}
use Rattle.rules.specs.Room.{Sizes, Key, Ping, Room, none_since, empty_room}
use Rattle.rules.specs.Whole.{Whole}
use Rattle.rules.specs.Call.{Call, arrive, leave, packet_call, tick, Answer, accepted, refused, Sent}
use Rattle.rules.specs.Outcome.{overdue, outcome, room_after}
use Rattle.rules.specs.History.{Event, event, transcript, happens}
use Rattle.rules.specs.Transcript.{Past, Maker, nobody, client_of, Start, from_empty, is_accepted, clock_after, clock_of, ping_after_arrival, ping_after_packet, ping_sent_to, ping_after_tick, ping_after, ping_of, sits_after_arrival, sits_after, sitter, maker, is_client}
use Rattle.rules.specs.After.{past_after, Tied}
use Rattle.after_calls.specs.Ticks.{TickAnswered, zero_ping, clock_back, ticks, Due}
use Rattle.after_calls.specs.Silent.{each, arrival_of, arrives, slowly, bears, answers_by, answers, NeverAnswers}
use Rattle.rules.proofs.Whole.{whole_empty, whole_after}
use Rattle.rules.proofs.Tied.{tied_empty, tied_after, both_true}
use Rattle.after_calls.proofs.Ticks.{is_overdue_lem, tick_answered, accepted_tick, sent_ping}

-- ---- the two stages of a client that arrived at clock `a`

pub data Stage (a clock : ℕ) (ping : Ping) : Type 0 where
  not_pinged : ping.number ≡ 0 → ping.time ≡ a → a ≤ clock → clock < a + 30 → Stage a clock ping
  unanswered : ping.number ≢ 0 → ping.time ≡ a + 30 → a ≤ clock → clock < a + 40 → Stage a clock ping

-- either way it is less than 40 seconds there
stage_below : {a clock : ℕ} {ping : Ping} → Stage a clock ping → clock < a + 40
stage_below (not_pinged n t l h) = omega arith
stage_below (unanswered n t l h) = h

-- a tick that leaves it seated: whether it is pinged goes by whether it is due, `sent`, and it is not overdue
stage_tick : (a clock time number : ℕ) (ping : Ping) → number ≢ 0 → clock ≤ time → time ≤ suc clock → overdue time ping ≡ false
    → (sent : Bool) → (sent ≡ true → (ping.number ≡ 0) × (ping.time + 30 ≤ time)) → (ping.number ≡ 0 → ping.time + 30 ≤ time → sent ≡ true)
    → Stage a clock ping → Stage a time (cond sent (record { time = time; number = number }) ping)
stage_tick a clock time number ping nz later slow stays true due is_due (not_pinged n t l h) = let d = due refl in unanswered nz (omega arith) (omega arith) (omega arith)
stage_tick a clock time number ping nz later slow stays true due is_due (unanswered n t l h) = absurd (n (due refl).0)
stage_tick a clock time number ping nz later slow stays false due is_due (not_pinged n t l h) = not_pinged n t (omega arith) (below (leb (ping.time + 30) time) refl)
  where
    below : (u : Bool) → leb (ping.time + 30) time ≡ u → time < a + 30
    below true e = absurd (false≢true (is_due n (leb-true (ping.time + 30) time e)))
    below false e = omega (arith, leb-false)
stage_tick a clock time number ping nz later slow stays false due is_due (unanswered n t l h) = unanswered n t (omega arith) (below (leb (ping.time + 10) time) refl)
  where
    below : (u : Bool) → leb (ping.time + 10) time ≡ u → time < a + 40
    below true e = absurd (true≢false (sym (is_overdue_lem time ping n (leb-true (ping.time + 10) time e)) ∙ stays))
    below false e = omega (arith, leb-false)

-- ---- one call more

-- a packet that does not bear the outstanding number leaves the ping
not_bearing : (r : Read client.FromClient) (ping : Ping) → bears r ping.number ≡ false → ping_after_packet r ping ≡ ping
unfolding bears ping_after_packet
not_bearing (read.packet (client.pong n)) ping h = rw h
not_bearing (read.packet (client.routing_request key)) ping h = refl
not_bearing (read.packet (client.drop_route n)) ping h = refl
not_bearing (read.packet (client.ping n)) ping h = refl
not_bearing (read.packet (client.oob_send key bytes)) ping h = refl
not_bearing (read.packet (client.routed_data n bytes)) ping h = refl
not_bearing (read.refused why) ping h = refl

module _ (start : Start) (key : Key) (a : ℕ) where
  -- wherever the client sits it is in one of the stages
  abbrev pub InStage : Past → Type 0
  InStage past = (seat : ℕ) → sitter start past seat ≡ client_of key → Stage a (clock_of start past) (ping_of start past seat)

  -- what is known of an accepted tick: its number, its time, and to which seats it sends pings
  abbrev Known : Past → ℕ → ℕ → List Sent → Type 0
  Known past time number sent = (number ≢ 0) × (clock_of start past ≤ time) × ((seat : ℕ) → (ping_sent_to seat sent ≡ true) ↔ Due start past time seat)

  module _ (past : Past) (inv : InStage past) where
    step_arrive : (k : Key) (answer : Answer) (sent : List Sent) → (same_key k key && is_accepted answer) ≡ false
        → InStage (record { call = arrive k; answer = answer; sent = sent } ∷ past)
    unfolding sitter sits_after sits_after_arrival clock_of clock_after ping_of ping_after ping_after_arrival is_accepted
    step_arrive k (refused why) sent h seat w = inv seat w
    step_arrive k (accepted taken count) sent h seat w = go (eqb taken seat) (is_client k (sitter start past seat)) w
      where
        go : (t u : Bool) → cond t (client_of k) (cond u nobody (sitter start past seat)) ≡ client_of key
            → Stage a (clock_of start past) (cond t (none_since (clock_of start past)) (cond u (none_since 0) (ping_of start past seat)))
        go true u w = let q : k ≡ key = cc in absurd (true≢false (sym (rw (q, same_refl key) refl) ∙ h))
        go false true w = absurd (cc)
        go false false w = inv seat w

    step_leave : (left : ℕ) (answer : Answer) (sent : List Sent) → InStage (record { call = leave left; answer = answer; sent = sent } ∷ past)
    unfolding sitter sits_after clock_of clock_after ping_of ping_after
    step_leave left answer sent seat w = go (is_accepted answer && eqb left seat) w
      where
        go : (t : Bool) → cond t nobody (sitter start past seat) ≡ client_of key → Stage a (clock_of start past) (cond t (none_since 0) (ping_of start past seat))
        go true w = absurd (cc)
        go false w = inv seat w

    step_packet : (from : ℕ) (bytes : List ℕ) (answer : Answer) (sent : List Sent)
        → (is_client key (sitter start past from) && bears (client.relay_read bytes) (ping_of start past from).number) ≡ false
        → InStage (record { call = packet_call from bytes; answer = answer; sent = sent } ∷ past)
    unfolding sitter sits_after clock_of clock_after ping_of ping_after is_client
    step_packet from bytes answer sent h seat w = go (is_accepted answer && eqb from seat) refl
      where
        go : (t : Bool) → (is_accepted answer && eqb from seat) ≡ t
            → Stage a (clock_of start past) (cond t (ping_after_packet (client.relay_read bytes) (ping_of start past seat)) (ping_of start past seat))
        go true e =
            let q = eqb-true from seat (both_true (is_accepted answer) (eqb from seat) e).1 in
            let b : bears (client.relay_read bytes) (ping_of start past seat).number ≡ false = rw (q, w, same_refl key) at h in
            rw (not_bearing (client.relay_read bytes) (ping_of start past seat) b) (inv seat w)
        go false e = inv seat w

    step_tick : (time number : ℕ) (answer : Answer) (sent : List Sent)
        → (is_accepted answer ≡ true → Known past time number sent)
        → leb (cond (is_accepted answer) time (clock_of start past)) (suc (clock_of start past)) ≡ true
        → InStage (record { call = tick time number; answer = answer; sent = sent } ∷ past)
    unfolding sitter sits_after clock_of clock_after ping_of ping_after ping_after_tick is_accepted
    step_tick time number (refused why) sent facts slow seat w = inv seat w
    step_tick time number (accepted s count) sent facts slow seat w = go (overdue time (ping_of start past seat)) refl w
      where
        go : (u : Bool) → overdue time (ping_of start past seat) ≡ u → cond u nobody (sitter start past seat) ≡ client_of key
            → Stage a time (cond (ping_sent_to seat sent) (record { time = time; number = number }) (cond u (none_since 0) (ping_of start past seat)))
        go true o w = absurd (cc)
        go false o w =
            let f = facts refl in
            stage_tick a (clock_of start past) time number (ping_of start past seat) f.0 f.1 (leb-true time (suc (clock_of start past)) slow) o
            (ping_sent_to seat sent) (λ h. let d = (f.2 seat).0 h in (d.none_outstanding, d.old))
            (λ n old. (f.2 seat).1 (record { key = key; sits = w; none_outstanding = n; old = old })) (inv seat w)

  -- ---- each call of a history

  module _ (sizes : Sizes) where
    tick_facts : (past : Past) (room : Room) → Whole sizes room → Tied start past room → (time number : ℕ) → is_accepted (event room (tick time number)).answer ≡ true
        → Known past time number (event room (tick time number)).sent
    unfolding is_accepted
    tick_facts past room whole tie time number h = go (tick_answered sizes start past room whole tie time number)
      where
        told : (seat : ℕ) → (ping_sent_to seat (event room (tick time number)).sent ≡ true) ↔ Due start past time seat
        told seat =
            subst (λ (e : Event). (ping_sent_to seat e.sent ≡ true) ↔ Due start past time seat)
            (sym (accepted_tick sizes start past room whole tie time number h)) (sent_ping sizes start past room whole tie time number seat)

        go : TickAnswered start past time number (event room (tick time number)) → Known past time number (event room (tick time number)).sent
        go (zero_ping z r) = absurd (false≢true (sym (ap is_accepted r) ∙ h))
        go (clock_back nz b r) = absurd (false≢true (sym (ap is_accepted r) ∙ h))
        go (ticks nz l r) = (nz, l, told)

    step : (past : Past) (room : Room) → Whole sizes room → Tied start past room → InStage past → (call : Call) → not (arrives key (event room call)) ≡ true
        → slowly start past (event room call) ≡ true → not (answers start key past (event room call)) ≡ true → InStage (event room call ∷ past)
    unfolding event arrives arrival_of slowly answers answers_by maker clock_of clock_after
    step past room whole tie inv (arrive k) new slow silent = step_arrive past inv k _ _ (not-true _ new)
    step past room whole tie inv (leave seat) new slow silent = step_leave past inv seat _ _
    step past room whole tie inv (packet_call seat bytes) new slow silent = step_packet past inv seat bytes _ _ (not-true _ silent)
    step past room whole tie inv (tick time number) new slow silent = step_tick past inv time number _ _ (tick_facts past room whole tie time number) slow

  -- one that is refused does nothing
  step_refused : (past : Past) → InStage past → (call : Call) (why : Refusal) → InStage (record { call = call; answer = refused why; sent = [] } ∷ past)
  unfolding sitter sits_after sits_after_arrival clock_of clock_after ping_of ping_after ping_after_arrival ping_after_tick is_accepted
  step_refused past inv (arrive k) why seat w = inv seat w
  step_refused past inv (leave left) why seat w = inv seat w
  step_refused past inv (packet_call from bytes) why seat w = inv seat w
  step_refused past inv (tick time number) why seat w = inv seat w

-- ---- its arrival

-- a client that has left a seat does not sit there
gone_from : (key : Key) (m : Maker) → cond (is_client key m) nobody m ≡ client_of key → ⊥
unfolding is_client
gone_from key nobody w = absurd (cc)
gone_from key (client_of k) w = go (same_key k key) refl w
  where
    go : (t : Bool) → same_key k key ≡ t → cond t nobody (client_of k) ≡ client_of key → ⊥
    go true h w = absurd (cc)
    go false h w = let q : k ≡ key = cc in true≢false (sym (same_refl key) ∙ sym (ap (λ (x : Key). same_key x key) q) ∙ h)

module _ (start : Start) (past : Past) where
  -- it takes the seat that it is answered with, and sits in no other: "An arrival starts with the last clock as its ping time."
  arrived : (k : Key) (answer : Answer) (sent : List Sent) → is_accepted answer ≡ true
      → InStage start k (clock_of start past) (record { call = arrive k; answer = answer; sent = sent } ∷ past)
  unfolding is_accepted sitter sits_after sits_after_arrival clock_of clock_after ping_of ping_after ping_after_arrival
  arrived k (refused why) sent h here w = absurd (false≢true h)
  arrived k (accepted taken count) sent h here w = go (eqb taken here) w
    where
      left : Bool
      left = is_client k (sitter start past here)

      go : (t : Bool) → cond t (client_of k) (cond left nobody (sitter start past here)) ≡ client_of k
          → Stage (clock_of start past) (clock_of start past) (cond t (none_since (clock_of start past)) (cond left (none_since 0) (ping_of start past here)))
      go true w = not_pinged refl refl (omega arith) (omega arith)
      go false w = absurd (gone_from k (sitter start past here) w)

  begins : (key : Key) (room : Room) (call : Call) → arrives key (event room call) ≡ true → InStage start key (clock_of start past) (event room call ∷ past)
  unfolding event arrives arrival_of
  begins key room (arrive k) h =
      let b = both_true (same_key k key) (is_accepted (outcome room (arrive k)).answer) h in
      rw (← (same_sound k key b.0)) (arrived k _ _ b.1)
  begins key room (leave seat) h = absurd (false≢true h)
  begins key room (packet_call seat bytes) h = absurd (false≢true h)
  begins key room (tick time number) h = absurd (false≢true h)

-- ---- one event after another

-- what each event does to the stages of a client: its arrival begins them, and every other event keeps it there
pub record Goes (start : Start) (past : Past) (e : Event) : Type 0 where
  pub begins : (key : Key) → arrives key e ≡ true → InStage start key (clock_of start past) (e ∷ past)
  pub keeps : (key : Key) (a : ℕ) → InStage start key a past → not (arrives key e) ≡ true → slowly start past e ≡ true → not (answers start key past e) ≡ true
      → InStage start key a (e ∷ past)

abbrev pub AllGo : Start → Past → List Event → Type 0
AllGo start past [] = Unit {0}
AllGo start past (e ∷ events) = Goes start past e × AllGo start (e ∷ past) events

pub event_goes : (sizes : Sizes) (start : Start) (past : Past) (room : Room) → Whole sizes room → Tied start past room → (call : Call) → Goes start past (event room call)
event_goes sizes start past room whole tie call =
    record {
      begins = λ key. begins start past key room call;
      keeps = λ key a inv. step start key a sizes past room whole tie inv call;
    }

pub refused_goes : (start : Start) (past : Past) (call : Call) (why : Refusal) → Goes start past (record { call = call; answer = refused why; sent = [] })
refused_goes start past call why =
    record {
      begins = λ key h. absurd (true≢false (sym (both_true (arrival_of key call) false (unfold arrives is_accepted in h)).1));
      keeps = λ key a inv new slow silent. step_refused start key a past inv call why;
    }

module _ (start : Start) (key : Key) where
  -- the events after its arrival, where it is in one of the stages at first
  stays_in_stage : (a : ℕ) (past : Past) → InStage start key a past → (later after : List Event) → AllGo start past (later ++ after)
      → each (λ past e. not (arrives key e)) past later ≡ true → each (slowly start) past later ≡ true → each (λ past e. not (answers start key past e)) past later ≡ true
      → InStage start key a (past_after past later)
  unfolding past_after each
  stays_in_stage a past inv [] after go new slow silent = inv
  stays_in_stage a past inv (e ∷ later) after go new slow silent =
      let n = both_true _ _ new in
      let s = both_true _ _ slow in
      let m = both_true _ _ silent in
      stays_in_stage a (e ∷ past) (go.0.keeps key a inv n.0 s.0 m.0) later after go.1 n.1 s.1 m.1

  -- THE THEOREM. After `before` the client arrives, by `e`; `later` has happened by then, and `after` is still to come
  pub silent_gone : (past : Past) (before : List Event) (e : Event) (later after : List Event) → AllGo start past (before ++ (e ∷ (later ++ after)))
      → NeverAnswers start (past_after past before) key e later
      → clock_of start (past_after past before) + 40 ≤ clock_of start (past_after past (before ++ (e ∷ later)))
      → (seat : ℕ) → sitter start (past_after past (before ++ (e ∷ later))) seat ≢ client_of key
  unfolding past_after
  silent_gone past [] e later after go never forty seat w =
      let last = stage_below
      (stays_in_stage (clock_of start past) (e ∷ past) (go.0.begins key never.arrival) later after go.1 never.latest never.slow never.silent seat w) in
      omega arith
  silent_gone past (b ∷ before) e later after go never forty seat w = silent_gone (b ∷ past) before e later after go.1 never forty seat w

-- ---- every history

transcript_goes : (sizes : Sizes) (start : Start) (past : Past) (room : Room) → Whole sizes room → Tied start past room → (calls : List Call)
    → AllGo start past (transcript sizes room calls)
unfolding transcript
transcript_goes sizes start past room whole tie [] = tt
transcript_goes sizes start past room whole tie (call ∷ calls) = (
  event_goes sizes start past room whole tie call,
  transcript_goes sizes start (event room call ∷ past) (room_after sizes room (outcome room call)) (whole_after sizes room whole call) (tied_after sizes start past room whole tie call) calls,
)

-- from the empty room
pub silent_gone_from_empty : (sizes : Sizes) (calls : List Call) (before : List Event) (e : Event) (later after : List Event)
    → happens sizes calls ≡ before ++ (e ∷ (later ++ after))
    → (key : Key) → NeverAnswers (from_empty sizes) (past_after [] before) key e later
    → clock_of (from_empty sizes) (past_after [] before) + 40 ≤ clock_of (from_empty sizes) (past_after [] (before ++ (e ∷ later)))
    → (seat : ℕ) → sitter (from_empty sizes) (past_after [] (before ++ (e ∷ later))) seat ≢ client_of key
silent_gone_from_empty sizes calls before e later after t key =
    silent_gone (from_empty sizes) key [] before e later after
    (subst (AllGo (from_empty sizes) []) t (transcript_goes sizes (from_empty sizes) [] (empty_room sizes) (whole_empty sizes) (tied_empty sizes) calls))
