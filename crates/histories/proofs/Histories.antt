-- Demand 2, of any calls that the host makes from the empty room in lent memory: "every answer, refusal and record equals 01's steps". Each call is an export, on
-- the room that the last returned, with any output. The events that the host sees, each with its answer or refusal and with every record in the output, are
-- exactly document 01's steps for the same calls and outputs; and the bytes of the room at the end are whole, and are the room that these steps leave
-- (`any_calls_run`). Where every output is long enough they are the rules' transcript of the calls (`history_runs`). This is a statement about what the host
-- really calls: each step is the contract of an export, and the records are read in the bytes of the output. For every s and n that fit; document 01 has 40 and
-- 32. Assumes nothing.
use mathlib.Core.Path.{◌≡◌, refl, sym, ap, ap₂, subst, ◌∙◌}
use mathlib.Core.Bool.{Bool, true, false, cond}
use mathlib.Core.List.{List, [], ◌∷◌, ◌++◌}
use Prim.Native.Nat.{ℕ, ◌≤◌}
use native.Mathlib.Omega.{arith}
use lib.IntN.{ℤ, pos}
use lib.ListN.{length, drop}
use Rattle.refusal.specs.declared.Refusal.TheVariants.{OutputTooShort, RoomNotWhole}
use Rattle.rules.specs.Room.{Sizes, base_sizes, Key, Room, empty_room, sizes_of}
use Rattle.rules.specs.Whole.{Whole}
use Rattle.rules.specs.Call.{Call, arrive, leave, packet_call, tick, Answer, FieldsFit, needed}
use Rattle.rules.specs.Outcome.{Outcome, refuse, sent_bytes, outcome, room_after}
use Rattle.rules.specs.History.{Event, event, transcript}
use Rattle.rules.specs.Transcript.{Past, Start, from_empty}
use Rattle.rules.specs.After.{room_after_all, past_after, Tied}
use Rattle.rules.specs.Accepted.{MadeAt}
use Rattle.rules.proofs.RefusedOrAccepted.{leave_made_at, packet_made_at, tick_made_at}
use Rattle.rules.proofs.Tied.{tied_empty}
use Rattle.room_laws.specs.Layout.{fits_room}
use Rattle.room_laws.specs.View.{view_room}
use Rattle.room_laws.specs.Whole.{room_whole}
use Rattle.room_laws.specs.Store.{store_all, emptied, MakesEmpty}
use Rattle.room_laws.proofs.WholeLaws.{whole_view}
use Rattle.room_laws.proofs.EmptyLaws.{empty_whole, empty_view}
use Rattle.relay_laws.specs.Calls.{written, Leaves, tested, with_output, Arrives, Departs, Sends, Ticks}
use Rattle.records.proofs.RoundTrips.{all_short}
use Rattle.relay_laws.proofs.OutcomeLeaves.{made_written}
use Rattle.relay_laws.proofs.CallsLaws.{by_call}
use Rattle.banavoge_laws.specs.Answers.{refusal_code, ToldAs}
use Rattle.banavoge_laws.specs.Rooms.{done_or}
use Rattle.banavoge_laws.specs.RelayCalls.{count_code, ArrivalTold, told, arrival_told}
use Rattle.histories.specs.Seen.{records_read, seen_as, answered, seen}
use Rattle.histories.specs.Lent.{Lent, lent_with, lent_outcome, lent_event, lent_transcript, lent_room_after, AllLong, calls_lent}
use Rattle.histories.specs.History.{Step, arrives, departs, sends, ticks, AnyChain, none, next, Chain, BeginsEmpty, AnyCalls, History, calls_of}
use Rattle.histories.specs.Steps.{StepRight, EqualsSteps, Right, EqualsRules}
use Rattle.histories.proofs.ReadBack.{written_read}
use Rattle.histories.proofs.Answered.{seat_answered, count_answered, refusal_answered}
use Rattle.histories.proofs.LentLaws.{long_outcome, lent_made, lent_within, lent_stored, lent_tied, long_transcript, long_room}

-- ---- the number that a call answers, on any bytes

module _ (s n : ℕ) (b : List ℕ) where
  -- that of an Arrive tells its answer, and so does that of a call in a seat
  arrive_tells : (place place' : ℕ) (number : ℤ) (given : Answer) → told number place' ≡ arrival_told place given → answered place' number ≡ given
  unfolding arrival_told
  arrive_tells place place' number given codes =
      ap₂ answered (ap (λ (t : ArrivalTold). t.seat) codes) (ap (λ (t : ArrivalTold). t.answer) codes) ∙ seat_answered place given

  seat_tells : (call : Call) (seat : ℕ) → MadeAt seat (outcome (view_room s n b) call) → (out : List ℕ) (number : ℤ) (given : Answer)
      → given ≡ (with_output s n b out call).answer → number ≡ count_code given → answered seat number ≡ given
  unfolding refuse count_code
  seat_tells call seat made out number given e codes =
      rw (codes, e)
      (by_call (λ o. answered seat (count_code o.answer) ≡ o.answer) s n b out call (count_answered seat (outcome (view_room s n b) call) made)
      (refusal_answered seat RoomNotWhole) (refusal_answered seat OutputTooShort))

  -- and the number is that of the answer seen, so equal answers are equal numbers
  pub arrive_number : (key : Key) (out b' out' : List ℕ) (place place' : ℕ) (number : ℤ) → ToldAs (arrival_told place) (Arrives s n key b out b' out') (told number place')
      → number ≡ count_code (answered place' number)
  unfolding arrival_told
  arrive_number key out b' out' place place' number c =
      ap (λ (t : ArrivalTold). t.answer) c.codes ∙ ap count_code (sym (arrive_tells place place' number c.given c.codes))

  pub leave_number : (seat : ℕ) (out b' out' : List ℕ) (number : ℤ) → ToldAs count_code (Departs s n seat b out b' out') number
      → number ≡ count_code (answered seat number)
  leave_number seat out b' out' number c =
      c.codes ∙ ap count_code (sym (seat_tells (leave seat) seat (leave_made_at (view_room s n b) seat) out number c.given c.relates.answers c.codes))

  pub packet_number : (seat : ℕ) (bytes out b' out' : List ℕ) (number : ℤ) → ToldAs count_code (Sends s n seat bytes b out b' out') number
      → number ≡ count_code (answered seat number)
  packet_number seat bytes out b' out' number c =
      c.codes
      ∙ ap count_code (sym (seat_tells (packet_call seat bytes) seat (packet_made_at (view_room s n b) seat bytes) out number c.given c.relates.answers c.codes))

  pub tick_number : (time ping : ℕ) (out b' out' : List ℕ) (number : ℤ) → ToldAs count_code (Ticks s n time ping b out b' out') number
      → number ≡ count_code (answered 0 number)
  tick_number time ping out b' out' number c =
      c.codes ∙ ap count_code (sym (seat_tells (tick time ping) 0 (tick_made_at (view_room s n b) time ping) out number c.given c.relates.leaves.answers c.codes))

-- ---- one step

module _ (s n : ℕ) (b : List ℕ) (whole : room_whole s n b ≡ true) where
  -- on a whole room, what is left of the tests is the output's length
  whole_lent : (call : Call) (out : List ℕ) → with_output s n b out call ≡ lent_outcome (view_room s n b) (lent_with call out)
  unfolding with_output tested lent_outcome
  whole_lent call out = rw whole

  module _ (l : Lent) (key : FieldsFit l.call) (given : Answer) (out b' out' : List ℕ) (left : Leaves s n (lent_outcome (view_room s n b) l) b out given b' out') where
    read_right : records_read given out' ≡ (lent_outcome (view_room s n b) l).sent
    read_right =
        let o = lent_outcome (view_room s n b) l in
        ap (records_read given) left.writes
        ∙ written_read o.sent (all_short o.sent (omega (arith, lent_within s n b whole l))) given
        (ap written left.answers ∙ made_written o (lent_made (view_room s n b) l)) (drop (length (sent_bytes o.sent)) out)

    seen_right : seen_as l.call given out' ≡ lent_event (view_room s n b) l
    unfolding seen_as lent_event
    seen_right = ap₂ (λ a r. record { call = l.call; answer = a; sent = r }) left.answers read_right

    -- where the number tells the answer
    leaves_right : (seat : ℕ) (number : ℤ) → answered seat number ≡ given → (e : Event) → e ≡ seen l.call seat number out' → StepRight s n b l e b'
    unfolding seen
    leaves_right seat number tells e q =
        let kept = lent_stored s n b whole l key in
        record {
          sees = q ∙ ap (λ (a : Answer). seen_as l.call a out') tells ∙ seen_right;
          stores = left.stores;
          room = ap (view_room s n) left.stores ∙ kept.0;
          whole = ap (room_whole s n) left.stores ∙ kept.1;
        }

  pub step_right : (l : Lent) (e : Event) (b' : List ℕ) → Step s n b l e b' → StepRight s n b l e b'
  step_right l e b' (arrives key out out' place place' number c lends q) =
      let call = arrive key in
      let left = subst (λ (o : Outcome). Leaves s n o b out c.given b' out') (whole_lent call out) c.relates.leaves in
      subst (λ (x : Lent). StepRight s n b x e b') (sym lends)
      (leaves_right (lent_with call out) c.relates.long c.given out b' out' left place' number (arrive_tells s n b place place' number c.given c.codes) e q)
  step_right l e b' (departs seat out out' number c lends q) =
      let call = leave seat in
      let left = subst (λ (o : Outcome). Leaves s n o b out c.given b' out') (whole_lent call out) c.relates in
      subst (λ (x : Lent). StepRight s n b x e b') (sym lends)
      (leaves_right (lent_with call out) tt c.given out b' out' left seat number
      (seat_tells s n b call seat (leave_made_at (view_room s n b) seat) out number c.given c.relates.answers c.codes) e q)
  step_right l e b' (sends seat bytes out out' number c lends q) =
      let call = packet_call seat bytes in
      let left = subst (λ (o : Outcome). Leaves s n o b out c.given b' out') (whole_lent call out) c.relates in
      subst (λ (x : Lent). StepRight s n b x e b') (sym lends)
      (leaves_right (lent_with call out) tt c.given out b' out' left seat number
      (seat_tells s n b call seat (packet_made_at (view_room s n b) seat bytes) out number c.given c.relates.answers c.codes) e q)
  step_right l e b' (ticks time ping out out' number c lends q) =
      let call = tick time ping in
      let left = subst (λ (o : Outcome). Leaves s n o b out c.given b' out') (whole_lent call out) c.relates.leaves in
      subst (λ (x : Lent). StepRight s n b x e b') (sym lends)
      (leaves_right (lent_with call out) c.relates.fits c.given out b' out' left 0 number
      (seat_tells s n b call 0 (tick_made_at (view_room s n b) time ping) out number c.given c.relates.leaves.answers c.codes) e q)

-- ---- any calls

-- from whole bytes on
pub any_chain_runs : (s n : ℕ) (b : List ℕ) (lents : List Lent) (events : List Event) (b' : List ℕ) → AnyChain s n b lents events b' → room_whole s n b ≡ true
    → EqualsSteps s n (view_room s n b) lents events b'
unfolding lent_transcript lent_room_after
any_chain_runs s n b ls es b' none w = record { events_are = refl; room_is = refl; whole = w }
any_chain_runs s n b ls es b' (next {b₁ = b₁} {l = l} {e = e} {lents = lents} {events = events} step chain) w =
    let r = step_right s n b w l e b₁ step in
    let q = any_chain_runs s n b₁ lents events b' chain r.whole in
    record {
      events_are = ap₂ (λ x l. x ∷ l) r.sees (q.events_are ∙ ap (λ (x : Room). lent_transcript (sizes_of s n) x lents) r.room);
      room_is = q.room_is ∙ ap (λ (x : Room). lent_room_after (sizes_of s n) x lents) r.room;
      whole = q.whole;
    }

-- the empty room of the export is document 01's, and whole
module _ (s n : ℕ) (b : List ℕ) (begun : BeginsEmpty s n b) where
  made_empty : (memory : List ℕ) (made : Bool) → MakesEmpty s n memory b made → pos 0 ≡ done_or OutputTooShort made
      → (fits_room s n memory ≡ true) × (b ≡ emptied s n memory)
  unfolding done_or refusal_code
  made_empty memory true m e = (sym m.answers, m.leaves ∙ ap (λ (t : Bool). cond t (emptied s n memory) memory) (sym m.answers))
  made_empty memory false m e = absurd (cc)

  begun_emptied : (fits_room s n begun.memory ≡ true) × (b ≡ emptied s n begun.memory)
  begun_emptied = made_empty begun.memory begun.empties.given begun.empties.relates begun.empties.codes

  pub begun_whole : room_whole s n b ≡ true
  begun_whole = ap (room_whole s n) begun_emptied.1 ∙ empty_whole s n begun.memory begun_emptied.0

  pub begun_view : view_room s n b ≡ empty_room (sizes_of s n)
  begun_view = ap (view_room s n) begun_emptied.1 ∙ empty_view s n begun.memory begun_emptied.0

-- THE THEOREM: from the empty room, with any outputs
pub any_calls_run : (s n : ℕ) (lents : List Lent) (events : List Event) (b' : List ℕ) → AnyCalls s n lents events b'
    → EqualsSteps s n (empty_room (sizes_of s n)) lents events b'
any_calls_run s n lents events b' h =
    subst (λ (x : Room). EqualsSteps s n x lents events b') (begun_view s n h.room h.begun)
    (any_chain_runs s n h.room lents events b' h.chain (begun_whole s n h.room h.begun))

-- and what has happened says what the room says
pub any_chain_tied : (s n : ℕ) (b : List ℕ) (lents : List Lent) (events : List Event) (b' : List ℕ) → AnyChain s n b lents events b' → room_whole s n b ≡ true
    → (start : Start) (past : Past) → Tied start past (view_room s n b) → Tied start (past_after past events) (view_room s n b')
unfolding past_after
any_chain_tied s n b ls es b' none w start past tie = tie
any_chain_tied s n b ls es b' (next {b₁ = b₁} {l = l} {e = e} {lents = lents} {events = events} step chain) w start past tie =
    let r = step_right s n b w l e b₁ step in
    any_chain_tied s n b₁ lents events b' chain r.whole start (e ∷ past)
    (rw (r.sees, r.room) (lent_tied (sizes_of s n) start past (view_room s n b) (whole_view s n b w) tie l))

pub any_calls_tied : (s n : ℕ) (lents : List Lent) (events : List Event) (b' : List ℕ) → AnyCalls s n lents events b'
    → Tied (from_empty (sizes_of s n)) (past_after [] events) (view_room s n b')
any_calls_tied s n lents events b' h =
    any_chain_tied s n h.room lents events b' h.chain (begun_whole s n h.room h.begun) (from_empty (sizes_of s n)) []
    (rw (begun_view s n h.room h.begun) (tied_empty (sizes_of s n)))

-- ---- histories: the outputs are long enough

pub long_step_right : (s n : ℕ) (b : List ℕ) → room_whole s n b ≡ true → (l : Lent) (e : Event) (b' : List ℕ) → Step s n b l e b' → needed l.call ≤ l.space
    → Right s n b e b'
unfolding lent_event event
long_step_right s n b w l e b' step long =
    let before = view_room s n b in
    let r = step_right s n b w l e b' step in
    let o = long_outcome before l long in
    let sees : e ≡ event before l.call = r.sees ∙ ap (λ (x : Outcome). record { call = l.call; answer = x.answer; sent = x.sent }) o in
    let call : l.call ≡ e.call = sym (ap (λ (x : Event). x.call) sees) in
    let same = o ∙ ap (outcome before) call in
    record {
      sees = sees ∙ ap (event before) call;
      stores = r.stores ∙ ap (λ (x : Outcome). store_all s n b x.changes) same;
      room = r.room ∙ ap (room_after (sizes_of s n) before) same;
      whole = r.whole;
    }

-- so what is proved of each call in each whole room that says what has happened holds of each exported call, lent an output that is long enough, after any calls
pub after_calls_lem : (s n : ℕ) (P : Past → Event → Type 0)
    → ((past : Past) (room : Room) → Whole (sizes_of s n) room → Tied (from_empty (sizes_of s n)) past room → (call : Call) → P past (event room call))
    → (lents : List Lent) (events : List Event) (b : List ℕ) → AnyCalls s n lents events b
    → (l : Lent) (e : Event) (b' : List ℕ) → Step s n b l e b' → needed l.call ≤ l.space → P (past_after [] events) e
after_calls_lem s n P each lents events b h l e b' step long =
    let whole = (any_calls_run s n lents events b h).whole in
    subst (P (past_after [] events)) (sym (long_step_right s n b whole l e b' step long).sees)
    (each (past_after [] events) (view_room s n b) (whole_view s n b whole) (any_calls_tied s n lents events b h) e.call)

-- the calls seen are the calls made
pub calls_lent_lem : (sizes : Sizes) (room : Room) (lents : List Lent) → calls_of (lent_transcript sizes room lents) ≡ calls_lent lents
unfolding calls_of calls_lent lent_transcript lent_event
calls_lent_lem sizes room [] = refl
calls_lent_lem sizes room (l ∷ lents) = ap (λ (x : List Call). l.call ∷ x) (calls_lent_lem sizes (room_after sizes room (lent_outcome room l)) lents)

of_long : (s n : ℕ) (room : Room) (lents : List Lent) (events : List Event) (b' : List ℕ) → AllLong lents → EqualsSteps s n room lents events b' → EqualsRules s n room events b'
of_long s n room lents events b' long r =
    let calls : calls_lent lents ≡ calls_of events = sym (ap calls_of r.events_are ∙ calls_lent_lem (sizes_of s n) room lents) in
    record {
      events_are = r.events_are ∙ long_transcript (sizes_of s n) room lents long ∙ ap (transcript (sizes_of s n) room) calls;
      room_is = r.room_is ∙ long_room (sizes_of s n) room lents long ∙ ap (room_after_all (sizes_of s n) room) calls;
      whole = r.whole;
    }

-- from whole bytes on
pub chain_runs : (s n : ℕ) (b : List ℕ) (events : List Event) (b' : List ℕ) → Chain s n b events b' → room_whole s n b ≡ true
    → EqualsRules s n (view_room s n b) events b'
chain_runs s n b events b' c w = of_long s n (view_room s n b) c.lents events b' c.long (any_chain_runs s n b c.lents events b' c.calls w)

-- a history is some calls from the empty room
pub history_calls : (s n : ℕ) (events : List Event) (b' : List ℕ) → (h : History s n events b') → AnyCalls s n h.chain.lents events b'
history_calls s n events b' h = record { room = h.room; begun = h.begun; chain = h.chain.calls }

-- THE THEOREM, of histories
pub history_runs : (s n : ℕ) (events : List Event) (b' : List ℕ) → History s n events b' → EqualsRules s n (empty_room (sizes_of s n)) events b'
history_runs s n events b' h =
    of_long s n (empty_room (sizes_of s n)) h.chain.lents events b' h.chain.long (any_calls_run s n h.chain.lents events b' (history_calls s n events b' h))

-- document 01's own sizes
pub base_history_runs : (events : List Event) (b' : List ℕ) → History base_sizes.seats base_sizes.numbers events b'
    → EqualsRules base_sizes.seats base_sizes.numbers (empty_room base_sizes) events b'
base_history_runs = history_runs base_sizes.seats base_sizes.numbers

-- so what is proved of each event of the rules' transcripts, each law of `after_calls` named `..-from-empty`, holds of each event that the host sees
pub history_event : (s n : ℕ) (events : List Event) (b' : List ℕ) → History s n events b'
    → (before : List Event) (e : Event) (later : List Event) → events ≡ before ++ (e ∷ later)
    → transcript (sizes_of s n) (empty_room (sizes_of s n)) (calls_of events) ≡ before ++ (e ∷ later)
history_event s n events b' h before e later t = sym (history_runs s n events b' h).events_are ∙ t
