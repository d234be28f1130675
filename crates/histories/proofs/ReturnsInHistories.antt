-- A client that comes back, as the host sees it: document 02, "One call when a laptop comes back". On every whole room, `banavoge_arrive` with a key that is
-- seated leaves the bytes, writes the records and answers the seat of `banavoge_leave` and then `banavoge_arrive`, made as two calls (`returns_as_two_calls`).
-- In any history such an arrival may stand for the two: for every other client its record is the same, and so are the packets that it is handed and the answers
-- to its calls (`returns_same_in_histories`). And what an arrival is answered and sends, after any calls (`arrive_after_calls`) and in every history; its own
-- client is handed nothing by it (`own_arrival_after_calls`). Assumes nothing.
use mathlib.Core.Path.{◌≡◌, refl, sym, ap, ap₂, subst, ◌∙◌}
use mathlib.Core.Bool.{true, false}
use mathlib.Core.List.{List, [], ◌∷◌, ◌++◌, append-nil}
use native.Mathlib.Omega.{arith}
use Prim.Native.Nat.{ℕ, ◌≤◌}
use lib.IntN.{ℤ}
use lib.ListN.{length}
use Rattle.key.specs.Keys.{same_key}
use Rattle.rules.specs.Room.{Sizes, sizes_of, Key, Held, vacant, holds, Room, set_seat, empty_room, at, find, seat_of, seat_at}
use Rattle.rules.specs.Call.{Call, arrive, leave, tick, accepted, needed, Sent}
use Rattle.rules.specs.Outcome.{Outcome, outcome, apply, apply_all, room_after, accept, sent_bytes, tell_peers, seat_emptied, seat_taken}
use Rattle.rules.specs.History.{Event, event, transcript, happens}
use Rattle.rules.specs.Transcript.{client_of, from_empty, sitter}
use Rattle.rules.specs.After.{past_after}
use Rattle.rules.proofs.Whole.{key_found}
use Rattle.rules.proofs.ComesBack.{held, some_empty, comes_back_to, leaves_first, takes_then}
use Rattle.after_calls.specs.Given.{ArriveAnswered}
use Rattle.after_calls.proofs.Given.{arrive_answered, arrive_answered_from_empty}
use Rattle.isolation.specs.Record.{handed, SameFor}
use Rattle.isolation.proofs.ReturnRecord.{returns_same_from_empty}
use Rattle.isolation.proofs.OwnArrival.{own_arrival_hands_none, own_arrival_from_empty}
use Rattle.room_laws.specs.View.{view_room}
use Rattle.room_laws.specs.Whole.{room_whole}
use Rattle.room_laws.specs.Store.{store_all}
use Rattle.room_laws.proofs.WholeLaws.{whole_view}
use Rattle.relay_laws.specs.Calls.{Arrives}
use Rattle.banavoge_laws.specs.Answers.{ToldAs}
use Rattle.banavoge_laws.specs.RelayCalls.{told, arrival_told}
use Rattle.histories.specs.Seen.{seen_as, seen}
use Rattle.histories.specs.Lent.{Lent, lent_with}
use Rattle.histories.specs.History.{Step, arrives, AnyCalls, History, calls_of}
use Rattle.histories.specs.Steps.{Right}
use Rattle.histories.specs.Returns.{AsTwoCalls}
use Rattle.histories.proofs.Histories.{long_step_right, after_calls_lem, history_runs, history_event}
use Rattle.histories.proofs.HandedInHistories.{handed_throughout_after_calls, handed_throughout_in_histories}

-- ---- the two calls

-- on the bytes b of a whole room, where the key sits in `seat`
module _ (s n : ℕ) (b : List ℕ) (whole : room_whole s n b ≡ true) (key : Key) (seat : ℕ) (sitting : Held) (sits : seat_at (view_room s n b) seat ≡ holds sitting)
    (same : sitting.key ≡ key) where
  abbrev room : Room
  room = view_room s n b

  found : find (seat_of key) room.seats ≡ at seat
  found = subst (λ (k : Key). find (seat_of k) room.seats ≡ at seat) same (key_found (sizes_of s n) room (whole_view s n b whole) seat sitting sits)

  abbrev place : ℕ
  place = (some_empty room key seat found).place

  abbrev tells : List Sent
  tells = tell_peers room seat key (held room key seat found).routes

  -- the arrival; the Leave; and the Arrive, on the room that the Leave returned
  pub returns_as_two_calls : (l : Lent) (e : Event) (b' : List ℕ) → Step s n b l e b' → needed l.call ≤ l.space → e.call ≡ arrive key
      → (l₁ : Lent) (e₁ : Event) (b₁ : List ℕ) → Step s n b l₁ e₁ b₁ → needed l₁.call ≤ l₁.space → e₁.call ≡ leave seat
      → (l₂ : Lent) (e₂ : Event) (b₂ : List ℕ) → Step s n b₁ l₂ e₂ b₂ → needed l₂.call ≤ l₂.space → e₂.call ≡ arrive key
      → AsTwoCalls seat e e₁ e₂ b' b₂
  unfolding event accept sent_bytes store_all
  returns_as_two_calls l e b' step long c l₁ e₁ b₁ step₁ long₁ c₁ l₂ e₂ b₂ step₂ long₂ c₂ = record {
    room = r.stores ∙ ap (λ (o : Outcome). store_all s n b o.changes) is ∙ sym (r₂.stores ∙ ap₂ (λ (x : List ℕ) (o : Outcome). store_all s n x o.changes) (r₁.stores ∙ ap (λ (o : Outcome). store_all s n b o.changes) is₁) is₂);
    records = seen_sent e r is ∙ sym (ap₂ (λ (x y : List Sent). x ++ y) (seen_sent e₁ r₁ is₁) (seen_sent e₂ r₂ is₂) ∙ append-nil tells);
    taken = place;
    count₁ = length (sent_bytes tells);
    count₂ = 0;
    left = seen_answer e₁ r₁ is₁;
    arrived = seen_answer e₂ r₂ is₂;
    returned = seen_answer e r is ∙ ap (accepted place) (omega arith);
  }
    where
      r : Right s n b e b'
      r = long_step_right s n b whole l e b' step long

      r₁ : Right s n b e₁ b₁
      r₁ = long_step_right s n b whole l₁ e₁ b₁ step₁ long₁

      r₂ : Right s n b₁ e₂ b₂
      r₂ = long_step_right s n b₁ r₁.whole l₂ e₂ b₂ step₂ long₂

      is : outcome room e.call ≡ accept place (seat_emptied seat ∷ seat_taken place key ∷ []) tells
      is = ap (outcome room) c ∙ comes_back_to room key seat found place (some_empty room key seat found).lowest

      is₁ : outcome room e₁.call ≡ accept seat (seat_emptied seat ∷ []) tells
      is₁ = ap (outcome room) c₁ ∙ leaves_first room key seat found

      left_room : view_room s n b₁ ≡ set_seat room seat vacant
      left_room = r₁.room ∙ (unfold room_after apply_all apply accept in ap (room_after (sizes_of s n) room) is₁)

      is₂ : outcome (view_room s n b₁) e₂.call ≡ accept place (seat_taken place key ∷ []) []
      is₂ = ap₂ outcome left_room c₂ ∙ takes_then room key seat found (sizes_of s n) (whole_view s n b whole) place (some_empty room key seat found).lowest

      seen_sent : {x x' : List ℕ} (y : Event) → Right s n x y x' → {o : Outcome} → outcome (view_room s n x) y.call ≡ o → y.sent ≡ o.sent
      seen_sent y q i = ap (λ (z : Event). z.sent) q.sees ∙ ap (λ (o : Outcome). o.sent) i

      seen_answer : {x x' : List ℕ} (y : Event) → Right s n x y x' → {o : Outcome} → outcome (view_room s n x) y.call ≡ o → y.answer ≡ o.answer
      seen_answer y q i = ap (λ (z : Event). z.answer) q.sees ∙ ap (λ (o : Outcome). o.answer) i

-- ---- what an arrival is answered and sends

-- after any calls, where its output is long enough
pub arrive_after_calls : (s n : ℕ) (lents : List Lent) (events : List Event) (b : List ℕ) → AnyCalls s n lents events b
    → (key : Key) (out b' out' : List ℕ) (place place' : ℕ) (answer : ℤ) → ToldAs (arrival_told place) (Arrives s n key b out b' out') (told answer place')
    → needed (arrive key) ≤ length out
    → ArriveAnswered (sizes_of s n) (from_empty (sizes_of s n)) (past_after [] events) key (seen (arrive key) place' answer out')
unfolding seen seen_as event
arrive_after_calls s n lents events b h key out b' out' place place' answer c long =
    after_calls_lem s n (λ past e. e.call ≡ arrive key → ArriveAnswered (sizes_of s n) (from_empty (sizes_of s n)) past key e)
    (λ past room whole tie call q.
    subst (λ (x : Call). ArriveAnswered (sizes_of s n) (from_empty (sizes_of s n)) past key (event room x)) (sym q)
    (arrive_answered (sizes_of s n) (from_empty (sizes_of s n)) past room whole tie key))
    lents events b h (lent_with (arrive key) out) (seen (arrive key) place' answer out') b' (arrives key out out' place place' answer c refl refl) long refl

-- in every history
pub arrive_in_histories : (s n : ℕ) (events : List Event) (b : List ℕ) → History s n events b
    → (before : List Event) (e : Event) (later : List Event) → events ≡ before ++ (e ∷ later) → (key : Key) → e.call ≡ arrive key
    → ArriveAnswered (sizes_of s n) (from_empty (sizes_of s n)) (past_after [] before) key e
arrive_in_histories s n events b h before e later t = arrive_answered_from_empty (sizes_of s n) (calls_of events) before e later (history_event s n events b h before e later t)

-- an arrival hands its own client nothing, also where the client was seated: no record is for a seat in which it sits before the call, or after it. After any calls,
-- and in every history
pub own_arrival_after_calls : (s n : ℕ) (lents : List Lent) (events : List Event) (b : List ℕ) → AnyCalls s n lents events b
    → (key : Key) (out b' out' : List ℕ) (place place' : ℕ) (answer : ℤ) → ToldAs (arrival_told place) (Arrives s n key b out b' out') (told answer place')
    → needed (arrive key) ≤ length out
    → (handed (from_empty (sizes_of s n)) (past_after [] events) key (seen (arrive key) place' answer out').sent ≡ [])
    × (handed (from_empty (sizes_of s n)) (seen (arrive key) place' answer out' ∷ past_after [] events) key (seen (arrive key) place' answer out').sent ≡ [])
unfolding seen seen_as event
own_arrival_after_calls s n lents events b h key out b' out' place place' answer c long =
    let e = seen (arrive key) place' answer out' in
    let step : Step s n b (lent_with (arrive key) out) e b' = arrives key out out' place place' answer c refl refl in
    let before =
    after_calls_lem s n (λ past e. e.call ≡ arrive key → handed (from_empty (sizes_of s n)) past key e.sent ≡ [])
    (λ past room whole tie call q.
    subst (λ (x : Call). handed (from_empty (sizes_of s n)) past key (event room x).sent ≡ []) (sym q)
    (own_arrival_hands_none (sizes_of s n) (from_empty (sizes_of s n)) past room whole tie key))
    lents events b h (lent_with (arrive key) out) e b' step long refl in
    (before, handed_throughout_after_calls s n lents events b h (lent_with (arrive key) out) e b' step long (λ time number q. absurd (cc)) key ∙ before)

pub own_arrival_in_histories : (s n : ℕ) (events : List Event) (b : List ℕ) → History s n events b
    → (before : List Event) (e : Event) (later : List Event) → events ≡ before ++ (e ∷ later) → (key : Key) → e.call ≡ arrive key
    → (handed (from_empty (sizes_of s n)) (past_after [] before) key e.sent ≡ []) × (handed (from_empty (sizes_of s n)) (e ∷ past_after [] before) key e.sent ≡ [])
own_arrival_in_histories s n events b h before e later t key call =
    let first = own_arrival_from_empty (sizes_of s n) (calls_of events) before e later (history_event s n events b h before e later t) key call in
    (first, handed_throughout_in_histories s n events b h before e later t (λ time number q. let same : arrive key ≡ tick time number = sym call ∙ q in absurd (cc)) key ∙ first)

-- ---- in a history

-- what has happened by some call is what the calls until then do
front_runs : (sizes : Sizes) (room : Room) (before : List Event) (calls : List Call) (later : List Event)
    → transcript sizes room (calls_of before ++ calls) ≡ before ++ later → transcript sizes room (calls_of before) ≡ before
unfolding calls_of transcript
front_runs sizes room [] calls later t = refl
front_runs sizes room (e ∷ before) calls later t =
    let first : event room e.call ≡ e = cc in
    ap₂ (λ (x : Event) (l : List Event). x ∷ l) first (front_runs sizes (room_after sizes room (outcome room e.call)) before calls later (cc))

calls_append : (before later : List Event) → calls_of (before ++ later) ≡ calls_of before ++ calls_of later
unfolding calls_of
calls_append [] later = refl
calls_append (e ∷ before) later = ap (λ (l : List Call). e.call ∷ l) (calls_append before later)

-- of two histories, one has an arrival of a key that is seated, by what the host has seen before, and the other a Leave of its seat and an Arrive in its place
pub returns_same_in_histories : (s n : ℕ) (events₁ events₂ : List Event) (b₁ b₂ : List ℕ) → History s n events₁ b₁ → History s n events₂ b₂
    → (before : List Event) (e : Event) (later : List Event) → events₁ ≡ before ++ (e ∷ later)
    → (key : Key) (seat : ℕ) → e.call ≡ arrive key → sitter (from_empty (sizes_of s n)) (past_after [] before) seat ≡ client_of key
    → calls_of events₂ ≡ calls_of before ++ (leave seat ∷ arrive key ∷ calls_of later)
    → (c : Key) → same_key key c ≡ false → SameFor c (from_empty (sizes_of s n)) [] events₁ (from_empty (sizes_of s n)) [] events₂
unfolding calls_of
returns_same_in_histories s n events₁ events₂ b₁ b₂ h₁ h₂ before e later t key seat call sits calls₂ c else =
    rw (are₁, are₂) (returns_same_from_empty sizes c key else (calls_of before) (calls_of later) seat (rw (front_runs sizes (empty_room sizes) before _ (e ∷ later) (sym are₁ ∙ t)) sits))
  where
    sizes : Sizes
    sizes = sizes_of s n

    calls₁ : calls_of events₁ ≡ calls_of before ++ (arrive key ∷ calls_of later)
    calls₁ = ap calls_of t ∙ calls_append before (e ∷ later) ∙ ap (λ (x : Call). calls_of before ++ (x ∷ calls_of later)) call

    are₁ : events₁ ≡ happens sizes (calls_of before ++ (arrive key ∷ calls_of later))
    are₁ = (history_runs s n events₁ b₁ h₁).events_are ∙ ap (happens sizes) calls₁

    are₂ : events₂ ≡ happens sizes (calls_of before ++ (leave seat ∷ arrive key ∷ calls_of later))
    are₂ = (history_runs s n events₂ b₂ h₂).events_are ∙ ap (happens sizes) calls₂
