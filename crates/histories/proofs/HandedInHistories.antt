-- Document 01: C's packets are "those in the output records for the seat C holds when each is written". Demand 3 is proved with who sat there before the call.
-- For every tick that the host makes, what C is handed by who sits in the seat of each record when it is written is the same, though the tick may empty the seat
-- afterwards. Every other call keeps whoever sits in the seats that it writes records for, though an arrival of a seated key empties one seat and takes another:
-- so who sits there after the call gives the same too. Assumes nothing.
use mathlib.Core.Path.{◌≡◌, refl, sym, ap, ap₂, ◌∙◌}
use mathlib.Core.Bool.{Bool, true, false}
use mathlib.Core.List.{List, [], ◌∷◌, ◌++◌}
use mathlib.Core.Logic.{◌≢◌}
use Prim.Native.Nat.{ℕ, suc, ◌≤◌}
use lib.IntN.{ℤ}
use lib.ListN.{length}
use Rattle.rules.specs.Room.{Sizes, Key, Room, sizes_of}
use Rattle.rules.specs.Whole.{Whole}
use Rattle.rules.specs.Call.{Call, arrive, leave, packet_call, tick, Sent, needed}
use Rattle.rules.specs.History.{Event, event}
use Rattle.rules.specs.Transcript.{Past, Start, from_empty, is_accepted, is_client, sits_after, sitter}
use Rattle.rules.specs.After.{past_after, Tied}
use Rattle.rules.proofs.EachEvent.{from_empty_lem}
use Rattle.after_calls.specs.Ticks.{leave_event, LeavesFrom, done, leaves, stays, TickDoes}
use Rattle.after_calls.specs.Handed.{SameSitter, EachSent, EachWritten, after_leaves, TickHanded}
use Rattle.after_calls.proofs.Told.{leave_tells}
use Rattle.after_calls.proofs.Given.{arrive_answered}
use Rattle.after_calls.proofs.TickHanded.{tick_handed}
use Rattle.after_calls.proofs.CallHanded.{leave_handed, arrive_handed}
use Rattle.isolation.specs.Record.{handed_if, handed}
use Rattle.relay_laws.specs.Calls.{Ticks}
use Rattle.banavoge_laws.specs.Answers.{ToldAs}
use Rattle.banavoge_laws.specs.RelayCalls.{count_code}
use Rattle.histories.specs.Seen.{seen}
use Rattle.histories.specs.Lent.{Lent}
use Rattle.histories.specs.History.{Step, AnyCalls, History, calls_of}
use Rattle.histories.specs.HandedWhenWritten.{handed_by_leaves, handed_by_tick}
use Rattle.histories.proofs.Histories.{after_calls_lem, history_event}
use Rattle.histories.proofs.TicksInHistories.{tick_does_after_calls, tick_does_in_histories}

module _ (start : Start) (past : Past) (c : Key) where
  handed_append : (a b : List Sent) → handed start past c (a ++ b) ≡ handed start past c a ++ handed start past c b
  unfolding handed handed_if
  handed_append [] b = refl
  handed_append (s ∷ a) b = rw (handed_append a b) (go (is_client c (sitter start past s.seat)))
    where
      go : (t : Bool) → handed_if t s.bytes (handed start past c a ++ handed start past c b)
          ≡ handed_if t s.bytes (handed start past c a) ++ handed start past c b
      go true = refl
      go false = refl

  same_handed : (now : Past) (l : List Sent) → EachSent (SameSitter start past now) l → handed start now c l ≡ handed start past c l
  unfolding handed EachSent
  same_handed now [] h = refl
  same_handed now (s ∷ l) h = rw (h.0.written, h.0.before, same_handed now l h.1)

  leaves_handed : (sizes : Sizes) (time : ℕ) (now : Past) (seat many : ℕ) (sent : List Sent) (l : LeavesFrom sizes start past time now seat many sent)
      → EachWritten l → handed_by_leaves c l ≡ handed start past c sent
  unfolding handed_by_leaves EachWritten
  leaves_handed sizes time now seat many sent done w = unfold handed in refl
  leaves_handed sizes time now seat many sent (leaves {many = m} {back = back} front o tells rest) w =
      ap₂ ◌++◌ (same_handed now front w.0) (leaves_handed sizes time (leave_event seat front ∷ now) (suc seat) m back rest w.1) ∙ sym (handed_append front back)
  leaves_handed sizes time now seat many sent (stays {many = m} remains rest) w = leaves_handed sizes time now (suc seat) m sent rest w

  pub tick_handed_same : (sizes : Sizes) (time number : ℕ) (e : Event) (does : TickDoes sizes start past time number e)
      → handed_by_tick c does ≡ handed start past c e.sent
  unfolding handed_by_tick
  tick_handed_same sizes time number e does =
      let w : TickHanded does = tick_handed sizes start past time number e does in
      ap₂ ◌++◌ (leaves_handed sizes time past 0 sizes.seats does.sent.front does.sent.first w.departures)
      (same_handed (after_leaves does.sent.first) does.sent.back w.pings)
      ∙ sym (handed_append does.sent.front does.sent.back) ∙ ap (handed start past c) (sym does.sent.both)

-- ---- after any calls

module _ (s n : ℕ) (lents : List Lent) (events : List Event) (b : List ℕ) (h : AnyCalls s n lents events b) (time number : ℕ) (out b' out' : List ℕ) (answer : ℤ)
    (long : needed (tick time number) ≤ length out) (told : ToldAs count_code (Ticks s n time number b out b' out') answer)
    (a : is_accepted (seen (tick time number) 0 answer out').answer ≡ true) where
  pub handed_after_calls : (c : Key) → handed_by_tick c (tick_does_after_calls s n lents events b h time number out b' out' answer long told a)
      ≡ handed (from_empty (sizes_of s n)) (past_after [] events) c (seen (tick time number) 0 answer out').sent
  handed_after_calls c =
      tick_handed_same (from_empty (sizes_of s n)) (past_after [] events) c (sizes_of s n) time number (seen (tick time number) 0 answer out')
      (tick_does_after_calls s n lents events b h time number out b' out' answer long told a)

-- ---- inside a history

module _ (s n : ℕ) (events : List Event) (b' : List ℕ) (h : History s n events b') (before : List Event) (e : Event) (later : List Event)
    (t : events ≡ before ++ (e ∷ later)) (time number : ℕ) (q : e.call ≡ tick time number) (a : is_accepted e.answer ≡ true) where
  pub handed_in_histories : (c : Key) → handed_by_tick c (tick_does_in_histories s n events b' h before e later t time number q a)
      ≡ handed (from_empty (sizes_of s n)) (past_after [] before) c e.sent
  handed_in_histories c =
      tick_handed_same (from_empty (sizes_of s n)) (past_after [] before) c (sizes_of s n) time number e
      (tick_does_in_histories s n events b' h before e later t time number q a)

-- ---- every other call: by who sat in the seats before it, or by who sits there after it

module _ (sizes : Sizes) (start : Start) (past : Past) (room : Room) (whole : Whole sizes room) (tie : Tied start past room) (c : Key) where
  -- a packet moves nobody
  same_sitters : (now : Past) → ((i : ℕ) → sitter start now i ≡ sitter start past i) → (l : List Sent) → handed start now c l ≡ handed start past c l
  unfolding handed
  same_sitters now same [] = refl
  same_sitters now same (s ∷ l) = rw (same s.seat, same_sitters now same l)

  throughout : (call : Call) → ((time number : ℕ) → call ≢ tick time number)
      → handed start (event room call ∷ past) c (event room call).sent ≡ handed start past c (event room call).sent
  unfolding event
  throughout (arrive key) other =
      same_handed start past c (event room (arrive key) ∷ past) (event room (arrive key)).sent
      (arrive_handed sizes start past room whole tie key (event room (arrive key)) refl (arrive_answered sizes start past room whole tie key))
  throughout (leave seat) other =
      same_handed start past c (event room (leave seat) ∷ past) (event room (leave seat)).sent
      (leave_handed sizes start past seat (event room (leave seat)) refl (leave_tells sizes start past room whole tie seat))
  throughout (packet_call seat bytes) other =
      same_sitters (event room (packet_call seat bytes) ∷ past) (λ i. unfold sitter sits_after in refl) (event room (packet_call seat bytes)).sent
  throughout (tick time number) other = absurd (other time number refl)

-- after any calls, where the output is long enough
pub handed_throughout_after_calls : (s n : ℕ) (lents : List Lent) (events : List Event) (b : List ℕ) → AnyCalls s n lents events b
    → (l : Lent) (e : Event) (b' : List ℕ) → Step s n b l e b' → needed l.call ≤ l.space → ((time number : ℕ) → e.call ≢ tick time number)
    → (c : Key) → handed (from_empty (sizes_of s n)) (e ∷ past_after [] events) c e.sent ≡ handed (from_empty (sizes_of s n)) (past_after [] events) c e.sent
unfolding event
handed_throughout_after_calls s n lents events b h l e b' step long other c =
    after_calls_lem s n
    (λ past e. ((time number : ℕ) → e.call ≢ tick time number) → handed (from_empty (sizes_of s n)) (e ∷ past) c e.sent ≡ handed (from_empty (sizes_of s n)) past c e.sent)
    (λ past room whole tie call. throughout (sizes_of s n) (from_empty (sizes_of s n)) past room whole tie c call) lents events b h l e b' step long other

-- inside a history
pub handed_throughout_in_histories : (s n : ℕ) (events : List Event) (b : List ℕ) → History s n events b
    → (before : List Event) (e : Event) (later : List Event) → events ≡ before ++ (e ∷ later) → ((time number : ℕ) → e.call ≢ tick time number)
    → (c : Key) → handed (from_empty (sizes_of s n)) (e ∷ past_after [] before) c e.sent ≡ handed (from_empty (sizes_of s n)) (past_after [] before) c e.sent
unfolding event
handed_throughout_in_histories s n events b h before e later t other c =
    from_empty_lem (sizes_of s n)
    (λ past e. ((time number : ℕ) → e.call ≢ tick time number) → handed (from_empty (sizes_of s n)) (e ∷ past) c e.sent ≡ handed (from_empty (sizes_of s n)) past c e.sent)
    (λ past room whole tie call. throughout (sizes_of s n) (from_empty (sizes_of s n)) past room whole tie c call)
    (calls_of events) before e later (history_event s n events b h before e later t) other
