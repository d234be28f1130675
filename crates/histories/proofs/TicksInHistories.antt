-- Ticks that the host makes: document 02, "Notice dead laptops". After any calls from the empty room in lent memory, whatever outputs it lent, `banavoge_tick`
-- with an output that is long enough is answered, and does, what the paper says by what the host has seen before (`tick_after_calls`, `tick_does_after_calls`);
-- and so does every tick inside a history. That the room after it says the same is `any_calls_tied` (`Histories`), and that a refused one leaves room and output is
-- `refused_leaves` (`RefusedLeaves`). And after any calls `banavoge_key_in` tells who sits in a seat. Assumes nothing.
use mathlib.Core.Path.{◌≡◌, refl, sym, ap, subst, ◌∙◌}
use mathlib.Core.Bool.{true, false}
use mathlib.Core.List.{List, [], ◌∷◌, ◌++◌}
use Prim.Native.Nat.{ℕ, ◌≤◌}
use lib.IntN.{ℤ}
use lib.ListN.{length}
use Rattle.rules.specs.Room.{sizes_of}
use Rattle.rules.specs.Call.{Call, tick, needed}
use Rattle.rules.specs.History.{Event, event}
use Rattle.rules.specs.Transcript.{from_empty, is_accepted, sitter}
use Rattle.rules.specs.After.{past_after}
use Rattle.after_calls.specs.Ticks.{TickAnswered, AsBefore, TickDoes}
use Rattle.after_calls.proofs.Ticks.{tick_answered, refused_tick}
use Rattle.after_calls.proofs.TickTells.{tick_does, tick_answered_from_empty, refused_tick_from_empty, tick_does_from_empty}
use Rattle.relay_laws.specs.Calls.{Ticks}
use Rattle.banavoge_laws.specs.Answers.{ToldAs}
use Rattle.banavoge_laws.specs.RelayCalls.{count_code}
use Rattle.banavoge_laws.specs.Sitting.{Told, sit_code, key_then, TellsSitter, told_of}
use Rattle.banavoge_laws.proofs.SittingLaws.{told_of_sitter}
use Rattle.histories.specs.Seen.{seen_as, seen}
use Rattle.histories.specs.Lent.{Lent, lent_with}
use Rattle.histories.specs.History.{ticks, AnyCalls, History, calls_of}
use Rattle.histories.proofs.Histories.{any_calls_run, any_calls_tied, after_calls_lem, history_event}

-- ---- after any calls

module _ (s n : ℕ) (lents : List Lent) (events : List Event) (b : List ℕ) (h : AnyCalls s n lents events b) (time number : ℕ) (out b' out' : List ℕ) (answer : ℤ)
    (long : needed (tick time number) ≤ length out) (told : ToldAs count_code (Ticks s n time number b out b' out') answer) where
  abbrev tick_event : Event
  tick_event = seen (tick time number) 0 answer out'

  pub tick_after_calls : TickAnswered (from_empty (sizes_of s n)) (past_after [] events) time number (seen (tick time number) 0 answer out')
  unfolding seen seen_as event
  tick_after_calls =
      after_calls_lem s n (λ past e. e.call ≡ tick time number → TickAnswered (from_empty (sizes_of s n)) past time number e)
      (λ past room whole tie call c.
      subst (λ (x : Call). TickAnswered (from_empty (sizes_of s n)) past time number (event room x)) (sym c)
      (tick_answered (sizes_of s n) (from_empty (sizes_of s n)) past room whole tie time number))
      lents events b h (lent_with (tick time number) out) tick_event b' (ticks time number out out' answer told refl refl) long refl

  -- a refused one does nothing
  pub refused_tick_after_calls : is_accepted (seen (tick time number) 0 answer out').answer ≡ false
      → AsBefore (from_empty (sizes_of s n)) (past_after [] events) (seen (tick time number) 0 answer out')
  unfolding seen seen_as event
  refused_tick_after_calls =
      after_calls_lem s n (λ past e. e.call ≡ tick time number → is_accepted e.answer ≡ false → AsBefore (from_empty (sizes_of s n)) past e)
      (λ past room whole tie call c.
      subst (λ (x : Call). is_accepted (event room x).answer ≡ false → AsBefore (from_empty (sizes_of s n)) past (event room x)) (sym c)
      (refused_tick (sizes_of s n) (from_empty (sizes_of s n)) past room whole tie time number))
      lents events b h (lent_with (tick time number) out) tick_event b' (ticks time number out out' answer told refl refl) long refl

  pub tick_does_after_calls : is_accepted (seen (tick time number) 0 answer out').answer ≡ true
      → TickDoes (sizes_of s n) (from_empty (sizes_of s n)) (past_after [] events) time number (seen (tick time number) 0 answer out')
  unfolding seen seen_as event
  tick_does_after_calls =
      after_calls_lem s n (λ past e. e.call ≡ tick time number → is_accepted e.answer ≡ true → TickDoes (sizes_of s n) (from_empty (sizes_of s n)) past time number e)
      (λ past room whole tie call c.
      subst (λ (x : Call). is_accepted (event room x).answer ≡ true → TickDoes (sizes_of s n) (from_empty (sizes_of s n)) past time number (event room x)) (sym c)
      (tick_does (sizes_of s n) (from_empty (sizes_of s n)) past room whole tie time number))
      lents events b h (lent_with (tick time number) out) tick_event b' (ticks time number out out' answer told refl refl) long refl

-- ---- inside a history

module _ (s n : ℕ) (events : List Event) (b' : List ℕ) (h : History s n events b') (before : List Event) (e : Event) (later : List Event)
    (t : events ≡ before ++ (e ∷ later)) (time number : ℕ) (c : e.call ≡ tick time number) where
  pub tick_in_histories : TickAnswered (from_empty (sizes_of s n)) (past_after [] before) time number e
  tick_in_histories = tick_answered_from_empty (sizes_of s n) (calls_of events) before e later (history_event s n events b' h before e later t) time number c

  pub refused_tick_in_histories : is_accepted e.answer ≡ false → AsBefore (from_empty (sizes_of s n)) (past_after [] before) e
  refused_tick_in_histories = refused_tick_from_empty (sizes_of s n) (calls_of events) before e later (history_event s n events b' h before e later t) time number c

  pub tick_does_in_histories : is_accepted e.answer ≡ true → TickDoes (sizes_of s n) (from_empty (sizes_of s n)) (past_after [] before) time number e
  tick_does_in_histories = tick_does_from_empty (sizes_of s n) (calls_of events) before e later (history_event s n events b' h before e later t) time number c

-- ---- who was put out: after any calls, `banavoge_key_in` tells who sits in a seat by what the host has seen

module _ (s n : ℕ) (lents : List Lent) (events : List Event) (b : List ℕ) (h : AnyCalls s n lents events b) where
  pub sitter_told_after_calls : (seat : ℕ) (before after : List ℕ) (answer : ℤ) → TellsSitter s n seat b before after answer
      → (answer ≡ sit_code (told_of (sitter (from_empty (sizes_of s n)) (past_after [] events) seat)))
      × (after ≡ key_then (told_of (sitter (from_empty (sizes_of s n)) (past_after [] events) seat)) before)
  sitter_told_after_calls seat before after answer c =
      let e = told_of_sitter s n b (any_calls_run s n lents events b h).whole (from_empty (sizes_of s n)) (past_after [] events) (any_calls_tied s n lents events b h) seat in
      (c.answers ∙ ap sit_code e, c.leaves ∙ ap (λ (t : Told). key_then t before) e)
