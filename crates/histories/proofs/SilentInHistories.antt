-- Document 02, "Notice dead laptops": "where the clock moves by at most one second a tick, a client that never answers is gone when the clock is 40 past its latest
-- arrival." After any calls from the empty room in lent memory, whatever outputs the host lent: gone by what the host has seen, and the room that the last call left
-- says so too. And at every moment of a history. Assumes nothing.
use mathlib.Core.Path.{◌≡◌, refl, sym, ap, subst, ◌∙◌}
use mathlib.Core.Bool.{true}
use mathlib.Core.List.{List, [], ◌∷◌, ◌++◌, append-nil}
use mathlib.Core.Logic.{◌≢◌}
use Prim.Native.Nat.{ℕ, ◌+◌, ◌≤◌}
use Rattle.refusal.specs.declared.Refusal.TheVariants.{NotSeated, OutputTooShort}
use Rattle.rules.specs.Room.{Sizes, sizes_of, Key, Room}
use Rattle.rules.specs.Whole.{Whole}
use Rattle.rules.specs.Outcome.{refuse}
use Rattle.rules.specs.History.{Event, event}
use Rattle.rules.specs.Transcript.{Past, Start, client_of, from_empty, clock_of, sitter}
use Rattle.rules.specs.After.{past_after, Tied}
use Rattle.rules.proofs.Tied.{tied_empty}
use Rattle.after_calls.specs.Silent.{NeverAnswers}
use Rattle.after_calls.proofs.Silent.{Goes, AllGo, event_goes, refused_goes, silent_gone}
use Rattle.room_laws.specs.View.{view_room}
use Rattle.room_laws.specs.Whole.{room_whole}
use Rattle.room_laws.proofs.WholeLaws.{whole_view}
use Rattle.banavoge_laws.specs.Answers.{refusal_code}
use Rattle.banavoge_laws.specs.Sitting.{seat_of_key}
use Rattle.histories.specs.Lent.{Lent, lent_event}
use Rattle.histories.specs.History.{AnyChain, none, next, AnyCalls, History}
use Rattle.histories.proofs.LentLaws.{by_space, lent_tied}
use Rattle.histories.proofs.Histories.{step_right, begun_whole, begun_view, history_calls}
use Rattle.histories.proofs.PongsInHistories.{seat_told_after_calls}

-- ---- each call, with whatever output

lent_goes : (start : Start) (past : Past) (sizes : Sizes) (room : Room) → Whole sizes room → Tied start past room → (l : Lent) → Goes start past (lent_event room l)
unfolding lent_event
lent_goes start past sizes room whole tie l =
    by_space (λ o. Goes start past (record { call = l.call; answer = o.answer; sent = o.sent })) room l
    (unfold event in event_goes sizes start past room whole tie l.call)
    (unfold refuse in refused_goes start past l.call OutputTooShort)

any_chain_goes : (s n : ℕ) (b : List ℕ) (lents : List Lent) (events : List Event) (b' : List ℕ) → AnyChain s n b lents events b' → room_whole s n b ≡ true
    → (start : Start) (past : Past) → Tied start past (view_room s n b) → AllGo start past events
any_chain_goes s n b ls es b' none w start past tie = tt
any_chain_goes s n b ls es b' (next {b₁ = b₁} {l = l} {e = e} {lents = lents} {events = events} step chain) w start past tie =
    let r = step_right s n b w l e b₁ step in
    let whole = whole_view s n b w in (
      rw r.sees (lent_goes start past (sizes_of s n) (view_room s n b) whole tie l),
      any_chain_goes s n b₁ lents events b' chain r.whole start (e ∷ past) (rw (r.sees, r.room) (lent_tied (sizes_of s n) start past (view_room s n b) whole tie l)),
    )

-- ---- the 40 seconds: `before` has happened by the arrival `e`, `later` by now, and `after` is still to come

module _ (s n : ℕ) (lents : List Lent) (events : List Event) (b : List ℕ) (h : AnyCalls s n lents events b) (before : List Event) (e : Event) (later : List Event) (key : Key)
    (never : NeverAnswers (from_empty (sizes_of s n)) (past_after [] before) key e later)
    (forty : clock_of (from_empty (sizes_of s n)) (past_after [] before) + 40 ≤ clock_of (from_empty (sizes_of s n)) (past_after [] (before ++ (e ∷ later)))) where
  abbrev all_go : AllGo (from_empty (sizes_of s n)) [] events
  all_go =
      any_chain_goes s n h.room lents events b h.chain (begun_whole s n h.room h.begun) (from_empty (sizes_of s n)) []
      (rw (begun_view s n h.room h.begun) (tied_empty (sizes_of s n)))

  -- by what the host has seen it sits in no seat, whatever outputs the calls were lent
  gone_by_then : (after : List Event) → events ≡ before ++ (e ∷ (later ++ after))
      → (seat : ℕ) → sitter (from_empty (sizes_of s n)) (past_after [] (before ++ (e ∷ later))) seat ≢ client_of key
  gone_by_then after t = silent_gone (from_empty (sizes_of s n)) key [] before e later after (subst (AllGo (from_empty (sizes_of s n)) []) t all_go) never forty

  -- and the room says so too: `banavoge_seat_of` answers minus 3
  pub silent_gone_after_calls : events ≡ before ++ (e ∷ later) → seat_of_key s n b key ≡ refusal_code NotSeated
  silent_gone_after_calls t =
      (seat_told_after_calls s n lents events b h key (seat_of_key s n b key) refl).1.1
      (rw t (gone_by_then [] (t ∙ ap (λ (x : List Event). before ++ (e ∷ x)) (sym (append-nil later)))))

pub silent_gone_in_histories : (s n : ℕ) (events : List Event) (b' : List ℕ) → History s n events b'
    → (before : List Event) (e : Event) (later after : List Event) → events ≡ before ++ (e ∷ (later ++ after))
    → (key : Key) → NeverAnswers (from_empty (sizes_of s n)) (past_after [] before) key e later
    → clock_of (from_empty (sizes_of s n)) (past_after [] before) + 40 ≤ clock_of (from_empty (sizes_of s n)) (past_after [] (before ++ (e ∷ later)))
    → (seat : ℕ) → sitter (from_empty (sizes_of s n)) (past_after [] (before ++ (e ∷ later))) seat ≢ client_of key
silent_gone_in_histories s n events b' h before e later after t key never forty =
    gone_by_then s n h.chain.lents events b' (history_calls s n events b' h) before e later key never forty after t
