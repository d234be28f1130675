-- A run of stored calls, `banavoge_play`, is a chain of the exported single calls. From whole bytes, whatever the allowance, the stored bytes and the output:
--
--   - the calls that a run plays, made one by one, each on the bytes that the last returned and with some output that is long enough, leave the bytes that the
--     run leaves, and their events are the rules' transcript of the calls played (`run_is_chain`);
--   - the other way, any single calls that are those of the run, whatever outputs of 2,048 bytes or more are lent to them, are seen as the same events and leave
--     the same bytes, and what the run writes is these events, entry by entry, and then what stood behind them (`chain_is_run`);
--   - chains join, so runs and single calls may stand in one history in any order (`chain_append`, `run_behind`);
--   - and what a run plays are the calls that are stored, in order, with none skipped (`run_in_front`).
--
-- So a host learns from a run what it would learn from the single calls, to the byte. Assumes nothing.
use mathlib.Core.Path.{◌≡◌, refl, sym, ap, ap₂, ◌∙◌}
use mathlib.Core.Bool.{true}
use mathlib.Core.List.{List, [], ◌∷◌, ◌++◌}
use Prim.Native.Nat.{ℕ, zero, suc, ◌-◌, ◌≤◌}
use native.Mathlib.Omega.{arith}
use lib.IntN.{pos}
use lib.ListN.{length, drop, replicate, length-replicate}
use Rattle.rules.specs.Room.{Sizes, Room, sizes_of}
use Rattle.rules.specs.Call.{Call, most_needed}
use Rattle.rules.specs.Outcome.{outcome, room_after}
use Rattle.rules.specs.History.{Event, event, transcript}
use Rattle.room_laws.specs.View.{view_room}
use Rattle.room_laws.specs.Whole.{room_whole}
use Rattle.room_laws.specs.Store.{store_all}
use Rattle.stored.specs.Stored.{stored_bytes}
use Rattle.relay.specs.Play.{entry_bytes, entries_bytes, Next, stops, plays, Run, go_on, run, changes_all, played, playing, LeavesRun, Plays}
use Rattle.relay.specs.Play as play
use Rattle.relay_laws.proofs.PartLaws.{store_all_append}
use Rattle.relay.proofs.PlayLaws.{next_is, rest_of}
use Rattle.relay.proofs.RunCases.{stored_key}
use Rattle.banavoge_laws.specs.Answers.{ToldAs}
use Rattle.banavoge_laws.specs.Runs.{stop_number, run_code, Counts, run_counts, Telling, telling, run_told}
use Rattle.histories.specs.Lent.{Lent, AllLong}
use Rattle.histories.specs.History.{AnyChain, none, next, Chain, calls_of}
use Rattle.histories.specs.Runs.{InFront, run_on, run_events, read_by, written_for, SameAsRun}
use Rattle.histories.specs.Sequences.{AllFieldsFit}
use Rattle.histories.proofs.Histories.{long_step_right, chain_runs}
use Rattle.histories.proofs.EverySequence.{every_chain}

-- ---- chains

pub any_append : {s n : ℕ} {b b₁ b₂ : List ℕ} {lents more : List Lent} {events later : List Event} → AnyChain s n b lents events b₁ → AnyChain s n b₁ more later b₂
    → AnyChain s n b (lents ++ more) (events ++ later) b₂
any_append none d = d
any_append (next step c) d = next step (any_append c d)

pub long_append : (lents more : List Lent) → AllLong lents → AllLong more → AllLong (lents ++ more)
long_append [] more h k = k
long_append (l ∷ lents) more h k = (h.0, long_append lents more h.1 k)

pub chain_append : {s n : ℕ} {b b₁ b₂ : List ℕ} {events later : List Event} → Chain s n b events b₁ → Chain s n b₁ later b₂ → Chain s n b (events ++ later) b₂
chain_append c d = record { lents = c.lents ++ d.lents; calls = any_append c.calls d.calls; long = long_append c.lents d.lents c.long d.long }

-- an event for each call
length_calls : (events : List Event) → length (calls_of events) ≡ length events
unfolding calls_of
length_calls [] = refl
length_calls (e ∷ events) = ap suc (length_calls events)

-- what any chain leaves of whole bytes: the changes of all its calls are stored
calls_leave : (s n : ℕ) (b : List ℕ) (lents : List Lent) (events : List Event) (b' : List ℕ) → AnyChain s n b lents events b' → AllLong lents → room_whole s n b ≡ true
    → b' ≡ store_all s n b (changes_all (sizes_of s n) (view_room s n b) (calls_of events))
unfolding store_all changes_all calls_of
calls_leave s n b ls es b' none long w = refl
calls_leave s n b ls es b' (next {b₁ = b₁} {l = l} {e = e} {lents = lents} {events = events} step chain) long w =
    let r = long_step_right s n b w l e b₁ step long.0 in
    let o = outcome (view_room s n b) e.call in
    calls_leave s n b₁ lents events b' chain long.1 r.whole
    ∙ ap₂ (λ (x : List ℕ) (y : Room). store_all s n x (changes_all (sizes_of s n) y (calls_of events))) r.stores r.room
    ∙ sym (store_all_append s n b o.changes (changes_all (sizes_of s n) (room_after (sizes_of s n) (view_room s n b) o) (calls_of events)))

pub chain_leaves : (s n : ℕ) (b : List ℕ) (events : List Event) (b' : List ℕ) → Chain s n b events b' → room_whole s n b ≡ true
    → b' ≡ store_all s n b (changes_all (sizes_of s n) (view_room s n b) (calls_of events))
chain_leaves s n b events b' c = calls_leave s n b c.lents events b' c.calls c.long

-- ---- the calls of a run

-- a run plays the calls that are stored, in order, and skips none
pub run_in_front : (sizes : Sizes) (allowance : ℕ) (room : Room) (stored : List ℕ) (space : ℕ) → InFront stored (run sizes allowance room stored space).calls
unfolding run go_on
run_in_front sizes zero room stored space = tt
run_in_front sizes (suc more) room stored space =
    go (play.next (suc more) stored space) refl
    (λ c. run_in_front sizes more (room_after sizes room (outcome room c)) (drop (length (stored_bytes c)) stored) (space - length (entry_bytes (event room c))))
  where
    later : Call → Run
    later = rest_of sizes room stored space more

    go : (x : Next) → play.next (suc more) stored space ≡ x → ((c : Call) → InFront (drop (length (stored_bytes c)) stored) (later c).calls)
        → InFront stored (go_on x later).calls
    go (stops why) e k = tt
    go (plays c) e k = ((next_is (suc more) stored space c e).first, k c)

-- so each arrival is by a key of 32 bytes: no other is a stored call
keys_in_front : (stored : List ℕ) (calls : List Call) → InFront stored calls → AllFieldsFit calls
keys_in_front stored [] f = tt
keys_in_front stored (c ∷ calls) f = (stored_key stored c f.0, keys_in_front (drop (length (stored_bytes c)) stored) calls f.1)

-- ---- the theorem

-- some output that is long enough
some_output : List ℕ
some_output = replicate most_needed 0

long_output : most_needed ≤ length some_output
unfolding some_output
long_output = omega (arith, length-replicate {A = ℕ} most_needed 0)

module _ (s n allowance : ℕ) (stored b out : List ℕ) (before : Counts) (t : Telling) (b' out' : List ℕ) (whole : room_whole s n b ≡ true)
    (p : ToldAs (run_told before) (Plays s n allowance stored b out b' out') t) where
  -- the room is whole, so nothing is refused
  run_played : LeavesRun s n (played (sizes_of s n) (view_room s n b) (run_on s n allowance stored b out)) b out p.given b' out'
  unfolding playing
  run_played = rw whole at p.relates

  -- what the host is told
  pub run_told_lem : let r = run_on s n allowance stored b out in
      t ≡ telling (pos (stop_number r.why)) (length r.calls) (read_by r.calls) (written_for (sizes_of s n) (view_room s n b) r.calls)
  unfolding played run_told run_code run_counts
  run_told_lem = p.codes ∙ ap (run_told before) run_played.answers

  -- what is written
  pub run_writes : let events = run_events s n allowance stored b out in out' ≡ entries_bytes events ++ drop (length (entries_bytes events)) out
  unfolding played
  run_writes = run_played.writes

  pub chain_is_run : (events : List Event) (left : List ℕ) → Chain s n b events left → calls_of events ≡ (run_on s n allowance stored b out).calls
      → SameAsRun s n allowance stored b out t b' out' events left
  unfolding played
  chain_is_run events left chain same =
      let e = (chain_runs s n b events left chain whole).events_are ∙ ap (transcript (sizes_of s n) (view_room s n b)) same in
      let l = chain_leaves s n b events left chain whole ∙ ap (λ (calls : List Call). store_all s n b (changes_all (sizes_of s n) (view_room s n b) calls)) same in
      record {
        events_are = e;
        leaves = l ∙ sym run_played.stores;
        writes = rw e run_writes;
        tells = rw (← length_calls events, same, e) run_told_lem;
      }

  pub run_is_chain : Chain s n b (run_events s n allowance stored b out) b'
  run_is_chain =
      let calls = (run_on s n allowance stored b out).calls in
      let keys = keys_in_front stored calls (run_in_front (sizes_of s n) allowance (view_room s n b) stored (length out)) in
      let c = every_chain some_output long_output s n b calls keys in
      let r = chain_is_run c.events c.left c.chain c.are in
      rw (← r.events_are, ← r.leaves) c.chain

-- a run behind any chain
pub run_behind : (s n allowance : ℕ) (stored b₀ b out : List ℕ) (before : Counts) (t : Telling) (b' out' : List ℕ) (events : List Event) → Chain s n b₀ events b
    → room_whole s n b₀ ≡ true → ToldAs (run_told before) (Plays s n allowance stored b out b' out') t
    → Chain s n b₀ (events ++ run_events s n allowance stored b out) b'
run_behind s n allowance stored b₀ b out before t b' out' events chain w p =
    chain_append chain (run_is_chain s n allowance stored b out before t b' out' (chain_runs s n b₀ events b chain w).whole p)
