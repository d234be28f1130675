-- Demands 2 and 3 of runs of stored calls, `banavoge_play`. What the host sees of a run from the empty room, in the stored bytes, what it is told and the output,
-- is a history (`run_history`), and so is any history with what it sees of a run behind it (`history_then_run`); a run behind any calls, whatever outputs they
-- were lent, is such calls (`calls_then_run`). So what is proved of every history, or of any calls (`history_runs`, `any_calls_run`, `data_after_calls`,
-- `isolation_in_histories`), is proved of runs, of single calls, and of both in any order. And demand 3 written out for two runs, each from
-- the empty room in its own lent memory, of whatever allowances, stored calls and outputs, and for any client C (`isolation_in_runs`): if the records for C are
-- equal and neither run answers another client's request for C with 0, then C is handed the same packets, byte for byte and in order, and each of its own calls
-- gets the same answer. Assumes nothing.
use mathlib.Core.Path.{◌≡◌}
use mathlib.Core.Bool.{false}
use mathlib.Core.List.{List, [], ◌++◌}
use Prim.Native.Nat.{ℕ}
use Rattle.rules.specs.Room.{Key, sizes_of}
use Rattle.rules.specs.History.{Event}
use Rattle.rules.specs.Transcript.{from_empty}
use Rattle.isolation.specs.Record.{record_for, packets_for, answers_for, zero_for_c}
use Rattle.relay.specs.Play.{Plays}
use Rattle.banavoge_laws.specs.Answers.{ToldAs}
use Rattle.banavoge_laws.specs.Runs.{Counts, Telling, run_told}
use Rattle.histories.specs.Lent.{Lent}
use Rattle.histories.specs.History.{none, AnyCalls, History}
use Rattle.histories.specs.RunSeen.{run_seen}
use Rattle.histories.specs.Runs.{RunFromEmpty, ThenRun}
use Rattle.histories.proofs.Histories.{any_calls_run, history_calls}
use Rattle.histories.proofs.IsolationInHistories.{isolation_in_histories}
use Rattle.histories.proofs.RunIsChain.{any_append, long_append, run_is_chain}
use Rattle.histories.proofs.RunSeen.{run_seen_lem}

pub calls_then_run : (s n allowance : ℕ) (stored b out : List ℕ) (before : Counts) (t : Telling) (b' out' : List ℕ) (lents : List Lent) (events : List Event)
    → AnyCalls s n lents events b → ToldAs (run_told before) (Plays s n allowance stored b out b' out') t → ThenRun s n lents (events ++ run_seen stored t out') b'
calls_then_run s n allowance stored b out before t b' out' lents events h p =
    let whole = (any_calls_run s n lents events b h).whole in
    let c = run_is_chain s n allowance stored b out before t b' out' whole p in
    record {
      more = c.lents;
      calls = record {
        room = h.room;
        begun = h.begun;
        chain = rw (run_seen_lem s n allowance stored b out before t b' out' whole p) (any_append h.chain c.calls);
      };
      long = c.long;
    }

-- so a run behind a history is a history
pub history_then_run : (s n allowance : ℕ) (stored b out : List ℕ) (before : Counts) (t : Telling) (b' out' : List ℕ) (events : List Event) → History s n events b
    → ToldAs (run_told before) (Plays s n allowance stored b out b' out') t → History s n (events ++ run_seen stored t out') b'
history_then_run s n allowance stored b out before t b' out' events h p =
    let r = calls_then_run s n allowance stored b out before t b' out' h.chain.lents events (history_calls s n events b h) p in
    record {
      room = r.calls.room;
      begun = r.calls.begun;
      chain = record { lents = h.chain.lents ++ r.more; calls = r.calls.chain; long = long_append h.chain.lents r.more h.chain.long r.long };
    }

pub run_history : (s n : ℕ) (stored : List ℕ) (t : Telling) (b' out' : List ℕ) → RunFromEmpty s n stored t b' out' → History s n (run_seen stored t out') b'
run_history s n stored t b' out' r =
    history_then_run s n r.allowance stored r.room r.out r.before t b' out' []
    (record { room = r.room; begun = r.begun; chain = record { lents = []; calls = none; long = tt } }) r.plays

pub isolation_in_runs : (s n : ℕ) (stored₁ stored₂ : List ℕ) (t₁ t₂ : Telling) (b₁ b₂ out₁ out₂ : List ℕ)
    → RunFromEmpty s n stored₁ t₁ b₁ out₁ → RunFromEmpty s n stored₂ t₂ b₂ out₂ → (c : Key)
    → zero_for_c (from_empty (sizes_of s n)) [] c (run_seen stored₁ t₁ out₁) ≡ false
    → zero_for_c (from_empty (sizes_of s n)) [] c (run_seen stored₂ t₂ out₂) ≡ false
    → record_for (from_empty (sizes_of s n)) [] c (run_seen stored₁ t₁ out₁) ≡ record_for (from_empty (sizes_of s n)) [] c (run_seen stored₂ t₂ out₂)
    → (packets_for (from_empty (sizes_of s n)) [] c (run_seen stored₁ t₁ out₁) ≡ packets_for (from_empty (sizes_of s n)) [] c (run_seen stored₂ t₂ out₂))
    × (answers_for (from_empty (sizes_of s n)) [] c (run_seen stored₁ t₁ out₁) ≡ answers_for (from_empty (sizes_of s n)) [] c (run_seen stored₂ t₂ out₂))
isolation_in_runs s n stored₁ stored₂ t₁ t₂ b₁ b₂ out₁ out₂ r₁ r₂ =
    isolation_in_histories s n (run_seen stored₁ t₁ out₁) (run_seen stored₂ t₂ out₂) b₁ b₂ (run_history s n stored₁ t₁ b₁ out₁ r₁) (run_history s n stored₂ t₂ b₂ out₂ r₂)
