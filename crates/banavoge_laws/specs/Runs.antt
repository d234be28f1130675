-- What the exported run of stored calls answers and tells. The relation is that of `relay` (`Plays`), for document 01's 40 seats and 32 numbers; here the
-- answer becomes one number and three counts.
use Rattle.std.specs.Prelude.{ℕ, ℤ, pos, Result, Ok, Err}
use Rattle.refusal.specs.declared.Refusal.{Refusal}
use Rattle.relay.specs.declared.play.Run.{Run}
use Rattle.relay.specs.declared.play.Stop.{Stop}
use Rattle.relay.specs.declared.play.Stop.TheVariants.{End, NoCall, Allowance, Output}
use Rattle.banavoge_laws.specs.Answers.{refusal_code}

-- why it stopped
unfoldable pub stop_number : Stop → ℕ
stop_number End = 0
stop_number NoCall = 1
stop_number Allowance = 2
stop_number Output = 3

-- why it stopped, or minus the refusal
unfoldable pub run_code : Result Run Refusal → ℤ
run_code (Ok run) = pos (stop_number run.why)
run_code (Err why) = refusal_code why

-- the caller's three places: calls played, bytes read, bytes written
pub record Counts : Type 0 where
  pub played : ℕ
  pub read : ℕ
  pub written : ℕ

abbrev pub counts : ℕ → ℕ → ℕ → Counts
counts played read written = record { played = played; read = read; written = written }

-- a refusal leaves them as they were
unfoldable pub run_counts : Result Run Refusal → Counts → Counts
run_counts (Ok run) before = counts run.played run.read run.written
run_counts (Err why) before = before

-- all that the host is told of a run
pub record Telling : Type 0 where
  pub answer : ℤ
  pub counts : Counts

abbrev pub telling : ℤ → ℕ → ℕ → ℕ → Telling
telling answer played read written = record { answer = answer; counts = counts played read written }

unfoldable pub run_told : Counts → Result Run Refusal → Telling
run_told before run = record { answer = run_code run; counts = run_counts run before }
