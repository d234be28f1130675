-- One step of a run of stored calls.
use Rattle.std.specs.Prelude.{List, ◌++◌, ◌≡◌, ℕ, ◌≤◌, length, drop, Some, Result, Ok, Err}
use Rattle.rules.specs.Room.{Sizes}
use Rattle.rules.specs.Call.{Call, Answer}
use Rattle.rules.specs.Outcome.{outcome}
use Rattle.rules.specs.History.{event}
use Rattle.room_laws.specs.View.{view_room}
use Rattle.room_laws.specs.Store.{store_all}
use Rattle.stored.specs.declared.StoredCall.{StoredCall}
use Rattle.stored.specs.Stored.{stored_bytes, call, first_call, shown_first}
use Rattle.relay.specs.declared.play.Played.{Played}
use Rattle.relay.specs.declared.play.Run.{Run}
use Rattle.relay.specs.declared.play.Stop.{Stop}
use Rattle.relay_laws.specs.Calls.{Leaves}
use Rattle.relay.specs.Play.{entry_bytes, stops, plays, next, run, LeavesRun}
use Rattle.relay.specs.Play as play

-- the call that is read at the front of stored ones
pub record Reads (stored : List ℕ) (shown : StoredCall) : Type 0 where
  pub size : ℕ
  pub is : Some (shown, size) ≡ shown_first (first_call stored)

-- the call at the front of stored ones is made
abbrev pub Makes : ℕ → ℕ → List ℕ → List ℕ → List ℕ → Answer → List ℕ → List ℕ → Type 0
Makes s n stored b out given b' out' = (c : Call) → first_call stored ≡ call c → Leaves s n (outcome (view_room s n b) c) b out given b' out'

-- what comes next is played, or is a stop, which leaves all
pub data Takes (s n allowance : ℕ) (stored b out : List ℕ) (given : Result Played Stop) (b' out' : List ℕ) : Type 0 where
  stopped : (why : Stop) → next allowance stored (length out) ≡ stops why
      → given ≡ Err why → b' ≡ b → out' ≡ out → Takes s n allowance stored b out given b' out'
  played : (c : Call) (entry : List ℕ) → entry ≡ entry_bytes (event (view_room s n b) c)
      → next allowance stored (length out) ≡ plays c
      → given ≡ Ok (record { read = length (stored_bytes c); written = length entry })
      → b' ≡ store_all s n b (outcome (view_room s n b) c).changes
      → length entry ≤ length out
      → out' ≡ entry ++ drop (length entry) out
      → Takes s n allowance stored b out given b' out'

-- a run on whole bytes
abbrev pub RunsOn : ℕ → ℕ → ℕ → List ℕ → List ℕ → List ℕ → Run → List ℕ → List ℕ → Type 0
RunsOn s n allowance stored b out given b' out' =
    let sizes : Sizes = record { seats = s; numbers = n } in
    LeavesRun s n (play.played sizes (view_room s n b) (run sizes allowance (view_room s n b) stored (length out))) b out (Ok given) b' out'
