-- Whom a call's records go to, by what has happened alone. Document 01: "those in the output records for the seat C holds when each is written". A tick may write
-- a record for a seat that it empties afterwards; an arrival or a Leave writes them for seats in which one client sits before it and after it.
use Rattle.std.specs.Prelude.{List, [], ◌∷◌, ◌≡◌, ℕ}
use Rattle.rules.specs.Room.{Sizes, Key}
use Rattle.rules.specs.Call.{Sent}
use Rattle.rules.specs.History.{Event}
use Rattle.rules.specs.Transcript.{Past, client_of, Start, sitter}
use Rattle.after_calls.specs.Ticks.{LeavesFrom, done, leaves, stays, TickDoes}

-- a client sits in the seat of a record after `now`, which is when it is written or, of an arrival or a Leave, after the call; and the same client sat there before
-- the call, after `past`
pub record SameSitter (start : Start) (past now : Past) (s : Sent) : Type 0 where
  pub key : Key
  pub written : sitter start now s.seat ≡ client_of key
  pub before : sitter start past s.seat ≡ client_of key

-- a client sat there before the call
pub record SatBefore (start : Start) (past : Past) (s : Sent) : Type 0 where
  pub key : Key
  pub sits : sitter start past s.seat ≡ client_of key

-- of each record
unfoldable pub EachSent : (Sent → Type 0) → List Sent → Type 0
EachSent P [] = Unit {0}
EachSent P (s ∷ rest) = P s × EachSent P rest

-- the records of the departures, each at the moment of its own departure: it is written after the departures before that one, as Leave calls
unfoldable pub EachWritten : {sizes : Sizes} {start : Start} {past : Past} {time : ℕ} {now : Past} {seat many : ℕ} {sent : List Sent}
    → LeavesFrom sizes start past time now seat many sent → Type 0
EachWritten done = Unit {0}
EachWritten {start = start} {past = past} (leaves {now = now} front o tells rest) = EachSent (SameSitter start past now) front × EachWritten rest
EachWritten (stays remains rest) = EachWritten rest

-- what has happened after the departures, when the pings are written
unfoldable pub after_leaves : {sizes : Sizes} {start : Start} {past : Past} {time : ℕ} {now : Past} {seat many : ℕ} {sent : List Sent}
    → LeavesFrom sizes start past time now seat many sent → Past
after_leaves (done {now = now}) = now
after_leaves (leaves front o tells rest) = after_leaves rest
after_leaves (stays remains rest) = after_leaves rest

-- of an accepted tick, whose records are those of the departures and then the pings: for each, whoever sits in its seat when it is written is the client that
-- sat there before the call, and there is one
pub record TickHanded {sizes : Sizes} {start : Start} {past : Past} {time number : ℕ} {e : Event} (does : TickDoes sizes start past time number e) : Type 0 where
  pub departures : EachWritten does.sent.first
  pub pings : EachSent (SameSitter start past (after_leaves does.sent.first)) does.sent.back
  -- so each record that the tick sends goes to a seat in which a client sat before the call
  pub all : EachSent (SatBefore start past) e.sent
