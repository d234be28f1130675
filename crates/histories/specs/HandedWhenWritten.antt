-- What C is handed by a tick, by who sits in the seat of each record when it is written. Document 01: "C's packets are, in the order sent, those in the output
-- records for the seat C holds when each is written." `handed` of `isolation` goes by who sat there before the call.
use Rattle.std.specs.Prelude.{List, [], ◌++◌, ℕ}
use Rattle.rules.specs.Room.{Sizes, Key}
use Rattle.rules.specs.Call.{Sent}
use Rattle.rules.specs.History.{Event}
use Rattle.rules.specs.Transcript.{Past, Start}
use Rattle.after_calls.specs.Ticks.{LeavesFrom, done, leaves, stays, TickDoes}
use Rattle.after_calls.specs.Handed.{after_leaves}
use Rattle.isolation.specs.Record.{handed}

-- of the records of the departures: those of one are written after the departures before it, as Leave calls
unfoldable pub handed_by_leaves : {sizes : Sizes} {start : Start} {past : Past} {time : ℕ} {now : Past} {seat many : ℕ} {sent : List Sent}
    → Key → LeavesFrom sizes start past time now seat many sent → List (List ℕ)
handed_by_leaves c done = []
handed_by_leaves {start = start} c (leaves {now = now} front o tells rest) = handed start now c front ++ handed_by_leaves c rest
handed_by_leaves c (stays remains rest) = handed_by_leaves c rest

-- and then of the pings, which are written after the departures
unfoldable pub handed_by_tick : {sizes : Sizes} {start : Start} {past : Past} {time number : ℕ} {e : Event}
    → Key → TickDoes sizes start past time number e → List (List ℕ)
handed_by_tick {start = start} c does = handed_by_leaves c does.sent.first ++ handed start (after_leaves does.sent.first) c does.sent.back
