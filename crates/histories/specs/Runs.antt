-- What is said of runs of stored calls: which calls they play, what they are next to the single calls, what a stop means, and when they play every call. The
-- room is lent bytes, for s seats with n connection numbers each; a run is the relation that the contract of `banavoge_play` states, on the bytes given and
-- left, and is told by a number and three counts.
use Rattle.std.specs.Prelude.{List, [], ◌∷◌, ◌++◌, ◌≡◌, ℕ, ◌+◌, ◌-◌, ◌≤◌, ◌<◌, pos, length, drop}
use Rattle.rules.specs.Room.{Sizes, Room}
use Rattle.rules.specs.Call.{Call}
use Rattle.rules.specs.History.{Event, transcript}
use Rattle.room_laws.specs.View.{view_room}
use Rattle.stored.specs.Stored.{stored_bytes, stored_all, Storable, none, call, first_call}
use Rattle.relay.specs.declared.play.Stop.{Stop}
use Rattle.relay.specs.declared.play.Stop.TheVariants.{End, NoCall, Allowance, Output}
use Rattle.relay.specs.Play.{entries_bytes, stops, least_space, next, Run, run, Plays}
use Rattle.banavoge_laws.specs.Answers.{ToldAs}
use Rattle.banavoge_laws.specs.Runs.{stop_number, Counts, Telling, telling, run_told}
use Rattle.histories.specs.Lent.{Lent, AllLong}
use Rattle.histories.specs.History.{Chain, BeginsEmpty, AnyCalls, calls_of}

-- ---- the calls of a run

-- calls that stand at the front of stored bytes, one behind the other
abbrev pub InFront : List ℕ → List Call → Type 0
InFront stored [] = Unit {0}
InFront stored (c ∷ calls) = (first_call stored ≡ call c) × InFront (drop (length (stored_bytes c)) stored) calls

-- each of the calls can be stored
abbrev pub AllStorable : List Call → Type 0
AllStorable [] = Unit {0}
AllStorable (c ∷ calls) = Storable c × AllStorable calls

-- the run on the bytes of a room, and its events
abbrev pub run_on : ℕ → ℕ → ℕ → List ℕ → List ℕ → List ℕ → Run
run_on s n allowance stored b out = run (record { seats = s; numbers = n }) allowance (view_room s n b) stored (length out)

abbrev pub run_events : ℕ → ℕ → ℕ → List ℕ → List ℕ → List ℕ → List Event
run_events s n allowance stored b out = transcript (record { seats = s; numbers = n }) (view_room s n b) (run_on s n allowance stored b out).calls

-- how many stored bytes calls are, and how many are written for them
abbrev pub read_by : List Call → ℕ
read_by calls = length (stored_all calls)

abbrev pub written_for : Sizes → Room → List Call → ℕ
written_for sizes room calls = length (entries_bytes (transcript sizes room calls))

-- ---- next to the single calls

-- a run of which the host was told t, and which left b' and out', and single calls from the same bytes that left `left`: the same events, the same bytes, and in
-- the output of the run what it writes for these events, counted in what is told
pub record SameAsRun (s n allowance : ℕ) (stored b out : List ℕ) (t : Telling) (b' out' : List ℕ) (events : List Event) (left : List ℕ) : Type 0 where
  pub events_are : events ≡ run_events s n allowance stored b out
  pub leaves : left ≡ b'
  pub writes : out' ≡ entries_bytes events ++ drop (length (entries_bytes events)) out
  pub tells : t ≡ telling (pos (stop_number (run_on s n allowance stored b out).why)) (length events) (length (stored_all (calls_of events))) (length (entries_bytes events))

-- a run of stored calls on what `banavoge_room_empty` leaves: what is told, the bytes of the room and the output at the end
pub record RunFromEmpty (s n : ℕ) (stored : List ℕ) (t : Telling) (b' out' : List ℕ) : Type 0 where
  pub room : List ℕ
  pub begun : BeginsEmpty s n room
  pub allowance : ℕ
  pub out : List ℕ
  pub before : Counts
  pub plays : ToldAs (run_told before) (Plays s n allowance stored room out b' out') t

-- the run behind the calls that were made: its own calls had outputs that are long enough
pub record ThenRun (s n : ℕ) (lents : List Lent) (events : List Event) (b' : List ℕ) : Type 0 where
  pub more : List Lent
  pub calls : AnyCalls s n (lents ++ more) events b'
  pub long : AllLong more

-- ---- what a stop means

-- a run within its allowance and the stored bytes, and what comes next where it stopped
pub record StoppedThere (sizes : Sizes) (allowance : ℕ) (room : Room) (stored : List ℕ) (space : ℕ) (r : Run) : Type 0 where
  pub allowed : length r.calls ≤ allowance
  pub there : read_by r.calls ≤ length stored
  pub stopped : next (allowance - length r.calls) (drop (read_by r.calls) stored) (space - written_for sizes room r.calls) ≡ stops r.why

-- some stored call is at the front
pub record CallNext (stored : List ℕ) : Type 0 where
  pub which : Call
  pub first : first_call stored ≡ call which

-- a run with this allowance, these stored bytes and `space` bytes of output stopped for `why`, after `calls` calls, `read` stored bytes and `written` bytes
pub record StopMeans (allowance : ℕ) (stored : List ℕ) (space : ℕ) (why : Stop) (calls read written : ℕ) : Type 0 where
  pub all_read : why ≡ End → read ≡ length stored
  pub no_call : why ≡ NoCall → (read < length stored) × (first_call (drop read stored) ≡ none)
  pub all_allowed : why ≡ Allowance → (read < length stored) × (calls ≡ allowance)
  pub output_short : why ≡ Output → ((n : CallNext (drop read stored)) × (space < written + least_space n.which))

-- ---- when every call is played

-- the output that a run asks for a call is left before each; `before` are the calls before it
abbrev pub LeftForEach : Sizes → Room → List Call → ℕ → Type 0
LeftForEach sizes room calls space =
    (before : List Call) (c : Call) (behind : List Call) → calls ≡ before ++ (c ∷ behind) → written_for sizes room before + least_space c ≤ space

-- a run from b told t and left b': none of the stored calls is left, and the run is a chain of exactly these
abbrev pub AllPlayed : ℕ → ℕ → List Call → List ℕ → Telling → List ℕ → Type 0
AllPlayed s n calls b t b' =
    let events = transcript (record { seats = s; numbers = n }) (view_room s n b) calls in
    (t ≡ telling (pos (stop_number End)) (length calls) (length (stored_all calls)) (length (entries_bytes events))) × Chain s n b events b'
