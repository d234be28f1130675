-- What the theorems on calls say of what the host sees and of the bytes that are left, next to document 01's steps: of one call, and of calls one after the
-- other.
use Rattle.std.specs.Prelude.{true, List, ◌≡◌, ℕ}
use Rattle.rules.specs.Room.{sizes_of, Room}
use Rattle.rules.specs.Outcome.{Outcome, outcome, room_after}
use Rattle.rules.specs.History.{Event, event, transcript}
use Rattle.rules.specs.After.{room_after_all}
use Rattle.room_laws.specs.View.{view_room}
use Rattle.room_laws.specs.Whole.{room_whole}
use Rattle.room_laws.specs.Store.{store_all}
use Rattle.histories.specs.Lent.{Lent, lent_outcome, lent_event, lent_transcript, lent_room_after}
use Rattle.histories.specs.History.{calls_of}

-- ---- one call

-- the host sees the event `due`, and the bytes left are those given with the changes of the outcome stored: whole, and the room that the outcome leaves
pub record Does (s n : ℕ) (b : List ℕ) (o : Outcome) (due e : Event) (b' : List ℕ) : Type 0 where
  pub sees : e ≡ due
  pub stores : b' ≡ store_all s n b o.changes
  pub room : view_room s n b' ≡ room_after (sizes_of s n) (view_room s n b) o
  pub whole : room_whole s n b' ≡ true

-- a call with any output is document 01's step for it
abbrev pub StepRight : ℕ → ℕ → List ℕ → Lent → Event → List ℕ → Type 0
StepRight s n b l e b' = Does s n b (lent_outcome (view_room s n b) l) (lent_event (view_room s n b) l) e b'

-- and with one that is long enough the step of `rules`
abbrev pub Right : ℕ → ℕ → List ℕ → Event → List ℕ → Type 0
Right s n b e b' = Does s n b (outcome (view_room s n b) e.call) (event (view_room s n b) e.call) e b'

-- ---- one after the other

-- the events are those that are `due`, and the bytes at the end are the room `last`, whole
pub record EndsIn (s n : ℕ) (due : List Event) (last : Room) (events : List Event) (b' : List ℕ) : Type 0 where
  pub events_are : events ≡ due
  pub room_is : view_room s n b' ≡ last
  pub whole : room_whole s n b' ≡ true

-- demand 2: "every answer, refusal and record equals 01's steps", from a room on, with any outputs
abbrev pub EqualsSteps : ℕ → ℕ → Room → List Lent → List Event → List ℕ → Type 0
EqualsSteps s n room lents events b' = EndsIn s n (lent_transcript (sizes_of s n) room lents) (lent_room_after (sizes_of s n) room lents) events b'

-- the same with outputs that are long enough: the events are the rules' transcript of their calls
abbrev pub EqualsRules : ℕ → ℕ → Room → List Event → List ℕ → Type 0
EqualsRules s n room events b' = EndsIn s n (transcript (sizes_of s n) room (calls_of events)) (room_after_all (sizes_of s n) room (calls_of events)) events b'
