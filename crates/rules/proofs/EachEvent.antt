-- From one call to every history: what holds of each call in each whole room that says what has happened says holds of each event of each history, by
-- what happened before it; and what holds in each such room holds at each moment of each history. Assumes nothing.
use mathlib.Core.Path.{◌≡◌, subst}
use mathlib.Core.List.{List, [], ◌∷◌, ◌++◌}
use Rattle.rules.specs.Room.{Sizes, Room, empty_room}
use Rattle.rules.specs.Whole.{Whole}
use Rattle.rules.specs.Call.{Call}
use Rattle.rules.specs.Outcome.{outcome, room_after}
use Rattle.rules.specs.History.{Event, event, transcript}
use Rattle.rules.specs.Transcript.{Past, Start, from_empty}
use Rattle.rules.specs.After.{past_after, Tied}
use Rattle.rules.proofs.Whole.{whole_after, whole_empty}
use Rattle.rules.proofs.Tied.{tied_after, tied_empty}

module _ (sizes : Sizes) (start : Start) (P : Past → Event → Type 0)
    (each : (past : Past) (room : Room) → Whole sizes room → Tied start past room → (call : Call) → P past (event room call)) where
  -- from a whole room on, with a past that says what it says
  pub each_event : (past : Past) (room : Room) → Whole sizes room → Tied start past room
      → (calls : List Call) (before : List Event) (e : Event) (later : List Event) → transcript sizes room calls ≡ before ++ (e ∷ later) → P (past_after past before) e
  unfolding transcript past_after
  each_event past room whole tie [] [] e later t = absurd (cc)
  each_event past room whole tie [] (b ∷ before) e later t = absurd (cc)
  each_event past room whole tie (call ∷ calls) [] e later t =
      let q : event room call ≡ e = cc in
      subst (P past) q (each past room whole tie call)
  each_event past room whole tie (call ∷ calls) (b ∷ before) e later t =
      let q : event room call ≡ b = cc in
      rw (← q)
      (each_event (event room call ∷ past) (room_after sizes room (outcome room call)) (whole_after sizes room whole call) (tied_after sizes start past room whole tie call) calls before e later (cc))

-- what holds in each whole room that says what has happened holds at each moment of each history: `before` has happened by then, and `after` is still to come
module _ (sizes : Sizes) (start : Start) (P : Past → Type 0) (each : (past : Past) (room : Room) → Whole sizes room → Tied start past room → P past) where
  pub each_moment : (past : Past) (room : Room) → Whole sizes room → Tied start past room
      → (calls : List Call) (before after : List Event) → transcript sizes room calls ≡ before ++ after → P (past_after past before)
  unfolding transcript past_after
  each_moment past room whole tie calls [] after t = each past room whole tie
  each_moment past room whole tie [] (b ∷ before) after t = absurd (cc)
  each_moment past room whole tie (call ∷ calls) (b ∷ before) after t =
      let q : event room call ≡ b = cc in
      rw (← q)
      (each_moment (event room call ∷ past) (room_after sizes room (outcome room call)) (whole_after sizes room whole call)
      (tied_after sizes start past room whole tie call) calls before after (cc))

-- from the empty room
pub moment_from_empty : (sizes : Sizes) (P : Past → Type 0) → ((past : Past) (room : Room) → Whole sizes room → Tied (from_empty sizes) past room → P past)
    → (calls : List Call) (before after : List Event) → transcript sizes (empty_room sizes) calls ≡ before ++ after → P (past_after [] before)
moment_from_empty sizes P each = each_moment sizes (from_empty sizes) P each [] (empty_room sizes) (whole_empty sizes) (tied_empty sizes)

pub from_empty_lem : (sizes : Sizes) (P : Past → Event → Type 0)
    → ((past : Past) (room : Room) → Whole sizes room → Tied (from_empty sizes) past room → (call : Call) → P past (event room call))
    → (calls : List Call) (before : List Event) (e : Event) (later : List Event) → transcript sizes (empty_room sizes) calls ≡ before ++ (e ∷ later) → P (past_after [] before) e
from_empty_lem sizes P each = each_event sizes (from_empty sizes) P each [] (empty_room sizes) (whole_empty sizes) (tied_empty sizes)
