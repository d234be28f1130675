-- An arrival hands its own client nothing, by who sat in the seats before the call (`handed`): what it sends are notices for the peers that the client had, and
-- these sit in other seats. In any whole room with a past that says what its tables say, and in every history. Assumes nothing.
use mathlib.Core.Path.{◌≡◌, refl, sym, ap, subst, ◌∙◌}
use mathlib.Core.List.{List, [], ◌∷◌, ◌++◌}
use Rattle.rules.specs.Room.{Sizes, Key, Room, empty_room, Found, none, at, find, seat_of, seat_at}
use Rattle.rules.specs.Whole.{Whole}
use Rattle.rules.specs.Call.{Call, arrive}
use Rattle.rules.specs.Outcome.{Outcome, outcome, accept}
use Rattle.rules.specs.History.{Event, event, transcript}
use Rattle.rules.specs.Transcript.{Past, Start, from_empty}
use Rattle.rules.specs.After.{past_after, Tied}
use Rattle.isolation.specs.Record.{handed}
use Rattle.rules.proofs.FindLaws.{held_of}
use Rattle.rules.proofs.EachEvent.{from_empty_lem}
use Rattle.rules.proofs.ComesBack.{held, sits_there, some_empty, comes_back_to, new_sends_nothing}
use Rattle.isolation.proofs.ViewLaws.{handed_by, handed_law, own_tells}

module _ (sizes : Sizes) (start : Start) (past : Past) (room : Room) (whole : Whole sizes room) (tie : Tied start past room) (key : Key) where
  none_handed : (f : Found) → find (seat_of key) room.seats ≡ f → handed_by key room (outcome room (arrive key)).sent ≡ []
  unfolding handed_by accept
  none_handed none e = ap (handed_by key room) (new_sends_nothing room key e)
  none_handed (at seat) e =
      ap (λ (o : Outcome). handed_by key room o.sent) (comes_back_to room key seat e (some_empty room key seat e).place (some_empty room key seat e).lowest)
      ∙ own_tells sizes room whole key seat (held_of (seat_at room seat)) (sits_there room key seat e) (held room key seat e).routes

  pub own_arrival_hands_none : handed start past key (event room (arrive key)).sent ≡ []
  unfolding event
  own_arrival_hands_none = handed_law start past room tie key (outcome room (arrive key)).sent ∙ none_handed (find (seat_of key) room.seats) refl

-- every history, from the empty room
pub own_arrival_from_empty : (sizes : Sizes) (calls : List Call) (before : List Event) (e : Event) (later : List Event)
    → transcript sizes (empty_room sizes) calls ≡ before ++ (e ∷ later) → (key : Key) → e.call ≡ arrive key → handed (from_empty sizes) (past_after [] before) key e.sent ≡ []
unfolding event
own_arrival_from_empty sizes calls before e later t key =
    from_empty_lem sizes (λ past e. e.call ≡ arrive key → handed (from_empty sizes) past key e.sent ≡ [])
    (λ past room whole tie call c. subst (λ (x : Call). handed (from_empty sizes) past key (event room x).sent ≡ []) (sym c) (own_arrival_hands_none sizes (from_empty sizes) past room whole tie key))
    calls before e later t
