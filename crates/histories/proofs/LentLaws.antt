-- What holds of every call, whatever output it is lent: it is the step of `rules`, or the refusal for an output that is too short. Assumes nothing.
use mathlib.Core.Path.{◌≡◌, refl, ap}
use mathlib.Core.Bool.{Bool, true, cond}
use mathlib.Core.List.{List, [], ◌∷◌}
use Prim.Native.Nat.{ℕ, ◌≤◌}
use native.Mathlib.Omega.{arith}
use lib.ListN.{length}
use borrow.Author.Tests.{le-leb}
use Rattle.refusal.specs.declared.Refusal.TheVariants.{OutputTooShort}
use Rattle.rules.specs.Room.{Sizes, Room, sizes_of}
use Rattle.rules.specs.Whole.{Whole}
use Rattle.rules.specs.Outcome.{Outcome, apply_all, refuse, sent_bytes, room_after, outcome}
use Rattle.rules.specs.History.{Event, event, transcript}
use Rattle.rules.specs.Transcript.{Past, Start}
use Rattle.rules.specs.After.{room_after_all, Tied}
use Rattle.rules.specs.Accepted.{RefusedOrAccepted, refusal}
use Rattle.rules.specs.Call.{FieldsFit, most_needed, needed}
use Rattle.rules.proofs.RefusedOrAccepted.{outcome_made}
use Rattle.rules.proofs.Tied.{tied_after, tied_refused}
use Rattle.rules.proofs.WithinOutput.{needs_within}
use Rattle.room_laws.specs.View.{view_room}
use Rattle.room_laws.specs.Whole.{room_whole}
use Rattle.room_laws.specs.Store.{store_all}
use Rattle.room_laws.proofs.OutcomeLaws.{outcome_stored, outcome_within}
use Rattle.relay_laws.specs.Calls.{if_long}
use Rattle.relay_laws.proofs.CallsLaws.{by_length}
use Rattle.histories.specs.Lent.{Lent, lent_outcome, lent_event, lent_transcript, lent_room_after, AllLong, calls_lent}

-- ---- by the length of the output

pub by_space : (P : Outcome → Type 0) (room : Room) (l : Lent) → P (outcome room l.call) → P (refuse OutputTooShort) → P (lent_outcome room l)
unfolding lent_outcome
by_space P room l = by_length P _ _ _

pub long_outcome : (room : Room) (l : Lent) → needed l.call ≤ l.space → lent_outcome room l ≡ outcome room l.call
unfolding lent_outcome if_long
long_outcome room l h = ap (λ (t : Bool). cond t (outcome room l.call) (refuse OutputTooShort)) (le-leb (needed l.call) l.space h)

-- ---- one call

pub lent_made : (room : Room) (l : Lent) → RefusedOrAccepted (lent_outcome room l)
lent_made room l = by_space RefusedOrAccepted room l (outcome_made room l.call) (refusal OutputTooShort refl refl)

module _ (s n : ℕ) (b : List ℕ) (whole : room_whole s n b ≡ true) (l : Lent) where
  pub lent_within : length (sent_bytes (lent_outcome (view_room s n b) l).sent) ≤ most_needed
  lent_within = by_space (λ o. length (sent_bytes o.sent) ≤ most_needed) (view_room s n b) l (omega (arith, outcome_within s n b whole l.call, needs_within l.call)) (unfold refuse sent_bytes in omega arith)

  -- what is stored is what the rules do, and stays whole
  pub lent_stored : FieldsFit l.call
      → (view_room s n (store_all s n b (lent_outcome (view_room s n b) l).changes) ≡ room_after (sizes_of s n) (view_room s n b) (lent_outcome (view_room s n b) l))
      × (room_whole s n (store_all s n b (lent_outcome (view_room s n b) l).changes) ≡ true)
  lent_stored key =
      by_space (λ o. (view_room s n (store_all s n b o.changes) ≡ room_after (sizes_of s n) (view_room s n b) o) × (room_whole s n (store_all s n b o.changes) ≡ true))
      (view_room s n b) l (let q = outcome_stored s n b whole l.call key in (q.0, q.1)) (unfold refuse store_all room_after apply_all in (refl, whole))

-- the room and what has happened go on saying the same
pub lent_tied : (sizes : Sizes) (start : Start) (past : Past) (room : Room) → Whole sizes room → Tied start past room → (l : Lent)
    → Tied start (lent_event room l ∷ past) (room_after sizes room (lent_outcome room l))
unfolding lent_event
lent_tied sizes start past room whole tie l =
    by_space (λ o. Tied start (record { call = l.call; answer = o.answer; sent = o.sent } ∷ past) (room_after sizes room o)) room l
    (unfold event in tied_after sizes start past room whole tie l.call)
    (unfold refuse room_after apply_all in tied_refused OutputTooShort start past room tie l.call)

-- ---- calls one after the other, with outputs that are long enough

pub long_transcript : (sizes : Sizes) (room : Room) (lents : List Lent) → AllLong lents → lent_transcript sizes room lents ≡ transcript sizes room (calls_lent lents)
unfolding lent_transcript lent_event transcript event calls_lent
long_transcript sizes room [] long = refl
long_transcript sizes room (l ∷ lents) long =
    rw (long_outcome room l long.0) (ap (λ (x : List Event). event room l.call ∷ x) (long_transcript sizes (room_after sizes room (outcome room l.call)) lents long.1))

pub long_room : (sizes : Sizes) (room : Room) (lents : List Lent) → AllLong lents → lent_room_after sizes room lents ≡ room_after_all sizes room (calls_lent lents)
unfolding lent_room_after room_after_all calls_lent
long_room sizes room [] long = refl
long_room sizes room (l ∷ lents) long =
    rw (long_outcome room l long.0) (long_room sizes (room_after sizes room (outcome room l.call)) lents long.1)
