-- One outcome after another, as one call (`and_then`): it is accepted exactly where both are. Then the room after it is the room after the second from the
-- room after the first, and what is sent is what the first sends and then what the second sends, with the bytes of both counted. Otherwise it is refused,
-- with the refusal of the first that is refused, the room is as before and nothing is sent. Which two of three are put together first makes no difference,
-- and a whole room stays whole. Assumes nothing.
use mathlib.Core.Path.{◌≡◌, refl, ap, ap₂, ◌∙◌}
use mathlib.Core.Bool.{true, false, ◌&&◌, true≢false, false≢true}
use mathlib.Core.List.{List, [], ◌∷◌, ◌++◌, append_assoc}
use Prim.Native.Nat.{ℕ, ◌+◌}
use lib.ListN.{length}
use Rattle.refusal.specs.declared.Refusal.{Refusal}
use Rattle.rules.specs.Room.{Sizes, Room}
use Rattle.rules.specs.Whole.{Whole}
use Rattle.rules.specs.Call.{Answer, accepted, refused}
use Rattle.rules.specs.Outcome.{Change, apply, apply_all, Outcome, refuse, sent_bytes, accept, room_after, join_outcomes, and_then}
use Rattle.rules.specs.Transcript.{is_accepted}
use Rattle.rules.proofs.SentLaws.{count_append}

pub changes_append : (sizes : Sizes) (room : Room) (a b : List Change) → apply_all sizes room (a ++ b) ≡ apply_all sizes (apply_all sizes room a) b
unfolding apply_all
changes_append sizes room [] b = refl
changes_append sizes room (change ∷ a) b = changes_append sizes (apply sizes room change) a b

module _ (sizes : Sizes) (room : Room) (first : Outcome) (next : Room → Outcome) where
  -- the room between, and the second from there
  abbrev between : Room
  between = room_after sizes room first

  abbrev second : Outcome
  second = next between

  abbrev together : Outcome
  together = and_then sizes room first next

  pub accepted_both : is_accepted together.answer ≡ is_accepted first.answer && is_accepted second.answer
  unfolding and_then join_outcomes is_accepted refuse accept
  accepted_both = go first.answer second.answer
    where
      go : (a b : Answer) → is_accepted (join_outcomes a b first second).answer ≡ is_accepted a && is_accepted b
      go (refused why) b = refl
      go (accepted seat count) (refused why) = refl
      go (accepted seat count) (accepted seat' count') = refl

  -- both accepted
  pub room_after_both : is_accepted together.answer ≡ true → room_after sizes room together ≡ room_after sizes between second
  unfolding and_then join_outcomes is_accepted refuse accept room_after
  room_after_both = go first.answer second.answer
    where
      go : (a b : Answer) → is_accepted (join_outcomes a b first second).answer ≡ true → room_after sizes room (join_outcomes a b first second) ≡ room_after sizes between second
      go (refused why) b h = absurd (false≢true h)
      go (accepted seat count) (refused why) h = absurd (false≢true h)
      go (accepted seat count) (accepted seat' count') h = changes_append sizes room first.changes second.changes

  pub sent_by_both : is_accepted together.answer ≡ true → together.sent ≡ first.sent ++ second.sent
  unfolding and_then join_outcomes is_accepted refuse accept
  sent_by_both = go first.answer second.answer
    where
      go : (a b : Answer) → is_accepted (join_outcomes a b first second).answer ≡ true → (join_outcomes a b first second).sent ≡ first.sent ++ second.sent
      go (refused why) b h = absurd (false≢true h)
      go (accepted seat count) (refused why) h = absurd (false≢true h)
      go (accepted seat count) (accepted seat' count') h = refl

  -- the answer: the second's seat, and the bytes of both
  pub bytes_of_both : (seat seat' count count' : ℕ) → first.answer ≡ accepted seat count → second.answer ≡ accepted seat' count'
      → together.answer ≡ accepted seat' (length (sent_bytes first.sent) + length (sent_bytes second.sent))
  unfolding and_then join_outcomes accept
  bytes_of_both seat seat' count count' e e' =
      ap₂ (λ (a b : Answer). (join_outcomes a b first second).answer) e e' ∙ ap (accepted seat') (count_append first.sent second.sent)

  -- one refused: the whole is, with that refusal
  pub refused_first : (why : Refusal) → first.answer ≡ refused why → together ≡ refuse why
  unfolding and_then join_outcomes
  refused_first why e = ap (λ (a : Answer). join_outcomes a second.answer first second) e

  pub refused_second : (seat count : ℕ) (why : Refusal) → first.answer ≡ accepted seat count → second.answer ≡ refused why → together ≡ refuse why
  unfolding and_then join_outcomes
  refused_second seat count why e e' = ap₂ (λ (a b : Answer). join_outcomes a b first second) e e'

  -- and nothing happens
  pub refused_changes_nothing : is_accepted together.answer ≡ false → (room_after sizes room together ≡ room) × (together.sent ≡ [])
  unfolding and_then join_outcomes is_accepted refuse accept room_after apply_all
  refused_changes_nothing = go first.answer second.answer
    where
      go : (a b : Answer) → is_accepted (join_outcomes a b first second).answer ≡ false
          → (room_after sizes room (join_outcomes a b first second) ≡ room) × ((join_outcomes a b first second).sent ≡ [])
      go (refused why) b h = (refl, refl)
      go (accepted seat count) (refused why) h = (refl, refl)
      go (accepted seat count) (accepted seat' count') h = absurd (true≢false h)

  pub and_then_whole : Whole sizes room → Whole sizes between → ((room' : Room) → Whole sizes room' → Whole sizes (room_after sizes room' (next room')))
      → Whole sizes (room_after sizes room together)
  unfolding and_then join_outcomes refuse accept room_after apply_all
  and_then_whole whole whole' keeps = go first.answer second.answer
    where
      go : (a b : Answer) → Whole sizes (room_after sizes room (join_outcomes a b first second))
      go (refused why) b = whole
      go (accepted seat count) (refused why) = whole
      go (accepted seat count) (accepted seat' count') = rw (changes_append sizes room first.changes second.changes) (keeps between whole')

  -- three in a row
  pub and_then_assoc : (last : Room → Outcome) → and_then sizes room together last ≡ and_then sizes room first (λ room'. and_then sizes room' (next room') last)
  unfolding and_then join_outcomes accept refuse room_after
  and_then_assoc last = go first.answer second.answer
    where
      third : Outcome
      third = last (room_after sizes between second)

      both : ℕ → Outcome
      both seat = accept seat (first.changes ++ second.changes) (first.sent ++ second.sent)

      regroup : (c : Answer) (t : Outcome) (seat count seat' count' : ℕ)
          → join_outcomes (both seat').answer c (both seat') t
          ≡ join_outcomes (accepted seat count) (join_outcomes (accepted seat' count') c second t).answer first (join_outcomes (accepted seat' count') c second t)
      regroup (refused why) t seat count seat' count' = refl
      regroup (accepted seat'' count'') t seat count seat' count' =
          ap₂ (accept seat'') (append_assoc first.changes second.changes t.changes) (append_assoc first.sent second.sent t.sent)

      go : (a b : Answer) → and_then sizes room (join_outcomes a b first second) last
          ≡ join_outcomes a (join_outcomes b third.answer second third).answer first (join_outcomes b third.answer second third)
      go (refused why) b = refl
      go (accepted seat count) (refused why) = refl
      go (accepted seat count) (accepted seat' count') =
          ap (λ (r : Room). join_outcomes (both seat').answer (last r).answer (both seat') (last r)) (changes_append sizes room first.changes second.changes)
          ∙ regroup third.answer third seat count seat' count'
