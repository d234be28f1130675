-- "An accepted call answers how many bytes it wrote", and "A refusal answers its number with 0 bytes written": in every room for every call, and so for
-- every event of every history. A made-up count disagrees with the records. Assumes nothing.
use mathlib.Core.Path.{◌≡◌, refl, sym}
use mathlib.Core.Bool.{true}
use mathlib.Core.List.{List, [], ◌∷◌}
use Prim.Native.Nat.{ℕ}
use lib.ListN.{length}
use borrow.Author.Tests.{eq-eqb, eqb-true}
use Rattle.refusal.specs.declared.Refusal.{Refusal}
use Rattle.rules.specs.Room.{Sizes, Room}
use Rattle.rules.specs.Call.{Call, refused}
use Rattle.rules.specs.Outcome.{Outcome, refuse, sent_bytes, accept, room_after, outcome}
use Rattle.rules.specs.History.{event, transcript}
use Rattle.rules.specs.Accepted.{count_is, all_counted, RefusedOrAccepted, refusal, acceptance}
use Rattle.rules.proofs.RefusedOrAccepted.{outcome_made}

-- a refusal counts no byte
pub refusal_counts_none : (why : Refusal) (written : ℕ) → count_is (refused why) written ≡ true → written ≡ 0
unfolding count_is
refusal_counts_none why written e = sym (eqb-true 0 written e)

module _ (room : Room) where
  abbrev Counted : Outcome → Type 0
  Counted o = count_is o.answer (length (sent_bytes o.sent)) ≡ true

  made_counted : (o : Outcome) → RefusedOrAccepted o → Counted o
  unfolding count_is refuse accept sent_bytes
  made_counted o (refusal why given e) = rw e
  made_counted o (acceptance seat changes sent e) = rw e (eq-eqb (length (sent_bytes sent)) (length (sent_bytes sent)) refl)

  pub outcome_counted : (call : Call) → count_is (outcome room call).answer (length (sent_bytes (outcome room call).sent)) ≡ true
  outcome_counted call = made_counted (outcome room call) (outcome_made room call)

pub history_counted : (sizes : Sizes) (room : Room) (calls : List Call) → all_counted (transcript sizes room calls) ≡ true
unfolding transcript event all_counted
history_counted sizes room [] = refl
history_counted sizes room (call ∷ calls) = rw (outcome_counted room call) (history_counted sizes (room_after sizes room (outcome room call)) calls)
