-- What outcomes leave: one that is refused leaves all, and one that changes nothing leaves the room and writes its records. And an answer counts what its
-- outcome writes. Assumes nothing.
use mathlib.Core.Path.{◌≡◌, refl, ap}
use mathlib.Core.List.{List, []}
use Prim.Native.Nat.{ℕ}
use lib.ListN.{length}
use Rattle.refusal.specs.declared.Refusal.{Refusal}
use Rattle.rules.specs.Call.{Sent, accepted, refused}
use Rattle.rules.specs.Outcome.{Outcome, accept, refuse, sent_bytes}
use Rattle.rules.specs.Accepted.{RefusedOrAccepted, refusal, acceptance}
use Rattle.room_laws.specs.Store.{store_all}
use Rattle.records.specs.Output.{Appends}
use Rattle.relay_laws.specs.Calls.{written, Leaves}
use Rattle.records.proofs.AppendLaws.{appends_front, appends_front_answer}

module _ (s n : ℕ) (b out : List ℕ) where
  pub leaves_refused : (why : Refusal) → Leaves s n (refuse why) b out (refused why) b out
  unfolding refuse store_all sent_bytes
  leaves_refused why = record { answers = refl; stores = refl; writes = refl }

  pub leaves_none : (seat : ℕ) → Leaves s n (accept seat [] []) b out (accepted seat 0) b out
  unfolding accept store_all sent_bytes
  leaves_none seat = record { answers = refl; stores = refl; writes = refl }

  pub leaves_sent : (seat : ℕ) (sent : List Sent) (bytes : ℕ) (left : List ℕ) → Appends sent out 0 bytes left → Leaves s n (accept seat [] sent) b out (accepted seat bytes) b left
  unfolding accept store_all
  leaves_sent seat sent bytes left w =
      record { answers = ap (accepted seat) (appends_front_answer sent out bytes left w); stores = refl; writes = appends_front sent out bytes left w }

-- an answer counts the bytes sent
pub made_written : (o : Outcome) → RefusedOrAccepted o → written o.answer ≡ length (sent_bytes o.sent)
unfolding written refuse accept sent_bytes
made_written o (refusal why given e) = rw e
made_written o (acceptance seat changes sent e) = rw e
