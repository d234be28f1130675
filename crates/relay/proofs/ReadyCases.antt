-- The two tests before a step: what holds once they are passed, and the refusal of a call that does not pass them. Assumes nothing.
use Rattle.std.proofs.Common.{◌≡◌, ℕ, ◌≤◌, Bool, true, false, cond, leb, List, length, Result, Ok, Err, refl}
use borrow.Author.Tests.{leb-true, leb-false}
use Rattle.refusal.specs.declared.Refusal.{Refusal}
use Rattle.refusal.specs.declared.Refusal.TheVariants.{OutputTooShort, RoomNotWhole}
use Rattle.rules.specs.Call.{Call, needed, Answer, refused}
use Rattle.rules.specs.Outcome.{outcome}
use Rattle.room_laws.specs.View.{view_room}
use Rattle.room_laws.specs.Whole.{room_whole}
use Rattle.relay_laws.specs.Calls.{Leaves, with_output}
use Rattle.relay_laws.proofs.CallsLaws.{not_whole, is_tested, too_short, long_enough}
use Rattle.relay.specs.Steps.{ready_for}

-- what is answered, by the two tests
abbrev said : Bool → Bool → Result (Unit {0}) Refusal
said long whole = cond long (cond whole (Ok tt) (Err RoomNotWhole)) (Err OutputTooShort)

abbrev pub passed : Result (Unit {0}) Refusal
passed = Ok tt

module _ (least : ℕ) (b out : List ℕ) where
  -- both tests passed
  pub ready_ok : ready_for least b out ≡ passed → (room_whole 40 32 b ≡ true) × (least ≤ length out)
  unfolding ready_for
  ready_ok e = go (leb least (length out)) (room_whole 40 32 b) refl refl e
    where
      go : (t w : Bool) → leb least (length out) ≡ t → room_whole 40 32 b ≡ w → said t w ≡ passed
          → (room_whole 40 32 b ≡ true) × (least ≤ length out)
      go true true p q e = (q, leb-true least (length out) p)
      go true false p q e = absurd (cc)
      go false w p q e = absurd (cc)

  module _ (call : Call) (needs : needed call ≡ least) where
    -- a step that was taken
    pub ready_made : ready_for least b out ≡ passed → (given : Answer) (b' out' : List ℕ)
        → Leaves 40 32 (outcome (view_room 40 32 b) call) b out given b' out' → Leaves 40 32 (with_output 40 32 b out call) b out given b' out'
    ready_made e given b' out' l =
        let r = ready_ok e in
        long_enough 40 32 b out call (rw needs r.1) given b' out' (is_tested 40 32 b out call r.0 given b' out' l)

    -- a call that was refused
    pub ready_refused : (why : Refusal) → ready_for least b out ≡ Err why → Leaves 40 32 (with_output 40 32 b out call) b out (refused why) b out
    unfolding ready_for
    ready_refused why e = go (leb least (length out)) (room_whole 40 32 b) refl refl e
      where
        go : (t w : Bool) → leb least (length out) ≡ t → room_whole 40 32 b ≡ w → said t w ≡ Err why
            → Leaves 40 32 (with_output 40 32 b out call) b out (refused why) b out
        go true true p q e = absurd (cc)
        go true false p q e =
            let same : RoomNotWhole ≡ why = cc in
            rw (← same) (long_enough 40 32 b out call (rw needs (leb-true least (length out) p)) _ _ _ (not_whole 40 32 b out call q))
        go false w p q e =
            let same : OutputTooShort ≡ why = cc in
            rw (← same) (too_short 40 32 b out call (rw needs (leb-false least (length out) p)))
