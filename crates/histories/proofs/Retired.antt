-- Document 02: "2 is retired". After any calls, with any outputs, and so in every history, none of the answers that the host has seen is it; no entry that a run of
-- stored calls writes has it, on any whole room; and no export that is lent the memory of a room answers minus 2, whatever that memory holds. Assumes nothing.
use mathlib.Core.Path.{◌≡◌, refl, sym, ap, ◌∙◌}
use mathlib.Core.Bool.{Bool, true, false, cond, true≢false}
use mathlib.Core.List.{List, [], ◌∷◌}
use mathlib.Core.Logic.{◌≢◌}
use Prim.Native.Nat.{ℕ}
use lib.IntN.{ℤ}
use lib.ListN.{length}
use borrow.Author.Tests.{not-true}
use Rattle.std.proofs.Common.{Err}
use Rattle.refusal.specs.declared.Refusal.{Refusal}
use Rattle.refusal.specs.declared.Refusal.TheVariants.{AlreadySeated, OutputTooShort, RoomNotWhole, NotSeated}
use Rattle.refusal.specs.Numbers.{is_retired}
use Rattle.rules.specs.Room.{Sizes, Key, Seat, vacant, holds, Room, sizes_of, Found, none, at, find, seat_of, seat_at}
use Rattle.rules.specs.Call.{Call, Answer, accepted, refused}
use Rattle.rules.specs.Outcome.{room_after}
use Rattle.rules.specs.History.{Event}
use Rattle.rules.specs.Accepted.{is_given, all_given}
use Rattle.rules.proofs.RefusedOrAccepted.{made_given}
use Rattle.room_laws.specs.Whole.{room_whole}
use Rattle.relay_laws.specs.Calls.{Leaves, with_output}
use Rattle.relay_laws.proofs.CallsLaws.{call_made}
use Rattle.room_laws.specs.View.{view_room}
use Rattle.relay.specs.Play.{run, played, playing, Plays}
use Rattle.banavoge_laws.specs.Answers.{refusal_code, ToldAs}
use Rattle.banavoge_laws.specs.Rooms.{done_or}
use Rattle.banavoge_laws.specs.RelayCalls.{count_code, ArrivalTold, arrival_told}
use Rattle.banavoge_laws.specs.Sitting.{turned, sitting, who_sits, sit_code, place_code, seat_of_key}
use Rattle.banavoge_laws.specs.Runs.{run_code, Counts, Telling, run_told}
use Rattle.histories.specs.Lent.{Lent, lent_outcome, lent_event, lent_transcript}
use Rattle.histories.specs.History.{AnyChain, AnyCalls}
use Rattle.histories.specs.RunSeen.{run_seen}
use Rattle.histories.specs.Runs.{run_events}
use Rattle.histories.specs.ExportedCalls.{HostMemory, Exported, empties, checks, arrives, departs, sends, ticks, tells_key, tells_seat, plays}
use Rattle.histories.proofs.Answered.{below_not, same_refusal}
use Rattle.histories.proofs.LentLaws.{lent_made}
use Rattle.histories.proofs.Histories.{any_chain_runs, begun_whole}
use Rattle.histories.proofs.RunIsChain.{run_is_chain}
use Rattle.histories.proofs.RunSeen.{run_seen_lem}

-- ---- by any calls

lent_given : (sizes : Sizes) (room : Room) (lents : List Lent) → all_given (lent_transcript sizes room lents) ≡ true
unfolding lent_transcript lent_event all_given
lent_given sizes room [] = refl
lent_given sizes room (l ∷ lents) = rw (made_given (lent_outcome room l) (lent_made room l)) (lent_given sizes (room_after sizes room (lent_outcome room l)) lents)

-- by calls, with any outputs, from any whole bytes on
given_from : (s n : ℕ) (b : List ℕ) (lents : List Lent) (events : List Event) (b' : List ℕ) → AnyChain s n b lents events b' → room_whole s n b ≡ true
    → all_given events ≡ true
given_from s n b lents events b' chain whole =
    ap all_given (any_chain_runs s n b lents events b' chain whole).events_are ∙ lent_given (sizes_of s n) (view_room s n b) lents

pub all_given_after_calls : (s n : ℕ) (lents : List Lent) (events : List Event) (b : List ℕ) → AnyCalls s n lents events b → all_given events ≡ true
all_given_after_calls s n lents events b h = given_from s n h.room lents events b h.chain (begun_whole s n h.room h.begun)

-- by the entries of a run, on any whole room
pub all_given_by_a_run : (s n allowance : ℕ) (stored b out : List ℕ) (before : Counts) (t : Telling) (b' out' : List ℕ) → room_whole s n b ≡ true
    → ToldAs (run_told before) (Plays s n allowance stored b out b' out') t → all_given (run_seen stored t out') ≡ true
all_given_by_a_run s n allowance stored b out before t b' out' whole p =
    let c = run_is_chain s n allowance stored b out before t b' out' whole p in
    ap all_given (run_seen_lem s n allowance stored b out before t b' out' whole p) ∙ given_from s n b c.lents (run_events s n allowance stored b out) b' c.calls whole

-- ---- each export, on any memory

not_retired : (why : Refusal) → is_retired why ≡ false → refusal_code why ≢ refusal_code AlreadySeated
not_retired why h e = true≢false (sym (ap is_retired (same_refusal why AlreadySeated e)) ∙ h)

given_not : (given : Answer) → is_given given ≡ true → count_code given ≢ refusal_code AlreadySeated
unfolding count_code is_given
given_not (accepted seat count) h e = below_not AlreadySeated count (sym e)
given_not (refused why) h e = not_retired why (not-true (is_retired why) h) e

call_not : (s n : ℕ) (b out : List ℕ) (call : Call) (given : Answer) (b' out' : List ℕ) → Leaves s n (with_output s n b out call) b out given b' out'
    → count_code given ≢ refusal_code AlreadySeated
call_not s n b out call given b' out' l = given_not given (ap is_given l.answers ∙ made_given (with_output s n b out call) (call_made s n b out call))

done_not : (why : Refusal) → is_retired why ≡ false → (t : Bool) → done_or why t ≢ refusal_code AlreadySeated
unfolding done_or
done_not why h true e = below_not AlreadySeated 0 (sym e)
done_not why h false e = not_retired why h e

sit_not : (s n : ℕ) (b : List ℕ) (seat : ℕ) → sit_code (who_sits s n b seat) ≢ refusal_code AlreadySeated
unfolding who_sits sit_code sitting
sit_not s n b seat = go (room_whole s n b) (seat_at (view_room s n b) seat)
  where
    go : (t : Bool) (x : Seat) → sit_code (cond t (sitting x) (turned RoomNotWhole)) ≢ refusal_code AlreadySeated
    go true vacant = not_retired NotSeated refl
    go true (holds held) = λ e. below_not AlreadySeated 0 (sym e)
    go false x = not_retired RoomNotWhole refl

place_not : (s n : ℕ) (b : List ℕ) (key : Key) → seat_of_key s n b key ≢ refusal_code AlreadySeated
unfolding seat_of_key place_code
place_not s n b key = go (room_whole s n b) (find (seat_of key) (view_room s n b).seats)
  where
    go : (t : Bool) (f : Found) → cond t (place_code f) (refusal_code RoomNotWhole) ≢ refusal_code AlreadySeated
    go true none = not_retired NotSeated refl
    go true (at seat) = λ e. below_not AlreadySeated seat (sym e)
    go false f = not_retired RoomNotWhole refl

run_not : (s n allowance : ℕ) (stored b out : List ℕ) → run_code (playing s n allowance stored b out).answer ≢ refusal_code AlreadySeated
unfolding playing played run_code
run_not s n allowance stored b out = go (room_whole s n b)
  where
    sizes : Sizes
    sizes = sizes_of s n

    go : (t : Bool)
        → run_code (cond t (played sizes (view_room s n b) (run sizes allowance (view_room s n b) stored (length out))) (record { answer = Err RoomNotWhole; changes = []; bytes = [] })).answer
        ≢ refusal_code AlreadySeated
    go true = λ e. below_not AlreadySeated _ (sym e)
    go false = not_retired RoomNotWhole refl

-- THE THEOREM
pub never_answered : {s n : ℕ} {before after : HostMemory} {answer : ℤ} → Exported s n before answer after → answer ≢ refusal_code AlreadySeated
unfolding arrival_told run_told
never_answered (empties c) e = done_not OutputTooShort refl c.given (sym c.codes ∙ e)
never_answered {s} {n} (checks {b = b} q) e = done_not RoomNotWhole refl (room_whole s n b) (sym q ∙ e)
never_answered {s} {n} (arrives {b = b} {out = out} {b' = b'} {out' = out'} key c) e =
    call_not s n b out _ c.given b' out' c.relates.leaves (sym (ap (λ (t : ArrivalTold). t.answer) c.codes) ∙ e)
never_answered {s} {n} (departs {b = b} {out = out} {b' = b'} {out' = out'} seat c) e = call_not s n b out _ c.given b' out' c.relates (sym c.codes ∙ e)
never_answered {s} {n} (sends {b = b} {out = out} {b' = b'} {out' = out'} seat bytes c) e = call_not s n b out _ c.given b' out' c.relates (sym c.codes ∙ e)
never_answered {s} {n} (ticks {b = b} {out = out} {b' = b'} {out' = out'} time number c) e = call_not s n b out _ c.given b' out' c.relates.leaves (sym c.codes ∙ e)
never_answered {s} {n} (tells_key {b = b} seat c) e = sit_not s n b seat (sym c.answers ∙ e)
never_answered {s} {n} (tells_seat {b = b} key q) e = place_not s n b key (sym q ∙ e)
never_answered {s} {n} (plays {b = b} {out = out} allowance stored c) e =
    run_not s n allowance stored b out (sym (ap (λ (t : Telling). t.answer) c.codes ∙ ap run_code c.relates.answers) ∙ e)
