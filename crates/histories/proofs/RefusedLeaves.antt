-- "A refusal answers its number with 0 bytes written; room, list and lent output are as before the call." One statement for every export of a room, on any memory:
-- where it answers below 0, the memory of the room, the output and every place that it was handed are as before (`refused_leaves`). And those that test
-- the room, on memory that is not a whole room, answer minus 11 and leave it all (`not_whole_refused`); so where a seat names its own key
-- (`names_itself_refused`) and where a ping time is after the clock (`pinged_later_refused`). Assumes nothing.
use mathlib.Core.Path.{◌≡◌, refl, sym, ap, ap₂, subst, ◌∙◌}
use mathlib.Core.Bool.{Bool, true, false, cond}
use mathlib.Core.List.{List, []}
use Prim.Native.Nat.{ℕ, ◌≤◌, ◌<◌}
use native.Mathlib.Omega.{arith}
use lib.IntN.{ℤ}
use lib.ListN.{length}
use borrow.Author.Tests.{le-leb}
use Rattle.std.proofs.Common.{Result, Ok, Err}
use Rattle.refusal.specs.declared.Refusal.{Refusal}
use Rattle.refusal.specs.declared.Refusal.TheVariants.{OutputTooShort, RoomNotWhole}
use Rattle.rules.specs.Call.{Call, arrive, leave, packet_call, tick, Answer, accepted, refused, needed}
use Rattle.rules.specs.Outcome.{Outcome, refuse, accept, sent_bytes}
use Rattle.rules.specs.Accepted.{RefusedOrAccepted, refusal, acceptance}
use Rattle.rules.specs.Room.{sizes_of, Held, wants, holds, seat_at, route_at}
use Rattle.room_laws.specs.View.{view_room}
use Rattle.room_laws.specs.Whole.{room_whole}
use Rattle.room_laws.specs.Store.{store_all, emptied, MakesEmpty}
use Rattle.room_laws.proofs.WholeLaws.{names_itself, pinged_later}
use Rattle.relay.specs.declared.play.Run as code
use Rattle.relay_laws.specs.Calls.{Leaves, tested, if_long, with_output}
use Rattle.relay_laws.proofs.CallsLaws.{call_made}
use Rattle.relay.specs.Play.{run, played, Playing, playing, LeavesRun, Plays}
use Rattle.banavoge_laws.specs.Answers.{refusal_code}
use Rattle.banavoge_laws.specs.Rooms.{done_or}
use Rattle.banavoge_laws.specs.RelayCalls.{count_code, seat_after, ArrivalTold, arrival_told}
use Rattle.banavoge_laws.specs.Sitting.{Told, turned, sits, who_sits, sit_code, key_then, TellsSitter, seat_of_key}
use Rattle.banavoge_laws.specs.Runs.{run_code, Counts, run_counts, Telling, run_told}
use Rattle.histories.specs.ExportedCalls.{HostMemory, host_memory, no_places, with_seat, Exported, empties, checks, arrives, departs, sends, ticks, tells_key, tells_seat, plays, TestsRoom, Below0}

-- ---- single calls

-- one that answers a refusal leaves all
module _ (s n : ℕ) (b out b' out' : List ℕ) where
  leaves_all : (o : Outcome) → RefusedOrAccepted o → (why : Refusal) → Leaves s n o b out (refused why) b' out' → (b' ≡ b) × (out' ≡ out)
  unfolding refuse accept store_all sent_bytes
  leaves_all o (refusal w given e) why l = (rw e at l.stores, rw e at l.writes)
  leaves_all o (acceptance seat changes sent e) why l =
      let q = l.answers ∙ ap (λ (x : Outcome). x.answer) e in
      absurd (cc)

  -- an answer whose number is below 0 is a refusal
  by_number : (o : Outcome) → RefusedOrAccepted o → (given : Answer) → Below0 (count_code given) → Leaves s n o b out given b' out' → (b' ≡ b) × (out' ≡ out)
  unfolding count_code
  by_number o m (accepted seat count) below l = absurd below
  by_number o m (refused why) below l = leaves_all o m why l

-- ---- the empty room

empty_leaves : (s n : ℕ) (b b' : List ℕ) (made : Bool) → Below0 (done_or OutputTooShort made) → MakesEmpty s n b b' made → b' ≡ b
unfolding done_or
empty_leaves s n b b' true below m = absurd below
empty_leaves s n b b' false below m = m.leaves ∙ ap (λ (t : Bool). cond t (emptied s n b) b) (sym m.answers)

-- ---- runs

module _ (s n allowance : ℕ) (stored b out b' out' : List ℕ) where
  -- only a room that is not whole is refused, before the first call
  run_leaves : (given : Result code.Run Refusal) → Below0 (run_code given) → Plays s n allowance stored b out b' out' given → (b' ≡ b) × (out' ≡ out)
  unfolding run_code playing
  run_leaves (Ok given) below p = absurd below
  run_leaves (Err why) below p = go (room_whole s n b) p
    where
      whole : Playing
      whole = played (sizes_of s n) (view_room s n b) (run (sizes_of s n) allowance (view_room s n b) stored (length out))

      go : (t : Bool)
          → LeavesRun s n (cond t whole (record { answer = Err RoomNotWhole; changes = []; bytes = [] })) b out (Err why) b' out'
          → (b' ≡ b) × (out' ≡ out)
      go true l = let q = l.answers in let z : ◌≡◌ {A = ℕ} 0 1 = unfold played in cc in absurd (omega arith)
      go false l = unfold store_all in (l.stores, l.writes)

  -- the places too
  run_places : (given : Result code.Run Refusal) (before : Counts) → Below0 (run_code given) → run_counts given before ≡ before
  unfolding run_code run_counts
  run_places (Ok given) before below = absurd below
  run_places (Err why) before below = refl

-- ---- every export

same_memory : (places : Counts) {b out b' out' : List ℕ} → (b' ≡ b) × (out' ≡ out) → host_memory b' out' places ≡ host_memory b out places
same_memory places e = ap₂ (λ (x y : List ℕ). host_memory x y places) e.0 e.1

-- nor is the place for a seat
seat_kept : (before : ℕ) (given : Answer) → Below0 (arrival_told before given).answer → (arrival_told before given).seat ≡ before
unfolding arrival_told count_code seat_after
seat_kept before (accepted seat count) below = absurd below
seat_kept before (refused why) below = refl

-- a key that is not told is not written
key_kept : (s n : ℕ) (b before : List ℕ) (seat : ℕ) {after : List ℕ} {answer : ℤ} → TellsSitter s n seat b before after answer → Below0 answer
    → host_memory b after no_places ≡ host_memory b before no_places
unfolding sit_code key_then
key_kept s n b before seat c below = ap (λ (x : List ℕ). host_memory b x no_places) (c.leaves ∙ go (who_sits s n b seat) (subst Below0 c.answers below))
  where
    go : (t : Told) → Below0 (sit_code t) → key_then t before ≡ before
    go (turned why) h = refl
    go (sits key) h = absurd h

pub refused_leaves : {s n : ℕ} {before after : HostMemory} {answer : ℤ} → Exported s n before answer after → Below0 answer → after ≡ before
unfolding count_code arrival_told run_told
refused_leaves {s} {n} (empties {b = b} {b' = b'} c) below =
    ap (λ (x : List ℕ). host_memory x [] no_places) (empty_leaves s n b b' c.given (subst Below0 c.codes below) c.relates)
refused_leaves (checks e) below = refl
refused_leaves {s} {n} (arrives {b = b} {out = out} {b' = b'} {out' = out'} {seat = seat} {seat' = seat'} key c) below =
    let refused = subst Below0 (ap (λ (t : ArrivalTold). t.answer) c.codes) below in
    let left = by_number s n b out b' out' _ (call_made s n b out _) c.given refused c.relates.leaves in
    ap (with_seat b' out') (ap (λ (t : ArrivalTold). t.seat) c.codes ∙ seat_kept seat c.given refused) ∙ ap₂ (λ (x y : List ℕ). with_seat x y seat) left.0 left.1
refused_leaves {s} {n} (departs {b = b} {out = out} {b' = b'} {out' = out'} seat c) below =
    same_memory no_places (by_number s n b out b' out' _ (call_made s n b out _) c.given (subst Below0 c.codes below) c.relates)
refused_leaves {s} {n} (sends {b = b} {out = out} {b' = b'} {out' = out'} seat bytes c) below =
    same_memory no_places (by_number s n b out b' out' _ (call_made s n b out _) c.given (subst Below0 c.codes below) c.relates)
refused_leaves {s} {n} (ticks {b = b} {out = out} {b' = b'} {out' = out'} time number c) below =
    same_memory no_places (by_number s n b out b' out' _ (call_made s n b out _) c.given (subst Below0 c.codes below) c.relates.leaves)
refused_leaves {s} {n} (tells_key {b = b} {before = before} seat c) below = key_kept s n b before seat c below
refused_leaves (tells_seat key e) below = refl
refused_leaves {s} {n} (plays {b = b} {out = out} {b' = b'} {out' = out'} {before = before} allowance stored c) below =
    let refused = subst Below0 (ap (λ (t : Telling). t.answer) c.codes) below in
    let left = run_leaves s n allowance stored b out b' out' c.given refused c.relates in
    let places = ap (λ (t : Telling). t.counts) c.codes ∙ run_places s n allowance stored b out b' out' c.given before refused in
    ap (λ (x : Counts). host_memory b' out' x) places ∙ same_memory before left

-- ---- a room that is not whole: 11

module _ (s n : ℕ) (b out : List ℕ) (call : Call) (long : needed call ≤ length out) (bad : room_whole s n b ≡ false) where
  not_whole_outcome : with_output s n b out call ≡ refuse RoomNotWhole
  unfolding with_output if_long tested
  not_whole_outcome = rw (le-leb (needed call) (length out) long, bad)

  not_whole_code : (b' out' : List ℕ) (given : Answer) (answer : ℤ)
      → Leaves s n (with_output s n b out call) b out given b' out' → answer ≡ count_code given → answer ≡ refusal_code RoomNotWhole
  unfolding refuse count_code
  not_whole_code b' out' given answer left codes = codes ∙ ap count_code (left.answers ∙ ap (λ (o : Outcome). o.answer) not_whole_outcome)

-- minus 11 is below 0
eleven_below : (answer : ℤ) → answer ≡ refusal_code RoomNotWhole → Below0 answer
unfolding refusal_code
eleven_below answer e = subst Below0 (sym e) tt

module _ {s n : ℕ} where
  not_whole_answer : {before after : HostMemory} {answer : ℤ} (c : Exported s n before answer after) → TestsRoom c → room_whole s n before.room ≡ false
      → answer ≡ refusal_code RoomNotWhole
  unfolding done_or count_code arrival_told run_told run_code playing who_sits sit_code seat_of_key
  not_whole_answer (empties c) tests bad = absurd tests
  not_whole_answer (checks e) tests bad = e ∙ rw bad
  not_whole_answer (arrives {b = b} {out = out} {b' = b'} {out' = out'} {answer = answer} key c) tests bad =
      not_whole_code s n b out (arrive key) tests bad b' out' c.given answer c.relates.leaves (ap (λ (t : ArrivalTold). t.answer) c.codes)
  not_whole_answer (departs {b = b} {out = out} {b' = b'} {out' = out'} {answer = answer} seat c) tests bad =
      not_whole_code s n b out (leave seat) tests bad b' out' c.given answer c.relates c.codes
  not_whole_answer (sends {b = b} {out = out} {b' = b'} {out' = out'} {answer = answer} seat bytes c) tests bad =
      not_whole_code s n b out (packet_call seat bytes) tests bad b' out' c.given answer c.relates c.codes
  not_whole_answer (ticks {b = b} {out = out} {b' = b'} {out' = out'} {answer = answer} time number c) tests bad =
      not_whole_code s n b out (tick time number) tests bad b' out' c.given answer c.relates.leaves c.codes
  not_whole_answer (tells_key seat c) tests bad = c.answers ∙ rw bad
  not_whole_answer (tells_seat key e) tests bad = e ∙ rw bad
  not_whole_answer (plays {before = before} allowance stored c) tests bad =
      ap (λ (t : Telling). t.answer) (c.codes ∙ ap (run_told before) (rw bad at c.relates.answers))

  pub not_whole_refused : {before after : HostMemory} {answer : ℤ} (c : Exported s n before answer after) → TestsRoom c → room_whole s n before.room ≡ false
      → (answer ≡ refusal_code RoomNotWhole) × (after ≡ before)
  not_whole_refused {answer = answer} c tests bad =
      let told = not_whole_answer c tests bad in
      (told, refused_leaves c (eleven_below answer told))

  -- "A room where a seat names its own key is no longer whole."
  pub names_itself_refused : {before after : HostMemory} {answer : ℤ} (c : Exported s n before answer after) → TestsRoom c
      → (seat : ℕ) (held : Held) (number : ℕ) → seat_at (view_room s n before.room) seat ≡ holds held → route_at held.routes number ≡ wants held.key
      → (answer ≡ refusal_code RoomNotWhole) × (after ≡ before)
  names_itself_refused {before = before} c tests seat held number there names = not_whole_refused c tests (names_itself s n before.room seat held number there names)

  -- "A ping time after the clock makes a room not whole."
  pub pinged_later_refused : {before after : HostMemory} {answer : ℤ} (c : Exported s n before answer after) → TestsRoom c
      → (seat : ℕ) (held : Held) → seat_at (view_room s n before.room) seat ≡ holds held → (view_room s n before.room).clock < held.ping.time
      → (answer ≡ refusal_code RoomNotWhole) × (after ≡ before)
  pinged_later_refused {before = before} c tests seat held there late = not_whole_refused c tests (pinged_later s n before.room seat held there late)
