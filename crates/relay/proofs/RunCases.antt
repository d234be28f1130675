-- A run in the middle: what is left to play, with the counts so far. A call and the rest behind it are one run. Assumes nothing.
use mathlib.Core.Path.{◌≡◌, refl, sym, ap, ap₂, subst, ◌∙◌}
use mathlib.Core.Bool.{true}
use mathlib.Core.List.{List, ◌++◌}
use Prim.Native.Nat.{ℕ, suc, ◌+◌, ◌-◌, ◌≤◌}
use native.Mathlib.Nat.{zero-add, add-zero}
use native.Mathlib.Omega.{arith}
use lib.ListN.{length, get_or, drop, length-append}
use Rattle.std.proofs.Common.{Ok}
use Rattle.rules.specs.Room.{Room, sizes_of}
use Rattle.rules.specs.Call.{Call, FieldsFit}
use Rattle.rules.specs.Outcome.{outcome, room_after}
use Rattle.rules.specs.History.{event, transcript}
use Rattle.room_laws.specs.View.{view_room}
use Rattle.room_laws.specs.Whole.{room_whole}
use Rattle.room_laws.specs.Store.{store_all}
use Rattle.room_laws.proofs.OutcomeLaws.{outcome_stored}
use Rattle.stored.specs.Stored.{stored_bytes, stored_all, call, first_call}
use Rattle.stored.proofs.StoredLaws.{Formed, arrives, leaves, sends, given_in, first_is}
use Rattle.relay.specs.declared.play.Run as code
use Rattle.relay.specs.declared.play.Stop.{Stop}
use Rattle.records.specs.Output.{appended}
use Rattle.relay.specs.Play.{entry_bytes, entries_bytes, plays, next, Run, run, changes_all, played, LeavesRun}
use Rattle.records.proofs.AppendLaws.{length_appended, appended_more, appended_front, appended_none}
use Rattle.relay.proofs.PlayLaws.{ended, first_then, run_plays, next_is}
use Rattle.relay_laws.proofs.PartLaws.{store_all_append}

-- ---- what is left to play

-- what a run writes from bytes on
abbrev pub entries_from : ℕ → ℕ → List ℕ → List Call → List ℕ
entries_from s n b calls = entries_bytes (transcript (sizes_of s n) (view_room s n b) calls)

-- why a run stopped, with its counts
abbrev pub told : Stop → ℕ → ℕ → ℕ → code.Run
told why calls bytes at = record { why = why; played = calls; read = bytes; written = at }

-- a run r from the bytes b, behind `calls` calls that took `bytes` of the stored ones and wrote the first `at` of the output
pub record Rests (s n calls bytes at : ℕ) (r : Run) (b out : List ℕ) (given : code.Run) (b' out' : List ℕ) : Type 0 where
  pub answers : given ≡ told r.why (calls + length r.calls) (bytes + length (stored_all r.calls)) (at + length (entries_from s n b r.calls))
  pub stores : b' ≡ store_all s n b (changes_all (sizes_of s n) (view_room s n b) r.calls)
  pub writes : out' ≡ appended out at (entries_from s n b r.calls)

-- the run that is left, from bytes on
abbrev pub left : ℕ → ℕ → ℕ → List ℕ → List ℕ → List ℕ → ℕ → Run
left s n allowance stored b out at = run (sizes_of s n) allowance (view_room s n b) stored (length out - at)

-- nothing is left to play
pub rests_stopped : (s n calls bytes at : ℕ) (why : Stop) (b out : List ℕ) → Rests s n calls bytes at (ended why) b out (told why calls bytes at) b out
unfolding stored_all entries_bytes transcript changes_all store_all
rests_stopped s n calls bytes at why b out =
    let none : told why calls bytes at ≡ told why (calls + 0) (bytes + 0) (at + 0) =
    rw (add-zero calls, add-zero bytes, add-zero at) refl in
    record { answers = none; stores = refl; writes = sym (appended_none out at) }

-- the whole of a run is what is left at its beginning
pub rests_all : (s n : ℕ) (r : Run) (b out : List ℕ) (given : code.Run) (b' out' : List ℕ) → Rests s n 0 0 0 r b out given b' out'
    → LeavesRun s n (played (sizes_of s n) (view_room s n b) r) b out (Ok given) b' out'
unfolding played
rests_all s n r b out given b' out' w =
    let e = entries_from s n b r.calls in
    record {
      answers = ap Ok w.answers ∙ rw (zero-add (length r.calls), zero-add (length (stored_all r.calls)), zero-add (length e)) refl;
      stores = w.stores;
      writes = w.writes ∙ appended_front out e;
    }

-- ---- a call, and then the rest

-- an arrival that was stored has a key of 32 bytes
pub stored_key : (stored : List ℕ) (c : Call) → first_call stored ≡ call c → FieldsFit c
stored_key stored c e = go c (first_is stored c e).form
  where
    go : (c : Call) → Formed (get_or stored 0 0) (get_or stored 1 0) (given_in stored) c → FieldsFit c
    go c (arrives a b l) = l
    go c (leaves a l) = tt
    go c (sends a) = tt

module _ (s n allowance : ℕ) (stored b out : List ℕ) (calls bytes at : ℕ) (c : Call) (whole : room_whole s n b ≡ true) (room : at ≤ length out)
    (comes : next allowance stored (length out - at) ≡ plays c) (entry : List ℕ) (is : entry ≡ entry_bytes (event (view_room s n b) c)) (fits : at + length entry ≤ length out) where
  abbrev stepped : List ℕ
  stepped = store_all s n b (outcome (view_room s n b) c).changes

  abbrev written : List ℕ
  written = appended out at entry

  kept : (view_room s n stepped ≡ room_after (sizes_of s n) (view_room s n b) (outcome (view_room s n b) c)) × (room_whole s n stepped ≡ true) × (length stepped ≡ length b)
  kept = outcome_stored s n b whole c (stored_key stored c (next_is allowance stored (length out - at) c comes).first)

  -- the room stays whole
  pub stepped_whole : room_whole s n stepped ≡ true
  stepped_whole = kept.1

  pub stepped_length : length written ≡ length out
  stepped_length = length_appended out at entry fits

  abbrev later : Run
  later = left s n (allowance - 1) (drop (length (stored_bytes c)) stored) stepped written (at + length entry)

  same_run : left s n allowance stored b out at ≡ first_then c later
  same_run =
      let k : length out - at - length (entry_bytes (event (view_room s n b) c)) ≡ length written - (at + length entry) =
      let l = stepped_length in let m = ap length is in omega arith in
      run_plays (sizes_of s n) (view_room s n b) stored (length out - at) allowance c comes
      ∙ ap₂ (λ (x : Room) (m : ℕ). first_then c (run (sizes_of s n) (allowance - 1) x (drop (length (stored_bytes c)) stored) m)) (sym kept.0) k

  pub rests_first : (given : code.Run) (b' out' : List ℕ)
      → Rests s n (calls + 1) (bytes + length (stored_bytes c)) (at + length entry) later stepped written given b' out'
      → Rests s n calls bytes at (left s n allowance stored b out at) b out given b' out'
  unfolding stored_all entries_bytes transcript changes_all
  rests_first given b' out' w = subst (λ (r : Run). Rests s n calls bytes at r b out given b' out') (sym same_run) (one_more later w)
    where
      one_more : (r : Run) → Rests s n (calls + 1) (bytes + length (stored_bytes c)) (at + length entry) r stepped written given b' out'
          → Rests s n calls bytes at (first_then c r) b out given b' out'
      one_more r w =
          let e = entries_from s n stepped r.calls in
          let after = room_after (sizes_of s n) (view_room s n b) (outcome (view_room s n b) c) in
          let same : entry ++ e ≡ entry_bytes (event (view_room s n b) c) ++ entries_bytes (transcript (sizes_of s n) after r.calls) =
          ap₂ (λ (x : List ℕ) (y : Room). x ++ entries_bytes (transcript (sizes_of s n) y r.calls)) is kept.0 in
          let more : calls + 1 + length r.calls ≡ calls + suc (length r.calls) = omega arith in
          let read : bytes + length (stored_bytes c) + length (stored_all r.calls) ≡ bytes + length (stored_bytes c ++ stored_all r.calls) =
          let l = length-append (stored_bytes c) (stored_all r.calls) in omega arith in
          let wrote : at + length entry + length e ≡ at + length (entry ++ e) = let l = length-append entry e in omega arith in
          record {
            answers =
                w.answers
                ∙ ap (λ (x : ℕ). told r.why x (bytes + length (stored_bytes c) + length (stored_all r.calls)) (at + length entry + length e)) more
                ∙ ap (λ (x : ℕ). told r.why (calls + suc (length r.calls)) x (at + length entry + length e)) read
                ∙ ap (λ (x : ℕ). told r.why (calls + suc (length r.calls)) (bytes + length (stored_bytes c ++ stored_all r.calls)) x) (wrote ∙ ap (λ (l : List ℕ). at + length l) same);
            stores =
                w.stores
                ∙ ap (λ (x : Room). store_all s n stepped (changes_all (sizes_of s n) x r.calls)) kept.0
                ∙ sym (store_all_append s n b (outcome (view_room s n b) c).changes (changes_all (sizes_of s n) after r.calls));
            writes =
                w.writes
                ∙ appended_more out at (at + length entry) entry e room refl
                ∙ ap (λ (l : List ℕ). appended out at l) same;
          }
