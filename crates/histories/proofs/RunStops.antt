-- What a stop of a run of stored calls means, and how a second run goes on. A run stops where the rule of what comes next stops, at the allowance, the stored
-- bytes and the output that are left then (`run_stopped`). So, in the counts that the host gets (`stop_means`):
--
--   - stopped at the end: all stored bytes were read;
--   - stopped for no call: bytes are left, and no stored call is at their front;
--   - stopped for the allowance: as many calls were played as the allowance says, and bytes are left;
--   - stopped for the output: a stored call is next, and less than 2,052 bytes of the output are left.
--
-- And a second run, on the bytes that are left and the room that the first returned, goes on where the first stopped, whatever its allowance and output: the
-- calls of both are the stored ones, in order, with none skipped, and their events are one transcript (`goes_on`). So two runs of `banavoge_play`, the
-- second on what the first left, are one chain of the single calls (`plays_go_on`). Assumes nothing.
use mathlib.Core.Path.{◌≡◌, refl, sym, ap, ap₂, subst, ◌∙◌}
use mathlib.Core.Bool.{Bool, true, false, false≢true, cond}
use mathlib.Core.List.{List, [], ◌∷◌, ◌++◌}
use Prim.Native.Nat.{ℕ, zero, suc, ◌-◌, ◌≤◌, ◌<◌}
use native.Mathlib.Omega.{arith}
use lib.Dec.{eqb, leb}
use lib.IntN.{pos}
use lib.ListN.{length, drop, length-append, length-drop}
use lib.Seq.{drop-drop}
use borrow.Author.Tests.{leb-false, eqb-true, eqb-false}
use Rattle.std.proofs.Common.{Err}
use Rattle.refusal.specs.declared.Refusal.TheVariants.{RoomNotWhole}
use Rattle.rules.specs.Room.{Sizes, Room, sizes_of}
use Rattle.rules.specs.Call.{Call}
use Rattle.rules.specs.Outcome.{outcome, room_after}
use Rattle.rules.specs.History.{Event, event, transcript}
use Rattle.rules.specs.After.{room_after_all}
use Rattle.room_laws.specs.View.{view_room}
use Rattle.room_laws.specs.Whole.{room_whole}
use Rattle.stored.specs.Stored.{stored_bytes, stored_all, First, none, call, first_call}
use Rattle.stored.proofs.StoredLaws.{first_within}
use Rattle.relay.specs.declared.play.Stop.{Stop}
use Rattle.relay.specs.declared.play.Stop.TheVariants.{End, NoCall, Allowance, Output}
use Rattle.relay.specs.Play.{entry_bytes, entries_bytes, Next, stops, plays, least_space, next_call, next, Run, go_on, run, played, Playing, playing, Plays}
use Rattle.relay.proofs.PlayLaws.{next_is, ended, first_then, rest_of}
use Rattle.banavoge_laws.specs.Answers.{refusal_code, ToldAs}
use Rattle.banavoge_laws.specs.Runs.{stop_number, run_code, Counts, Telling, telling, run_told}
use Rattle.histories.specs.History.{Chain}
use Rattle.histories.specs.Runs.{InFront, run_on, run_events, read_by, written_for, StoppedThere, CallNext, StopMeans}
use Rattle.histories.proofs.Histories.{chain_runs}
use Rattle.histories.proofs.RunIsChain.{chain_append, run_in_front, run_told_lem, run_is_chain}
use Rattle.histories.proofs.RunSeen.{calls_of_lem}

-- ---- where a run stops

module _ (sizes : Sizes) (room : Room) (stored : List ℕ) (space : ℕ) where
  at_once : (allowance : ℕ) (why : Stop) → next allowance stored space ≡ stops why → StoppedThere sizes allowance room stored space (ended why)
  unfolding stored_all entries_bytes transcript
  at_once allowance why e =
      let a : allowance - 0 ≡ allowance = omega arith in
      let s : space - 0 ≡ space = omega arith in
      record { allowed = omega arith; there = omega arith; stopped = ap₂ (λ (x y : ℕ). next x stored y) a s ∙ e }

  behind_call : (more : ℕ) (c : Call) (r : Run) → first_call stored ≡ call c
      → StoppedThere sizes more (room_after sizes room (outcome room c)) (drop (length (stored_bytes c)) stored) (space - length (entry_bytes (event room c))) r
      → StoppedThere sizes (suc more) room stored space (first_then c r)
  unfolding stored_all entries_bytes transcript
  behind_call more c r first q =
      let after = room_after sizes room (outcome room c) in
      let taken = length (stored_bytes c) in
      let calls = r.calls in
      let within = first_within stored c first in
      let left = length-drop taken stored in
      let read = length-append (stored_bytes c) (stored_all calls) in
      let wrote = length-append (entry_bytes (event room c)) (entries_bytes (transcript sizes after calls)) in
      let h = q.allowed in
      let t = q.there in
      let a : suc more - suc (length calls) ≡ more - length calls = omega arith in
      let l : drop (length (stored_bytes c ++ stored_all calls)) stored ≡ drop (read_by calls) (drop taken stored) =
      ap (λ (k : ℕ). drop k stored) read ∙ sym (drop-drop (read_by calls) taken stored) in
      let s : space - length (entry_bytes (event room c) ++ entries_bytes (transcript sizes after calls))
      ≡ space - length (entry_bytes (event room c)) - written_for sizes after calls = omega arith in
      record {
        allowed = omega arith;
        there = omega arith;
        stopped =
            ap₂ (λ (x y : ℕ). next x (drop (length (stored_bytes c ++ stored_all calls)) stored) y) a s
            ∙ ap (λ (x : List ℕ). next (more - length calls) x (space - length (entry_bytes (event room c)) - written_for sizes after calls)) l
            ∙ q.stopped;
      }

pub run_stopped : (sizes : Sizes) (allowance : ℕ) (room : Room) (stored : List ℕ) (space : ℕ)
    → StoppedThere sizes allowance room stored space (run sizes allowance room stored space)
unfolding run go_on next
run_stopped sizes zero room stored space = at_once sizes room stored space 0 (cond (eqb (length stored) 0) End Allowance) (go (eqb (length stored) 0))
  where
    go : (t : Bool) → cond t (stops End) (stops Allowance) ≡ stops (cond t End Allowance)
    go true = refl
    go false = refl
run_stopped sizes (suc more) room stored space =
    go (next (suc more) stored space) refl
    (λ c. run_stopped sizes more (room_after sizes room (outcome room c)) (drop (length (stored_bytes c)) stored) (space - length (entry_bytes (event room c))))
  where
    later : Call → Run
    later = rest_of sizes room stored space more

    go : (x : Next) → next (suc more) stored space ≡ x
        → ((c : Call)
        → StoppedThere sizes more (room_after sizes room (outcome room c)) (drop (length (stored_bytes c)) stored) (space - length (entry_bytes (event room c))) (later c))
        → StoppedThere sizes (suc more) room stored space (go_on x later)
    go (stops why) e k = at_once sizes room stored space (suc more) why e
    go (plays c) e k = behind_call sizes room stored space more c (later c) (next_is (suc more) stored space c e).first (k c)

-- ---- what a stop says

-- the ground of a stop
abbrev pub Ground : ℕ → List ℕ → ℕ → Stop → Type 0
Ground allowance stored space End = length stored ≡ 0
Ground allowance stored space NoCall = (length stored ≡ 0 → ⊥) × (first_call stored ≡ none)
Ground allowance stored space Allowance = (length stored ≡ 0 → ⊥) × (allowance ≡ 0)
Ground allowance stored space Output = ((n : CallNext stored) × (space < least_space n.which))

pub next_ground : (allowance : ℕ) (stored : List ℕ) (space : ℕ) (why : Stop) → next allowance stored space ≡ stops why → Ground allowance stored space why
unfolding next next_call
next_ground allowance stored space why e = at_end (eqb (length stored) 0) refl e
  where
    is : (given : Stop) → stops given ≡ stops why → Ground allowance stored space given → Ground allowance stored space why
    is given e g = let q : given ≡ why = cc in subst (Ground allowance stored space) q g

    with_call : (f : First) → first_call stored ≡ f → (length stored ≡ 0 → ⊥) → next_call f space ≡ stops why → Ground allowance stored space why
    with_call none q more e = is NoCall e (more, q)
    with_call (call d) q more e = with_space (leb (least_space d) space) refl e
      where
        with_space : (t : Bool) → leb (least_space d) space ≡ t → cond t (plays d) (stops Output) ≡ stops why → Ground allowance stored space why
        with_space true l e = let z : plays d ≡ stops why = e in absurd (false≢true (cc))
        with_space false l e = is Output e (record { which = d; first = q }, leb-false (least_space d) space l)

    at_allowance : (t : Bool) → eqb allowance 0 ≡ t → (length stored ≡ 0 → ⊥) → cond t (stops Allowance) (next_call (first_call stored) space) ≡ stops why
        → Ground allowance stored space why
    at_allowance true q more e = is Allowance e (more, eqb-true allowance 0 q)
    at_allowance false q more e = with_call (first_call stored) refl more e

    at_end : (t : Bool) → eqb (length stored) 0 ≡ t → cond t (stops End) (cond (eqb allowance 0) (stops Allowance) (next_call (first_call stored) space)) ≡ stops why
        → Ground allowance stored space why
    at_end true q e = is End e (eqb-true (length stored) 0 q)
    at_end false q e = at_allowance (eqb allowance 0) refl (eqb-false (length stored) 0 q) e

-- ---- in the counts of the answer

pub run_stop_means : (sizes : Sizes) (allowance : ℕ) (room : Room) (stored : List ℕ) (space : ℕ)
    → let r = run sizes allowance room stored space in
    StopMeans allowance stored space r.why (length r.calls) (read_by r.calls) (written_for sizes room r.calls)
run_stop_means sizes allowance room stored space =
    let r = run sizes allowance room stored space in
    let t = run_stopped sizes allowance room stored space in
    let read = read_by r.calls in
    let wrote = written_for sizes room r.calls in
    let G = Ground (allowance - length r.calls) (drop read stored) (space - wrote) in
    let g : G r.why = next_ground (allowance - length r.calls) (drop read stored) (space - wrote) r.why t.stopped in
    let left = length-drop read stored in
    let there = t.there in
    let allowed = t.allowed in
    let more : (length (drop read stored) ≡ 0 → ⊥) → read < length stored = λ f. some_left read stored there f in
    record {
      all_read = λ e. (let q = subst G e g in omega arith);
      no_call = λ e. (let q = subst G e g in (more q.0, q.1));
      all_allowed = λ e. (let q = subst G e g in let z = q.1 in (more q.0, omega arith));
      output_short = λ e. (let q = subst G e g in let z = q.1 in (q.0, omega arith));
    }
  where
    some_left : (read : ℕ) (stored : List ℕ) → read ≤ length stored → (length (drop read stored) ≡ 0 → ⊥) → read < length stored
    some_left read stored h f = go (length (drop read stored)) refl
      where
        go : (k : ℕ) → length (drop read stored) ≡ k → read < length stored
        go zero e = absurd (f e)
        go (suc k) e = let left = length-drop read stored in omega arith

-- a number tells one ground to stop
stop_with : ℕ → Stop
stop_with zero = End
stop_with (suc zero) = NoCall
stop_with (suc (suc zero)) = Allowance
stop_with (suc (suc (suc more))) = Output

stop_told : (why : Stop) → stop_with (stop_number why) ≡ why
unfolding stop_number stop_with
stop_told End = refl
stop_told NoCall = refl
stop_told Allowance = refl
stop_told Output = refl

-- what is told of a run is told of its ground and of its counts
record SameTold (why why' : Stop) (calls calls' read read' written written' : ℕ) : Type 0 where
  pub ground : why ≡ why'
  pub calls_same : calls ≡ calls'
  pub read_same : read ≡ read'
  pub written_same : written ≡ written'

same_told : (why why' : Stop) (calls calls' read read' written written' : ℕ)
    → telling (pos (stop_number why)) calls read written ≡ telling (pos (stop_number why')) calls' read' written' → SameTold why why' calls calls' read read' written written'
same_told why why' calls calls' read read' written written' e =
    let answers : pos (stop_number why) ≡ pos (stop_number why') = ap (λ (t : Telling). t.answer) e in
    let numbers : stop_number why ≡ stop_number why' = cc in
    record {
      ground = sym (stop_told why) ∙ ap stop_with numbers ∙ stop_told why';
      calls_same = ap (λ (t : Telling). t.counts.played) e;
      read_same = ap (λ (t : Telling). t.counts.read) e;
      written_same = ap (λ (t : Telling). t.counts.written) e;
    }

-- a run that is told to have stopped was on a whole room
told_whole : (s n allowance : ℕ) (stored b out b' out' : List ℕ) (before : Counts) (number calls read written : ℕ)
    → ToldAs (run_told before) (Plays s n allowance stored b out b' out') (telling (pos number) calls read written) → room_whole s n b ≡ true
unfolding playing run_told run_code refusal_code
told_whole s n allowance stored b out b' out' before number calls read written p =
    go (room_whole s n b) refl (ap (λ (t : Telling). t.answer) (p.codes ∙ ap (run_told before) p.relates.answers))
  where
    ran : Playing
    ran = played (sizes_of s n) (view_room s n b) (run_on s n allowance stored b out)

    go : (t : Bool) → room_whole s n b ≡ t
        → pos number ≡ run_code (cond t ran (record { answer = Err RoomNotWhole; changes = []; bytes = [] })).answer → room_whole s n b ≡ true
    go true w e = w
    go false w e = absurd (cc)

-- of the export
pub stop_means : (s n allowance : ℕ) (stored b out : List ℕ) (before : Counts) (b' out' : List ℕ) (why : Stop) (calls read written : ℕ)
    → ToldAs (run_told before) (Plays s n allowance stored b out b' out') (telling (pos (stop_number why)) calls read written)
    → StopMeans allowance stored (length out) why calls read written
stop_means s n allowance stored b out before b' out' why calls read written p =
    let whole = told_whole s n allowance stored b out b' out' before (stop_number why) calls read written p in
    let r = run_on s n allowance stored b out in
    let room = view_room s n b in
    let t = telling (pos (stop_number why)) calls read written in
    let q = same_told r.why why (length r.calls) calls (read_by r.calls) read (written_for (sizes_of s n) room r.calls) written
    (sym (run_told_lem s n allowance stored b out before t b' out' whole p)) in
    rw (← q.ground, ← q.calls_same, ← q.read_same, ← q.written_same) (run_stop_means (sizes_of s n) allowance room stored (length out))

-- ---- a second run

in_front_append : (stored : List ℕ) (calls later : List Call) → InFront stored calls → InFront (drop (read_by calls) stored) later → InFront stored (calls ++ later)
unfolding stored_all
in_front_append stored [] later f g = g
in_front_append stored (c ∷ calls) later f g =
    let taken = length (stored_bytes c) in
    let l : drop (length (stored_bytes c ++ stored_all calls)) stored ≡ drop (read_by calls) (drop taken stored) =
    ap (λ (k : ℕ). drop k stored) (length-append (stored_bytes c) (stored_all calls)) ∙ sym (drop-drop (read_by calls) taken stored) in
    (f.0, in_front_append (drop taken stored) calls later f.1 (subst (λ (x : List ℕ). InFront x later) l g))

pub transcript_append : (sizes : Sizes) (room : Room) (calls later : List Call)
    → transcript sizes room (calls ++ later) ≡ transcript sizes room calls ++ transcript sizes (room_after_all sizes room calls) later
unfolding transcript room_after_all
transcript_append sizes room [] later = refl
transcript_append sizes room (c ∷ calls) later =
    ap (λ (l : List Event). event room c ∷ l) (transcript_append sizes (room_after sizes room (outcome room c)) calls later)

-- the second run is on the room and the stored bytes that the first leaves
pub goes_on : (sizes : Sizes) (allowance₁ allowance₂ : ℕ) (room : Room) (stored : List ℕ) (space₁ space₂ : ℕ)
    → let first = (run sizes allowance₁ room stored space₁).calls in
    let room_then = room_after_all sizes room first in
    let second = (run sizes allowance₂ room_then (drop (read_by first) stored) space₂).calls in
    InFront stored (first ++ second) × (transcript sizes room (first ++ second) ≡ transcript sizes room first ++ transcript sizes room_then second)
goes_on sizes allowance₁ allowance₂ room stored space₁ space₂ =
    let first = (run sizes allowance₁ room stored space₁).calls in
    let room_then = room_after_all sizes room first in
    let storedThen = drop (read_by first) stored in
    let second = (run sizes allowance₂ room_then storedThen space₂).calls in (
      in_front_append stored first second (run_in_front sizes allowance₁ room stored space₁) (run_in_front sizes allowance₂ room_then storedThen space₂),
      transcript_append sizes room first second,
    )

-- of the export: the second run is on the room that the first left and on the stored bytes behind those that the first counts
pub plays_go_on : (s n allowance₁ allowance₂ : ℕ) (stored b out₁ out₂ : List ℕ) (before₁ before₂ : Counts) (why : Stop) (calls read written : ℕ) (t₂ : Telling)
    (b₁ out₁' b₂ out₂' : List ℕ)
    → ToldAs (run_told before₁) (Plays s n allowance₁ stored b out₁ b₁ out₁') (telling (pos (stop_number why)) calls read written)
    → ToldAs (run_told before₂) (Plays s n allowance₂ (drop read stored) b₁ out₂ b₂ out₂') t₂
    → let both = (run_on s n allowance₁ stored b out₁).calls ++ (run_on s n allowance₂ (drop read stored) b₁ out₂).calls in
    InFront stored both × Chain s n b (transcript (sizes_of s n) (view_room s n b) both) b₂
plays_go_on s n allowance₁ allowance₂ stored b out₁ out₂ before₁ before₂ why calls read written t₂ b₁ out₁' b₂ out₂' p₁ p₂ =
    let whole = told_whole s n allowance₁ stored b out₁ b₁ out₁' before₁ (stop_number why) calls read written p₁ in
    let sizes = sizes_of s n in
    let room = view_room s n b in
    let r = run_on s n allowance₁ stored b out₁ in
    let later = (run_on s n allowance₂ (drop read stored) b₁ out₂).calls in
    let t₁ = telling (pos (stop_number why)) calls read written in
    let q = same_told r.why why (length r.calls) calls (read_by r.calls) read (written_for sizes room r.calls) written
    (sym (run_told_lem s n allowance₁ stored b out₁ before₁ t₁ b₁ out₁' whole p₁)) in
    let chain = run_is_chain s n allowance₁ stored b out₁ before₁ t₁ b₁ out₁' whole p₁ in
    let events = run_events s n allowance₁ stored b out₁ in
    let c = chain_runs s n b events b₁ chain whole in
    let room_is : view_room s n b₁ ≡ room_after_all sizes room r.calls = c.room_is ∙ ap (room_after_all sizes room) (calls_of_lem sizes room r.calls) in
    let joined = chain_append chain (run_is_chain s n allowance₂ (drop read stored) b₁ out₂ before₂ t₂ b₂ out₂' c.whole p₂) in
    let events_are = ap (λ (y : Room). events ++ transcript sizes y later) room_is ∙ sym (transcript_append sizes room r.calls later) in (
      in_front_append stored r.calls later (run_in_front sizes allowance₁ room stored (length out₁))
          (subst (λ (k : ℕ). InFront (drop k stored) later) (sym q.read_same) (run_in_front sizes allowance₂ (view_room s n b₁) (drop read stored) (length out₂))),
      subst (λ (l : List Event). Chain s n b l b₂) events_are joined,
    )
