-- What a run of stored calls wrote reads back as the events of the calls that it played: read off the stored bytes, the run's answer and the output alone, as a
-- host reads them, they are the rules' transcript, the events that the single calls would show (`run_seen_lem`). So what is proved of the events of a run is proved
-- of what its host sees; and entries read in one way: events of the same calls with the same bytes are the same (`entries_one_way`). Assumes nothing.
use mathlib.Core.Path.{◌≡◌, refl, sym, ap, ap₂, ◌∙◌}
use mathlib.Core.Bool.{true}
use mathlib.Core.List.{List, [], ◌∷◌, ◌++◌, append_assoc}
use Prim.Native.Nat.{ℕ, ◌<◌}
use native.Mathlib.Omega.{arith}
use lib.ListN.{length, take, drop}
use lib.Seq.{take_at, drop_at}
use borrow.Author.Tests.{ne_eqb}
use Rattle.refusal.specs.declared.Refusal.{Refusal}
use Rattle.refusal.specs.Numbers.{refusal_number}
use Rattle.refusal.proofs.LookedUp.{looked_up}
use Rattle.wire.specs.Numbers.{number_of, bytes_of}
use Rattle.wire.proofs.Numbers.{length_bytes_of, number_bytes_of}
use Rattle.rules.specs.Room.{Sizes, Room, sizes_of}
use Rattle.rules.specs.Call.{Call, Answer, accepted, refused, Sent}
use Rattle.rules.specs.Outcome.{sent_bytes, outcome, room_after}
use Rattle.rules.specs.History.{Event, event, transcript}
use Rattle.room_laws.specs.View.{view_room}
use Rattle.room_laws.specs.Whole.{room_whole}
use Rattle.stored.specs.Stored.{stored_bytes}
use Rattle.records.specs.Read.{too_long}
use Rattle.records.proofs.RoundTrips.{all_short}
use Rattle.relay_laws.specs.Calls.{written}
use Rattle.relay.specs.Play.{entry_head, entry_bytes, entries_bytes, Plays}
use Rattle.relay_laws.proofs.OutcomeLeaves.{made_written}
use Rattle.records.proofs.EntryLaws.{length_entry_head}
use Rattle.banavoge_laws.specs.Answers.{ToldAs}
use Rattle.banavoge_laws.specs.Runs.{Counts, Telling, run_told}
use Rattle.histories.specs.Seen.{seen_as}
use Rattle.histories.specs.Lent.{Lent, lent_outcome, lent_event}
use Rattle.histories.specs.History.{AnyChain, none, next, Chain, calls_of}
use Rattle.histories.specs.RunSeen.{calls_from, calls_in, answer_told, answer_in, events_in, AllReadable, Readable, played_told, run_seen}
use Rattle.histories.specs.Runs.{InFront, run_on, run_events}
use Rattle.histories.proofs.ReadBack.{written_read}
use Rattle.histories.proofs.Histories.{step_right}
use Rattle.histories.proofs.LentLaws.{lent_made, lent_within}
use Rattle.histories.proofs.RunIsChain.{run_in_front, run_told_lem, run_writes, run_is_chain}

-- ---- one head

refusal_back : (why : Refusal) (seat size : ℕ) → answer_told (refusal_number why) seat size ≡ refused why
unfolding answer_told
refusal_back why seat size =
    let positive = (looked_up why).positive in
    rw (ne_eqb (refusal_number why) 0 (λ e. omega arith)) (ap refused (looked_up why).found)

answer_back : (given : Answer) (behind : List ℕ) → written given < too_long → answer_in (entry_head given ++ behind) ≡ given
unfolding answer_in answer_told entry_head written
answer_back (accepted seat size) behind h =
    ap (λ (l : List ℕ). answer_told 0 seat (number_of l)) (take_at (bytes_of 2 size) behind 2 (length_bytes_of 2 size))
    ∙ ap (answer_told 0 seat) (number_bytes_of 2 size h)
answer_back (refused why) behind h = refusal_back why 0 (number_of (take 2 (bytes_of 2 0 ++ behind)))

-- ---- entries

entry_back : (e : Event) → Readable e → (behind : List ℕ)
    → (answer_in (entry_bytes e ++ behind) ≡ e.answer) × (drop 4 (entry_bytes e ++ behind) ≡ sent_bytes e.sent ++ behind)
unfolding entry_bytes
entry_back e r behind =
    let head = entry_head e.answer in
    let rest = sent_bytes e.sent ++ behind in
    let s = append_assoc head (sent_bytes e.sent) behind in
    (ap answer_in s ∙ answer_back e.answer rest (omega arith), ap (drop 4) s ∙ drop_at head rest 4 (length_entry_head e.answer))

pub entries_read : (events : List Event) → AllReadable events → (behind : List ℕ) → events_in (calls_of events) (entries_bytes events ++ behind) ≡ events
unfolding calls_of entries_bytes events_in seen_as
entries_read [] r behind = refl
entries_read (e ∷ events) r behind =
    let rest = entries_bytes events ++ behind in
    let q = entry_back e r.0 rest in
    ap (events_in (e.call ∷ calls_of events)) (append_assoc (entry_bytes e) (entries_bytes events) behind)
    ∙ ap₂ (λ (a : Answer) (l : List ℕ). seen_as e.call a l ∷ events_in (calls_of events) (drop (written a) l)) q.0 q.1
    ∙ ap₂ (λ (x : List Sent) (l : List ℕ). record { call = e.call; answer = e.answer; sent = x } ∷ events_in (calls_of events) l)
    (written_read e.sent (all_short e.sent r.0.1) e.answer r.0.0 rest) (drop_at (sent_bytes e.sent) rest (written e.answer) (sym r.0.0))
    ∙ ap (λ (l : List Event). e ∷ l) (entries_read events r.1 behind)

pub entries_one_way : (events events' : List Event) → AllReadable events → AllReadable events' → calls_of events ≡ calls_of events' → entries_bytes events ≡ entries_bytes events'
    → events ≡ events'
entries_one_way events events' r r' c e =
    sym (entries_read events r []) ∙ ap₂ (λ (l : List Call) (x : List ℕ). events_in l (x ++ [])) c e ∙ entries_read events' r' []

-- every call on a whole room is seen so
calls_readable : (s n : ℕ) (b : List ℕ) (lents : List Lent) (events : List Event) (b' : List ℕ) → AnyChain s n b lents events b' → room_whole s n b ≡ true → AllReadable events
unfolding lent_event
calls_readable s n b ls es b' none w = tt
calls_readable s n b ls es b' (next {b₁ = b₁} {l = l} {e = e} {lents = lents} {events = events} step chain) w =
    let r = step_right s n b w l e b₁ step in
    let room = view_room s n b in (
      rw r.sees (made_written (lent_outcome room l) (lent_made room l), omega (arith, lent_within s n b w l)),
      calls_readable s n b₁ lents events b' chain r.whole,
    )

pub chain_readable : (s n : ℕ) (b : List ℕ) (events : List Event) (b' : List ℕ) → Chain s n b events b' → room_whole s n b ≡ true → AllReadable events
chain_readable s n b events b' c = calls_readable s n b c.lents events b' c.calls

-- ---- the calls of a run

calls_read : (stored : List ℕ) (calls : List Call) → InFront stored calls → calls_in (length calls) stored ≡ calls
unfolding calls_in calls_from
calls_read stored [] f = refl
calls_read stored (c ∷ calls) f = rw f.0 (ap (λ (l : List Call). c ∷ l) (calls_read (drop (length (stored_bytes c)) stored) calls f.1))

pub calls_of_lem : (sizes : Sizes) (room : Room) (calls : List Call) → calls_of (transcript sizes room calls) ≡ calls
unfolding calls_of transcript event
calls_of_lem sizes room [] = refl
calls_of_lem sizes room (c ∷ calls) = ap (λ (l : List Call). c ∷ l) (calls_of_lem sizes (room_after sizes room (outcome room c)) calls)

-- ---- the theorem

pub run_seen_lem : (s n allowance : ℕ) (stored b out : List ℕ) (before : Counts) (t : Telling) (b' out' : List ℕ) → room_whole s n b ≡ true
    → ToldAs (run_told before) (Plays s n allowance stored b out b' out') t → run_seen stored t out' ≡ run_events s n allowance stored b out
unfolding run_seen played_told
run_seen_lem s n allowance stored b out before t b' out' whole p =
    let events = run_events s n allowance stored b out in
    let calls = (run_on s n allowance stored b out).calls in
    let played-are : calls_in (length calls) stored ≡ calls_of events =
    calls_read stored calls (run_in_front (sizes_of s n) allowance (view_room s n b) stored (length out)) ∙ sym (calls_of_lem (sizes_of s n) (view_room s n b) calls) in
    let readable = chain_readable s n b events b' (run_is_chain s n allowance stored b out before t b' out' whole p) whole in
    ap₂ (run_seen stored) (run_told_lem s n allowance stored b out before t b' out' whole p) (run_writes s n allowance stored b out before t b' out' whole p)
    ∙ ap (λ (l : List Call). events_in l (entries_bytes events ++ drop (length (entries_bytes events)) out)) played-are
    ∙ entries_read events readable (drop (length (entries_bytes events)) out)
