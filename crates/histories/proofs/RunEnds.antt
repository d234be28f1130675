-- With enough allowance and output a run plays every stored call and ends at the end. For calls that can be stored, in any room, with an allowance of at
-- least their number: where before each of them 2,052 bytes of the output are left, the calls played are exactly these, in order, and the run stops because
-- none is left (`run_ends_left`). That is so where the output has as many bytes as are written for all of them and 2,048 more (`run_ends_written`). In a whole
-- room of at most 240 numbers whose seated keys have 32 bytes at most it is so where the output has 2,052 bytes for each call (`run_ends`), for these are
-- enough for what is written for a call: a head of 4, and no call writes more than 2,048. So `banavoge_play` on whole bytes then tells the end, the
-- number of the calls and of their bytes, and the run is a chain of exactly these calls (`plays_all_left`, `plays_all`). Assumes nothing.
use mathlib.Core.Path.{◌≡◌, refl, sym, ap, subst, ◌∙◌}
use mathlib.Core.Bool.{true}
use mathlib.Core.List.{List, [], ◌∷◌, ◌++◌, append_assoc}
use Prim.Native.Nat.{ℕ, ◌+◌, ◌-◌, ◌*◌, ◌≤◌}
use native.Mathlib.Omega.{arith}
use lib.ListN.{length, length-append}
use lib.Seq.{drop-append_seam}
use Rattle.rules.specs.Room.{Sizes, Key, Room, sizes_of}
use Rattle.rules.specs.Whole.{Whole, ShortKeys}
use Rattle.rules.specs.Call.{Call, arrive, leave, packet_call, tick, needed}
use Rattle.rules.specs.Outcome.{sent_bytes, outcome, room_after}
use Rattle.rules.specs.History.{Event, event, transcript}
use Rattle.rules.specs.After.{room_after_all}
use Rattle.rules.proofs.Whole.{whole_after}
use Rattle.rules.proofs.WithinOutput.{sent_within, keys_stay_short}
use Rattle.room_laws.specs.View.{view_room}
use Rattle.room_laws.specs.Whole.{room_whole}
use Rattle.room_laws.proofs.WholeLaws.{whole_few_seats, whole_few, whole_view}
use Rattle.room_laws.proofs.OutcomeLaws.{view_keys}
use Rattle.stored.specs.Stored.{stored_bytes, stored_all, Storable, first_call, call}
use Rattle.stored.proofs.StoredLaws.{first_within}
use Rattle.stored.proofs.RoundTrips.{read_stored}
use Rattle.relay.specs.declared.play.Stop.TheVariants.{End}
use Rattle.relay.specs.Play.{entry_head, entry_bytes, entries_bytes, most_space, run, Plays}
use Rattle.records.proofs.EntryLaws.{length_entry_head}
use Rattle.relay.proofs.PlayLaws.{space_within, next_end, next_plays, first_then, run_stops, run_plays}
use Rattle.banavoge_laws.specs.Answers.{ToldAs}
use Rattle.banavoge_laws.specs.Runs.{Counts, Telling, run_told}
use Rattle.histories.specs.Runs.{AllStorable, run_on, written_for, LeftForEach, AllPlayed}
use Rattle.histories.proofs.RunIsChain.{run_told_lem, run_is_chain}
use Rattle.histories.proofs.RunStops.{transcript_append}

storable_front : (before later : List Call) → AllStorable (before ++ later) → AllStorable before
storable_front [] later a = tt
storable_front (c ∷ before) later a = (a.0, storable_front before later a.1)

-- ---- where 2,052 bytes are left before each call

pub run_ends_left : (sizes : Sizes) (calls : List Call) → AllStorable calls → (room : Room) (allowance space : ℕ) → length calls ≤ allowance
    → LeftForEach sizes room calls space → run sizes allowance room (stored_all calls) space ≡ record { calls = calls; why = End }
unfolding stored_all entries_bytes transcript
run_ends_left sizes [] a room allowance space enough left = run_stops sizes room [] space allowance End (next_end allowance [] space refl)
run_ends_left sizes (c ∷ calls) a room allowance space enough left =
    let stored = stored_bytes c ++ stored_all calls in
    let first : first_call stored ≡ call c = read_stored c a.0 (stored_all calls) in
    let some = first_within stored c first in
    let entry = length (entry_bytes (event room c)) in
    let here = left [] c calls refl in
    let after = room_after sizes room (outcome room c) in
    run_plays sizes room stored space allowance c (next_plays allowance stored space (λ e. omega arith) (λ e. omega arith) c first (omega arith))
    ∙ ap (λ (l : List ℕ). first_then c (run sizes (allowance - 1) after l (space - entry))) (drop-append_seam (stored_bytes c) (stored_all calls))
    ∙ ap (first_then c)
    (run_ends_left sizes calls a.1 after (allowance - 1) (space - entry) (omega arith)
    (λ before d behind e.
    (let h = left (c ∷ before) d behind (ap (λ (l : List Call). c ∷ l) e) in
    let n = length-append (entry_bytes (event room c)) (entries_bytes (transcript sizes after before)) in
    omega arith)))

-- ---- where the output has what is written, and 2,048 bytes more

entries_append : (events later : List Event) → entries_bytes (events ++ later) ≡ entries_bytes events ++ entries_bytes later
unfolding entries_bytes
entries_append [] later = refl
entries_append (e ∷ events) later =
    ap (λ (l : List ℕ). entry_bytes e ++ l) (entries_append events later) ∙ sym (append_assoc (entry_bytes e) (entries_bytes events) (entries_bytes later))

written_append : (sizes : Sizes) (room : Room) (calls later : List Call)
    → written_for sizes room (calls ++ later) ≡ written_for sizes room calls + written_for sizes (room_after_all sizes room calls) later
written_append sizes room calls later =
    let events = transcript sizes room calls in
    let more = transcript sizes (room_after_all sizes room calls) later in
    ap (λ (l : List Event). length (entries_bytes l)) (transcript_append sizes room calls later)
    ∙ ap length (entries_append events more) ∙ length-append (entries_bytes events) (entries_bytes more)

-- each call is written with its head
head_within : (sizes : Sizes) (room : Room) (c : Call) (calls : List Call) → 4 ≤ written_for sizes room (c ∷ calls)
unfolding entries_bytes transcript entry_bytes event
head_within sizes room c calls =
    let o = outcome room c in
    let after = room_after sizes room o in
    let head = entry_head o.answer in
    let e = length-append head (sent_bytes o.sent) in
    let l = length-append (head ++ sent_bytes o.sent) (entries_bytes (transcript sizes after calls)) in
    omega (arith, length_entry_head o.answer)

pub run_ends_written : (sizes : Sizes) (calls : List Call) → AllStorable calls → (room : Room) (allowance space : ℕ) → length calls ≤ allowance
    → (1 ≤ length calls → written_for sizes room calls + 2048 ≤ space)
    → run sizes allowance room (stored_all calls) space ≡ record { calls = calls; why = End }
run_ends_written sizes calls a room allowance space enough fits =
    run_ends_left sizes calls a room allowance space enough
    (λ before c behind e.
    (let n = ap length e ∙ length-append before (c ∷ behind) in
    let h = fits (omega arith) in
    let w = ap (written_for sizes room) e ∙ written_append sizes room before (c ∷ behind) in
    let k = head_within sizes (room_after_all sizes room before) c behind in
    omega (arith, space_within c)))

-- ---- where the output has 2,052 bytes for each call

-- the key of a stored arrival has 32 bytes
key_short : (c : Call) → Storable c → (key : Key) → c ≡ arrive key → length key ≤ 32
unfolding Storable
key_short (arrive k) s key e = let q : k ≡ key = cc in omega (arith, s.long, ap length q)
key_short (leave seat) s key e = let z : ◌≡◌ {A = ℕ} 0 1 = cc in omega arith
key_short (packet_call seat bytes) s key e = let z : ◌≡◌ {A = ℕ} 0 1 = cc in omega arith
key_short (tick time number) s key e = absurd s

-- a stored call, which is no tick, needs 2,048 bytes at most
stored_needs : (c : Call) → Storable c → needed c ≤ 2048
unfolding Storable
stored_needs (arrive k) s = omega arith
stored_needs (leave seat) s = omega arith
stored_needs (packet_call seat bytes) s = omega arith
stored_needs (tick time number) s = absurd s

module _ (sizes : Sizes) (seats : sizes.seats ≤ 40) (few : sizes.numbers ≤ 240) where
  -- what is written for a stored call
  pub entry_within : (room : Room) → Whole sizes room → ShortKeys room → (c : Call) → Storable c → length (entry_bytes (event room c)) ≤ most_space
  unfolding entry_bytes event
  entry_within room whole keys c a =
      let o = outcome room c in
      omega (
        arith,
        length-append (entry_head o.answer) (sent_bytes o.sent),
        length_entry_head o.answer,
        sent_within sizes seats few room whole keys c,
        stored_needs c a,
      )

  written_within : (calls : List Call) → AllStorable calls → (room : Room) → Whole sizes room → ShortKeys room
      → written_for sizes room calls ≤ length calls * most_space
  unfolding entries_bytes transcript
  written_within [] a room whole keys = omega arith
  written_within (c ∷ calls) a room whole keys =
      let after = room_after sizes room (outcome room c) in
      let short = entry_within room whole keys c a.0 in
      let l = length-append (entry_bytes (event room c)) (entries_bytes (transcript sizes after calls)) in
      let rest = written_within calls a.1 after (whole_after sizes room whole c) (keys_stay_short sizes room whole keys c (key_short c a.0)) in
      omega arith

  pub each_left : (calls : List Call) → AllStorable calls → (room : Room) → Whole sizes room → ShortKeys room → (space : ℕ)
      → length calls * most_space ≤ space → LeftForEach sizes room calls space
  each_left calls a room whole keys space fits before c behind e =
      let w = written_within before (storable_front before (c ∷ behind) (subst AllStorable e a)) room whole keys in
      let n = ap length e ∙ length-append before (c ∷ behind) in
      omega (arith, space_within c)

  pub run_ends : (calls : List Call) → AllStorable calls → (room : Room) → Whole sizes room → ShortKeys room → (allowance space : ℕ)
      → length calls ≤ allowance → length calls * most_space ≤ space → run sizes allowance room (stored_all calls) space ≡ record { calls = calls; why = End }
  run_ends calls a room whole keys allowance space enough fits =
      run_ends_left sizes calls a room allowance space enough (each_left calls a room whole keys space fits)

-- ---- of the export, from whole bytes

module _ (s n allowance : ℕ) (calls : List Call) (b out : List ℕ) (before : Counts) (t : Telling) (b' out' : List ℕ) (whole : room_whole s n b ≡ true)
    (storable : AllStorable calls) (enough : length calls ≤ allowance)
    (p : ToldAs (run_told before) (Plays s n allowance (stored_all calls) b out b' out') t) where
  pub plays_all_left : LeftForEach (sizes_of s n) (view_room s n b) calls (length out) → AllPlayed s n calls b t b'
  plays_all_left left =
      let all : run_on s n allowance (stored_all calls) b out ≡ record { calls = calls; why = End } =
      run_ends_left (sizes_of s n) calls storable (view_room s n b) allowance (length out) enough left in
      let q = run_told_lem s n allowance (stored_all calls) b out before t b' out' whole p in
      let c = run_is_chain s n allowance (stored_all calls) b out before t b' out' whole p in
      (rw all at q, rw all at c)

  pub plays_all : length calls * most_space ≤ length out → AllPlayed s n calls b t b'
  plays_all fits =
      plays_all_left (each_left (sizes_of s n) (whole_few_seats s n b whole) (whole_few s n b whole) calls storable (view_room s n b) (whole_view s n b whole) (view_keys s n b) (length out) fits)
