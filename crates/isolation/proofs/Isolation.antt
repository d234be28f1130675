-- Demand 3, over two whole histories: "This whole sequence is equal in both histories, and so, for each call of C in turn, is the seat answered, the
-- byte count or the refusal number." The condition on 0 is demand 3's own: "Suppose their records for C, listed in document 01, are equal, and neither history
-- answers another client's request for C with 0." Two histories of whatever lengths, with any sizes of the room, and any client C: where both hold, the packets
-- handed to C are equal, byte for byte and in order, and so are the answers to C's own calls. `two_histories` has it from the empty room, `two_histories_from`
-- from any whole room with a past that says what its tables say. Ticks are among the calls; document 02 has them in every record, "with the departures it causes
-- marked there as its own", C's own departure too. It is proved by showing that what C is handed and answered is a function of its record alone, and of that
-- without C's own departures by ticks: so the theorems that end in `without-own` need no more than such records to be equal, and the others follow from them.
-- Assumes nothing.
use mathlib.Core.Path.{◌≡◌, refl, sym, ap, ap₂, ◌∙◌}
use mathlib.Core.Bool.{Bool, true, false, cond, true≢false}
use mathlib.Core.List.{List, [], ◌∷◌, ◌++◌, map, append_assoc}
use Prim.Native.Nat.{ℕ}
use lib.Dec.{eqb, ltb}
use Rattle.key.specs.Keys.{same_key}
use Rattle.rules.specs.Room.{Sizes, Key, Room, empty_room}
use Rattle.rules.specs.Whole.{Whole}
use Rattle.rules.specs.Call.{Call, Answer}
use Rattle.rules.specs.Outcome.{outcome, room_after}
use Rattle.rules.specs.History.{event, transcript}
use Rattle.rules.specs.Transcript.{Past, Start, from_empty, maker, is_client}
use Rattle.rules.specs.After.{Tied}
use Rattle.isolation.specs.Record.{Entry, arrived, departed, own, to_c, dropped_c, data_for_c, ticked, entries, record_for, key_unless, strike, without_own, handed, packets_for, answer_if, answers_for, turns_away, zero_for_c}
use Rattle.rules.proofs.Whole.{whole_after, whole_empty}
use Rattle.rules.proofs.Tied.{tied_after, tied_empty}
use Rattle.isolation.proofs.View.{View, project, Observed, observed, tick_seen, observe, observed_then, observe_all}
use Rattle.isolation.proofs.OneCall.{one_call}

-- ---- a record in two parts

then_assoc : (s t u : Observed) → observed_then s (observed_then t u) ≡ observed_then (observed_then s t) u
unfolding observed_then observed
then_assoc s t u = rw (append_assoc s.packets t.packets u.packets, append_assoc s.answers t.answers u.answers)

observe_append : (sizes : Sizes) (c : Key) (v : View) (a b : List Entry) → observe_all sizes c v (a ++ b) ≡ observed_then (observe_all sizes c v a) (observe_all sizes c (observe_all sizes c v a).view b)
unfolding observe_all observed_then observed
observe_append sizes c v [] b = refl
observe_append sizes c v (e ∷ a) b = rw (observe_append sizes c (observe sizes c v e).view a b) (then_assoc (observe sizes c v e) (observe_all sizes c (observe sizes c v e).view a) (observe_all sizes c (observe_all sizes c (observe sizes c v e).view a).view b))

-- ---- a record without C's own departures by ticks

strike_twice : (c : Key) (keys : List Key) → strike c (strike c keys) ≡ strike c keys
unfolding strike key_unless
strike_twice c [] = refl
strike_twice c (key ∷ keys) = go (same_key key c) refl (strike_twice c keys)
  where
    go : (t : Bool) → same_key key c ≡ t → strike c (strike c keys) ≡ strike c keys → strike c (key_unless t key (strike c keys)) ≡ key_unless t key (strike c keys)
    go true h later = later
    go false h later = rw (h, later)

-- it yields the same: C's own departure goes by its own ping and the time
observe_without : (sizes : Sizes) (c : Key) (v : View) (e : Entry) → observe sizes c v (without_own c e) ≡ observe sizes c v e
unfolding without_own observe
observe_without sizes c v (arrived key) = refl
observe_without sizes c v (departed key) = refl
observe_without sizes c v (own call) = refl
observe_without sizes c v (to_c key call) = refl
observe_without sizes c v (dropped_c key) = refl
observe_without sizes c v (data_for_c key bytes) = refl
observe_without sizes c v (ticked time number out) = ap (tick_seen (eqb number 0) (ltb time v.clock) c v time number) (strike_twice c out)

observe_all_without : (sizes : Sizes) (c : Key) (v : View) (es : List Entry) → observe_all sizes c v (map (without_own c) es) ≡ observe_all sizes c v es
unfolding observe_all
observe_all_without sizes c v [] = refl
observe_all_without sizes c v (e ∷ es) =
    ap (λ (s : Observed). observed_then s (observe_all sizes c s.view (map (without_own c) es))) (observe_without sizes c v e)
    ∙ ap (observed_then (observe sizes c v e)) (observe_all_without sizes c (observe sizes c v e).view es)

-- ---- a function of the record

never_first : (t b : Bool) → cond t true b ≡ false → t ≡ false
never_first true b h = h
never_first false b h = refl

never_later : (t b : Bool) → cond t true b ≡ false → b ≡ false
never_later true b h = absurd (true≢false h)
never_later false b h = h

-- a call, and the record after it
observe_call : (sizes : Sizes) (start : Start) (past : Past) (c : Key) (room : Room) → Whole sizes room → Tied start past room
    → (call : Call) → turns_away c (maker start past call) (event room call) call ≡ false → (later : List Entry)
    → observe_all sizes c (project c room) (entries start past c (event room call) ++ later)
    ≡ observed_then (observed (project c (room_after sizes room (outcome room call))) (handed start past c (event room call).sent) (answer_if (is_client c (maker start past call)) (event room call).answer))
    (observe_all sizes c (project c (room_after sizes room (outcome room call))) later)
unfolding observed
observe_call sizes start past c room whole tie call z later =
    observe_append sizes c (project c room) (entries start past c (event room call)) later
    ∙ ap (λ (s : Observed). observed_then s (observe_all sizes c s.view later)) (one_call sizes start past room whole tie c call z)

-- what C is handed and what its calls are answered, of a history from a whole room on
pub record ByRecord (sizes : Sizes) (start : Start) (past : Past) (c : Key) (room : Room) (calls : List Call) : Type 0 where
  pub packets : (observe_all sizes c (project c room) (record_for start past c (transcript sizes room calls))).packets ≡ packets_for start past c (transcript sizes room calls)
  pub answers : (observe_all sizes c (project c room) (record_for start past c (transcript sizes room calls))).answers ≡ answers_for start past c (transcript sizes room calls)

pub by_record : (sizes : Sizes) (start : Start) (past : Past) (c : Key) (room : Room) → Whole sizes room → Tied start past room
    → (calls : List Call) → zero_for_c start past c (transcript sizes room calls) ≡ false → ByRecord sizes start past c room calls
unfolding event transcript record_for packets_for answers_for zero_for_c observe_all observed_then observed
by_record sizes start past c room whole tie [] z = record { packets = refl; answers = refl }
by_record sizes start past c room whole tie (call ∷ calls) z =
    let e = event room call in
    let next = room_after sizes room (outcome room call) in
    let later = transcript sizes next calls in
    let turned = turns_away c (maker start past call) e call in
    let never = zero_for_c start (e ∷ past) c later in
    let rest = by_record sizes start (e ∷ past) c next (whole_after sizes room whole call) (tied_after sizes start past room whole tie call) calls (never_later turned never z) in
    let parts = observe_call sizes start past c room whole tie call (never_first turned never z) (record_for start (e ∷ past) c later) in
    record {
      packets = ap (λ (s : Observed). s.packets) parts ∙ ap (λ (l : List (List ℕ)). handed start past c e.sent ++ l) rest.packets;
      answers = ap (λ (s : Observed). s.answers) parts ∙ ap (λ (l : List Answer). answer_if (is_client c (maker start past call)) e.answer ++ l) rest.answers;
    }

-- ---- two histories, with records that are equal but for C's own departures by ticks

-- from two whole rooms of which C has the same view, each with what happened before
pub two_views_without_own : (sizes : Sizes) (c : Key) (start₁ start₂ : Start) (past₁ past₂ : Past) (room₁ room₂ : Room)
    → Whole sizes room₁ → Whole sizes room₂ → Tied start₁ past₁ room₁ → Tied start₂ past₂ room₂ → project c room₁ ≡ project c room₂
    → (h₁ h₂ : List Call) → zero_for_c start₁ past₁ c (transcript sizes room₁ h₁) ≡ false → zero_for_c start₂ past₂ c (transcript sizes room₂ h₂) ≡ false
    → map (without_own c) (record_for start₁ past₁ c (transcript sizes room₁ h₁)) ≡ map (without_own c) (record_for start₂ past₂ c (transcript sizes room₂ h₂))
    → (packets_for start₁ past₁ c (transcript sizes room₁ h₁) ≡ packets_for start₂ past₂ c (transcript sizes room₂ h₂))
    × (answers_for start₁ past₁ c (transcript sizes room₁ h₁) ≡ answers_for start₂ past₂ c (transcript sizes room₂ h₂))
two_views_without_own sizes c start₁ start₂ past₁ past₂ room₁ room₂ whole₁ whole₂ tie₁ tie₂ views h₁ h₂ z₁ z₂ e =
    let a = by_record sizes start₁ past₁ c room₁ whole₁ tie₁ h₁ z₁ in
    let b = by_record sizes start₂ past₂ c room₂ whole₂ tie₂ h₂ z₂ in
    let same = sym (observe_all_without sizes c (project c room₁) (record_for start₁ past₁ c (transcript sizes room₁ h₁))) ∙ ap₂ (observe_all sizes c) views e
    ∙ observe_all_without sizes c (project c room₂) (record_for start₂ past₂ c (transcript sizes room₂ h₂)) in
    (sym a.packets ∙ ap (λ (s : Observed). s.packets) same ∙ b.packets, sym a.answers ∙ ap (λ (s : Observed). s.answers) same ∙ b.answers)

-- from a whole room, with a past that says what it says
pub two_histories_without_own_from : (sizes : Sizes) (c : Key) (start : Start) (past : Past) (room : Room) → Whole sizes room → Tied start past room → (h₁ h₂ : List Call)
    → zero_for_c start past c (transcript sizes room h₁) ≡ false
    → zero_for_c start past c (transcript sizes room h₂) ≡ false
    → map (without_own c) (record_for start past c (transcript sizes room h₁)) ≡ map (without_own c) (record_for start past c (transcript sizes room h₂))
    → (packets_for start past c (transcript sizes room h₁) ≡ packets_for start past c (transcript sizes room h₂))
    × (answers_for start past c (transcript sizes room h₁) ≡ answers_for start past c (transcript sizes room h₂))
two_histories_without_own_from sizes c start past room whole tie = two_views_without_own sizes c start start past past room room whole whole tie tie refl

-- from the empty room
pub two_histories_without_own : (sizes : Sizes) (c : Key) (h₁ h₂ : List Call)
    → zero_for_c (from_empty sizes) [] c (transcript sizes (empty_room sizes) h₁) ≡ false
    → zero_for_c (from_empty sizes) [] c (transcript sizes (empty_room sizes) h₂) ≡ false
    → map (without_own c) (record_for (from_empty sizes) [] c (transcript sizes (empty_room sizes) h₁))
    ≡ map (without_own c) (record_for (from_empty sizes) [] c (transcript sizes (empty_room sizes) h₂))
    → (packets_for (from_empty sizes) [] c (transcript sizes (empty_room sizes) h₁) ≡ packets_for (from_empty sizes) [] c (transcript sizes (empty_room sizes) h₂))
    × (answers_for (from_empty sizes) [] c (transcript sizes (empty_room sizes) h₁) ≡ answers_for (from_empty sizes) [] c (transcript sizes (empty_room sizes) h₂))
two_histories_without_own sizes c = two_histories_without_own_from sizes c (from_empty sizes) [] (empty_room sizes) (whole_empty sizes) (tied_empty sizes)

-- ---- two histories: demand 3 in the papers' words

-- from two whole rooms of which C has the same view, each with what happened before
pub two_views : (sizes : Sizes) (c : Key) (start₁ start₂ : Start) (past₁ past₂ : Past) (room₁ room₂ : Room)
    → Whole sizes room₁ → Whole sizes room₂ → Tied start₁ past₁ room₁ → Tied start₂ past₂ room₂ → project c room₁ ≡ project c room₂
    → (h₁ h₂ : List Call) → zero_for_c start₁ past₁ c (transcript sizes room₁ h₁) ≡ false → zero_for_c start₂ past₂ c (transcript sizes room₂ h₂) ≡ false
    → record_for start₁ past₁ c (transcript sizes room₁ h₁) ≡ record_for start₂ past₂ c (transcript sizes room₂ h₂)
    → (packets_for start₁ past₁ c (transcript sizes room₁ h₁) ≡ packets_for start₂ past₂ c (transcript sizes room₂ h₂))
    × (answers_for start₁ past₁ c (transcript sizes room₁ h₁) ≡ answers_for start₂ past₂ c (transcript sizes room₂ h₂))
two_views sizes c start₁ start₂ past₁ past₂ room₁ room₂ whole₁ whole₂ tie₁ tie₂ views h₁ h₂ z₁ z₂ e =
    two_views_without_own sizes c start₁ start₂ past₁ past₂ room₁ room₂ whole₁ whole₂ tie₁ tie₂ views h₁ h₂ z₁ z₂ (ap (map (without_own c)) e)

-- from a whole room, with a past that says what it says
pub two_histories_from : (sizes : Sizes) (c : Key) (start : Start) (past : Past) (room : Room) → Whole sizes room → Tied start past room → (h₁ h₂ : List Call)
    → zero_for_c start past c (transcript sizes room h₁) ≡ false
    → zero_for_c start past c (transcript sizes room h₂) ≡ false
    → record_for start past c (transcript sizes room h₁) ≡ record_for start past c (transcript sizes room h₂)
    → (packets_for start past c (transcript sizes room h₁) ≡ packets_for start past c (transcript sizes room h₂))
    × (answers_for start past c (transcript sizes room h₁) ≡ answers_for start past c (transcript sizes room h₂))
two_histories_from sizes c start past room whole tie = two_views sizes c start start past past room room whole whole tie tie refl

-- from the empty room
pub two_histories : (sizes : Sizes) (c : Key) (h₁ h₂ : List Call)
    → zero_for_c (from_empty sizes) [] c (transcript sizes (empty_room sizes) h₁) ≡ false
    → zero_for_c (from_empty sizes) [] c (transcript sizes (empty_room sizes) h₂) ≡ false
    → record_for (from_empty sizes) [] c (transcript sizes (empty_room sizes) h₁) ≡ record_for (from_empty sizes) [] c (transcript sizes (empty_room sizes) h₂)
    → (packets_for (from_empty sizes) [] c (transcript sizes (empty_room sizes) h₁) ≡ packets_for (from_empty sizes) [] c (transcript sizes (empty_room sizes) h₂))
    × (answers_for (from_empty sizes) [] c (transcript sizes (empty_room sizes) h₁) ≡ answers_for (from_empty sizes) [] c (transcript sizes (empty_room sizes) h₂))
two_histories sizes c = two_histories_from sizes c (from_empty sizes) [] (empty_room sizes) (whole_empty sizes) (tied_empty sizes)
