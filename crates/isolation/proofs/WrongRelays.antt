-- Wrong relays, and what each breaks. Document 01: "Demand 2 turns away a relay that refuses all calls, one with a single constant answer, one that never
-- acts, and one that is right on the first call and idle on later ones, since it speaks of any sequence. A made-up byte [..] count disagrees with the records
-- [..], so demand 2 turns it away too. Demand 3 would suit a silent relay; it is therefore stated of a relay that takes the steps above."
-- A relay is whatever gives an event for each call of a history from the empty room; nothing is said of how it does it. Demand 2 is that it takes the steps:
-- its events are those of the rules, for every history. Each wrong relay is any that has the fault named, and a history of one or two calls shows it.
-- A relay that takes the steps isolates its clients (demand 3), and so does one that answers every call alike and never sends. Assumes nothing.
use mathlib.Core.Path.{◌≡◌, refl, sym, ap, ap₂, ◌∙◌}
use mathlib.Core.Bool.{Bool, true, false, true≢false}
use mathlib.Core.List.{List, [], ◌∷◌, ◌++◌, map}
use Prim.Native.Nat.{ℕ}
use native.Mathlib.Omega.{arith}
use lib.ListN.{length, replicate, drop}
use Rattle.wire.specs.Numbers.{bytes_of}
use Rattle.key.specs.Keys.{same_key}
use Rattle.packet_laws.specs.Read.{Read}
use Rattle.packet_laws.specs.Read as read
use Rattle.packet_laws.specs.FromClient as client
use Rattle.rules.specs.Room.{Key, base_sizes, empty_room}
use Rattle.rules.specs.Call.{Call, arrive, leave, packet_call, tick, Answer, accepted, refused}
use Rattle.rules.specs.History.{Event, transcript, happens}
use Rattle.rules.specs.Transcript.{Past, Maker, nobody, client_of, Start, from_empty, is_accepted, is_seated, put_out, maker, stands, is_client}
use Rattle.isolation.specs.Record.{Entry, arrived, departed, own, to_c, dropped_c, data_for_c, ticked, entry_if, by_key, other_packet, other_call, if_accepted, made_by, of_tick, entries_by, entries, record_for, handed, packets_for, answer_if, answers_for}
use Rattle.isolation.specs.Relays.{Relay, TakesSteps, Isolates, answers_of, sent_of, all_refused, first_only, silent}
use Rattle.rules.specs.Accepted.{all_counted}
use Rattle.isolation.proofs.Recorded.{recorded}
use Rattle.rules.proofs.Computed.{ka, kb, opened}
use Rattle.rules.proofs.Counts.{history_counted}
use Rattle.isolation.proofs.Isolation.{two_histories}

pub steps_isolate : (relay : Relay) → TakesSteps relay → Isolates relay
steps_isolate relay steps c h₁ h₂ = rw (steps h₁, steps h₂) (two_histories base_sizes c h₁ h₂)

-- ---- histories that tell

ping_of : ℕ → Call
ping_of seat = packet_call seat (4 ∷ bytes_of 8 7)

one_accepted : all_refused (happens base_sizes (arrive ka ∷ [])) ≡ false
unfolding opened recorded all_refused
one_accepted = refl

two_seats : answers_of (happens base_sizes (arrive ka ∷ arrive kb ∷ [])) ≡ accepted 0 0 ∷ accepted 1 0 ∷ []
unfolding opened recorded answers_of
two_seats = refl

leaves_once : map is_accepted (answers_of (happens base_sizes (arrive ka ∷ leave 0 ∷ leave 0 ∷ []))) ≡ true ∷ true ∷ false ∷ []
unfolding opened recorded answers_of
leaves_once = refl

pong_sent : length (sent_of (drop 1 (happens base_sizes (arrive ka ∷ ping_of 0 ∷ [])))) ≡ 1
unfolding opened recorded sent_of ping_of
pong_sent = refl

some_sent : length (sent_of (happens base_sizes (arrive ka ∷ ping_of 0 ∷ []))) ≡ 1
unfolding opened recorded sent_of ping_of
some_sent = refl

-- ---- what a relay that takes the steps is not

module _ (relay : Relay) (steps : TakesSteps relay) where
  -- one that refuses all calls
  pub not_refusing_all : ((calls : List Call) → all_refused (relay calls) ≡ true) → ⊥
  not_refusing_all all = true≢false (sym (all (arrive ka ∷ [])) ∙ ap all_refused (steps (arrive ka ∷ [])) ∙ one_accepted)

  -- one with a single constant answer
  pub not_one_answer : (a : Answer) → ((calls : List Call) → answers_of (relay calls) ≡ replicate (length calls) a) → ⊥
  not_one_answer a all =
      let e : a ∷ a ∷ [] ≡ accepted 0 0 ∷ accepted 1 0 ∷ [] = sym (all (arrive ka ∷ arrive kb ∷ [])) ∙ ap answers_of (steps (arrive ka ∷ arrive kb ∷ [])) ∙ two_seats in
      let z : ◌≡◌ {A = ℕ} 0 1 = cc in
      absurd (omega arith)

  -- one that never acts: what a call gets is the same whatever was before it
  pub not_idle : (f : Call → Event) → ((calls : List Call) → relay calls ≡ map f calls) → ⊥
  unfolding answers_of
  not_idle f all =
      let calls = arrive ka ∷ leave 0 ∷ leave 0 ∷ [] in
      let a = is_accepted (f (arrive ka)).answer in
      let b = is_accepted (f (leave 0)).answer in
      let e : a ∷ b ∷ b ∷ [] ≡ true ∷ true ∷ false ∷ [] = ap (λ (l : List Event). map is_accepted (answers_of l)) (sym (all calls) ∙ steps calls) ∙ leaves_once in
      true≢false (let z : true ≡ false = cc in z)

  -- one that is idle after the first call
  pub not_idle_later : ((calls : List Call) → sent_of (drop 1 (relay calls)) ≡ []) → ⊥
  not_idle_later all =
      let calls = arrive ka ∷ ping_of 0 ∷ [] in
      let z : ◌≡◌ {A = ℕ} 0 1 = ap length (sym (all calls)) ∙ ap (λ (l : List Event). length (sent_of (drop 1 l))) (steps calls) ∙ pong_sent in
      absurd (omega arith)

  -- a silent one
  pub not_silent : ((calls : List Call) → sent_of (relay calls) ≡ []) → ⊥
  not_silent all =
      let calls = arrive ka ∷ ping_of 0 ∷ [] in
      let z : ◌≡◌ {A = ℕ} 0 1 = ap length (sym (all calls)) ∙ ap (λ (l : List Event). length (sent_of l)) (steps calls) ∙ some_sent in
      absurd (omega arith)

  -- one with a made-up byte count, anywhere in any history
  pub not_made_up_count : (calls : List Call) → all_counted (relay calls) ≡ false → ⊥
  not_made_up_count calls wrong = true≢false (sym (ap all_counted (steps calls) ∙ history_counted base_sizes (empty_room base_sizes) calls) ∙ wrong)

-- one call is not enough to tell
pub right_on_the_first : (call : Call) → first_only (call ∷ []) ≡ happens base_sizes (call ∷ [])
unfolding transcript first_only
right_on_the_first call = refl

pub not_on_later : TakesSteps first_only → ⊥
unfolding first_only sent_of
not_on_later steps = not_idle_later first_only steps idle
  where
    nothing : (calls : List Call) → sent_of (map (λ (later : Call). record { call = later; answer = accepted 0 0; sent = [] }) calls) ≡ []
    nothing [] = refl
    nothing (call ∷ calls) = nothing calls

    idle : (calls : List Call) → sent_of (drop 1 (first_only calls)) ≡ []
    idle [] = refl
    idle (call ∷ calls) = nothing calls

-- ---- demand 3 alone would suit a silent relay

nothing_handed : (a : Answer) (start : Start) (past : Past) (c : Key) (calls : List Call) → packets_for start past c (silent a calls) ≡ []
unfolding silent packets_for handed
nothing_handed a start past c [] = refl
nothing_handed a start past c (call ∷ calls) = nothing_handed a start (record { call = call; answer = a; sent = [] } ∷ past) c calls

-- an answer for each call of C in its record
own_answers : Answer → List Entry → List Answer
own_answers a [] = []
own_answers a (arrived key ∷ es) = own_answers a es
own_answers a (departed key ∷ es) = own_answers a es
own_answers a (own call ∷ es) = a ∷ own_answers a es
own_answers a (to_c key call ∷ es) = own_answers a es
own_answers a (dropped_c key ∷ es) = own_answers a es
own_answers a (data_for_c key bytes ∷ es) = own_answers a es
own_answers a (ticked time number out ∷ es) = own_answers a es

own_append : (a : Answer) (es es' : List Entry) → own_answers a (es ++ es') ≡ own_answers a es ++ own_answers a es'
unfolding own_answers
own_append a [] es' = refl
own_append a (arrived key ∷ es) es' = own_append a es es'
own_append a (departed key ∷ es) es' = own_append a es es'
own_append a (own call ∷ es) es' = ap (λ (l : List Answer). a ∷ l) (own_append a es es')
own_append a (to_c key call ∷ es) es' = own_append a es es'
own_append a (dropped_c key ∷ es) es' = own_append a es es'
own_append a (data_for_c key bytes ∷ es) es' = own_append a es es'
own_append a (ticked time number out ∷ es) es' = own_append a es es'

module _ (a : Answer) where
  entry_none : (b : Bool) (e : Entry) → own_answers a (e ∷ []) ≡ [] → own_answers a (entry_if b e) ≡ []
  unfolding entry_if own_answers
  entry_none true e h = h
  entry_none false e h = refl

  packet_none : (c key : Key) (call : Call) (names : ℕ → Bool) (r : Read client.FromClient) → own_answers a (other_packet c key call names r) ≡ []
  unfolding other_packet own_answers
  packet_none c key call names (read.packet (client.routing_request wanted)) = entry_none (same_key wanted c) (to_c key call) refl
  packet_none c key call names (read.packet (client.drop_route number)) = entry_none (names number) (dropped_c key) refl
  packet_none c key call names (read.packet (client.ping n)) = refl
  packet_none c key call names (read.packet (client.pong n)) = refl
  packet_none c key call names (read.packet (client.oob_send wanted bytes)) = entry_none (same_key wanted c) (to_c key call) refl
  packet_none c key call names (read.packet (client.routed_data number bytes)) = entry_none (names number) (data_for_c key bytes) refl
  packet_none c key call names (read.refused why) = refl

  other_none : (c key : Key) (call : Call) (names : ℕ → Bool) → own_answers a (other_call c key call names) ≡ []
  unfolding other_call own_answers
  other_none c key (arrive k) names = refl
  other_none c key (leave seat) names = refl
  other_none c key (packet_call seat bytes) names = packet_none c key (packet_call seat bytes) names (client.relay_read bytes)
  other_none c key (tick time number) names = refl

  accepted_none : (answer : Answer) (es : List Entry) → own_answers a es ≡ [] → own_answers a (if_accepted answer es) ≡ []
  unfolding if_accepted own_answers
  accepted_none (accepted seat count) es h = h
  accepted_none (refused why) es h = refl

  by_key_none : (seated : Bool) (key : Key) (call : Call) (answer : Answer) → own_answers a (by_key seated key call answer) ≡ []
  unfolding by_key own_answers
  by_key_none seated key (arrive k) answer =
      accepted_none answer _ (own_append a (entry_if seated (departed key)) (arrived key ∷ []) ∙ rw (entry_none seated (departed key) refl))
  by_key_none seated key (leave seat) answer = accepted_none answer _ refl
  by_key_none seated key (packet_call seat bytes) answer = refl
  by_key_none seated key (tick time number) answer = refl

  made_own : (t seated : Bool) (c key : Key) (e : Event) (names : ℕ → Bool) → own_answers a (made_by t seated c key e names) ≡ answer_if t a
  unfolding made_by answer_if own_answers
  made_own true seated c key e names = own_append a (by_key seated key e.call e.answer) (own e.call ∷ []) ∙ rw (by_key_none seated key e.call e.answer)
  made_own false seated c key e names =
      own_append a (by_key seated key e.call e.answer) (if_accepted e.answer (other_call c key e.call names))
      ∙ rw (by_key_none seated key e.call e.answer) (accepted_none e.answer _ (other_none c key e.call names))

  tick_none : (call : Call) (out : List Key) → own_answers a (of_tick call out) ≡ []
  unfolding of_tick own_answers
  tick_none (arrive key) out = refl
  tick_none (leave seat) out = refl
  tick_none (packet_call seat bytes) out = refl
  tick_none (tick time number) out = refl

  entries_own : (m : Maker) (start : Start) (past : Past) (c : Key) (e : Event) → own_answers a (entries_by m start past c e) ≡ answer_if (is_client c m) a
  unfolding entries_by is_client answer_if own_answers
  entries_own nobody start past c e = tick_none e.call (put_out start past e.call e.answer)
  entries_own (client_of key) start past c e = made_own (same_key key c) (is_seated start past key) c key e (λ number. stands start past key number c)

  answers_by_record : (start : Start) (past : Past) (c : Key) (calls : List Call) → answers_for start past c (silent a calls) ≡ own_answers a (record_for start past c (silent a calls))
  unfolding silent answers_for record_for entries own_answers
  answers_by_record start past c [] = refl
  answers_by_record start past c (call ∷ calls) =
      let e : Event = record { call = call; answer = a; sent = [] } in
      ap₂ (λ (l m : List Answer). l ++ m) (sym (entries_own (maker start past call) start past c e)) (answers_by_record start (e ∷ past) c calls)
      ∙ sym (own_append a (entries_by (maker start past call) start past c e) (record_for start (e ∷ past) c (silent a calls)))

  pub silent_isolates : Isolates (silent a)
  silent_isolates c h₁ h₂ z₁ z₂ e = (
    nothing_handed a (from_empty base_sizes) [] c h₁ ∙ sym (nothing_handed a (from_empty base_sizes) [] c h₂),
    answers_by_record (from_empty base_sizes) [] c h₁ ∙ ap (own_answers a) e ∙ sym (answers_by_record (from_empty base_sizes) [] c h₂),
  )

  -- and demand 2 turns it away
  pub silent_turned_away : TakesSteps (silent a) → ⊥
  unfolding silent sent_of
  silent_turned_away steps = not_silent (silent a) steps nothing
    where
      nothing : (calls : List Call) → sent_of (silent a calls) ≡ []
      nothing [] = refl
      nothing (call ∷ calls) = nothing calls
