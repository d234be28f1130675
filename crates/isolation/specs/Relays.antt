-- Demands 2 and 3, said of any relay, and the relays that document 01 has demand 2 turn away: "a relay that refuses all calls, one with a single constant
-- answer, one that never acts, and one that is right on the first call and idle on later ones", and that "Demand 3 would suit a silent relay".
use Rattle.std.specs.Prelude.{Bool, true, false, ◌&&◌, not, List, [], ◌∷◌, ◌++◌, map, ◌≡◌}
use Rattle.rules.specs.Room.{Key, base_sizes, empty_room}
use Rattle.rules.specs.Call.{Call, Answer, accepted, Sent}
use Rattle.rules.specs.History.{Event, event, happens}
use Rattle.rules.specs.Transcript.{from_empty, is_accepted}
use Rattle.isolation.specs.Record.{record_for, packets_for, answers_for, zero_for_c}

-- whatever gives an event for each call of a history from the empty room; nothing is said of how it does it
abbrev pub Relay : Type 0
Relay = List Call → List Event

-- demand 2: "After any calls from an empty room, every answer, refusal and record equals 01's steps"
abbrev pub TakesSteps : Relay → Type 0
TakesSteps relay = (calls : List Call) → relay calls ≡ happens base_sizes calls

-- demand 3: "Suppose their records for C, listed in document 01, are equal, and neither history answers another client's request for C with 0. Then, whatever
-- else differs, C is handed the same packets in both, byte for byte and in the same order. And each of C's own calls gets the same answer or the same refusal
-- in both."
abbrev pub Isolates : Relay → Type 0
Isolates relay = (c : Key) (h₁ h₂ : List Call) → zero_for_c (from_empty base_sizes) [] c (relay h₁) ≡ false → zero_for_c (from_empty base_sizes) [] c (relay h₂) ≡ false
    → record_for (from_empty base_sizes) [] c (relay h₁) ≡ record_for (from_empty base_sizes) [] c (relay h₂)
    → (packets_for (from_empty base_sizes) [] c (relay h₁) ≡ packets_for (from_empty base_sizes) [] c (relay h₂))
    × (answers_for (from_empty base_sizes) [] c (relay h₁) ≡ answers_for (from_empty base_sizes) [] c (relay h₂))

-- ---- what is told of events

unfoldable pub answers_of : List Event → List Answer
answers_of events = map (λ (e : Event). e.answer) events

unfoldable pub sent_of : List Event → List Sent
sent_of [] = []
sent_of (e ∷ events) = e.sent ++ sent_of events

unfoldable pub all_refused : List Event → Bool
all_refused [] = true
all_refused (e ∷ events) = not (is_accepted e.answer) && all_refused events

-- ---- relays that are wrong

-- right on every first call, and idle on later ones
unfoldable pub first_only : Relay
first_only [] = []
first_only (call ∷ calls) = event (empty_room base_sizes) call ∷ map (λ (later : Call). record { call = later; answer = accepted 0 0; sent = [] }) calls

-- one that answers every call alike and sends nothing
unfoldable pub silent : Answer → Relay
silent a [] = []
silent a (call ∷ calls) = record { call = call; answer = a; sent = [] } ∷ silent a calls
