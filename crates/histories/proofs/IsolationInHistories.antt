-- Demand 3, of any two histories that the host makes, each from the empty room in its own lent memory, of whatever lengths, and of any client C: "Suppose their
-- records for C, listed in document 01, are equal, and neither history answers another client's request for C with 0." Then the packets for C in the output
-- records are equal in both, byte for byte and in order, and so are the answers to C's calls. This is a statement about what the host really calls: record,
-- packets and answers are functions of the events that the host sees. Assumes nothing.
use mathlib.Core.Path.{◌≡◌, sym}
use mathlib.Core.Bool.{false}
use mathlib.Core.List.{List, [], map}
use Prim.Native.Nat.{ℕ}
use Rattle.rules.specs.Room.{Sizes, Key, empty_room, sizes_of}
use Rattle.rules.specs.Call.{Call}
use Rattle.rules.specs.History.{Event, transcript}
use Rattle.rules.specs.Transcript.{from_empty}
use Rattle.isolation.specs.Record.{without_own, record_for, packets_for, answers_for, zero_for_c}
use Rattle.isolation.proofs.Isolation.{two_histories, two_histories_without_own}
use Rattle.histories.specs.History.{History, calls_of}
use Rattle.histories.proofs.Histories.{history_runs}

-- of events that are transcripts
of_events : (sizes : Sizes) (c : Key) (events₁ events₂ : List Event) (h₁ h₂ : List Call)
    → transcript sizes (empty_room sizes) h₁ ≡ events₁ → transcript sizes (empty_room sizes) h₂ ≡ events₂
    → zero_for_c (from_empty sizes) [] c events₁ ≡ false → zero_for_c (from_empty sizes) [] c events₂ ≡ false
    → record_for (from_empty sizes) [] c events₁ ≡ record_for (from_empty sizes) [] c events₂
    → (packets_for (from_empty sizes) [] c events₁ ≡ packets_for (from_empty sizes) [] c events₂) × (answers_for (from_empty sizes) [] c events₁ ≡ answers_for (from_empty sizes) [] c events₂)
of_events sizes c events₁ events₂ h₁ h₂ e₁ e₂ = rw (← e₁, ← e₂) (two_histories sizes c h₁ h₂)

pub isolation_in_histories : (s n : ℕ) (events₁ events₂ : List Event) (b₁ b₂ : List ℕ) → History s n events₁ b₁ → History s n events₂ b₂ → (c : Key)
    → zero_for_c (from_empty (sizes_of s n)) [] c events₁ ≡ false
    → zero_for_c (from_empty (sizes_of s n)) [] c events₂ ≡ false
    → record_for (from_empty (sizes_of s n)) [] c events₁ ≡ record_for (from_empty (sizes_of s n)) [] c events₂
    → (packets_for (from_empty (sizes_of s n)) [] c events₁ ≡ packets_for (from_empty (sizes_of s n)) [] c events₂) × (answers_for (from_empty (sizes_of s n)) [] c events₁ ≡ answers_for (from_empty (sizes_of s n)) [] c events₂)
isolation_in_histories s n events₁ events₂ b₁ b₂ h₁ h₂ c =
    of_events (sizes_of s n) c events₁ events₂ (calls_of events₁) (calls_of events₂)
    (sym (history_runs s n events₁ b₁ h₁).events_are) (sym (history_runs s n events₂ b₂ h₂).events_are)

-- ---- the same where C's own departures by ticks are left out of its record

of_events_without_own : (sizes : Sizes) (c : Key) (events₁ events₂ : List Event) (h₁ h₂ : List Call)
    → transcript sizes (empty_room sizes) h₁ ≡ events₁ → transcript sizes (empty_room sizes) h₂ ≡ events₂
    → zero_for_c (from_empty sizes) [] c events₁ ≡ false → zero_for_c (from_empty sizes) [] c events₂ ≡ false
    → map (without_own c) (record_for (from_empty sizes) [] c events₁) ≡ map (without_own c) (record_for (from_empty sizes) [] c events₂)
    → (packets_for (from_empty sizes) [] c events₁ ≡ packets_for (from_empty sizes) [] c events₂) × (answers_for (from_empty sizes) [] c events₁ ≡ answers_for (from_empty sizes) [] c events₂)
of_events_without_own sizes c events₁ events₂ h₁ h₂ e₁ e₂ = rw (← e₁, ← e₂) (two_histories_without_own sizes c h₁ h₂)

pub isolation_without_own_in_histories : (s n : ℕ) (events₁ events₂ : List Event) (b₁ b₂ : List ℕ) → History s n events₁ b₁ → History s n events₂ b₂ → (c : Key)
    → zero_for_c (from_empty (sizes_of s n)) [] c events₁ ≡ false
    → zero_for_c (from_empty (sizes_of s n)) [] c events₂ ≡ false
    → map (without_own c) (record_for (from_empty (sizes_of s n)) [] c events₁) ≡ map (without_own c) (record_for (from_empty (sizes_of s n)) [] c events₂)
    → (packets_for (from_empty (sizes_of s n)) [] c events₁ ≡ packets_for (from_empty (sizes_of s n)) [] c events₂)
    × (answers_for (from_empty (sizes_of s n)) [] c events₁ ≡ answers_for (from_empty (sizes_of s n)) [] c events₂)
isolation_without_own_in_histories s n events₁ events₂ b₁ b₂ h₁ h₂ c =
    of_events_without_own (sizes_of s n) c events₁ events₂ (calls_of events₁) (calls_of events₂)
    (sym (history_runs s n events₁ b₁ h₁).events_are) (sym (history_runs s n events₂ b₂ h₂).events_are)
