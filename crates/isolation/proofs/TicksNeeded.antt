-- What of a tick stands in the record for C has to stand there: with less demand 3 is false. Two histories show it each time, with no 0 for C, whose records are
-- equal but for that and in which C is handed different packets: with ticks left out; with a tick's time, its number or those whom it puts out left out; and
-- with the departures that it causes not marked as its own, but as those by a Leave. The last pair is document 02's: "so that a Leave after a tick reads
-- otherwise." KC is C. Assumes nothing.
use mathlib.Core.Path.{◌≡◌, refl, sym, ◌∙◌}
use mathlib.Core.Bool.{false}
use mathlib.Core.Logic.{◌≢◌}
use mathlib.Core.List.{List, [], ◌∷◌, ◌++◌, map}
use Prim.Native.Nat.{ℕ}
use Rattle.wire.specs.Numbers.{bytes_of}
use Rattle.rules.specs.Room.{Key, base_sizes}
use Rattle.rules.specs.Call.{Call, arrive, leave, packet_call, tick}
use Rattle.rules.specs.History.{happens}
use Rattle.rules.specs.Transcript.{from_empty}
use Rattle.isolation.specs.Record.{Entry, arrived, departed, own, to_c, dropped_c, data_for_c, ticked, record_for, packets_for, zero_for_c}
use Rattle.isolation.proofs.Recorded.{recorded}
use Rattle.rules.proofs.Computed.{ka, kc, opened}

-- ---- less than the record

-- each tick by what is left of it
unfoldable pub with_ticks : (ℕ → ℕ → List Key → List Entry) → List Entry → List Entry
with_ticks f [] = []
with_ticks f (arrived key ∷ es) = arrived key ∷ with_ticks f es
with_ticks f (departed key ∷ es) = departed key ∷ with_ticks f es
with_ticks f (own call ∷ es) = own call ∷ with_ticks f es
with_ticks f (to_c key call ∷ es) = to_c key call ∷ with_ticks f es
with_ticks f (dropped_c key ∷ es) = dropped_c key ∷ with_ticks f es
with_ticks f (data_for_c key bytes ∷ es) = data_for_c key bytes ∷ with_ticks f es
with_ticks f (ticked time number out ∷ es) = f time number out ++ with_ticks f es

-- would it do: are C's packets equal where so much of the records is
abbrev pub Suffices : (List Entry → List Entry) → Type 0
Suffices less = (c : Key) (h₁ h₂ : List Call)
    → zero_for_c (from_empty base_sizes) [] c (happens base_sizes h₁) ≡ false
    → zero_for_c (from_empty base_sizes) [] c (happens base_sizes h₂) ≡ false
    → less (record_for (from_empty base_sizes) [] c (happens base_sizes h₁)) ≡ less (record_for (from_empty base_sizes) [] c (happens base_sizes h₂))
    → packets_for (from_empty base_sizes) [] c (happens base_sizes h₁) ≡ packets_for (from_empty base_sizes) [] c (happens base_sizes h₂)

-- a history without a 0 for C, what is left of its record, and what C is handed in it
record Shown (less : List Entry → List Entry) (calls : List Call) (es : List Entry) (packets : List (List ℕ)) : Type 0 where
  no_zero : zero_for_c (from_empty base_sizes) [] kc (happens base_sizes calls) ≡ false
  entered : less (record_for (from_empty base_sizes) [] kc (happens base_sizes calls)) ≡ es
  given : packets_for (from_empty base_sizes) [] kc (happens base_sizes calls) ≡ packets

-- two that leave the same, with different packets
not_enough : (less : List Entry → List Entry) (h₁ h₂ : List Call) (es : List Entry) (p₁ p₂ : List (List ℕ)) → Shown less h₁ es p₁ → Shown less h₂ es p₂ → p₁ ≢ p₂ → Suffices less → ⊥
not_enough less h₁ h₂ es p₁ p₂ a b differ all =
    differ (sym a.given ∙ all kc h₁ h₂ a.no_zero b.no_zero (a.entered ∙ sym b.entered) ∙ b.given)

-- ---- C alone: with a tick at 30 it is pinged with the tick's number, with none or one at 29 it is not

seated : List Entry
seated = arrived kc ∷ own (arrive kc) ∷ []

pinged : ℕ → List (List ℕ)
pinged number = (4 ∷ bytes_of 8 number) ∷ []

pinged_or_not : [] ≢ pinged 1
unfolding pinged
pinged_or_not e = absurd (cc)

numbers_differ : pinged 1 ≢ pinged 2
unfolding pinged bytes_of
numbers_differ e = absurd (cc)

-- without ticks
abbrev pub no_ticks : List Entry → List Entry
no_ticks = with_ticks (λ time number out. [])

no_ticks_lem : Shown no_ticks (arrive kc ∷ []) seated []
unfolding opened recorded with_ticks seated
no_ticks_lem = record { no_zero = refl; entered = refl; given = refl }

one_tick : Shown no_ticks (arrive kc ∷ tick 30 1 ∷ []) seated (pinged 1)
unfolding opened recorded with_ticks seated pinged
one_tick = record { no_zero = refl; entered = refl; given = refl }

pub needs_ticks : Suffices no_ticks → ⊥
needs_ticks = not_enough no_ticks (arrive kc ∷ []) (arrive kc ∷ tick 30 1 ∷ []) seated [] (pinged 1) no_ticks_lem one_tick pinged_or_not

-- without their times
abbrev pub no_times : List Entry → List Entry
no_times = with_ticks (λ time number out. ticked 0 number out ∷ [])

too_early : Shown no_times (arrive kc ∷ tick 29 1 ∷ []) (seated ++ (ticked 0 1 [] ∷ [])) []
unfolding opened recorded with_ticks seated
too_early = record { no_zero = refl; entered = refl; given = refl }

in_time : Shown no_times (arrive kc ∷ tick 30 1 ∷ []) (seated ++ (ticked 0 1 [] ∷ [])) (pinged 1)
unfolding opened recorded with_ticks seated pinged
in_time = record { no_zero = refl; entered = refl; given = refl }

pub needs_times : Suffices no_times → ⊥
needs_times =
    not_enough no_times (arrive kc ∷ tick 29 1 ∷ []) (arrive kc ∷ tick 30 1 ∷ []) (seated ++ (ticked 0 1 [] ∷ [])) [] (pinged 1) too_early in_time pinged_or_not

-- without their numbers
abbrev pub no_numbers : List Entry → List Entry
no_numbers = with_ticks (λ time number out. ticked time 0 out ∷ [])

by_one : Shown no_numbers (arrive kc ∷ tick 30 1 ∷ []) (seated ++ (ticked 30 0 [] ∷ [])) (pinged 1)
unfolding opened recorded with_ticks seated pinged
by_one = record { no_zero = refl; entered = refl; given = refl }

by_two : Shown no_numbers (arrive kc ∷ tick 30 2 ∷ []) (seated ++ (ticked 30 0 [] ∷ [])) (pinged 2)
unfolding opened recorded with_ticks seated pinged
by_two = record { no_zero = refl; entered = refl; given = refl }

pub needs_numbers : Suffices no_numbers → ⊥
needs_numbers =
    not_enough no_numbers (arrive kc ∷ tick 30 1 ∷ []) (arrive kc ∷ tick 30 2 ∷ []) (seated ++ (ticked 30 0 [] ∷ [])) (pinged 1) (pinged 2) by_one by_two numbers_differ

-- ---- C, in seat 1, and KA, in seat 0, are connected. KA came first and was pinged at 30; C came then, and is due at 60, when KA is overdue if it has not answered

meeting : List Call
meeting = arrive ka ∷ tick 30 1 ∷ arrive kc ∷ packet_call 1 (0 ∷ ka) ∷ packet_call 0 (0 ∷ kc) ∷ []

answers : Call
answers = packet_call 0 (5 ∷ bytes_of 8 1)

met : List Entry
met = arrived ka ∷ ticked 30 1 [] ∷ arrived kc ∷ own (arrive kc) ∷ own (packet_call 1 (0 ∷ ka)) ∷ to_c ka (packet_call 0 (0 ∷ kc)) ∷ []

-- the answer to its request and the connect notification, then what comes with the tick
handed_then : List (List ℕ) → List (List ℕ)
handed_then rest = (1 ∷ 0x10 ∷ ka) ∷ (2 ∷ 0x10 ∷ []) ∷ rest

lost : List ℕ
lost = 3 ∷ 0x10 ∷ []

ping : List ℕ
ping = 4 ∷ bytes_of 8 2

-- without those whom they put out
abbrev pub no_keys : List Entry → List Entry
no_keys = with_ticks (λ time number out. ticked time number [] ∷ [])

puts_out : Shown no_keys (meeting ++ (tick 60 2 ∷ [])) (met ++ (ticked 60 2 [] ∷ [])) (handed_then (lost ∷ ping ∷ []))
unfolding opened recorded with_ticks meeting met handed_then lost ping
puts_out = record { no_zero = refl; entered = refl; given = refl }

puts_none_out : Shown no_keys (meeting ++ (answers ∷ tick 60 2 ∷ [])) (met ++ (ticked 60 2 [] ∷ [])) (handed_then (ping ∷ []))
unfolding opened recorded with_ticks meeting answers met handed_then ping
puts_none_out = record { no_zero = refl; entered = refl; given = refl }

told_or_not : handed_then (lost ∷ ping ∷ []) ≢ handed_then (ping ∷ [])
unfolding handed_then lost ping
told_or_not e = absurd (cc)

pub needs_keys : Suffices no_keys → ⊥
needs_keys =
    not_enough no_keys (meeting ++ (tick 60 2 ∷ [])) (meeting ++ (answers ∷ tick 60 2 ∷ [])) (met ++ (ticked 60 2 [] ∷ []))
    (handed_then (lost ∷ ping ∷ [])) (handed_then (ping ∷ [])) puts_out puts_none_out told_or_not

-- with those whom they put out not marked as theirs
abbrev pub unmarked : List Entry → List Entry
unmarked = with_ticks (λ time number out. ticked time number [] ∷ map departed out)

out_by_tick : Shown unmarked (meeting ++ (tick 60 2 ∷ [])) (met ++ (ticked 60 2 [] ∷ departed ka ∷ [])) (handed_then (lost ∷ ping ∷ []))
unfolding opened recorded with_ticks meeting met handed_then lost ping
out_by_tick = record { no_zero = refl; entered = refl; given = refl }

out_by_leave : Shown unmarked (meeting ++ (answers ∷ tick 60 2 ∷ leave 0 ∷ [])) (met ++ (ticked 60 2 [] ∷ departed ka ∷ [])) (handed_then (ping ∷ lost ∷ []))
unfolding opened recorded with_ticks meeting answers met handed_then lost ping
out_by_leave = record { no_zero = refl; entered = refl; given = refl }

told_before_or_after : handed_then (lost ∷ ping ∷ []) ≢ handed_then (ping ∷ lost ∷ [])
unfolding handed_then lost ping
told_before_or_after e = absurd (cc)

pub needs_marks : Suffices unmarked → ⊥
needs_marks =
    not_enough unmarked (meeting ++ (tick 60 2 ∷ [])) (meeting ++ (answers ∷ tick 60 2 ∷ leave 0 ∷ [])) (met ++ (ticked 60 2 [] ∷ departed ka ∷ []))
    (handed_then (lost ∷ ping ∷ [])) (handed_then (ping ∷ lost ∷ [])) out_by_tick out_by_leave told_before_or_after

-- "so that a Leave after a tick reads otherwise": as they are, the two records differ
tick_reads : record_for (from_empty base_sizes) [] kc (happens base_sizes (meeting ++ (tick 60 2 ∷ []))) ≡ met ++ (ticked 60 2 (ka ∷ []) ∷ [])
unfolding opened recorded meeting met
tick_reads = refl

leave_reads : record_for (from_empty base_sizes) [] kc (happens base_sizes (meeting ++ (answers ∷ tick 60 2 ∷ leave 0 ∷ []))) ≡ met ++ (ticked 60 2 [] ∷ departed ka ∷ [])
unfolding opened recorded meeting answers met
leave_reads = refl

reads_otherwise : record_for (from_empty base_sizes) [] kc (happens base_sizes (meeting ++ (tick 60 2 ∷ [])))
    ≢ record_for (from_empty base_sizes) [] kc (happens base_sizes (meeting ++ (answers ∷ tick 60 2 ∷ leave 0 ∷ [])))
reads_otherwise e = differ (sym tick_reads ∙ e ∙ leave_reads)
  where
    differ : met ++ (ticked 60 2 (ka ∷ []) ∷ []) ≢ met ++ (ticked 60 2 [] ∷ departed ka ∷ [])
    differ e = unfold met in absurd (cc)
