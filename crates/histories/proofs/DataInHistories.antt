-- Demand 2's sentence on data: "a well-formed data packet, with output long enough, goes on exactly when its sender and the client its number names are two
-- different seated clients, each with a request standing for the other, and to that client only". After any calls that the host makes from the empty room in lent
-- memory, whatever outputs it lent, `banavoge_packet` with such a packet and an output that is long enough is seen so, by what the host has seen before
-- (`data_after_calls`): it goes on exactly when the two clients are connected, as one record for that client, under that client's own number, with the same
-- payload. Otherwise it is refused, with 3, 8 or 9 exactly where no client sits there, no request stands under the number, or the two are not connected. And the
-- same of every such packet inside a history (`data_in_histories`). Assumes nothing.
use mathlib.Core.Path.{◌≡◌, refl, sym, subst}
use mathlib.Core.List.{List, [], ◌∷◌, ◌++◌}
use Prim.Native.Nat.{ℕ, ◌≤◌}
use lib.IntN.{ℤ}
use lib.ListN.{length}
use Rattle.packet_laws.specs.Read as read
use Rattle.packet_laws.specs.FromClient as client
use Rattle.rules.specs.Call.{Call, packet_call, needed}
use Rattle.rules.specs.History.{Event, event}
use Rattle.rules.specs.Transcript.{from_empty}
use Rattle.rules.specs.After.{past_after}
use Rattle.after_calls.specs.GoesOn.{DataGoesOn}
use Rattle.rules.specs.Room.{sizes_of}
use Rattle.after_calls.proofs.DataGoesOn.{data_goes_on, data_goes_on_from_empty}
use Rattle.relay_laws.specs.Calls.{Sends}
use Rattle.banavoge_laws.specs.Answers.{ToldAs}
use Rattle.banavoge_laws.specs.RelayCalls.{count_code}
use Rattle.histories.specs.Seen.{seen_as, seen}
use Rattle.histories.specs.Lent.{Lent, lent_with}
use Rattle.histories.specs.History.{sends, AnyCalls, History, calls_of}
use Rattle.histories.proofs.Histories.{after_calls_lem, history_event}

pub data_after_calls : (s n : ℕ) (lents : List Lent) (events : List Event) (b : List ℕ) → AnyCalls s n lents events b
    → (seat number : ℕ) (bytes payload : List ℕ) → client.relay_read bytes ≡ read.packet (client.routed_data number payload)
    → (out b' out' : List ℕ) (answer : ℤ) → needed (packet_call seat bytes) ≤ length out → ToldAs count_code (Sends s n seat bytes b out b' out') answer
    → DataGoesOn (from_empty (sizes_of s n)) (past_after [] events) seat number payload (seen (packet_call seat bytes) seat answer out')
unfolding seen seen_as event
data_after_calls s n lents events b h seat number bytes payload r out b' out' answer long sent =
    after_calls_lem s n (λ past e. e.call ≡ packet_call seat bytes → DataGoesOn (from_empty (sizes_of s n)) past seat number payload e)
    (λ past room whole tie call c.
    subst (λ (x : Call). DataGoesOn (from_empty (sizes_of s n)) past seat number payload (event room x)) (sym c)
    (data_goes_on (sizes_of s n) (from_empty (sizes_of s n)) past room whole tie seat number bytes payload r))
    lents events b h (lent_with (packet_call seat bytes) out) (seen (packet_call seat bytes) seat answer out') b' (sends seat bytes out out' answer sent refl refl) long refl

pub data_in_histories : (s n : ℕ) (events : List Event) (b' : List ℕ) → History s n events b'
    → (before : List Event) (e : Event) (later : List Event) → events ≡ before ++ (e ∷ later)
    → (seat number : ℕ) (bytes payload : List ℕ) → e.call ≡ packet_call seat bytes → client.relay_read bytes ≡ read.packet (client.routed_data number payload)
    → DataGoesOn (from_empty (sizes_of s n)) (past_after [] before) seat number payload e
data_in_histories s n events b' h before e later t =
    data_goes_on_from_empty (sizes_of s n) (calls_of events) before e later (history_event s n events b' h before e later t)
