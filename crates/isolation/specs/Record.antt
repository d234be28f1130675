-- The record for a client, what it is handed and what its calls are answered. Document 01, "The record for a client"; for ticks document 02, "Notice dead laptops",
-- and for arrivals of seated keys "One call when a laptop comes back".
use Rattle.std.specs.Prelude.{Bool, true, false, ◌&&◌, cond, List, [], ◌∷◌, ◌++◌, ◌≡◌, ℕ, eqb}
use Rattle.key.specs.Keys.{same_key}
use Rattle.packet_laws.specs.Read.{Read}
use Rattle.packet_laws.specs.Read as read
use Rattle.packet_laws.specs.FromClient as client
use Rattle.rules.specs.Room.{Key}
use Rattle.rules.specs.Call.{Call, arrive, leave, packet_call, tick, Answer, accepted, refused, Sent}
use Rattle.rules.specs.History.{Event}
use Rattle.rules.specs.Transcript.{Past, Maker, nobody, client_of, Start, is_accepted, sitter, is_seated, put_out, maker, number_answered, stands, is_client}

pub data Entry : Type 0 where
  -- "every accepted arrival and every departure, by key"; a departure by a tick stands in that tick's entry
  arrived : Key → Entry
  departed : Key → Entry
  -- "every call made by C, in full, its refused arrivals and packets included"
  own : Call → Entry
  -- "from each other client, named by its key, accepted requests for C's key and out-of-band sends to C's key, in full"
  to_c : Key → Call → Entry
  -- "and that client's accepted drops and data on a number that names C at that moment, with data but with the number struck out". The seat is left out too:
  -- the record is the smaller, so what is claimed of equal records is no weaker
  dropped_c : Key → Entry
  data_for_c : Key → List ℕ → Entry
  -- document 02: "Ticks are calls of a history too; each joins every record for C in full, with the departures it causes marked there as its own, so that a
  -- Leave after a tick reads otherwise." The time, the ping number, and the keys of those that the tick puts out, in rising seat order
  ticked : ℕ → ℕ → List Key → Entry

-- one entry where a test holds, else none
unfoldable pub entry_if : Bool → Entry → List Entry
entry_if true e = e ∷ []
entry_if false e = []

unfoldable pub if_accepted : Answer → List Entry → List Entry
if_accepted (accepted seat count) entries = entries
if_accepted (refused why) entries = []

-- an accepted arrival or a departure of the client `key`. Of a client that is seated, document 02: "The departure and arrival both stand in the record for C."
unfoldable pub by_key : Bool → Key → Call → Answer → List Entry
by_key seated key (arrive k) answer = if_accepted answer (entry_if seated (departed key) ++ (arrived key ∷ []))
by_key seated key (leave seat) answer = if_accepted answer (departed key ∷ [])
by_key seated key (packet_call seat bytes) answer = []
by_key seated key (tick time number) answer = []

-- an accepted packet of another client, `key`
unfoldable pub other_packet : Key → Key → Call → (ℕ → Bool) → Read client.FromClient → List Entry
other_packet c key call names_c (read.packet (client.routing_request wanted)) = entry_if (same_key wanted c) (to_c key call)
other_packet c key call names_c (read.packet (client.drop_route number)) = entry_if (names_c number) (dropped_c key)
other_packet c key call names_c (read.packet (client.ping n)) = []
other_packet c key call names_c (read.packet (client.pong n)) = []
other_packet c key call names_c (read.packet (client.oob_send wanted bytes)) = entry_if (same_key wanted c) (to_c key call)
other_packet c key call names_c (read.packet (client.routed_data number bytes)) = entry_if (names_c number) (data_for_c key bytes)
other_packet c key call names_c (read.refused why) = []

unfoldable pub other_call : Key → Key → Call → (ℕ → Bool) → List Entry
other_call c key (arrive k) names_c = []
other_call c key (leave seat) names_c = []
other_call c key (packet_call seat bytes) names_c = other_packet c key (packet_call seat bytes) names_c (client.relay_read bytes)
other_call c key (tick time number) names_c = []

-- "Other clients' refused calls are in no record for C, nor is what any call answers or sends."
unfoldable pub made_by : Bool → Bool → Key → Key → Event → (ℕ → Bool) → List Entry
made_by true seated c key e names_c = by_key seated key e.call e.answer ++ (own e.call ∷ [])
made_by false seated c key e names_c = by_key seated key e.call e.answer ++ if_accepted e.answer (other_call c key e.call names_c)

-- "each joins every record for C in full": accepted or refused, one entry for each tick, with those whom it puts out; a refused one puts out nobody
unfoldable pub of_tick : Call → List Key → List Entry
of_tick (arrive key) out = []
of_tick (leave seat) out = []
of_tick (packet_call seat bytes) out = []
of_tick (tick time number) out = ticked time number out ∷ []

-- a tick is nobody's, and so is a call in an empty seat, which adds nothing
unfoldable pub entries_by : Maker → Start → Past → Key → Event → List Entry
entries_by nobody start past c e = of_tick e.call (put_out start past e.call e.answer)
entries_by (client_of key) start past c e = made_by (same_key key c) (is_seated start past key) c key e (λ number. stands start past key number c)

-- what an event adds to the record for C
unfoldable pub entries : Start → Past → Key → Event → List Entry
entries start past c e = entries_by (maker start past e.call) start past c e

unfoldable pub record_for : Start → Past → Key → List Event → List Entry
record_for start past c [] = []
record_for start past c (e ∷ events) = entries start past c e ++ record_for start (e ∷ past) c events

-- ---- less than the record: C's own departures by ticks are struck out. Who is put out is in the record for C by the paper's words, C itself too; demand 3 is
-- also proved where all but that is equal

unfoldable pub key_unless : Bool → Key → List Key → List Key
key_unless true key keys = keys
key_unless false key keys = key ∷ keys

unfoldable pub strike : Key → List Key → List Key
strike c [] = []
strike c (key ∷ keys) = key_unless (same_key key c) key (strike c keys)

unfoldable pub without_own : Key → Entry → Entry
without_own c (arrived key) = arrived key
without_own c (departed key) = departed key
without_own c (own call) = own call
without_own c (to_c key call) = to_c key call
without_own c (dropped_c key) = dropped_c key
without_own c (data_for_c key bytes) = data_for_c key bytes
without_own c (ticked time number out) = ticked time number (strike c out)

-- ---- what C is handed: "those in the output records for the seat C holds when each is written"

unfoldable pub handed_if : Bool → List ℕ → List (List ℕ) → List (List ℕ)
handed_if true bytes rest = bytes ∷ rest
handed_if false bytes rest = rest

-- by who sits there before the call. A Leave empties its seat once its records are written, and so does an Arrive of a seated key, which takes a seat after that. In
-- a tick a record may go to a seat that the same tick empties: it is written before that, while who sat there before the tick still does. That of a tick this is who
-- sits there when each is written, and of every other call who sits there after it too: `HandedInHistories.antt` (`histories`)
unfoldable pub handed : Start → Past → Key → List Sent → List (List ℕ)
handed start past c [] = []
handed start past c (s ∷ rest) = handed_if (is_client c (sitter start past s.seat)) s.bytes (handed start past c rest)

unfoldable pub packets_for : Start → Past → Key → List Event → List (List ℕ)
packets_for start past c [] = []
packets_for start past c (e ∷ events) = handed start past c e.sent ++ packets_for start (e ∷ past) c events

-- ---- what C's calls are answered: "for each call of C in turn, is the seat answered, the byte count or the refusal number"

unfoldable pub answer_if : Bool → Answer → List Answer
answer_if true answer = answer ∷ []
answer_if false answer = []

unfoldable pub answers_for : Start → Past → Key → List Event → List Answer
answers_for start past c [] = []
answers_for start past c (e ∷ events) = answer_if (is_client c (maker start past e.call)) e.answer ++ answers_for start (e ∷ past) c events

-- ---- two courses of events, each after its own past, that are the same for C: its record, what it is handed and what its calls are answered

pub record SameFor (c : Key) (start₁ : Start) (past₁ : Past) (events₁ : List Event) (start₂ : Start) (past₂ : Past) (events₂ : List Event) : Type 0 where
  pub records : record_for start₁ past₁ c events₁ ≡ record_for start₂ past₂ c events₂
  pub packets : packets_for start₁ past₁ c events₁ ≡ packets_for start₂ past₂ c events₂
  pub answers : answers_for start₁ past₁ c events₁ ≡ answers_for start₂ past₂ c events₂

-- ---- the condition on 0, which is demand 3's and not document 01's. Demand 3: "Suppose their records for C, listed in document 01, are equal, and neither
-- history answers another client's request for C with 0."

unfoldable pub asks_for : Key → Read client.FromClient → Bool
asks_for c (read.packet (client.routing_request wanted)) = same_key wanted c
asks_for c (read.packet (client.drop_route number)) = false
asks_for c (read.packet (client.ping n)) = false
asks_for c (read.packet (client.pong n)) = false
asks_for c (read.packet (client.oob_send wanted bytes)) = false
asks_for c (read.packet (client.routed_data number bytes)) = false
asks_for c (read.refused why) = false

unfoldable pub turns_away : Key → Maker → Event → Call → Bool
turns_away c nobody e call = false
turns_away c (client_of key) e (arrive k) = false
turns_away c (client_of key) e (leave seat) = false
turns_away c (client_of key) e (packet_call seat bytes) =
    cond (same_key key c) false ((is_accepted e.answer && asks_for c (client.relay_read bytes)) && eqb (number_answered e.sent) 0)
turns_away c (client_of key) e (tick time number) = false

unfoldable pub zero_for_c : Start → Past → Key → List Event → Bool
zero_for_c start past c [] = false
zero_for_c start past c (e ∷ events) = cond (turns_away c (maker start past e.call) e e.call) true (zero_for_c start (e ∷ past) c events)
