-- Document 01, "Examples": those marked P, "proved in one joint statement over a table"; P3 as document 02 has it. This is the table, as data, with a test of a row
-- and of the table, and what a row says. Numbers are written in hex where the paper writes hex. Refusals stand as their numbers.
use Rattle.std.specs.Prelude.{Bool, true, false, not, ◌&&◌, cond, List, [], ◌∷◌, ◌++◌, ◌≡◌, ℕ, eqb, length, replicate, Result, Ok, Err}
use Rattle.refusal.specs.declared.Refusal.{Refusal}
use Rattle.refusal.specs.Numbers.{refusal_number}
use Rattle.key.specs.declared.Key as code
use Rattle.key.specs.Keys.{same_key}
use Rattle.node.specs.declared.Node.{Node}
use Rattle.node.specs.Nodes as nodes
use Rattle.nearest.specs.declared.NearestList.{NearestList}
use Rattle.nearest.specs.Lists.{held}
use Rattle.nearest.specs.Calls.{begun, offered}
use Rattle.nearest.specs.Sequence.{offers}
use Rattle.rules.specs.Room.{Key, base_sizes, empty_room}
use Rattle.rules.specs.Call.{Call, arrive, leave, packet_call, Answer, accepted, refused}
use Rattle.rules.specs.Outcome.{sent_bytes}
use Rattle.rules.specs.History.{Event, transcript}

-- ---- rows

-- an answer as the paper writes it: an accepted call's seat and byte count, or a refusal's number
pub data Given : Type 0 where
  wrote : ℕ → ℕ → Given
  refusal : ℕ → Given

unfoldable pub given : Answer → Given
given (accepted seat count) = wrote seat count
given (refused why) = refusal (refusal_number why)

-- a room row: the calls before, from the empty room; the call; what it is answered, and the bytes in its output.
-- A node row: the bytes, how many they are, and the node. A list row: the target, the size, the nodes offered in turn; the nodes held then, and the answers.
pub data Row : Type 0 where
  room_row : List Call → Call → Given → List ℕ → Row
  node_row : List ℕ → ℕ → nodes.NodeInfo → Row
  list_row : code.Key → ℕ → List Node → List Node → List (Result Bool Refusal) → Row

-- ---- the table

-- "KA is 32 bytes 11, KB 32 bytes 22, KC 32 bytes 33 (hex)."
unfoldable pub ka : Key
ka = replicate 32 0x11

unfoldable pub kb : Key
kb = replicate 32 0x22

unfoldable pub kc : Key
kc = replicate 32 0x33

-- the calls up to P2, up to P4, up to P5
unfoldable pub after_p2 : List Call
after_p2 = arrive ka ∷ arrive kb ∷ []

unfoldable pub after_p4 : List Call
after_p4 = after_p2 ++ (packet_call 0 (0x00 ∷ kb) ∷ [])

unfoldable pub after_p5 : List Call
after_p5 = after_p4 ++ (packet_call 1 (0x00 ∷ ka) ∷ [])

-- keys "zero but for last byte"
unfoldable pub key_ending : ℕ → code.Key
key_ending n = record { 0 = replicate 31 0x00 ++ (n ∷ []) }

unfoldable pub node_ending : ℕ → Node
node_ending n = record { family = 2; address = replicate 16 0; port = 33445; key = key_ending n }

unfoldable pub examples : List Row
examples =
    -- "P1: from empty, KA arrives: seat 0."
    room_row [] (arrive ka) (wrote 0 0) []
    -- "P2: then KB: seat 1."
    ∷ room_row (arrive ka ∷ []) (arrive kb) (wrote 1 0) []
    -- "P3: KA again: refusal 2."; document 02: "P3 becomes seat 0, 0 bytes."
    ∷ room_row after_p2 (arrive ka) (wrote 0 0) []
    -- "P4: after P2, seat 0 sends 00 KB: output 00 0022 01 10 KB, 37 bytes."
    ∷ room_row after_p2 (packet_call 0 (0x00 ∷ kb)) (wrote 0 37) (0x00 ∷ 0x00 ∷ 0x22 ∷ 0x01 ∷ 0x10 ∷ kb)
    -- "P5: then seat 1 sends 00 KA: 01 0022 01 10 KA, 01 0002 02 10, 00 0002 02 10, 47 bytes."
    ∷ room_row after_p4 (packet_call 1 (0x00 ∷ ka)) (wrote 1 47)
    ((0x01 ∷ 0x00 ∷ 0x22 ∷ 0x01 ∷ 0x10 ∷ ka) ++ (0x01 ∷ 0x00 ∷ 0x02 ∷ 0x02 ∷ 0x10 ∷ 0x00 ∷ 0x00 ∷ 0x02 ∷ 0x02 ∷ 0x10 ∷ []))
    -- "P6: then seat 0 sends 10 61 62: 01 0003 10 61 62."
    ∷ room_row after_p5 (packet_call 0 (0x10 ∷ 0x61 ∷ 0x62 ∷ [])) (wrote 0 6) (0x01 ∷ 0x00 ∷ 0x03 ∷ 0x10 ∷ 0x61 ∷ 0x62 ∷ [])
    -- "P7: after P4 alone the same data: refusal 9."
    ∷ room_row after_p4 (packet_call 0 (0x10 ∷ 0x61 ∷ 0x62 ∷ [])) (refusal 9) []
    -- "P8: data on 11 hex: refusal 8.", after P4 and after P5
    ∷ room_row after_p4 (packet_call 0 (0x11 ∷ 0x61 ∷ 0x62 ∷ [])) (refusal 8) []
    ∷ room_row after_p5 (packet_call 0 (0x11 ∷ 0x61 ∷ 0x62 ∷ [])) (refusal 8) []
    -- "P9: after P5, seat 0 leaves: 01 0002 03 10. KC arrives in seat 0; data from seat 1 on 10 gets refusal 9."
    ∷ room_row after_p5 (leave 0) (wrote 0 5) (0x01 ∷ 0x00 ∷ 0x02 ∷ 0x03 ∷ 0x10 ∷ [])
    ∷ room_row (after_p5 ++ (leave 0 ∷ [])) (arrive kc) (wrote 0 0) []
    ∷ room_row (after_p5 ++ (leave 0 ∷ arrive kc ∷ [])) (packet_call 1 (0x10 ∷ 0x61 ∷ 0x62 ∷ [])) (refusal 9) []
    -- "P10: packet 04 with eight zero bytes: 7. P11: packet of one byte 10: 6.", of a seated client
    ∷ room_row (arrive ka ∷ []) (packet_call 0 (0x04 ∷ replicate 8 0x00)) (refusal 7) []
    ∷ room_row (arrive ka ∷ []) (packet_call 0 (0x10 ∷ [])) (refusal 6) []
    -- "P12: 02 7F000001 82A5 KA is UDP, 127.0.0.1, port 33445, 39 bytes."
    ∷ node_row ((0x02 ∷ 0x7F ∷ 0x00 ∷ 0x00 ∷ 0x01 ∷ 0x82 ∷ 0xA5 ∷ []) ++ ka) 39
    (record { family = 2; address = 127 ∷ 0 ∷ 0 ∷ 1 ∷ []; port = 33445; key = ka })
    -- "P13: target all zero, size 2; keys zero but for last byte 05, 03, 09, offered so: holds 03, 05; the third answer is no."
    ∷ list_row (key_ending 0x00) 2 (node_ending 0x05 ∷ node_ending 0x03 ∷ node_ending 0x09 ∷ []) (node_ending 0x03 ∷ node_ending 0x05 ∷ [])
    (Ok true ∷ Ok true ∷ Ok false ∷ [])
    ∷ []

-- ---- what a row says

-- the last of these events has that answer, and the records that it sends are those bytes
pub record EndsWith (events : List Event) (answer : Given) (bytes : List ℕ) : Type 0 where
  pub before : List Event
  pub last : Event
  pub ends : events ≡ before ++ (last ∷ [])
  pub answers : given last.answer ≡ answer
  pub sends : sent_bytes last.sent ≡ bytes

-- the answers to offers in turn
unfoldable pub offer_answers : NearestList → List Node → List (Result Bool Refusal)
offer_answers l [] = []
offer_answers l (n ∷ ns) = (offered l n).answer ∷ offer_answers (offered l n).list ns

-- a room row's events, from the empty room of 40 seats with 32 numbers each
unfoldable pub row_events : List Call → Call → List Event
row_events before call = transcript base_sizes (empty_room base_sizes) (before ++ (call ∷ []))

-- a node row: so many bytes, which read as that node and are what it is packed into
pub record ReadsAs (bytes : List ℕ) (size : ℕ) (n : nodes.NodeInfo) : Type 0 where
  pub long : length bytes ≡ size
  pub reads : nodes.read_node bytes ≡ nodes.node n
  pub packs : nodes.packed_node n ≡ bytes

-- a list row: what the list holds after the offers, and their answers
pub record Keeps (target : code.Key) (size : ℕ) (news holding : List Node) (answers : List (Result Bool Refusal)) : Type 0 where
  pub holds : held (offers (begun target size).list news) ≡ holding
  pub answered : offer_answers (begun target size).list news ≡ answers

unfoldable pub Says : Row → Type 0
Says (room_row before call answer bytes) = EndsWith (row_events before call) answer bytes
Says (node_row bytes size n) = ReadsAs bytes size n
Says (list_row target size news holding answers) = Keeps target size news holding answers

-- a row stands in the table
pub data In (row : Row) : List Row → Type 0 where
  here : {rows : List Row} → In row (row ∷ rows)
  later : {other : Row} {rows : List Row} → In row rows → In row (other ∷ rows)

-- ---- the test

unfoldable pub same_given : Given → Given → Bool
same_given (wrote seat count) (wrote seat' count') = eqb seat seat' && eqb count count'
same_given (wrote seat count) (refusal number) = false
same_given (refusal number) (wrote seat count) = false
same_given (refusal number) (refusal number') = eqb number number'

unfoldable pub test_events : List Event → Given → List ℕ → Bool
test_events [] answer bytes = false
test_events (e ∷ []) answer bytes = same_given (given e.answer) answer && same_key (sent_bytes e.sent) bytes
test_events (e ∷ f ∷ events) answer bytes = test_events (f ∷ events) answer bytes

unfoldable pub same_info : nodes.NodeInfo → nodes.NodeInfo → Bool
same_info m n = eqb m.family n.family && (same_key m.address n.address && (eqb m.port n.port && same_key m.key n.key))

unfoldable pub test_read : nodes.Read → nodes.NodeInfo → Bool
test_read (nodes.node m) n = same_info m n
test_read (nodes.refused why) n = false

unfoldable pub same_node : Node → Node → Bool
same_node m n = eqb m.family n.family && (same_key m.address n.address && (eqb m.port n.port && same_key m.key.0 n.key.0))

unfoldable pub same_nodes : List Node → List Node → Bool
same_nodes [] [] = true
same_nodes [] (n ∷ ns) = false
same_nodes (m ∷ ms) [] = false
same_nodes (m ∷ ms) (n ∷ ns) = same_node m n && same_nodes ms ns

-- the table has no refused offer
unfoldable pub same_answer : Result Bool Refusal → Result Bool Refusal → Bool
same_answer (Ok kept) (Ok kept') = cond kept kept' (not kept')
same_answer (Ok kept) (Err why) = false
same_answer (Err why) (Ok kept) = false
same_answer (Err why) (Err why') = false

unfoldable pub same_answers : List (Result Bool Refusal) → List (Result Bool Refusal) → Bool
same_answers [] [] = true
same_answers [] (b ∷ bs) = false
same_answers (a ∷ rest) [] = false
same_answers (a ∷ rest) (b ∷ bs) = same_answer a b && same_answers rest bs

unfoldable pub test_row : Row → Bool
test_row (room_row before call answer bytes) = test_events (row_events before call) answer bytes
test_row (node_row bytes size n) = eqb (length bytes) size && (test_read (nodes.read_node bytes) n && same_key (nodes.packed_node n) bytes)
test_row (list_row target size news holding answers) =
    same_nodes (held (offers (begun target size).list news)) holding && same_answers (offer_answers (begun target size).list news) answers

unfoldable pub test_all : List Row → Bool
test_all [] = true
test_all (row ∷ rows) = test_row row && test_all rows
