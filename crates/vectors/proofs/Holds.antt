-- Document 01, "Examples": P1 to P13 "are proved in one joint statement over a table". `examples_hold` is that statement: each row of the table says what the
-- definitions have. The test of the whole table is computed once, at 40 seats and 32 numbers (`examples_pass`); a row that passes holds (`row_holds`), for
-- any row, so the table can grow. Assumes nothing.
use mathlib.Core.Path.{◌≡◌, refl, ap, ap₂}
use mathlib.Core.Bool.{Bool, true, false, ◌&&◌, false≢true}
use mathlib.Core.List.{List, [], ◌∷◌}
use Prim.Native.Nat.{ℕ}
use lib.Dec.{eqb}
use lib.ListN.{length}
use borrow.Author.Tests.{eqb-true}
use Rattle.std.specs.Prelude.{Result, Ok, Err}
use Rattle.refusal.specs.declared.Refusal.{Refusal}
use Rattle.wire.specs.Numbers.{number_of, bytes_of}
use Rattle.key.specs.Keys.{same_key, xor_bytes, distance, nearer}
use Rattle.key.proofs.Same.{same_sound}
use Rattle.node.specs.declared.Node.{Node}
use Rattle.node.specs.Families.{known_family, address_length}
use Rattle.node.specs.Values.{blank_node}
use Rattle.node.specs.Nodes as nodes
use Rattle.nearest.specs.Lists.{held, holding, empty_of, size_right, all_known, rising_after, rising, keeps_rules}
use Rattle.nearest.specs.Effect.{holds, replace, insert, without, last_key, furthest, effect, after_effect, kept}
use Rattle.nearest.specs.Calls.{begun, checked, taken, offered_after, offered}
use Rattle.nearest.specs.Sequence.{offers}
use Rattle.rules.specs.Outcome.{sent_bytes}
use Rattle.rules.specs.History.{Event}
use Rattle.rules.proofs.Computed.{opened}
use Rattle.vectors.specs.Examples.{Given, wrote, refusal, given, Row, room_row, node_row, list_row, ka, kb, kc, after_p2, after_p4, after_p5, key_ending, node_ending, examples, EndsWith, offer_answers, row_events, Says, In, here, later, same_given, test_events, same_info, test_read, same_node, same_nodes, same_answer, same_answers, test_row, test_all}

-- ---- a yes to two tests is a yes to each

first : (a b : Bool) → (a && b) ≡ true → a ≡ true
first true b h = refl
first false b h = let z : ◌≡◌ {A = Bool} false true = h in cc

second : (a b : Bool) → (a && b) ≡ true → b ≡ true
second true b h = h
second false b h = let z : ◌≡◌ {A = Bool} false true = h in cc

-- ---- each comparison tells equals

given_sound : (a b : Given) → same_given a b ≡ true → a ≡ b
unfolding same_given
given_sound (wrote s c) (wrote s' c') h = ap₂ wrote (eqb-true s s' (first (eqb s s') (eqb c c') h)) (eqb-true c c' (second (eqb s s') (eqb c c') h))
given_sound (wrote s c) (refusal n) h = cc
given_sound (refusal n) (wrote s c) h = cc
given_sound (refusal n) (refusal n') h = ap refusal (eqb-true n n' h)

-- family, address, port and key
module _ (f f' : ℕ) (a a' : List ℕ) (p p' : ℕ) (k k' : List ℕ) (h : (eqb f f' && (same_key a a' && (eqb p p' && same_key k k'))) ≡ true) where
  after_family : (same_key a a' && (eqb p p' && same_key k k')) ≡ true
  after_family = second (eqb f f') _ h

  after_address : (eqb p p' && same_key k k') ≡ true
  after_address = second (same_key a a') _ after_family

  family_same : f ≡ f'
  family_same = eqb-true f f' (first (eqb f f') _ h)

  address_same : a ≡ a'
  address_same = same_sound a a' (first (same_key a a') _ after_family)

  port_same : p ≡ p'
  port_same = eqb-true p p' (first (eqb p p') _ after_address)

  key_same : k ≡ k'
  key_same = same_sound k k' (second (eqb p p') _ after_address)

  info_same : ◌≡◌ {A = nodes.NodeInfo} (record { family = f; address = a; port = p; key = k }) (record { family = f'; address = a'; port = p'; key = k' })
  info_same = rw family_same (rw address_same (rw port_same (rw key_same)))

  node_same : ◌≡◌ {A = Node} (record { family = f; address = a; port = p; key = record { 0 = k } }) (record { family = f'; address = a'; port = p'; key = record { 0 = k' } })
  node_same = rw family_same (rw address_same (rw port_same (rw key_same)))

info_sound : (m n : nodes.NodeInfo) → same_info m n ≡ true → m ≡ n
unfolding same_info
info_sound m n h = info_same m.family n.family m.address n.address m.port n.port m.key n.key h

node_sound : (m n : Node) → same_node m n ≡ true → m ≡ n
unfolding same_node
node_sound m n h = node_same m.family n.family m.address n.address m.port n.port m.key.0 n.key.0 h

nodes_sound : (ms ns : List Node) → same_nodes ms ns ≡ true → ms ≡ ns
unfolding same_nodes
nodes_sound [] [] h = refl
nodes_sound [] (n ∷ ns) h = cc
nodes_sound (m ∷ ms) [] h = cc
nodes_sound (m ∷ ms) (n ∷ ns) h =
    ap₂ (λ (x : Node) (l : List Node). x ∷ l) (node_sound m n (first (same_node m n) _ h)) (nodes_sound ms ns (second (same_node m n) _ h))

answer_sound : (a b : Result Bool Refusal) → same_answer a b ≡ true → a ≡ b
unfolding same_answer
answer_sound (Ok true) (Ok true) h = refl
answer_sound (Ok true) (Ok false) h = cc
answer_sound (Ok true) (Err why) h = cc
answer_sound (Ok false) (Ok true) h = cc
answer_sound (Ok false) (Ok false) h = refl
answer_sound (Ok false) (Err why) h = cc
answer_sound (Err why) (Ok true) h = cc
answer_sound (Err why) (Ok false) h = cc
answer_sound (Err why) (Err why') h = cc

answers_sound : (l m : List (Result Bool Refusal)) → same_answers l m ≡ true → l ≡ m
unfolding same_answers
answers_sound [] [] h = refl
answers_sound [] (b ∷ bs) h = cc
answers_sound (a ∷ rest) [] h = cc
answers_sound (a ∷ rest) (b ∷ bs) h =
    ap₂ (λ (x : Result Bool Refusal) (l : List (Result Bool Refusal)). x ∷ l) (answer_sound a b (first (same_answer a b) _ h)) (answers_sound rest bs (second (same_answer a b) _ h))

-- ---- a row that passes holds

pub ends_sound : (events : List Event) (answer : Given) (bytes : List ℕ) → test_events events answer bytes ≡ true → EndsWith events answer bytes
unfolding test_events
ends_sound [] answer bytes h = absurd (false≢true h)
ends_sound (e ∷ []) answer bytes h =
    record {
      before = [];
      last = e;
      ends = refl;
      answers = given_sound (given e.answer) answer (first (same_given (given e.answer) answer) _ h);
      sends = same_sound (sent_bytes e.sent) bytes (second (same_given (given e.answer) answer) _ h);
    }
ends_sound (e ∷ f ∷ events) answer bytes h =
    let r = ends_sound (f ∷ events) answer bytes h in
    record { before = e ∷ r.before; last = r.last; ends = ap (λ (l : List Event). e ∷ l) r.ends; answers = r.answers; sends = r.sends }

read_sound : (r : nodes.Read) (n : nodes.NodeInfo) → test_read r n ≡ true → r ≡ nodes.node n
unfolding test_read
read_sound (nodes.node m) n h = ap nodes.node (info_sound m n h)
read_sound (nodes.refused why) n h = cc

pub row_holds : (row : Row) → test_row row ≡ true → Says row
unfolding test_row Says
row_holds (room_row before call answer bytes) h = ends_sound (row_events before call) answer bytes h
row_holds (node_row bytes size n) h =
    record {
      long = eqb-true (length bytes) size (first (eqb (length bytes) size) _ h);
      reads = read_sound (nodes.read_node bytes) n (first (test_read (nodes.read_node bytes) n) _ (second (eqb (length bytes) size) _ h));
      packs = same_sound (nodes.packed_node n) bytes (second (test_read (nodes.read_node bytes) n) _ (second (eqb (length bytes) size) _ h));
    }
row_holds (list_row target size news holding answers) h =
    let now = held (offers (begun target size).list news) in
    record {
      holds = nodes_sound now holding (first (same_nodes now holding) _ h);
      answered = answers_sound (offer_answers (begun target size).list news) answers (second (same_nodes now holding) _ h);
    }

pub all_hold : (rows : List Row) → test_all rows ≡ true → (row : Row) → In row rows → Says row
unfolding test_all
all_hold [] h r i = elim i [ ]
all_hold (row ∷ rows) h r here = row_holds row (first (test_row row) _ h)
all_hold (other ∷ rows) h r (later i) = all_hold rows (second (test_row other) _ h) r i

-- ---- the table

-- the fact: every row of the table passes, computed
pub examples_pass : test_all examples ≡ true
unfolding opened given ka kb kc after_p2 after_p4 after_p5 key_ending node_ending examples offer_answers row_events same_given test_events same_info test_read same_node same_nodes same_answer same_answers test_row test_all nodes.read_node nodes.check nodes.node_of nodes.packed_node bytes_of known_family address_length offers begun checked taken offered_after offered blank_node holding empty_of size_right all_known rising_after rising keeps_rules holds replace insert without last_key furthest effect after_effect kept same_key xor_bytes distance nearer number_of
examples_pass = refl

-- THE JOINT STATEMENT: each row of the table says what is so
pub examples_hold : (row : Row) → In row examples → Says row
examples_hold = all_hold examples examples_pass
