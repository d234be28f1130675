-- Laws of the walker's step: which case holds where, that its answer stands for it, and that a step which shows no node leaves the walker as it
-- was (`no_node_stays`). Assumes nothing.
use mathlib.Core.Path.{◌≡◌, ◌∙◌, refl, sym, ap}
use mathlib.Core.Bool.{Bool, true, false}
use mathlib.Core.List.{List, [], ◌∷◌}
use Prim.Native.Nat.{ℕ, ◌+◌, ◌<◌, ◌≤◌}
use native.Mathlib.Omega.{arith}
use lib.Dec.{eqb, leb, ltb}
use lib.ListN.{length, drop}
use borrow.Author.Tests.{ltb-true, ltb-false, eqb-true, eqb-false, leb-true, leb-false, lt-ltb, le-ltb, eq-eqb, ne_eqb, le-leb, lt-leb}
use Rattle.std.specs.Prelude.{Option, Some, None, Result, Ok, Err}
use Rattle.refusal.specs.declared.Refusal.{Refusal}
use Rattle.refusal.specs.declared.Refusal.TheVariants.{NodeCutShort, BytesAfterNodes}
use Rattle.node.specs.declared.Node.{Node}
use Rattle.node.specs.declared.walk.Next.{Next}
use Rattle.node.specs.Families.{address_length}
use Rattle.node.specs.Nodes.{NodeInfo, Read, node, refused, packed_node, node_of, read_node}
use Rattle.node.specs.Values.{value_of}
use Rattle.node.specs.Reads.{Reads, shown_read}
use Rattle.node.specs.Steps.{Showing, shows, ends, refuses, showing_read, step_of, place_after, count_after, showing_of, shown_step, place_answered, count_answered, Steps}
use Rattle.node.proofs.NodeLaws.{Front, nothing, unknown, cut, whole, front, read_unknown, read_cut, read_whole, read_address_long, info_of_value}

-- ---- the cases

module _ (list : List ℕ) (place count : ℕ) where
  pub step_past : length list < place → step_of list place count ≡ refuses NodeCutShort
  unfolding step_of
  step_past h = simp (lt-ltb (length list) place h)

  pub step_end : place ≡ length list → step_of list place count ≡ ends
  unfolding step_of
  step_end e = simp (le-ltb (length list) place (omega arith), eq-eqb place (length list) e)

  pub step_full : place < length list → 4 ≤ count → step_of list place count ≡ refuses BytesAfterNodes
  unfolding step_of
  step_full h k = simp (le-ltb (length list) place (omega arith), ne_eqb place (length list) (omega arith), le-leb 4 count k)

  pub step_read : place < length list → count < 4 → step_of list place count ≡ showing_read (read_node (drop place list))
  unfolding step_of
  step_read h k = simp (le-ltb (length list) place (omega arith), ne_eqb place (length list) (omega arith), lt-leb 4 count k)

-- ---- the answer stands for the step

abbrev pub Answer : Type 0
Answer = Result (Option Next) Refusal

shown_means : (place count : ℕ) (n : NodeInfo) → length n.address ≡ address_length n.family → showing_of (shown_step place count (shows n)) ≡ shows n
unfolding showing_of shown_step
shown_means place count n long = ap shows (info_of_value n long)

-- where the answer is exact it stands for the step, by what is known of the step
exact_steps : (list : List ℕ) (place count : ℕ) (answer : Answer) (step : Showing) → step_of list place count ≡ step
    → showing_of (shown_step place count step) ≡ step → answer ≡ shown_step place count step → Steps list place count answer
exact_steps list place count answer step s m e = record {
  means = ap showing_of e ∙ m ∙ sym s;
  exact = e ∙ sym (ap (shown_step place count) s);
}

-- a step that is refused
still_steps : (list : List ℕ) (place count : ℕ) (answer : Answer) (why : Refusal) → step_of list place count ≡ refuses why → answer ≡ Err why → Steps list place count answer
unfolding shown_step showing_of
still_steps list place count answer why s e = exact_steps list place count answer (refuses why) s refl e

module _ (list : List ℕ) (place count : ℕ) (answer : Answer) where
  pub steps_past : length list < place → answer ≡ Err NodeCutShort → Steps list place count answer
  steps_past h e = still_steps list place count answer NodeCutShort (step_past list place count h) e

  pub steps_end : place ≡ length list → answer ≡ Ok None → Steps list place count answer
  unfolding shown_step showing_of
  steps_end h e = exact_steps list place count answer ends (step_end list place count h) refl e

  pub steps_full : place < length list → 4 ≤ count → answer ≡ Err BytesAfterNodes → Steps list place count answer
  steps_full h k e = still_steps list place count answer BytesAfterNodes (step_full list place count h k) e

stepped : (place count : ℕ) (step : Showing)
    → (place_answered place (shown_step place count step) ≡ place_after step place) × (count_answered count (shown_step place count step) ≡ count_after step count)
unfolding shown_step place_answered count_answered place_after count_after
stepped place count (shows n) = (refl, refl)
stepped place count ends = (refl, refl)
stepped place count (refuses why) = (refl, refl)

-- after any answer the walker stands where the step of the lent list puts it, and has shown as many
pub answered_after : (list : List ℕ) (place count : ℕ) (answer : Answer) → Steps list place count answer
    → (place_answered place answer ≡ place_after (step_of list place count) place) × (count_answered count answer ≡ count_after (step_of list place count) count)
answered_after list place count answer is =
    let e = stepped place count (step_of list place count) in
    (ap (place_answered place) is.exact ∙ e.0, ap (count_answered count) is.exact ∙ e.1)

-- an answer that shows no node moves no walker
answer_stays : (place count : ℕ) (answer : Answer) → ((next : Next) → answer ≡ Ok (Some next) → ⊥) → (place_answered place answer ≡ place) × (count_answered count answer ≡ count)
unfolding place_answered count_answered
answer_stays place count (Ok (Some next)) h = absurd (h next refl)
answer_stays place count (Ok None) h = (refl, refl)
answer_stays place count (Err why) h = (refl, refl)

-- the end and a refusal leave the walker as it was: by the answer, and by the step of the lent list
pub no_node_stays : (list : List ℕ) (place count : ℕ) (answer : Answer) → Steps list place count answer → ((next : Next) → answer ≡ Ok (Some next) → ⊥)
    → ((place_answered place answer ≡ place) × (count_answered count answer ≡ count))
    × ((place_after (step_of list place count) place ≡ place) × (count_after (step_of list place count) count ≡ count))
no_node_stays list place count answer is h =
    let s = answer_stays place count answer h in
    let e = answered_after list place count answer is in
    (s, (sym e.0 ∙ s.0, sym e.1 ∙ s.1))

-- ---- by the reader's answer

read_means : (place count : ℕ) (bytes : List ℕ) → Front bytes → showing_of (shown_step place count (showing_read (read_node bytes))) ≡ showing_read (read_node bytes)
unfolding showing_of shown_step showing_read read_node node_of
read_means place count [] nothing = refl
read_means place count (family ∷ rest) (unknown e) = let r = read_unknown family rest e in rw r
read_means place count (family ∷ rest) (cut e h) = let r = read_cut family rest e h in rw r
read_means place count (family ∷ rest) (whole e h) =
    let r = read_whole family rest e h in rw r (shown_means place count (node_of family rest) (read_address_long family rest h))

-- the reader found a node: its answer, moved on
shows_exact : (place count next : ℕ) (n : Node) (read : Read) → Ok (n, next) ≡ shown_read place read
    → Ok (Some (record { node = n; place = next; count = count + 1 })) ≡ shown_step place count (showing_read read)
unfolding shown_read shown_step place_after count_after showing_read
shows_exact place count next n (node info) e =
    let found : ◌≡◌ {A = Node × ℕ} (n, next) (value_of info, place + length (packed_node info)) = cc in
    ap {B = Answer} (λ (f : Node × ℕ). Ok (Some (record { node = f.0; place = f.1; count = count + 1 }))) found
shows_exact place count next n (refused why) e = cc

-- the reader refused
refuses_exact : (place count : ℕ) (why : Refusal) (read : Read) → Err why ≡ shown_read place read → Err why ≡ shown_step place count (showing_read read)
unfolding shown_read shown_step showing_read
refuses_exact place count why (node n) e = cc
refuses_exact place count why (refused other) e = cc

module _ (list : List ℕ) (place count : ℕ) (h : place < length list) (k : count < 4) where
  read_steps : (answer : Answer) → answer ≡ shown_step place count (showing_read (read_node (drop place list))) → Steps list place count answer
  read_steps answer e =
      exact_steps list place count answer (showing_read (read_node (drop place list))) (step_read list place count h k)
      (read_means place count (drop place list) (front (drop place list))) e

  pub steps_node : (n : Node) (next : ℕ) → Reads list place (Ok (n, next)) → Steps list place count (Ok (Some (record { node = n; place = next; count = count + 1 })))
  steps_node n next reads = read_steps _ (shows_exact place count next n (read_node (drop place list)) reads.exact)

  pub steps_refused : (why : Refusal) → Reads list place (Err why) → Steps list place count (Err why)
  steps_refused why reads = read_steps _ (refuses_exact place count why (read_node (drop place list)) reads.exact)

-- ---- at every place and count

means_as : (list : List ℕ) (place count : ℕ) (step : Showing) → step_of list place count ≡ step → showing_of (shown_step place count step) ≡ step
    → Steps list place count (shown_step place count (step_of list place count))
means_as list place count step s m = exact_steps list place count _ step s m (ap (shown_step place count) s)

-- the answer that the definition gives meets the contract
pub exact_answer : (list : List ℕ) (place count : ℕ) → Steps list place count (shown_step place count (step_of list place count))
unfolding showing_of shown_step
exact_answer list place count = go (ltb (length list) place) refl (eqb place (length list)) refl (leb 4 count) refl
  where
    go : (past : Bool) → ltb (length list) place ≡ past → (end : Bool) → eqb place (length list) ≡ end → (full : Bool) → leb 4 count ≡ full
        → Steps list place count (shown_step place count (step_of list place count))
    go true p end e full f = means_as list place count (refuses NodeCutShort) (step_past list place count (ltb-true (length list) place p)) refl
    go false p true e full f = means_as list place count ends (step_end list place count (eqb-true place (length list) e)) refl
    go false p false e full f =
        let h : place < length list = let x = ltb-false (length list) place p in let y = eqb-false place (length list) e in omega arith in
        inside h full f
      where
        inside : place < length list → (full : Bool) → leb 4 count ≡ full → Steps list place count (shown_step place count (step_of list place count))
        inside h true f = means_as list place count (refuses BytesAfterNodes) (step_full list place count h (leb-true 4 count f)) refl
        inside h false f =
            means_as list place count _ (step_read list place count h (leb-false 4 count f)) (read_means place count (drop place list) (front (drop place list)))
