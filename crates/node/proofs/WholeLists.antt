-- The walk over a whole list, of any bytes. From the start, with five steps or more:
--
--   - it shows nodes whose packed bytes are the front of the list, at most four, in order, and then says end or gives a refusal; the bytes
--     left say which, as document 01 has it (`every_list`);
--   - and there is no other way to take the list apart so: whatever nodes and bytes left do, are those of the walk (`only_walk`);
--   - so it shows just these nodes and says end precisely when the list is their packed bytes, 0 to 4 of them, with no byte over
--     (`whole_shown`, `shown_whole`);
--   - and all this is so of the answers to any calls of the step, each handed what the one before it handed back (`calls_walk`); at most five
--     calls walk a list (`calls_end`).
--
-- Assumes nothing.
use mathlib.Core.Path.{◌≡◌, ◌∙◌, refl, sym, ap, ap₂, subst}
use mathlib.Core.Bool.{Bool, true, false}
use mathlib.Core.List.{List, [], ◌∷◌, ◌++◌, append_assoc, append-nil}
use Prim.Native.Nat.{ℕ, zero, suc, ◌+◌, ◌<◌, ◌≤◌}
use native.Mathlib.Omega.{arith}
use lib.Dec.{leb}
use lib.ListN.{length, drop, length-append, length-drop}
use lib.Seq.{drop-drop, drop-append_seam}
use borrow.Author.Tests.{leb-true, leb-false}
use Rattle.wire.specs.Numbers.{Bytes}
use Rattle.wire.proofs.Numbers.{bytes_drop}
use Rattle.std.specs.Prelude.{Some, Ok}
use Rattle.node.specs.declared.walk.Next.{Next}
use Rattle.node.specs.Families.{packed_length}
use Rattle.node.specs.Nodes.{NodeInfo, packed_node, node_of, read_node, FitsNode}
use Rattle.node.specs.Values.{info_of, value_of}
use Rattle.node.specs.Steps.{Showing, shows, ends, refuses, showing_read, step_of, place_after, count_after, showing_of, shown_step, Steps}
use Rattle.node.specs.Walks.{Ending, ended, stopped, unfinished, Walk, walk_on, walk_from, packed_nodes, AllFit, Stops, at_end, four_shown, unknown, cut_short, Walked, Calls, says_end, is_refused, shows_node}
use Rattle.node.proofs.NodeLaws as nodes
use Rattle.node.proofs.StepLaws.{step_end, step_full, step_read, exact_answer}

-- ---- one step

-- a walk goes by its first step
by_step : (steps : ℕ) (list : List ℕ) (place count : ℕ) (step : Showing) → step_of list place count ≡ step
    → walk_from (suc steps) list place count ≡ walk_on step (walk_from steps list (place_after step place) (count_after step count))
unfolding walk_from
by_step steps list place count step e =
    ap (λ (s : Showing). walk_on s (walk_from steps list (place_after s place) (count_after s count))) e

module _ (list : List ℕ) (place count : ℕ) where
  -- bytes are left
  left_before : (byte : ℕ) (rest : List ℕ) → drop place list ≡ byte ∷ rest → place < length list
  left_before byte rest d = let e = ap length d in let l = length-drop place list in omega arith

  -- where no further node is shown
  stops_step : (steps : ℕ) (rest : List ℕ) (ending : Ending) → place ≤ length list → drop place list ≡ rest → Stops count rest ending
      → walk_from (suc steps) list place count ≡ record { nodes = []; ending = ending }
  unfolding walk_on showing_read
  stops_step steps [] ended h d at_end =
      by_step steps list place count ends (step_end list place count (let e = ap length d in let l = length-drop place list in omega arith))
  stops_step steps [] (stopped _) h d s = elim s [ ]
  stops_step steps [] unfinished h d s = elim s [ ]
  stops_step steps (byte ∷ rest) _ h d (four_shown k) = by_step steps list place count _ (step_full list place count (left_before byte rest d) k)
  stops_step steps (byte ∷ rest) _ h d (unknown k e) =
      by_step steps list place count _
      (step_read list place count (left_before byte rest d) k ∙ ap (λ (l : List ℕ). showing_read (read_node l)) d ∙ ap showing_read (nodes.read_unknown byte rest e))
  stops_step steps (byte ∷ rest) _ h d (cut_short k e c) =
      by_step steps list place count _
      (step_read list place count (left_before byte rest d) k ∙ ap (λ (l : List ℕ). showing_read (read_node l)) d ∙ ap showing_read (nodes.read_cut byte rest e c))

-- a packed node has a first byte
some_bytes : (n : NodeInfo) → 0 < length (packed_node n)
unfolding packed_node
some_bytes n = omega arith

module _ (list : List ℕ) (place count : ℕ) (n : NodeInfo) (after : List ℕ) (fits : FitsNode n) (d : drop place list ≡ packed_node n ++ after) where
  long_enough : place + length (packed_node n) ≤ length list
  long_enough =
      let e = ap length d in
      let l = length-drop place list in
      let m = length-append (packed_node n) after in
      let s = some_bytes n in
      omega arith

  shows_step : count < 4 → step_of list place count ≡ shows n
  unfolding showing_read
  shows_step k =
      step_read list place count (let h = long_enough in let s = some_bytes n in omega arith) k ∙ ap (λ (l : List ℕ). showing_read (read_node l)) d
      ∙ ap showing_read (nodes.read_packed n fits after)

  moved_on : drop (place + length (packed_node n)) list ≡ after
  moved_on = sym (drop-drop (length (packed_node n)) place list) ∙ ap (drop (length (packed_node n))) d ∙ drop-append_seam (packed_node n) after

-- ---- the walk from a place, by the nodes and the bytes left there

walk_is : (ns : List NodeInfo) (steps : ℕ) (list : List ℕ) (place count : ℕ) (rest : List ℕ) (ending : Ending) → AllFit ns → length ns < steps
    → count + length ns ≤ 4 → place ≤ length list → drop place list ≡ packed_nodes ns ++ rest → Stops (count + length ns) rest ending
    → walk_from steps list place count ≡ record { nodes = ns; ending = ending }
unfolding packed_nodes walk_on place_after count_after
walk_is [] zero list place count rest ending fit s few h d stops = absurd (omega arith)
walk_is [] (suc steps) list place count rest ending fit s few h d stops =
    stops_step list place count steps rest ending h d (subst (λ (k : ℕ). Stops k rest ending) (let e : count + 0 ≡ count = omega arith in e) stops)
walk_is (n ∷ ns) zero list place count rest ending fit s few h d stops = absurd (omega arith)
walk_is (n ∷ ns) (suc steps) list place count rest ending fit s few h d stops =
    let e : drop place list ≡ packed_node n ++ (packed_nodes ns ++ rest) = d ∙ append_assoc (packed_node n) (packed_nodes ns) rest in
    let q : count + suc (length ns) ≡ count + 1 + length ns = omega arith in
    by_step steps list place count (shows n) (shows_step list place count n (packed_nodes ns ++ rest) fit.0 e (omega arith))
    ∙ ap (λ (w : Walk). walk_on (shows n) w)
    (walk_is ns steps list (place + length (packed_node n)) (count + 1) rest ending fit.1 (omega arith) (omega arith)
    (long_enough list place count n (packed_nodes ns ++ rest) fit.0 e)
    (moved_on list place count n (packed_nodes ns ++ rest) fit.0 e) (subst (λ (k : ℕ). Stops k rest ending) q stops))

-- ---- every list can be taken apart so

record Split (bytes : List ℕ) (count : ℕ) : Type 0 where
  nodes : List NodeInfo
  rest : List ℕ
  ending : Ending
  front : bytes ≡ packed_nodes nodes ++ rest
  fit : AllFit nodes
  few : count + length nodes ≤ 4
  stops : Stops (count + length nodes) rest ending

-- no node in front
none : (bytes : List ℕ) (count : ℕ) (ending : Ending) → count ≤ 4 → Stops count bytes ending → Split bytes count
unfolding packed_nodes
none bytes count ending h stops = record {
  nodes = [];
  rest = bytes;
  ending = ending;
  front = refl;
  fit = tt;
  few = omega arith;
  stops = subst (λ (k : ℕ). Stops k bytes ending) (let e : count ≡ count + 0 = omega arith in e) stops;
}

-- one node in front, and then others
one_more : (bytes after : List ℕ) (count : ℕ) (n : NodeInfo) → FitsNode n → bytes ≡ packed_node n ++ after → Split after (count + 1) → Split bytes count
unfolding packed_nodes
one_more bytes after count n fits e s =
    let q : count + 1 + length s.nodes ≡ count + suc (length s.nodes) = omega arith in
    record {
      nodes = n ∷ s.nodes;
      rest = s.rest;
      ending = s.ending;
      front = e ∙ ap (λ (l : List ℕ). packed_node n ++ l) s.front ∙ sym (append_assoc (packed_node n) (packed_nodes s.nodes) s.rest);
      fit = (fits, s.fit);
      few = let h = s.few in omega arith;
      stops = subst (λ (k : ℕ). Stops k s.rest s.ending) q s.stops;
    }

-- by what stands in front, given how the bytes behind a node are taken apart
at_front : (count : ℕ) → count ≤ 4 → ((after : List ℕ) → Bytes after → count + 1 ≤ 4 → Split after (count + 1))
    → (bytes : List ℕ) → nodes.Front bytes → (t : Bool) → leb 4 count ≡ t → Bytes bytes → Split bytes count
at_front count h onward [] nodes.nothing t e b = none [] count ended h at_end
at_front count h onward (byte ∷ rest) front true e b = none (byte ∷ rest) count _ h (four_shown (leb-true 4 count e))
at_front count h onward (byte ∷ rest) (nodes.unknown k) false e b = none (byte ∷ rest) count _ h (unknown (leb-false 4 count e) k)
at_front count h onward (byte ∷ rest) (nodes.cut k l) false e b = none (byte ∷ rest) count _ h (cut_short (leb-false 4 count e) k l)
at_front count h onward (byte ∷ rest) (nodes.whole k l) false e b =
    let after = drop (packed_length byte) (byte ∷ rest) in
    one_more (byte ∷ rest) after count (node_of byte rest) (nodes.read_fits byte rest l k b.1) (sym (nodes.packed_read byte rest l b.1))
    (onward after (bytes_drop (packed_length byte) (byte ∷ rest) b) (let q = leb-false 4 count e in omega arith))

split : (fuel : ℕ) (bytes : List ℕ) (count : ℕ) → Bytes bytes → count ≤ 4 → 4 < count + fuel → Split bytes count
split zero bytes count b h f = absurd (omega arith)
split (suc fuel) bytes count b h f =
    at_front count h (λ (after : List ℕ) (bytes : Bytes after) (k : count + 1 ≤ 4). split fuel after (count + 1) bytes k (omega arith)) bytes (nodes.front bytes) (leb 4 count) refl b

-- ---- the theorem

-- a walk that takes the list apart is the walk
pub only_walk : (steps : ℕ) (list : List ℕ) (w : Walk) → 5 ≤ steps → Walked list w → walk_from steps list 0 0 ≡ w
only_walk steps list w h is =
    let f = is.few in
    walk_is w.nodes steps list 0 0 is.rest w.ending is.fit (omega arith) (omega arith) (omega arith) is.front
    (subst (λ (k : ℕ). Stops k is.rest w.ending) (let e : length w.nodes ≡ 0 + length w.nodes = omega arith in e) is.stops)

-- the walk takes every list apart
pub every_list : (steps : ℕ) (list : List ℕ) → 5 ≤ steps → Bytes list → Walked list (walk_from steps list 0 0)
every_list steps list h b =
    let s = split 5 list 0 b (omega arith) (omega arith) in
    let w : Walk = record { nodes = s.nodes; ending = s.ending } in
    let is : Walked list w = record {
      rest = s.rest;
      front = s.front;
      fit = s.fit;
      few = let f = s.few in omega arith;
      stops = subst (λ (k : ℕ). Stops k s.rest s.ending) (let e : 0 + length s.nodes ≡ length s.nodes = omega arith in e) s.stops;
    } in
    subst (λ (v : Walk). Walked list v) (sym (only_walk steps list w h is)) is

-- 0 to 4 packed nodes with no byte over are shown, and then the end
pub whole_shown : (steps : ℕ) (ns : List NodeInfo) → 5 ≤ steps → AllFit ns → length ns ≤ 4 → walk_from steps (packed_nodes ns) 0 0 ≡ record { nodes = ns; ending = ended }
whole_shown steps ns h fit few =
    only_walk steps (packed_nodes ns) (record { nodes = ns; ending = ended }) h (record { rest = []; front = sym (append-nil (packed_nodes ns)); fit = fit; few = few; stops = at_end })

-- and where the end is said, the list is the packed bytes of the nodes shown, 0 to 4 of them
none_left : (shown : ℕ) (rest : List ℕ) (ending : Ending) → Stops shown rest ending → ending ≡ ended → rest ≡ []
none_left shown [] _ at_end e = refl
none_left shown (byte ∷ rest) _ (four_shown k) e = cc
none_left shown (byte ∷ rest) _ (unknown k f) e = cc
none_left shown (byte ∷ rest) _ (cut_short k f l) e = cc

pub shown_whole : (steps : ℕ) (list : List ℕ) (ns : List NodeInfo) → 5 ≤ steps → Bytes list → walk_from steps list 0 0 ≡ record { nodes = ns; ending = ended }
    → (list ≡ packed_nodes ns) × (length ns ≤ 4) × AllFit ns
shown_whole steps list ns h b e =
    let is : Walked list (record { nodes = ns; ending = ended }) = subst (λ (v : Walk). Walked list v) e (every_list steps list h b) in (
      is.front ∙ ap (λ (l : List ℕ). packed_nodes ns ++ l) (none_left (length ns) is.rest ended is.stops refl) ∙ append-nil (packed_nodes ns),
      is.few,
      is.fit,
    )

-- ---- the same of calls

-- what is handed on is the walker after the step
next_is : (list : List ℕ) (place count : ℕ) (next : Next) → Ok (Some next) ≡ shown_step place count (shows (info_of next.node))
    → (place_after (shows (info_of next.node)) place ≡ next.place) × (count_after (shows (info_of next.node)) count ≡ next.count)
unfolding shown_step
next_is list place count next e = (cc, cc)

calls_are : (steps : ℕ) (list : List ℕ) (place count : ℕ) (w : Walk) → Calls list place count w → length w.nodes < steps → walk_from steps list place count ≡ w
unfolding walk_on showing_of
calls_are zero list place count w calls h = absurd (omega arith)
calls_are (suc steps) list place count _ (says_end is e) h = by_step steps list place count ends (sym is.means ∙ ap showing_of e)
calls_are (suc steps) list place count _ (is_refused {why = why} is e) h = by_step steps list place count (refuses why) (sym is.means ∙ ap showing_of e)
calls_are (suc steps) list place count _ (shows_node {next = next} {after = after} is e calls) h =
    let s = sym is.means ∙ ap showing_of e in
    let n = shows (info_of next.node) in
    let p = next_is list place count next (sym e ∙ is.exact ∙ ap (shown_step place count) s) in
    by_step steps list place count n s ∙ ap₂ (λ (i j : ℕ). walk_on n (walk_from steps list i j)) p.0 p.1
    ∙ ap (λ (v : Walk). walk_on n v) (calls_are steps list next.place next.count after calls (omega arith))

pub calls_walk : (list : List ℕ) (w : Walk) → Bytes list → Calls list 0 0 w → Walked list w
calls_walk list w b calls =
    let steps = 5 + length w.nodes in
    subst (λ (v : Walk). Walked list v) (calls_are steps list 0 0 w calls (omega arith)) (every_list steps list (omega arith) b)

-- ---- and calls do end

-- one call, and then the calls after it
called : (list : List ℕ) (place count : ℕ) (step : Showing) (after : Walk) → Steps list place count (shown_step place count step)
    → showing_of (shown_step place count step) ≡ step → ((walk_on step after).ending ≡ unfinished → ⊥)
    → ((after.ending ≡ unfinished → ⊥) → Calls list (place_after step place) (count_after step count) after) → Calls list place count (walk_on step after)
unfolding walk_on showing_of shown_step
called list place count (shows n) after is m h calls =
    let e : info_of (value_of n) ≡ n = cc in
    subst (λ (k : NodeInfo). Calls list place count (record { nodes = k ∷ after.nodes; ending = after.ending })) e (shows_node is refl (calls h))
called list place count ends after is m h calls = says_end is refl
called list place count (refuses why) after is m h calls = is_refused is refl

reach : (steps : ℕ) (list : List ℕ) (place count : ℕ) → ((walk_from steps list place count).ending ≡ unfinished → ⊥) → Calls list place count (walk_from steps list place count)
unfolding walk_from
reach zero list place count h = absurd (h refl)
reach (suc steps) list place count h =
    let s = step_of list place count in
    let is = exact_answer list place count in
    called list place count s (walk_from steps list (place_after s place) (count_after s count)) is is.means h (reach steps list (place_after s place) (count_after s count))

finished : (shown : ℕ) (rest : List ℕ) (ending : Ending) → Stops shown rest ending → ending ≡ unfinished → ⊥
finished shown [] _ at_end e = cc
finished shown (byte ∷ rest) _ (four_shown k) e = cc
finished shown (byte ∷ rest) _ (unknown k f) e = cc
finished shown (byte ∷ rest) _ (cut_short k f l) e = cc

-- at most five calls walk any list
pub calls_end : (list : List ℕ) → Bytes list → Calls list 0 0 (walk_from 5 list 0 0)
calls_end list b =
    let is = every_list 5 list (omega arith) b in
    reach 5 list 0 0 (finished (length (walk_from 5 list 0 0).nodes) is.rest (walk_from 5 list 0 0).ending is.stops)
