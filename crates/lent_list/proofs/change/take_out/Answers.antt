-- `change::take_out` meets its contract: each way out is a case of the laws of removals by value, on the list that stands in the memory. Assumes nothing.
use borrow.Author.Rules.{rules}
use mathlib.Core.Path.{◌≡◌, ◌∙◌, sym, ap, ap₂}
use mathlib.Core.List.{List, ◌∷◌, ◌++◌}
use Prim.Native.Nat.{ℕ, suc, ◌+◌, ◌-◌, ◌<◌, ◌≤◌}
use native.Mathlib.Omega.{arith}
use lib.ListN.{length, take, drop, set}
use Rattle.std.specs.Prelude.{Result, Ok, Err}
use Rattle.std.proofs.lemmas.Result.{err_from_is_err_and}
use Rattle.refusal.specs.declared.Refusal.{Refusal}
use Rattle.refusal.specs.declared.Refusal.TheVariants.{KeyNotHeld}
use Rattle.nearest.specs.declared.Answered.{Answered}
use Rattle.wire.specs.Numbers.{Bytes}
use Rattle.wire.proofs.Numbers.{bytes_each}
use Rattle.wire.proofs.Copy.{length_lent}
use Rattle.key.specs.declared.Key.{Key}
use Rattle.lists.specs.Insert.{remove_at}
use Rattle.lists.proofs.Shift.{take_less_out}
use Rattle.node.specs.declared.Node.{Node}
use Rattle.node.specs.Values.{blank_node}
use Rattle.node.proofs.WriteLaws.{with_part}
use Rattle.nearest.specs.declared.NearestList.{NearestList}
use Rattle.nearest.specs.Lists.{held}
use Rattle.nearest.specs.Slots.{index_of}
use Rattle.nearest.specs.Calls.{checked, removed}
use Rattle.nearest.proofs.Holding.{held_length}
use Rattle.nearest.proofs.Judge.{whole}
use Rattle.nearest.proofs.Place.{not_found}
use Rattle.nearest.proofs.Steps.{index_found}
use Rattle.nearest.proofs.RemoveLaws.{remove_missing, remove_done}
use Rattle.lent_list_laws.specs.Layout.{slots_at, list_at, slots_bytes, stored}
use Rattle.lent_list_laws.proofs.SlotLaws.{slots_number}
use Rattle.lent_list_laws.proofs.RoundTrips.{stored_same}
use Rattle.lent_list_laws.proofs.ChangeLaws.{slots_of, changed, nodes_there, count_there, count_stored}
use Rattle.lent_list.proofs.StandingLaws.{stands}
use Rattle.lent_list.proofs.change.take_out.Goals as goal

-- what is answered, and what is left
abbrev Takes : List ℕ → Key → Result (Unit {0}) Refusal → List ℕ → Type 0
Takes m k r left = (r ≡ (removed (list_at m) k).answer) × (left ≡ stored (removed (list_at m) k).list m)

takes : (m : List ℕ) (k : Key) (r : Result (Unit {0}) Refusal) (l : NearestList) (left : List ℕ)
    → ◌≡◌ {A = Answered (Unit {0})} (record { list = l; answer = r }) (removed (list_at m) k) → left ≡ stored l m → Takes m k r left
takes m k r l left o s = (ap (λ (x : Answered (Unit {0})). x.answer) o, s ∙ ap (λ (x : Answered (Unit {0})). stored x.list m) o)

all_slots : (m : List ℕ) → length (list_at m).nodes ≡ 16
unfolding list_at
all_slots m = slots_number 16 (drop 34 m)

-- the slots with one node taken out, up to a count
abbrev closed : List Node → ℕ → ℕ → List Node
closed ns p c = take c (remove_at p ns) ++ (blank_node ∷ drop (c + 1) ns)

closed_held : (l : NearestList) (p : ℕ) → p < l.count → closed l.nodes p (l.count - 1) ≡ remove_at p (held l) ++ (blank_node ∷ drop l.count l.nodes)
closed_held l p h =
    ap₂ (λ (x y : List Node). x ++ (blank_node ∷ y))
    (take_less_out p (l.count - 1) l.nodes (omega arith) ∙ ap (λ (k : ℕ). remove_at p (take k l.nodes)) (let q : suc (l.count - 1) ≡ l.count = omega arith in q))
    (ap (λ (k : ℕ). drop k l.nodes) (let q : l.count - 1 + 1 ≡ l.count = omega arith in q))

-- what is known before the key is looked for
record Known (m : List ℕ) : Type 0 where
  room : 850 ≤ length m
  bytes : Bytes m
  stands : checked (list_at m) ≡ Ok tt

module _ {m : List ℕ} (known : Known m) (k : Key) where
  takes_nothing : length (held (list_at m)) ≤ index_of k.0 (held (list_at m)) → Takes m k (Err KeyNotHeld) m
  takes_nothing h = takes m k (Err KeyNotHeld) (list_at m) m (sym (remove_missing (list_at m) k known.stands (not_found k.0 (held (list_at m)) h))) (sym (stored_same m known.bytes))

  takes_one : (p : ℕ) → p ≡ index_of k.0 (held (list_at m)) → p < (list_at m).count → (slots : List ℕ) → slots ≡ slots_bytes (closed (slots_at 16 (slots_of m)) p ((list_at m).count - 1))
      → Takes m k (Ok tt) (set (with_part m 34 850 slots) 1 ((list_at m).count - 1))
  takes_one p at h slots e =
      let c = (list_at m).count - 1 in
      let ns = closed (slots_at 16 (slots_of m)) p c in
      let w = whole (list_at m) known.stands in
      let x = w.within in
      let y = w.small in
      takes m k (Ok tt) (changed (list_at m) c ns) _
      (remove_done (list_at m) k known.stands (all_slots m) p at h ns (ap (λ (z : List Node). closed z p c) (nodes_there m) ∙ closed_held (list_at m) p h))
      (count_stored m known.room known.bytes ns slots e c (omega arith))

-- ---- the answers

pub of-list-requires : goal.of-list-requires
of-list-requires c = let s = stands c.args.memory.now c.requires in record { long = s.0; few = count_there c.args.memory.now s.1 }

pub returns-in_err-index : goal.returns-in_err-index
returns-in_err-index c =
    let m = c.args.memory.now in
    let p = err_from_is_err_and c.from_residual.result c.from_residual.ensures.1 in
    let q : c.in_err-index.field-0.0 ≡ KeyNotHeld = grind arith in
    let w = rw c.in_err-index.ensures.ok_part at (index_found c.args.key.0 (held (list_at m)) c.find.result (cc)) in
    let s = stands m c.requires in
    let t = takes_nothing (record { room = s.0; bytes = bytes_each m (λ i. search rules); stands = s.1 }) c.args.key w in
    record { answer = rw (p.1, p.2, q) t.0; memory_after = t.1 }

pub close_at-requires : goal.close_at-requires
unfolding list_at
close_at-requires c =
    let m = c.args.memory.now in
    let s = stands m c.requires in
    let l = count_there m s.1 in
    let n = slots_number 16 (drop 34 m) in
    let e = held_length (list_at m) (omega arith) in
    let w = rw c.in_ok-index.ensures.ok_part at (index_found c.args.key.0 (held (list_at m)) c.find.result (cc)) in
    let h = w.1 in
    let k = rw c.of-list.ensures at c.count-count.ensures in
    (length_lent m 34 816 s.0, omega arith, omega arith)

pub overflow_sub-count : goal.overflow_sub-count
unfolding list_at
overflow_sub-count c =
    let m = c.args.memory.now in
    let s = stands m c.requires in
    let l = count_there m s.1 in
    let n = slots_number 16 (drop 34 m) in
    let e = held_length (list_at m) (omega arith) in
    let w = rw c.in_ok-index.ensures.ok_part at (index_found c.args.key.0 (held (list_at m)) c.find.result (cc)) in
    let h = w.1 in
    let k = rw c.of-list.ensures at c.count-count.ensures in
    omega arith

pub overflow_sub-memory : goal.overflow_sub-memory
unfolding list_at
overflow_sub-memory c =
    let m = c.args.memory.now in
    let s = stands m c.requires in
    let l = count_there m s.1 in
    let n = slots_number 16 (drop 34 m) in
    let e = held_length (list_at m) (omega arith) in
    let w = rw c.in_ok-index.ensures.ok_part at (index_found c.args.key.0 (held (list_at m)) c.find.result (cc)) in
    let h = w.1 in
    let k = rw c.of-list.ensures at c.count-count.ensures in
    omega arith

pub overflow_cast-memory : goal.overflow_cast-memory
overflow_cast-memory c =
    let s = stands c.args.memory.now c.requires in
    let l = count_there c.args.memory.now s.1 in
    let k = rw c.of-list.ensures at c.count-count.ensures in
    omega arith

pub returns : goal.returns
unfolding list_at
returns c =
    let m = c.args.memory.now in
    let s = stands m c.requires in
    let l = count_there m s.1 in
    let n = slots_number 16 (drop 34 m) in
    let e = held_length (list_at m) (omega arith) in
    let w = rw c.in_ok-index.ensures.ok_part at (index_found c.args.key.0 (held (list_at m)) c.find.result (cc)) in
    let h = w.1 in
    let k = rw c.of-list.ensures at c.count-count.ensures in
    let t = takes_one (record { room = s.0; bytes = bytes_each m (λ i. search rules); stands = s.1 }) c.args.key c.in_ok-index.index w.0 (omega arith) _ (rw k at c.close_at.ensures) in
    record { answer = t.0; memory_after = rw k t.1 }
