-- `change::keep` meets its contract: each way out is a case of the laws of offers by value, on the list that stands in the memory. Assumes nothing.
use borrow.Author.Rules.{rules}
use mathlib.Core.Path.{◌≡◌, ◌∙◌, sym, ap, ap₂}
use mathlib.Core.Bool.{Bool, true, false}
use mathlib.Core.List.{List, ◌++◌}
use mathlib.Core.Logic.{◌⊎◌, inl, inr}
use Prim.Native.Nat.{ℕ, ◌+◌, ◌-◌, ◌*◌, ◌<◌, ◌≤◌}
use native.Mathlib.Omega.{arith}
use lib.ListN.{length, get_or, take, drop, set}
use Rattle.std.specs.Prelude.{Ok}
use Rattle.nearest.specs.declared.Answered.{Answered}
use Rattle.wire.specs.Numbers.{Bytes}
use Rattle.wire.proofs.Numbers.{bytes_each, bytes_take, bytes_drop}
use Rattle.wire.proofs.Copy.{length_lent}
use Rattle.key.specs.Keys.{IsKey, same_key, key_of}
use Rattle.key.proofs.Lent.{key_itself}
use Rattle.lists.specs.Insert.{insert_at}
use Rattle.node.specs.declared.Node.{Node}
use Rattle.node.proofs.Owned.{is_node}
use Rattle.node.proofs.WriteLaws.{with_part}
use Rattle.nearest.specs.declared.NearestList.{NearestList}
use Rattle.nearest.specs.Lists.{node_key, held}
use Rattle.nearest.specs.Calls.{checked, offer_answer, offered}
use Rattle.nearest.specs.Slots.{position}
use Rattle.node.specs.Families.{known_family}
use Rattle.nearest.proofs.Front.{no_node}
use Rattle.nearest.proofs.Judge.{whole}
use Rattle.nearest.proofs.OfferLaws.{AtPlace, count_small, place_within, offer_replaced, offer_added, offer_put_out, offer_too_far}
use Rattle.lent_list_laws.specs.Layout.{slots_at, list_at, slot_bytes, slots_bytes, stored}
use Rattle.lent_list_laws.proofs.RoundTrips.{stored_same}
use Rattle.lent_list_laws.proofs.ChangeLaws.{slots_of, changed, nodes_there, key_there, placed, slots_stored, count_stored}
use Rattle.lent_list.proofs.StandingLaws.{stands}
use Rattle.lent_list.proofs.ShiftLaws.{put_at}
use Rattle.lent_list.proofs.change.keep.Goals as goal
use Rattle.lent_list.proofs.change.keep.Goals.{then-place-count+else-equals, else-place-count}

-- what is answered, and what is left
abbrev Keeps : List ℕ → Node → Bool → List ℕ → Type 0
Keeps m n r left = (offer_answer r ≡ (offered (list_at m) n).answer) × (left ≡ stored (offered (list_at m) n).list m)

keeps : (m : List ℕ) (n : Node) (r : Bool) (l : NearestList) (left : List ℕ) → ◌≡◌ {A = Answered Bool} (record { list = l; answer = offer_answer r }) (offered (list_at m) n)
    → left ≡ stored l m → Keeps m n r left
keeps m n r l left o s = (ap (λ (x : Answered Bool). x.answer) o, s ∙ ap (λ (x : Answered Bool). stored x.list m) o)

-- the key does not stand at the place
abbrev Fresh : List ℕ → Node → ℕ → Type 0
Fresh m n p = ((list_at m).count ≤ p) ⊎ (same_key (node_key (get_or (list_at m).nodes p no_node)) (node_key n) ≡ false)

-- the slots with the node put in, up to a count
abbrev opened : List Node → ℕ → Node → ℕ → List Node
opened ns p n c = take c (insert_at p n ns) ++ drop c ns

-- what is known once the place is found
record Placed (m : List ℕ) (n : Node) (p : ℕ) : Type 0 where
  room : 850 ≤ length m
  bytes : Bytes m
  at : AtPlace (list_at m) n p

module _ {m : List ℕ} {n : Node} {p : ℕ} (known : Placed m n p) where
  -- a key compared where it stands
  compared : {held : List ℕ} {r : Bool} → p < (list_at m).count → held ≡ take 32 (drop (p * 51 + 19) (slots_of m)) → r ≡ same_key (key_of held) (key_of (node_key n))
      → r ≡ same_key (node_key (get_or (list_at m).nodes p no_node)) (node_key n)
  compared {held} h e q =
      let w = count_small (list_at m) n p known.at in
      q ∙ ap₂ same_key (key_there m known.room p (omega arith) held e) (key_itself (node_key n) known.at.new_key.long)

  keeps_replaced : p < (list_at m).count → same_key (node_key (get_or (list_at m).nodes p no_node)) (node_key n) ≡ true
      → (slots : List ℕ) → slots ≡ take (p * 51) (slots_of m) ++ (slot_bytes n ++ drop (p * 51 + 51) (slots_of m)) → Keeps m n true (with_part m 34 850 slots)
  keeps_replaced h same slots e =
      let ns = set (list_at m).nodes p n in
      let w = count_small (list_at m) n p known.at in
      let put = put_at (slots_of m) (length_lent m 34 816 known.room) (bytes_take 816 (drop 34 m) (bytes_drop 34 m known.bytes)) p (omega arith) n in
      keeps m n true (changed (list_at m) (list_at m).count ns) _ (offer_replaced (list_at m) n p known.at h same)
      (slots_stored m known.room known.bytes ns slots (e ∙ put ∙ ap (λ (x : List Node). slots_bytes (set x p n)) (nodes_there m)))

  module _ (fresh : Fresh m n p) where
    keeps_added : (list_at m).count < (list_at m).size → (slots : List ℕ) → slots ≡ slots_bytes (opened (slots_at 16 (slots_of m)) p n ((list_at m).count + 1))
        → Keeps m n true (set (with_part m 34 850 slots) 1 ((list_at m).count + 1))
    keeps_added h slots e =
        let c = (list_at m).count + 1 in
        let ns = opened (slots_at 16 (slots_of m)) p n c in
        let w = count_small (list_at m) n p known.at in
        keeps m n true (changed (list_at m) c ns) _
        (offer_added (list_at m) n p known.at fresh h ns (ap (λ (x : List Node). opened x p n c) (nodes_there m)))
        (count_stored m known.room known.bytes ns slots e c (omega arith))

    module _ (full : (list_at m).size ≤ (list_at m).count) where
      keeps_put_out : p < (list_at m).count → (slots : List ℕ) → slots ≡ slots_bytes (opened (slots_at 16 (slots_of m)) p n ((list_at m).count - 1 + 1))
          → Keeps m n true (with_part m 34 850 slots)
      keeps_put_out h slots e =
          let c = (list_at m).count - 1 + 1 in
          let ns = opened (slots_at 16 (slots_of m)) p n c in
          let q : c ≡ (list_at m).count = omega arith in
          keeps m n true (changed (list_at m) (list_at m).count ns) _
          (offer_put_out (list_at m) n p known.at fresh full h ns (ap₂ (λ (x : List Node) (y : ℕ). opened x p n y) (nodes_there m) q))
          (slots_stored m known.room known.bytes ns slots e)

      keeps_too_far : (list_at m).count ≤ p → Keeps m n false m
      keeps_too_far h = keeps m n false (list_at m) m (offer_too_far (list_at m) n p known.at fresh full h) (sym (stored_same m known.bytes))

-- the size and the count, as they are read
small : (m : List ℕ) → checked (list_at m) ≡ Ok tt → (get_or m 0 0 ≤ 16) × (get_or m 1 0 ≤ get_or m 0 0)
unfolding list_at
small m stands = let w = whole (list_at m) stands in (w.small, w.within)

-- what is known once the place is found, from what the search and the caller told
at_place : (m : List ℕ) (n : Node) (p : ℕ) → 850 ≤ length m → Bytes m → checked (list_at m) ≡ Ok tt → known_family n.family ≡ true → IsKey (node_key n)
    → p ≡ position (list_at m).target.0 (node_key n) (held (list_at m)) → Placed m n p
at_place m n p room bytes stands family key e = record { room = room; bytes = bytes; at = placed m room bytes n p stands family key e }

-- ---- the answers

pub of-list-requires : goal.of-list-requires
of-list-requires c =
    let s = stands c.args.memory.now c.requires.0 in
    let l = small c.args.memory.now s.1 in
    record { long = s.0; few = omega arith }

pub key_at-held-requires : goal.key_at-held-requires
key_at-held-requires c =
    let m = c.args.memory.now in
    let s = stands m c.requires.0 in
    let b = rw c.of-list.ensures at c.count-count.ensures in
    let long = length_lent m 34 816 s.0 in
    let l = small m s.1 in
    let d = c.if-place-count.true in
    rw (c.slots.ensures, c.of-list.ensures) (omega arith)

pub write_at-requires : goal.write_at-requires
write_at-requires c =
    let m = c.args.memory.now in
    let s = stands m c.requires.0 in
    let b = rw c.of-list.ensures at c.count-count.ensures in
    let long = length_lent m 34 816 s.0 in
    let l = small m s.1 in
    let d = c.if-place-count.true in
    (long, omega arith)

pub returns-then-equals : goal.returns-then-equals
unfolding list_at
returns-then-equals c =
    let m = c.args.memory.now in
    let s = stands m c.requires.0 in
    let b = rw c.of-list.ensures at c.count-count.ensures in
    let n = c.args.node in
    let bytes : Bytes m = bytes_each m (λ i. search rules) in
    let key = (is_node n c.well_formed.1.0.0 c.well_formed.1.0.1.1).key in
    let k = at_place m n c.place-place.result s.0 bytes s.1 c.requires.1 key (cc) in
    let q = compared k (rw b at c.if-place-count.true) (rw (c.slots.ensures, c.of-list.ensures) at c.key_at-held.ensures) c.equals.ensures in
    let t = keeps_replaced k (rw b at c.if-place-count.true) (sym q ∙ c.if-equals.true) _ c.write_at.ensures in
    record { result_value = t.0; memory_after = t.1 }

pub open_at-requires : goal.open_at-requires
unfolding list_at
open_at-requires c =
    let m = c.args.memory.now in
    let s = stands m c.requires.0 in
    let a = rw c.of-list.ensures at c.size-size.ensures in
    let b = rw c.of-list.ensures at c.count-count.ensures in
    let n = c.args.node in
    let bytes : Bytes m = bytes_each m (λ i. search rules) in
    let key = (is_node n c.well_formed.1.0.0 c.well_formed.1.0.1.1).key in
    let k = at_place m n c.place-place.result s.0 bytes s.1 c.requires.1 key (cc) in
    let long = length_lent m 34 816 s.0 in
    let l = small m s.1 in
    let d = c.if-count-size.true in
    (long, rw b (place_within (list_at m) n c.place-place.result k.at), omega arith)

pub overflow_add-memory : goal.overflow_add-memory
overflow_add-memory c =
    let s = stands c.args.memory.now c.requires.0 in
    let a = rw c.of-list.ensures at c.size-size.ensures in
    let b = rw c.of-list.ensures at c.count-count.ensures in
    let l = small c.args.memory.now s.1 in
    omega arith

pub overflow_cast-memory : goal.overflow_cast-memory
overflow_cast-memory c =
    let s = stands c.args.memory.now c.requires.0 in
    let a = rw c.of-list.ensures at c.size-size.ensures in
    let b = rw c.of-list.ensures at c.count-count.ensures in
    let l = small c.args.memory.now s.1 in
    omega arith

pub returns-then-count-size : goal.returns-then-count-size
unfolding list_at
returns-then-count-size c =
    let m = c.args.memory.now in
    let s = stands m c.requires.0 in
    let a = rw c.of-list.ensures at c.size-size.ensures in
    let b = rw c.of-list.ensures at c.count-count.ensures in
    let n = c.args.node in
    let bytes : Bytes m = bytes_each m (λ i. search rules) in
    let key = (is_node n c.well_formed.1.0.0 c.well_formed.1.0.1.1).key in
    let k = at_place m n c.place-place.result s.0 bytes s.1 c.requires.1 key (cc) in
    let fresh : Fresh m n c.place-place.result =
    elim c.if-place-count.branch [
      | then-place-count+else-equals w ↦ inr (sym (compared k (rw b at w.if-place-count.true) (rw (w.slots.ensures, c.of-list.ensures) at w.key_at-held.ensures) w.equals.ensures) ∙ w.if-equals.false)
      | else-place-count w ↦ inl (rw b at w.if-place-count.false)
    ] in
    let t = keeps_added k fresh (rw (a, b) at c.if-count-size.true) _ (rw b at c.open_at.ensures) in
    record { result_value = t.0; memory_after = rw b t.1 }

pub open_at-requires-then-place-count-2 : goal.open_at-requires-then-place-count-2
open_at-requires-then-place-count-2 c =
    let m = c.args.memory.now in
    let s = stands m c.requires.0 in
    let a = rw c.of-list.ensures at c.size-size.ensures in
    let b = rw c.of-list.ensures at c.count-count.ensures in
    let long = length_lent m 34 816 s.0 in
    let l = small m s.1 in
    let d = c.if-place-count-2.true in
    (long, omega arith, omega arith)

pub returns-then-place-count-2 : goal.returns-then-place-count-2
unfolding list_at
returns-then-place-count-2 c =
    let m = c.args.memory.now in
    let s = stands m c.requires.0 in
    let a = rw c.of-list.ensures at c.size-size.ensures in
    let b = rw c.of-list.ensures at c.count-count.ensures in
    let n = c.args.node in
    let bytes : Bytes m = bytes_each m (λ i. search rules) in
    let key = (is_node n c.well_formed.1.0.0 c.well_formed.1.0.1.1).key in
    let k = at_place m n c.place-place.result s.0 bytes s.1 c.requires.1 key (cc) in
    let fresh : Fresh m n c.place-place.result =
    elim c.if-place-count.branch [
      | then-place-count+else-equals w ↦ inr (sym (compared k (rw b at w.if-place-count.true) (rw (w.slots.ensures, c.of-list.ensures) at w.key_at-held.ensures) w.equals.ensures) ∙ w.if-equals.false)
      | else-place-count w ↦ inl (rw b at w.if-place-count.false)
    ] in
    let t = keeps_put_out k fresh (rw (a, b) at c.if-count-size.false) (rw b at c.if-place-count-2.true) _ (rw b at c.open_at-then-place-count-2.ensures) in
    record { result_value = t.0; memory_after = t.1 }

pub returns : goal.returns
unfolding list_at
returns c =
    let m = c.args.memory.now in
    let s = stands m c.requires.0 in
    let a = rw c.of-list.ensures at c.size-size.ensures in
    let b = rw c.of-list.ensures at c.count-count.ensures in
    let n = c.args.node in
    let bytes : Bytes m = bytes_each m (λ i. search rules) in
    let key = (is_node n c.well_formed.1.0.0 c.well_formed.1.0.1.1).key in
    let k = at_place m n c.place-place.result s.0 bytes s.1 c.requires.1 key (cc) in
    let fresh : Fresh m n c.place-place.result =
    elim c.if-place-count.branch [
      | then-place-count+else-equals w ↦ inr (sym (compared k (rw b at w.if-place-count.true) (rw (w.slots.ensures, c.of-list.ensures) at w.key_at-held.ensures) w.equals.ensures) ∙ w.if-equals.false)
      | else-place-count w ↦ inl (rw b at w.if-place-count.false)
    ] in
    let t = keeps_too_far k fresh (rw (a, b) at c.if-count-size.false) (rw b at c.if-place-count-2.false) in
    record { result_value = t.0; memory_after = t.1 }
