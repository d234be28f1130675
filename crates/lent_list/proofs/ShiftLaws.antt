-- Laws of slots moved where they stand: the bytes moved by one slot, and the bytes of the slots with one node replaced, one
-- put between them, and one taken from between them. Assumes nothing.
use mathlib.Core.Path.{◌≡◌, ◌∙◌, sym, ap, ap₂}
use mathlib.Core.List.{List, ◌∷◌, ◌++◌, append_assoc}
use Prim.Native.Nat.{ℕ, suc, ◌+◌, ◌-◌, ◌*◌, ◌<◌, ◌≤◌}
use native.Mathlib.Omega.{arith}
use native.Mathlib.Numerals.{add-one}
use lib.ListN.{length, take, drop, set, length-append, length-drop}
use lib.Seq.{length-take-le, take_all, take-take, take-append-le, drop-drop, drop_at, set_split}
use Rattle.wire.specs.Numbers.{Bytes}
use Rattle.wire.proofs.Numbers.{bytes_drop}
use Rattle.wire.proofs.Copy.{written_part, length_lent}
use Rattle.lists.specs.Insert.{insert_at, remove_at}
use Rattle.lists.proofs.Shift.{front_in, front_out}
use Rattle.node.specs.declared.Node.{Node}
use Rattle.lent_list_laws.specs.Layout.{slots_at, slot_bytes, slots_bytes}
use Rattle.lent_list_laws.proofs.SlotLaws.{slots_number, slots_taken, slots_dropped, slots_append, slots_of_bytes}

-- ---- the bytes moved

-- the bytes from i to before the end moved back by one slot
abbrev pub moved_back : List ℕ → ℕ → ℕ → List ℕ
moved_back s end i = take (i + 51) s ++ (take (end - i) (drop i s) ++ drop (end + 51) s)

-- the bytes from one slot behind moved to the places from the start to before i
abbrev pub moved_forward : List ℕ → ℕ → ℕ → List ℕ
moved_forward s start i = take start s ++ (take (i - start) (drop (start + 51) s) ++ drop i s)

-- as long as the places passed
forward_long : (s : List ℕ) (start i : ℕ) → start ≤ i → i + 51 ≤ length s → length (take start s ++ take (i - start) (drop (start + 51) s)) ≡ i
forward_long s start i h room =
    let a = length-take-le start s (omega arith) in
    let b = length_lent s (start + 51) (i - start) (omega arith) in
    length-append (take start s) (take (i - start) (drop (start + 51) s)) ∙ omega arith

-- ---- the bytes of all slots, with some of them changed

module _ (s : List ℕ) (long : length s ≡ 816) (bytes : Bytes s) where
  part_bytes : (k n : ℕ) → k + n ≤ 16 → slots_bytes (take n (drop k (slots_at 16 s))) ≡ take (n * 51) (drop (k * 51) s)
  part_bytes k n h =
      let d = length-drop (k * 51) s in
      ap slots_bytes (ap (take n) (slots_dropped 16 k s (omega arith)) ∙ slots_taken (16 - k) n (drop (k * 51) s) (omega arith))
      ∙ slots_of_bytes n (drop (k * 51) s) (omega arith) (bytes_drop (k * 51) s bytes)

  front_bytes : (k : ℕ) → k ≤ 16 → slots_bytes (take k (slots_at 16 s)) ≡ take (k * 51) s
  front_bytes k h = part_bytes 0 k (omega arith)

  rest_bytes : (k : ℕ) → k < 16 → slots_bytes (drop (suc k) (slots_at 16 s)) ≡ drop (k * 51 + 51) s
  rest_bytes k h =
      let n = length-drop (suc k) (slots_at 16 s) in
      let m = slots_number 16 s in
      let d = length-drop (suc k * 51) s in
      ap slots_bytes (sym (take_all (16 - suc k) (drop (suc k) (slots_at 16 s)) (omega arith))) ∙ part_bytes (suc k) (16 - suc k) (omega arith)
      ∙ take_all ((16 - suc k) * 51) (drop (suc k * 51) s) (omega arith)
      ∙ ap (λ (x : ℕ). drop x s) (let e : suc k * 51 ≡ k * 51 + 51 = omega arith in e)

  -- a node replaced
  pub put_at : (i : ℕ) → i < 16 → (n : Node) → take (i * 51) s ++ (slot_bytes n ++ drop (i * 51 + 51) s) ≡ slots_bytes (set (slots_at 16 s) i n)
  unfolding slots_bytes
  put_at i h n =
      let ns = slots_at 16 s in
      let m = slots_number 16 s in
      sym
      (ap slots_bytes (set_split ns i n (omega arith)) ∙ slots_append (take i ns) (n ∷ drop (suc i) ns)
      ∙ ap₂ (λ (x y : List ℕ). x ++ (slot_bytes n ++ y)) (front_bytes i (omega arith)) (rest_bytes i h))

  module _ (p last : ℕ) (h : p ≤ last) (k : last < 16) (n : Node) where
    -- a node put in, those from there to before the last moved back
    in_bytes : slots_bytes (take (last + 1) (insert_at p n (slots_at 16 s)) ++ drop (last + 1) (slots_at 16 s))
        ≡ take (p * 51) s ++ (slot_bytes n ++ (take (last * 51 - p * 51) (drop (p * 51) s) ++ drop (last * 51 + 51) s))
    unfolding slots_bytes
    in_bytes =
        let ns = slots_at 16 s in
        let m = slots_number 16 s in
        let moved = take (last - p) (drop p ns) in
        let rest = drop (suc last) ns in
        let nodes : take (last + 1) (insert_at p n ns) ++ drop (last + 1) ns ≡ take p ns ++ (n ∷ (moved ++ rest))
        = rw add-one (ap (λ (x : List Node). x ++ rest) (front_in p last n ns h (omega arith)) ∙ append_assoc (take p ns) (n ∷ moved) rest) in
        ap slots_bytes nodes ∙ slots_append (take p ns) (n ∷ (moved ++ rest))
        ∙ ap₂ (λ (x y : List ℕ). x ++ (slot_bytes n ++ y)) (front_bytes p (omega arith))
        (slots_append moved rest
        ∙ ap₂ (λ (x y : List ℕ). x ++ y)
        (part_bytes p (last - p) (omega arith) ∙ ap (λ (x : ℕ). take x (drop (p * 51) s)) (let e : (last - p) * 51 ≡ last * 51 - p * 51 = omega arith in e))
        (rest_bytes last k))

    pub opened_bytes : (m : List ℕ) → m ≡ moved_back s (last * 51) (p * 51)
        → take (p * 51) m ++ (slot_bytes n ++ drop (p * 51 + 51) m)
        ≡ slots_bytes (take (last + 1) (insert_at p n (slots_at 16 s)) ++ drop (last + 1) (slots_at 16 s))
    opened_bytes m e =
        let front = take (p * 51 + 51) s in
        let rest = take (last * 51 - p * 51) (drop (p * 51) s) ++ drop (last * 51 + 51) s in
        let l = length-take-le (p * 51 + 51) s (omega arith) in
        ap (λ (x : List ℕ). take (p * 51) x ++ (slot_bytes n ++ drop (p * 51 + 51) x)) e
        ∙ ap₂ (λ (x y : List ℕ). x ++ (slot_bytes n ++ y))
        (take-append-le (p * 51) front rest (omega arith) ∙ take-take (p * 51) (p * 51 + 51) s (omega arith))
        (drop_at front rest (p * 51 + 51) l)
        ∙ sym in_bytes

    -- a node taken out, those behind it moved forward, and another node put at the last place
    out_bytes : slots_bytes (take last (remove_at p (slots_at 16 s)) ++ (n ∷ drop (last + 1) (slots_at 16 s)))
        ≡ (take (p * 51) s ++ take (last * 51 - p * 51) (drop (p * 51 + 51) s)) ++ (slot_bytes n ++ drop (last * 51 + 51) s)
    unfolding slots_bytes
    out_bytes =
        let ns = slots_at 16 s in
        let moved = take (last - p) (drop (suc p) ns) in
        slots_append (take last (remove_at p ns)) (n ∷ drop (last + 1) ns)
        ∙ ap₂ (λ (x y : List ℕ). x ++ (slot_bytes n ++ y))
        (ap slots_bytes (front_out p last ns h) ∙ slots_append (take p ns) moved
        ∙ ap₂ (λ (x y : List ℕ). x ++ y) (front_bytes p (omega arith))
        (part_bytes (suc p) (last - p) (omega arith)
        ∙ ap₂ (λ (x y : ℕ). take x (drop y s)) (let e : (last - p) * 51 ≡ last * 51 - p * 51 = omega arith in e) (let e : suc p * 51 ≡ p * 51 + 51 = omega arith in e)))
        (rw add-one (rest_bytes last k))

    pub closed_bytes : (m : List ℕ) → m ≡ moved_forward s (p * 51) (last * 51)
        → take (last * 51) m ++ (slot_bytes n ++ drop (last * 51 + 51) m)
        ≡ slots_bytes (take last (remove_at p (slots_at 16 s)) ++ (n ∷ drop (last + 1) (slots_at 16 s)))
    closed_bytes m e =
        let moved = take (last * 51 - p * 51) (drop (p * 51 + 51) s) in
        let front = take (p * 51) s ++ moved in
        let at = last * 51 in
        ap (λ (x : List ℕ). take at x ++ (slot_bytes n ++ drop (at + 51) x)) (e ∙ sym (append_assoc (take (p * 51) s) moved (drop at s)))
        ∙ ap (λ (x : List ℕ). take at (front ++ drop at s) ++ (slot_bytes n ++ x)) (sym (drop-drop 51 at (front ++ drop at s)))
        ∙ written_part front (slot_bytes n) s at 51 (forward_long s (p * 51) at (omega arith) (omega arith))
        ∙ append_assoc front (slot_bytes n) (drop (at + 51) s)
        ∙ sym out_bytes
