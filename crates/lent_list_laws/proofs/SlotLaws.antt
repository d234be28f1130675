-- Laws of slots: where the parts of one stand, that its bytes and its node are each given back by the other, and the same of slots one behind the
-- other. Assumes nothing.
use mathlib.Core.Path.{◌≡◌, ◌∙◌, refl, sym, ap, ap₂}
use mathlib.Core.List.{List, [], ◌∷◌, ◌++◌, append_assoc, append-nil}
use Prim.Native.Nat.{ℕ, zero, suc, ◌+◌, ◌-◌, ◌*◌, ◌<◌, ◌≤◌, ◌^◌}
use native.Mathlib.Nat.{le_of_suc-le-suc, not-suc-le-zero, add-sub_cancel_left, sub-zero, suc-sub-suc}
use native.Mathlib.Omega.{arith}
use native.Mathlib.Numerals.{add-one}
use lib.ListN.{length, get_or, take, drop, length-append, length-drop}
use lib.Seq.{length-take-le, take_all, take-take, take_at, drop_at, take-add, drop-drop, drop-cons, take-suc}
use Rattle.wire.specs.Numbers.{Bytes, number_of, bytes_of}
use Rattle.wire.proofs.Numbers.{bytes_take, bytes_drop, bytes_of_number, length_bytes_of, number_bytes_of, number_lt}
use Rattle.wire.proofs.Copy.{length_lent, drop_take}
use Rattle.key.specs.Keys.{key_of}
use Rattle.key.proofs.Lent.{key_itself}
use Rattle.node.specs.declared.Node.{Node}
use Rattle.node.specs.Values.{IsNode}
use Rattle.node.proofs.NodeLaws.{same_value}
use Rattle.lent_list_laws.specs.Layout.{slot_at, slots_at, slot_bytes, slots_bytes, EachNode}

-- ---- one slot

module _ (s : List ℕ) (long : length s ≡ 51) where
  port_two : length (take 2 (drop 17 s)) ≡ 2
  port_two = length_lent s 17 2 (omega arith)

  pub port_part : take 8 (take 2 (drop 17 s)) ≡ take 2 (drop 17 s)
  port_part = take_all 8 (take 2 (drop 17 s)) (let e = port_two in omega arith)

  pub port_small : Bytes s → number_of (take 2 (drop 17 s)) < 2 ^ 16
  port_small b = rw port_two at (number_lt (take 2 (drop 17 s)) (bytes_take 2 (drop 17 s) (bytes_drop 17 s b)))

  key_long : length (take 32 (drop 19 s)) ≡ 32
  key_long = length_lent s 19 32 (omega arith)

  pub key_part : key_of (take 32 (drop 19 s)) ≡ take 32 (drop 19 s)
  key_part = key_itself (take 32 (drop 19 s)) key_long

  -- writing the node that was read gives the slot back
  pub slot_of_bytes : Bytes s → slot_bytes (slot_at s) ≡ s
  unfolding slot_bytes slot_at
  slot_of_bytes b =
      let p : bytes_of 2 (number_of (take 2 (drop 17 s))) ≡ take 2 (drop 17 s) =
      ap (λ (k : ℕ). bytes_of k (number_of (take 2 (drop 17 s)))) (sym port_two) ∙ bytes_of_number (take 2 (drop 17 s)) (bytes_take 2 (drop 17 s) (bytes_drop 17 s b)) in
      let q : take 2 (drop 17 s) ++ take 32 (drop 19 s) ≡ take 34 (drop 17 s) =
      ap (λ (l : List ℕ). take 2 (drop 17 s) ++ take 32 l) (sym (drop-drop 2 17 s)) ∙ sym (take-add 2 32 (drop 17 s)) in
      let r : take 16 (drop 1 s) ++ take 34 (drop 17 s) ≡ drop 1 s =
      ap (λ (l : List ℕ). take 16 (drop 1 s) ++ take 34 l) (sym (drop-drop 16 1 s)) ∙ sym (take-add 16 34 (drop 1 s))
      ∙ take_all 50 (drop 1 s) (let d = length-drop 1 s in omega arith) in
      ap (λ (l : List ℕ). get_or s 0 0 ∷ (take 16 (drop 1 s) ++ (l ++ take 32 (drop 19 s)))) p
      ∙ ap (λ (l : List ℕ). get_or s 0 0 ∷ (take 16 (drop 1 s) ++ l)) q ∙ ap (λ (l : List ℕ). get_or s 0 0 ∷ l) r
      ∙ sym (drop-cons s 0 0 (omega arith))

module _ (n : Node) (is : IsNode n) where
  pub length_slot : length (slot_bytes n) ≡ 51
  unfolding slot_bytes
  length_slot =
      let x = length-append n.address (bytes_of 2 n.port ++ n.key.0) in
      let y = length-append (bytes_of 2 n.port) n.key.0 in
      let z = length_bytes_of 2 n.port in
      let a = is.long in
      let k = is.key.long in
      omega arith

  behind_address : drop 16 (n.address ++ (bytes_of 2 n.port ++ n.key.0)) ≡ bytes_of 2 n.port ++ n.key.0
  behind_address = drop_at n.address (bytes_of 2 n.port ++ n.key.0) 16 is.long

  -- reading the slot that was written gives the node back
  pub slot_back : slot_at (slot_bytes n) ≡ n
  unfolding slot_bytes slot_at
  slot_back =
      let x = n.address ++ (bytes_of 2 n.port ++ n.key.0) in
      same_value n.family _ n.address _ n.port _ n.key.0
      (take_at n.address (bytes_of 2 n.port ++ n.key.0) 16 is.long)
      (ap (λ (l : List ℕ). number_of (take 2 l)) behind_address
      ∙ ap number_of (take_at (bytes_of 2 n.port) n.key.0 2 (length_bytes_of 2 n.port)) ∙ number_bytes_of 2 n.port is.port)
      (ap (take 32) (sym (drop-drop 2 16 x)) ∙ ap (λ (l : List ℕ). take 32 (drop 2 l)) behind_address
      ∙ ap (take 32) (drop_at (bytes_of 2 n.port) n.key.0 2 (length_bytes_of 2 n.port))
      ∙ take_all 32 n.key.0 (let k = is.key.long in omega arith))

-- ---- slots one behind the other

-- the part lent at a place is one slot
pub slot_lent : (l : List ℕ) (at : ℕ) → at + 51 ≤ length l → length (take (at + 51 - at) (drop at l)) ≡ 51
slot_lent l at h = ap (λ (k : ℕ). length (take k (drop at l))) (let e : at + 51 - at ≡ 51 = omega arith in e) ∙ length_lent l at 51 h

pub slots_at_lem : (n i : ℕ) (s : List ℕ) (d : Node) → i < n → get_or (slots_at n s) i d ≡ slot_at (take 51 (drop (i * 51) s))
unfolding slots_at
slots_at_lem zero i s d h = absurd (not-suc-le-zero h)
slots_at_lem (suc n) zero s d h = refl
slots_at_lem (suc n) (suc i) s d h =
    slots_at_lem n i (drop 51 s) d (le_of_suc-le-suc h)
    ∙ ap (λ (l : List ℕ). slot_at (take 51 l)) (drop-drop (i * 51) 51 s ∙ ap (λ (k : ℕ). drop k s) (let e : 51 + i * 51 ≡ suc i * 51 = omega arith in e))

pub slots_number : (n : ℕ) (s : List ℕ) → length (slots_at n s) ≡ n
unfolding slots_at
slots_number zero s = refl
slots_number (suc n) s = ap suc (slots_number n (drop 51 s))

-- n slots are told by their bytes alone
pub slots_front : (n : ℕ) (s : List ℕ) → slots_at n (take (n * 51) s) ≡ slots_at n s
unfolding slots_at
slots_front zero s = refl
slots_front (suc n) s =
    let e : suc n * 51 ≡ 51 + n * 51 = omega arith in
    ap (λ (k : ℕ). slot_at (take 51 (take k s)) ∷ slots_at n (drop 51 (take k s))) e
    ∙ ap₂ (λ (x y : List ℕ). slot_at x ∷ slots_at n y) (take-take 51 (51 + n * 51) s (omega arith)) (drop_take 51 (51 + n * 51) s ∙ ap (λ (k : ℕ). take k (drop 51 s)) (add-sub_cancel_left 51 (n * 51)))
    ∙ ap (λ (l : List Node). slot_at (take 51 s) ∷ l) (slots_front n (drop 51 s))

-- some of the slots
pub slots_taken : (n k : ℕ) (s : List ℕ) → k ≤ n → take k (slots_at n s) ≡ slots_at k s
unfolding slots_at
slots_taken n zero s h = refl
slots_taken zero (suc k) s h = absurd (not-suc-le-zero h)
slots_taken (suc n) (suc k) s h = ap (λ (l : List Node). slot_at (take 51 s) ∷ l) (slots_taken n k (drop 51 s) (le_of_suc-le-suc h))

pub slots_dropped : (n k : ℕ) (s : List ℕ) → k ≤ n → drop k (slots_at n s) ≡ slots_at (n - k) (drop (k * 51) s)
unfolding slots_at
slots_dropped n zero s h = rw sub-zero
slots_dropped zero (suc k) s h = absurd (not-suc-le-zero h)
slots_dropped (suc n) (suc k) s h =
    slots_dropped n k (drop 51 s) (le_of_suc-le-suc h)
    ∙ ap₂ slots_at (sym (suc-sub-suc n k)) (drop-drop (k * 51) 51 s ∙ ap (λ (j : ℕ). drop j s) (let e : 51 + k * 51 ≡ suc k * 51 = omega arith in e))

pub slots_append : (a b : List Node) → slots_bytes (a ++ b) ≡ slots_bytes a ++ slots_bytes b
unfolding slots_bytes
slots_append [] b = refl
slots_append (n ∷ a) b =
    ap (λ (l : List ℕ). slot_bytes n ++ l) (slots_append a b) ∙ sym (append_assoc (slot_bytes n) (slots_bytes a) (slots_bytes b))

-- the bytes of one slot more
pub slots_more : (ns : List Node) (i : ℕ) (d : Node) → i < length ns → slots_bytes (take (i + 1) ns) ≡ slots_bytes (take i ns) ++ slot_bytes (get_or ns i d)
unfolding slots_bytes
slots_more ns i d h =
    rw (add-one, take-suc ns i d h)
    (slots_append (take i ns) (get_or ns i d ∷ []) ∙ ap (λ (l : List ℕ). slots_bytes (take i ns) ++ l) (append-nil (slot_bytes (get_or ns i d))))

-- writing the nodes that were read gives the bytes back
pub slots_of_bytes : (n : ℕ) (s : List ℕ) → n * 51 ≤ length s → Bytes s → slots_bytes (slots_at n s) ≡ take (n * 51) s
unfolding slots_bytes slots_at
slots_of_bytes zero s h b = refl
slots_of_bytes (suc n) s h b =
    let d = length-drop 51 s in
    ap₂ (λ (x y : List ℕ). x ++ y) (slot_of_bytes (take 51 s) (length-take-le 51 s (omega arith)) (bytes_take 51 s b))
    (slots_of_bytes n (drop 51 s) (omega arith) (bytes_drop 51 s b))
    ∙ sym (take-add 51 (n * 51) s) ∙ ap (λ (k : ℕ). take k s) (let e : 51 + n * 51 ≡ suc n * 51 = omega arith in e)

-- reading the slots that were written gives the nodes back, whatever stands behind
pub slots_back : (ns : List Node) (rest : List ℕ) → EachNode ns → slots_at (length ns) (slots_bytes ns ++ rest) ≡ ns
unfolding slots_bytes slots_at
slots_back [] rest e = refl
slots_back (n ∷ ns) rest e =
    let a = append_assoc (slot_bytes n) (slots_bytes ns) rest in
    let l = length_slot n e.1 in
    ap₂ (λ (x : Node) (y : List Node). x ∷ y)
    (ap (λ (l : List ℕ). slot_at (take 51 l)) a ∙ ap slot_at (take_at (slot_bytes n) (slots_bytes ns ++ rest) 51 l) ∙ slot_back n e.1)
    (ap (λ (l : List ℕ). slots_at (length ns) (drop 51 l)) a ∙ ap (slots_at (length ns)) (drop_at (slot_bytes n) (slots_bytes ns ++ rest) 51 l) ∙ slots_back ns rest e.2)
