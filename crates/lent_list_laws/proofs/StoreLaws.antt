-- A list read from memory and put into it, part by part. Assumes nothing.
use mathlib.Core.Path.{◌≡◌, ◌∙◌, refl, sym, ap, ap₂}
use mathlib.Core.List.{List, [], ◌∷◌, ◌++◌}
use Prim.Native.Nat.{ℕ, ◌<◌, ◌≤◌, ◌%◌}
use native.Mathlib.Omega.{arith}
use lib.ListN.{length, get_or, take, drop, set}
use borrow.Author.Tests.{le-leb, lt-leb}
use Rattle.wire.proofs.Copy.{written_first, written_byte, written_part, length_lent, length_written}
use Rattle.key.specs.declared.Key.{Key}
use Rattle.key.specs.Keys.{key_of, with_key}
use Rattle.key.proofs.Lent.{key_itself, with_key_whole}
use Rattle.node.specs.declared.Node.{Node}
use Rattle.node.proofs.WriteLaws.{with_part}
use Rattle.nearest.specs.declared.NearestList.{NearestList}
use Rattle.lent_list_laws.specs.Layout.{slots_at, list_at, list_bytes, slots_bytes, loaded, stored}
use Rattle.lent_list_laws.proofs.SlotLaws.{slots_front}

-- ---- memory too short, and long enough

module _ (l : NearestList) (m : List ℕ) where
  pub stored_short : length m < 850 → stored l m ≡ m
  unfolding stored
  stored_short h = simp (lt-leb 850 (length m) h)

  pub stored_whole : 850 ≤ length m → stored l m ≡ list_bytes l ++ drop 850 m
  unfolding stored
  stored_whole h = simp (le-leb 850 (length m) h)

pub loaded_whole : (m : List ℕ) → 850 ≤ length m → loaded m ≡ list_at m
unfolding loaded
loaded_whole m h = simp (le-leb 850 (length m) h)

-- ---- the parts read

pub list_read : (m : List ℕ) (target : Key) (nodes : List Node) → 850 ≤ length m → target.0 ≡ key_of (take 32 (drop 2 m)) → nodes ≡ slots_at 16 (take 816 (drop 34 m))
    → ◌≡◌ {A = NearestList} (record { target = target; size = get_or m 0 0; count = get_or m 1 0; nodes = nodes }) (list_at m)
unfolding list_at
list_read m target nodes h t n =
    let k : target.0 ≡ take 32 (drop 2 m) = t ∙ key_itself (take 32 (drop 2 m)) (length_lent m 2 32 (omega arith)) in
    ap₂ {C = NearestList} (λ (x : List ℕ) (y : List Node). record { target = record { 0 = x }; size = get_or m 0 0; count = get_or m 1 0; nodes = y }) k
    (n ∙ slots_front 16 (drop 34 m))

-- ---- the parts written

module _ (m target slots : List ℕ) (a b : ℕ) (room : 850 ≤ length m) (long : length target ≡ 32) where
  abbrev numbers : List ℕ
  numbers = set (set m 0 a) 1 b

  put_numbers : numbers ≡ (a ∷ (b ∷ [])) ++ drop 2 m
  put_numbers = ap (λ (l : List ℕ). set l 1 b) (written_first m a (omega arith)) ∙ written_byte (a ∷ []) m 1 b refl (omega arith)

  module _ (new : List ℕ) (t : new ≡ with_key target (take 32 (drop 2 numbers))) where
    abbrev targeted : List ℕ
    targeted = with_part numbers 2 34 new

    put_target : targeted ≡ (a ∷ (b ∷ target)) ++ drop 34 m
    put_target =
        let n : length numbers ≡ length m = ap length put_numbers ∙ length_written (a ∷ (b ∷ [])) m 2 refl (omega arith) in
        let e : new ≡ target = t ∙ with_key_whole target (take 32 (drop 2 numbers)) (length_lent numbers 2 32 (omega arith)) in
        ap (λ (l : List ℕ). with_part l 2 34 new) put_numbers ∙ written_part (a ∷ (b ∷ [])) new m 2 32 refl
        ∙ ap (λ (l : List ℕ). (a ∷ (b ∷ l)) ++ drop 34 m) e

    front_long : length (a ∷ (b ∷ target)) ≡ 34
    front_long = omega arith

    pub length_targeted : length targeted ≡ length m
    length_targeted = ap length put_target ∙ length_written (a ∷ (b ∷ target)) m 34 front_long (omega arith)

    pub put_slots : (last : List ℕ) → last ≡ slots → with_part targeted 34 850 last ≡ (a ∷ (b ∷ (target ++ slots))) ++ drop 850 m
    put_slots last e =
        ap (λ (l : List ℕ). with_part l 34 850 last) put_target ∙ written_part (a ∷ (b ∷ target)) last m 34 816 front_long
        ∙ ap (λ (l : List ℕ). ((a ∷ (b ∷ target)) ++ l) ++ drop 850 m) e

pub list_written : (l : NearestList) (m left : List ℕ) → 850 ≤ length m
    → left ≡ (l.size % 256 ∷ (l.count % 256 ∷ (l.target.0 ++ slots_bytes l.nodes))) ++ drop 850 m → left ≡ stored l m
unfolding list_bytes
list_written l m left h e = e ∙ sym (stored_whole l m h)
