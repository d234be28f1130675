-- The slots of a list one behind the other, as the parts of their bytes: what a chain over the parts answers is what the definition answers of the nodes.
-- Assumes nothing.
use Rattle.std.proofs.Common.{◌≡◌, ◌∙◌, refl, sym, ap, ap₂, subst, Bool, true, false, cond, not, ◌&&◌, ltb, ℕ, zero, suc, ◌+◌, ◌-◌, ◌*◌, ◌/◌, ◌<◌, ◌≤◌, List, [], ◌∷◌, ◌++◌, length, take, drop, get_or, Some, None, position, arith}
use denote.Ref.{Bor}
use native.Mathlib.Nat.{le_of_suc-le-suc, not-suc-le-zero}
use lib.ListN.{length-append, length-drop}
use lib.Seq.{length-take-le, take_at, drop_at}
use Rattle.std.specs.Iterator.{AlwaysYields}
use Rattle.std.specs.List.{list_all, prefix_len, range_with_len}
use Rattle.std.specs.Slice.Iter.{chunks_exact_rest, chunks_exact_size, chunks_exact_steps}
use Rattle.std.proofs.lemmas.Iterator.{YieldsList}
use Rattle.key.specs.Keys.{same_key, nearer, key_of}
use Rattle.key.proofs.Lent.{key_itself}
use Rattle.node.specs.declared.Node.{Node}
use Rattle.node.specs.Families.{known_family}
use Rattle.nearest.specs.Lists.{node_key, all_known, rising}
use Rattle.nearest.proofs.Front.{no_node}
use Rattle.nearest.proofs.Order.{neighbours_decide}
use Rattle.lent_list_laws.specs.Layout.{slot_at, slots_at}
use Rattle.lent_list_laws.proofs.SlotLaws.{slots_number, key_part}
use Rattle.lent_list_laws.proofs.PartLaws.{key_lent}

abbrev pub parts : ℕ → List ℕ → List (List ℕ)
parts zero s = []
parts (suc n) s = take 51 s ∷ parts n (drop 51 s)

-- `chunks_exact` shows them
yields : (n : ℕ) (s : _) → chunks_exact_size {T = ℕ} s ≡ 51 → n * 51 ≤ length (chunks_exact_rest s) → length (chunks_exact_rest s) < n * 51 + 51
    → AlwaysYields (chunks_exact_steps {A = ℕ}) (λ (y : Bor (List ℕ)). y.now) s (parts n (chunks_exact_rest s))
yields zero s z lo hi =
    λ x j w. omega (arith, ap length w.1.0, length-append x.now (chunks_exact_rest j), w.1.1)
yields (suc n) s z lo hi = (
  λ j w. omega (arith, w.1.0),
  λ x j w.
      let e : chunks_exact_rest s ≡ x.now ++ chunks_exact_rest j = w.1.0 in
      let l : length x.now ≡ 51 = w.1.1 ∙ z in
      let d : chunks_exact_rest j ≡ drop 51 (chunks_exact_rest s) = sym (ap (drop 51) e ∙ drop_at x.now (chunks_exact_rest j) 51 l) in
      let m = length-drop 51 (chunks_exact_rest s) in
      let k = ap length d in (
        sym (ap (take 51) e ∙ take_at x.now (chunks_exact_rest j) 51 l),
        subst (λ (r : List ℕ). AlwaysYields (chunks_exact_steps {A = ℕ}) (λ (y : Bor (List ℕ)). y.now) j (parts n r)) d
            (yields n j (w.0 ∙ z) (omega arith) (omega arith)),
      ),
)

pub YieldsList-parts : {s : _} (xs : List ℕ) → chunks_exact_rest {T = ℕ} s ≡ xs → chunks_exact_size s ≡ 51
    → YieldsList (chunks_exact_steps {A = ℕ}) (λ (y : Bor (List ℕ)). y.now) s (parts (length xs / 51) xs)
YieldsList-parts {s} xs e z =
    record {
      runs = subst (λ (r : List ℕ). AlwaysYields (chunks_exact_steps {A = ℕ}) (λ (y : Bor (List ℕ)). y.now) s (parts (length r / 51) r)) e
          (yields (length (chunks_exact_rest s) / 51) s z (omega arith) (omega arith));
    }

-- ---- a test of the parts, and of the nodes

pub all_parts : (n : ℕ) (s : List ℕ) → list_all (λ (part : List ℕ). known_family (get_or part 0 0)) (parts n s) ≡ all_known (slots_at n s)
unfolding all_known slots_at slot_at
all_parts zero s = refl
all_parts (suc n) s = ap (λ (x : Bool). known_family (get_or (take 51 s) 0 0) && x) (all_parts n (drop 51 s))

parts_number : (n : ℕ) (s : List ℕ) → length (parts n s) ≡ n
parts_number zero s = refl
parts_number (suc n) s = ap suc (parts_number n (drop 51 s))

module _ (test : List ℕ → Bool) (of : Node → Bool) (same : (part : List ℕ) → length part ≡ 51 → test part ≡ of (slot_at part)) where
  first_part : (n : ℕ) (s : List ℕ) → n * 51 ≤ length s → prefix_len (λ (x : List ℕ). not (test x)) (parts n s) ≡ prefix_len (λ (m : Node). not (of m)) (slots_at n s)
  unfolding slots_at
  first_part zero s h = refl
  first_part (suc n) s h =
      ap₂ (λ (b : Bool) (k : ℕ). cond (not b) (1 + k) 0) (same (take 51 s) (length-take-le 51 s (omega arith)))
      (first_part n (drop 51 s) (let d = length-drop 51 s in omega arith))

  pub position_parts : (s : List ℕ) → position test (parts (length s / 51) s) ≡ position of (slots_at (length s / 51) s)
  position_parts s =
      ap₂ (λ (p l : ℕ). cond (ltb p l) (Some p) None) (first_part (length s / 51) s (omega arith)) (parts_number (length s / 51) s ∙ sym (slots_number (length s / 51) s))

-- the test of the key in a part
pub nearer_part : (target key : List ℕ) → length target ≡ 32 → length key ≡ 32 → (part : List ℕ) → length part ≡ 51
    → not (nearer (key_of target) (key_of (take 32 (drop 19 part))) (key_of key)) ≡ not (nearer target (node_key (slot_at part)) key)
unfolding slot_at
nearer_part target key t k part l =
    ap not
    (ap₂ (λ (x y : List ℕ). nearer x y (key_of key)) (key_itself target t) (key_part part l)
    ∙ ap (λ (x : List ℕ). nearer target (take 32 (drop 19 part)) x) (key_itself key k))

pub same_part : (key : List ℕ) → length key ≡ 32 → (part : List ℕ) → length part ≡ 51
    → same_key (key_of (take 32 (drop 19 part))) (key_of key) ≡ same_key (node_key (slot_at part)) key
unfolding slot_at
same_part key k part l = ap₂ same_key (key_part part l) (key_itself key k)

-- ---- neighbours

-- a test that all numbers of a range pass, of one of them
pub all_in_range : (p : ℕ → Bool) (a n : ℕ) → list_all p (range_with_len a n) ≡ true → (i k : ℕ) → k < n → i ≡ a + k → p i ≡ true
all_in_range p a zero h i k l e = absurd (not-suc-le-zero l)
all_in_range p a (suc n) h i k l e = by (p a) refl h k l e (λ g j m f. all_in_range p (a + 1) n g i j m f)
  where
    by : (b : Bool) → p a ≡ b → (b && list_all p (range_with_len (a + 1) n)) ≡ true → (k : ℕ) → k < suc n → i ≡ a + k
        → (list_all p (range_with_len (a + 1) n) ≡ true → (j : ℕ) → j < n → i ≡ a + 1 + j → p i ≡ true) → p i ≡ true
    by false q g k l e more = cc
    by true q g zero l e more = ap p (let z : i ≡ a = omega arith in z) ∙ q
    by true q g (suc k) l e more = more g k (le_of_suc-le-suc l) (omega arith)

-- one that a number of a range does not pass
pub some_in_range : (p : ℕ → Bool) (a n : ℕ) → list_all p (range_with_len a n) ≡ false → (k : ℕ) × (k < n) × (p (a + k) ≡ false)
some_in_range p a zero h = cc
some_in_range p a (suc n) h = by (p a) refl h (some_in_range p (a + 1) n)
  where
    by : (b : Bool) → p a ≡ b → (b && list_all p (range_with_len (a + 1) n)) ≡ false
        → (list_all p (range_with_len (a + 1) n) ≡ false → (k : ℕ) × (k < n) × (p (a + 1 + k) ≡ false)) → (k : ℕ) × (k < suc n) × (p (a + k) ≡ false)
    by false q g more = (0, omega arith, ap p (let z : a + 0 ≡ a = omega arith in z) ∙ q)
    by true q g more = let w = more g in let l = w.1 in (suc w.0, omega arith, ap p (let z : a + suc w.0 ≡ a + 1 + w.0 = omega arith in z) ∙ w.2)

module _ (target s : List ℕ) (t : length target ≡ 32) where
  abbrev pub before : ℕ → Bool
  before i = nearer (key_of target) (key_of (take 32 (drop ((i - 1) * 51 + 19) s))) (key_of (take 32 (drop (i * 51 + 19) s)))

  abbrev nodes : List Node
  nodes = slots_at (length s / 51) s

  neighbour : (k i : ℕ) → i ≡ k + 1 → i < length s / 51 → before i ≡ nearer target (node_key (get_or nodes k no_node)) (node_key (get_or nodes (k + 1) no_node))
  neighbour k i e h =
      let back : i - 1 ≡ k = omega arith in
      ap₂ (λ (x : List ℕ) (y : ℕ). nearer x (key_of (take 32 (drop (y * 51 + 19) s))) (key_of (take 32 (drop (i * 51 + 19) s)))) (key_itself target t) back
      ∙ ap₂ (nearer target) (key_lent (length s / 51) k s no_node (omega arith) (omega arith) _ refl) (key_lent (length s / 51) i s no_node h (omega arith) _ refl)
      ∙ ap (λ (x : ℕ). nearer target (node_key (get_or nodes k no_node)) (node_key (get_or nodes x no_node))) e

  pub rising_parts : (b : Bool) → (b ≡ true → (i : ℕ) → 1 ≤ i → i < length s / 51 → before i ≡ true)
      → (b ≡ false → (i : ℕ) × (1 ≤ i) × (i < length s / 51) × (before i ≡ false)) → b ≡ rising target nodes
  rising_parts b every some =
      let n = slots_number (length s / 51) s in
      neighbours_decide target b nodes
      (λ e k h. sym (neighbour k (k + 1) refl (omega arith)) ∙ every e (k + 1) (omega arith) (omega arith))
      (λ e. let w = some e in let lo = w.1 in let hi = w.2 in (w.0 - 1, omega arith, sym (neighbour (w.0 - 1) w.0 (omega arith) hi) ∙ w.3))
