-- What each definition over a list of nodes says of one more node. Assumes nothing.
use mathlib.Core.Path.{◌≡◌, ◌∙◌, refl, sym, ap, subst}
use mathlib.Core.Bool.{Bool, ◌&&◌, ◌||◌, not, cond, true, false}
use mathlib.Core.List.{List, [], ◌∷◌}
use Prim.Native.Nat.{ℕ, suc, ◌+◌, ◌<◌, ◌≤◌}
use native.Mathlib.Omega.{arith}
use lib.Dec.{ltb}
use lib.ListN.{length}
use borrow.Author.Tests.{ltb-true, ltb-false}
use Rattle.std.specs.Prelude.{Option, Some, None, MatchOption, unwrap_or}
use Rattle.std.specs.List as list
use Rattle.std.specs.List.{prefix_len}
use Rattle.key.specs.Keys.{same_key, nearer}
use Rattle.lists.specs.Find.{leading, first_of}
use Rattle.lists.proofs.Found.{leading_none, leading_one, leading_le, first_none, first_one}
use Rattle.node.specs.declared.Node.{Node}
use Rattle.node.specs.Families.{known_family}
use Rattle.nearest.specs.Lists.{node_key, all_known, rising, rising_after}
use Rattle.nearest.specs.Effect.{holds, replace, insert, without}
use Rattle.nearest.specs.Slots.{position, index_of}

pub known_none : all_known [] ≡ true
unfolding all_known
known_none = refl

pub known_one : (n : Node) (ns : List Node) (b : Bool) → known_family n.family ≡ b → all_known (n ∷ ns) ≡ (b && all_known ns)
unfolding all_known
known_one n ns b e = ap (λ (x : Bool). x && all_known ns) e

module _ (t : List ℕ) where
  pub after_none : (m : Node) → rising_after t m [] ≡ true
  unfolding rising_after
  after_none m = refl

  pub after_one : (m n : Node) (ns : List Node) (b : Bool) → nearer t (node_key m) (node_key n) ≡ b → rising_after t m (n ∷ ns) ≡ (b && rising_after t n ns)
  unfolding rising_after
  after_one m n ns b e = ap (λ (x : Bool). x && rising_after t n ns) e

  pub rising_none : rising t [] ≡ true
  unfolding rising
  rising_none = refl

  pub rising_one : (n : Node) (ns : List Node) → rising t (n ∷ ns) ≡ rising_after t n ns
  unfolding rising
  rising_one n ns = refl

  pub position_none : (k : List ℕ) → position t k [] ≡ 0
  position_none k = leading_none (λ (m : Node). nearer t (node_key m) k)

  pub position_one : (k : List ℕ) (m : Node) (ms : List Node) (b : Bool) → nearer t (node_key m) k ≡ b
      → position t k (m ∷ ms) ≡ cond b (suc (position t k ms)) 0
  position_one k = leading_one (λ (m : Node). nearer t (node_key m) k)

  pub insert_none : (n : Node) → insert t n [] ≡ n ∷ []
  unfolding insert
  insert_none n = refl

  pub insert_one : (n m : Node) (ms : List Node) (b : Bool) → nearer t (node_key m) (node_key n) ≡ b → insert t n (m ∷ ms) ≡ cond b (m ∷ insert t n ms) (n ∷ m ∷ ms)
  unfolding insert
  insert_one n m ms b e = ap (λ (x : Bool). cond x (m ∷ insert t n ms) (n ∷ m ∷ ms)) e

-- the first that passes a test, as std counts to it
first_prefix : {A : Type 0} (t : A → Bool) (ms : List A) → prefix_len (λ m. not (t m)) ms ≡ first_of t ms
first_prefix t [] = sym (first_none t)
first_prefix t (m ∷ ms) = by (t m) refl (first_prefix t ms)
  where
    by : (b : Bool) → t m ≡ b → prefix_len (λ x. not (t x)) ms ≡ first_of t ms → prefix_len (λ x. not (t x)) (m ∷ ms) ≡ first_of t (m ∷ ms)
    by true e ih = rw e (sym (first_one t m ms true e))
    by false e ih =
        let q : 1 + prefix_len (λ x. not (t x)) ms ≡ suc (prefix_len (λ x. not (t x)) ms) = omega arith in
        rw e (q ∙ ap suc ih ∙ sym (first_one t m ms false e))

passing_counts : {A : Type 0} (t : A → Bool) (ms : List A) → prefix_len (λ m. not (not (t m))) ms ≡ leading t ms
passing_counts t [] = sym (leading_none t)
passing_counts t (m ∷ ms) = by (t m) refl (passing_counts t ms)
  where
    by : (b : Bool) → t m ≡ b → prefix_len (λ x. not (not (t x))) ms ≡ leading t ms → prefix_len (λ x. not (not (t x))) (m ∷ ms) ≡ leading t (m ∷ ms)
    by true e ih =
        let q : 1 + prefix_len (λ x. not (not (t x))) ms ≡ suc (prefix_len (λ x. not (not (t x))) ms) = omega arith in
        rw e (q ∙ ap suc ih ∙ sym (leading_one t m ms true e))
    by false e ih = rw e (sym (leading_one t m ms false e))

-- how many pass a test from the front on, by the first that does not
pub leading_counts : {A : Type 0} (t : A → Bool) (ms : List A) → unwrap_or (list.position (λ m. not (t m)) ms) (length ms) ≡ leading t ms
leading_counts t ms = ap (λ (p : ℕ). unwrap_or (cond (ltb p (length ms)) (Some p) None) (length ms)) (passing_counts t ms) ∙ by (ltb (leading t ms) (length ms)) refl
  where
    by : (b : Bool) → ltb (leading t ms) (length ms) ≡ b → unwrap_or {T = ℕ} (cond b (Some (leading t ms)) None) (length ms) ≡ leading t ms
    by true h = refl
    by false h = let l = leading_le t ms in let k = ltb-false (leading t ms) (length ms) h in omega arith

module _ (k : List ℕ) where
  pub index_none : index_of k [] ≡ 0
  index_none = first_none (λ (m : Node). same_key (node_key m) k)

  pub index_one : (m : Node) (ms : List Node) (b : Bool) → same_key (node_key m) k ≡ b → index_of k (m ∷ ms) ≡ cond b 0 (suc (index_of k ms))
  index_one = first_one (λ (m : Node). same_key (node_key m) k)

  -- where it stands, if anywhere
  pub index_found : (ns : List Node) (r : Option ℕ) → r ≡ list.position (λ (m : Node). same_key (node_key m) k) ns
      → MatchOption r (length ns ≤ index_of k ns) (λ i. (i ≡ index_of k ns) × (i < length ns))
  index_found ns r e =
      subst (λ (x : Option ℕ). MatchOption x (length ns ≤ index_of k ns) (λ i. (i ≡ index_of k ns) × (i < length ns)))
      (sym (e ∙ ap (λ (x : ℕ). cond (ltb x (length ns)) (Some x) None) (first_prefix (λ (m : Node). same_key (node_key m) k) ns)))
      (by (ltb (index_of k ns) (length ns)) refl)
    where
      by : (b : Bool) → ltb (index_of k ns) (length ns) ≡ b
          → MatchOption {T = ℕ} (cond b (Some (index_of k ns)) None) (length ns ≤ index_of k ns) (λ i. (i ≡ index_of k ns) × (i < length ns))
      by true h = (refl, ltb-true (index_of k ns) (length ns) h)
      by false h = ltb-false (index_of k ns) (length ns) h

  pub holds_none : holds k [] ≡ false
  unfolding holds
  holds_none = refl

  pub holds_one : (m : Node) (ms : List Node) (b : Bool) → same_key (node_key m) k ≡ b → holds k (m ∷ ms) ≡ (b || holds k ms)
  unfolding holds
  holds_one m ms b e = ap (λ (x : Bool). x || holds k ms) e

  pub without_none : without k [] ≡ []
  unfolding without
  without_none = refl

  pub without_one : (m : Node) (ms : List Node) (b : Bool) → same_key (node_key m) k ≡ b → without k (m ∷ ms) ≡ cond b (without k ms) (m ∷ without k ms)
  unfolding without
  without_one m ms b e = ap (λ (x : Bool). cond x (without k ms) (m ∷ without k ms)) e

module _ (n : Node) where
  pub replace_none : replace n [] ≡ []
  unfolding replace
  replace_none = refl

  pub replace_one : (m : Node) (ms : List Node) (b : Bool) → same_key (node_key m) (node_key n) ≡ b → replace n (m ∷ ms) ≡ cond b n m ∷ replace n ms
  unfolding replace
  replace_one m ms b e = ap (λ (x : Bool). cond x n m ∷ replace n ms) e
