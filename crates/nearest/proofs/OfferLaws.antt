-- What an offer hands back, case by case. Assumes nothing.
use mathlib.Core.Path.{◌≡◌, ◌∙◌, refl, sym, ap, ap₂}
use mathlib.Core.Bool.{Bool, true, false, cond}
use mathlib.Core.Logic.{◌⊎◌, inl, inr}
use mathlib.Core.List.{List, [], ◌∷◌, ◌++◌}
use Prim.Native.Nat.{ℕ, suc, ◌+◌, ◌<◌, ◌≤◌}
use native.Mathlib.Omega.{arith}
use native.Mathlib.Numerals.{add-one}
use lib.Dec.{ltb}
use lib.ListN.{length, get_or, take, drop, set, length-set, take-append-drop}
use lib.Seq.{take-take, get_or-take, length-take-le, set-append_left}
use borrow.Author.Tests.{lt-ltb, le-ltb, ltb-true, ltb-false}
use Rattle.std.specs.Prelude.{Result, Ok, Err}
use Rattle.key.specs.Keys.{IsKey, same_key, nearer}
use Rattle.refusal.specs.declared.Refusal.{Refusal}
use Rattle.refusal.specs.declared.Refusal.TheVariants.{UnknownFamily}
use Rattle.lists.specs.Insert.{insert_at}
use Rattle.lists.proofs.Shift.{length_in, take_more_in}
use Rattle.node.specs.declared.Node.{Node}
use Rattle.node.specs.Families.{known_family}
use Rattle.nearest.specs.declared.NearestList.{NearestList}
use Rattle.nearest.specs.Lists.{node_key, held, holding}
use Rattle.nearest.specs.Effect.{Effect, added, replaced, put_out, too_far, holds, insert, without, furthest, effect, after_effect, kept}
use Rattle.nearest.specs.Calls.{checked, not_offered, effect_on, taken, offer_answer, offered_after, offered}
use Rattle.nearest.specs.Sequence.{In, Keyed}
use Rattle.nearest.specs.Slots.{position}
use Rattle.nearest.proofs.Front.{no_node}
use Rattle.nearest.proofs.Members.{in_free}
use Rattle.nearest.proofs.Order.{Up, rising_up, without_last}
use Rattle.nearest.proofs.Place.{place_le, insert_at_lem, place_front, held_at_place, free_at_place, nearer_than_furthest, behind_furthest}
use Rattle.nearest.proofs.Judge.{whole}
use Rattle.nearest.proofs.Holding.{held_length, holding_more}

-- ---- which effect an offer has

module _ (t : List ℕ) (size : ℕ) (n : Node) (ns : List Node) where
  effect_is : (a b c : Bool) → holds (node_key n) ns ≡ a → ltb (length ns) size ≡ b → nearer t (node_key n) (furthest ns) ≡ c
      → effect t size n ns ≡ cond a replaced (cond b added (cond c (put_out (furthest ns)) too_far))
  unfolding effect
  effect_is a b c p q r = cc

  pub effect_replaced : holds (node_key n) ns ≡ true → effect t size n ns ≡ replaced
  effect_replaced h = effect_is true (ltb (length ns) size) (nearer t (node_key n) (furthest ns)) h refl refl

  module _ (free : holds (node_key n) ns ≡ false) where
    pub effect_added : length ns < size → effect t size n ns ≡ added
    effect_added h = effect_is false true (nearer t (node_key n) (furthest ns)) free (lt-ltb (length ns) size h) refl

    pub effect_put_out : size ≤ length ns → nearer t (node_key n) (furthest ns) ≡ true → effect t size n ns ≡ put_out (furthest ns)
    effect_put_out h k = effect_is false false true free (le-ltb (length ns) size h) k

    pub effect_too_far : size ≤ length ns → nearer t (node_key n) (furthest ns) ≡ false → effect t size n ns ≡ too_far
    effect_too_far h k = effect_is false false false free (le-ltb (length ns) size h) k

-- ---- a full list, by the place of the key

module _ (t : List ℕ) (size : ℕ) (n : Node) (ht : IsKey t) (hn : IsKey (node_key n)) where
  full_nearer : (ns : List Node) → Up t ns → Keyed ns → ((q : Node) → In q ns → node_key q ≡ node_key n → ⊥) → size ≤ length ns
      → position t (node_key n) ns < length ns
      → (effect t size n ns ≡ put_out (furthest ns)) × (insert t n (without (furthest ns) ns) ≡ take (length ns) (insert_at (position t (node_key n) ns) n ns))
  unfolding furthest
  full_nearer [] u hs d f h = absurd (omega arith)
  full_nearer (m ∷ ms) u hs d f h = (
    effect_put_out t size n (m ∷ ms) (in_free (node_key n) (m ∷ ms) d) f (nearer_than_furthest t n m ms u ht hn hs d h),
    ap (insert t n) (without_last t m ms u)
        ∙ insert_at_lem t n (take (length ms) (m ∷ ms))
        ∙ ap (λ (p : ℕ). insert_at p n (take (length ms) (m ∷ ms))) (place_front t n (m ∷ ms) (length ms) (omega arith))
        ∙ sym (take_more_in (position t (node_key n) (m ∷ ms)) (length ms) n (m ∷ ms) (omega arith) (omega arith)),
  )

  full_further : (ns : List Node) → Up t ns → ((q : Node) → In q ns → node_key q ≡ node_key n → ⊥) → 1 ≤ length ns → size ≤ length ns
      → length ns ≤ position t (node_key n) ns → effect t size n ns ≡ too_far
  unfolding furthest
  full_further [] u d o f h = absurd (omega arith)
  full_further (m ∷ ms) u d o f h =
      effect_too_far t size n (m ∷ ms) (in_free (node_key n) (m ∷ ms) d) f (behind_furthest t n m ms u h)

-- ---- what is handed back

module _ (l : NearestList) (n : Node) where
  pub offer_refused : (why : Refusal) → checked l ≡ Err why → not_offered l why ≡ offered l n
  unfolding offered offered_after
  offer_refused why e = sym (ap (λ (a : Result (Unit {0}) Refusal). offered_after a l n) e)

  by_family : (b : Bool) → checked l ≡ Ok tt → known_family n.family ≡ b → offered l n ≡ cond b (taken l n) (not_offered l UnknownFamily)
  unfolding offered offered_after
  by_family b e f = ap (λ (a : Result (Unit {0}) Refusal). offered_after a l n) e ∙ ap (λ (x : Bool). cond x (taken l n) (not_offered l UnknownFamily)) f

  pub offer_unknown : checked l ≡ Ok tt → known_family n.family ≡ false → not_offered l UnknownFamily ≡ offered l n
  offer_unknown e f = sym (by_family false e f)

  pub offer_taken : checked l ≡ Ok tt → known_family n.family ≡ true → offered l n ≡ taken l n
  offer_taken e f = by_family true e f

  -- by its effect
  pub taken_by : (w : Effect) → effect_on l n ≡ w
      → taken l n ≡ record { list = holding l (after_effect w l.target.0 n (held l)); answer = offer_answer (kept w) }
  unfolding taken
  taken_by w e = ap (λ (x : Effect). record { list = holding l (after_effect x l.target.0 n (held l)); answer = offer_answer (kept x) }) e

-- what is known of an offer that is not refused, once the place of its key is found
pub record AtPlace (l : NearestList) (n : Node) (p : ℕ) : Type 0 where
  pub stands : checked l ≡ Ok tt
  pub family : known_family n.family ≡ true
  pub slots : length l.nodes ≡ 16
  pub target_key : IsKey l.target.0
  pub new_key : IsKey (node_key n)
  pub held_keys : Keyed (held l)
  pub place : p ≡ position l.target.0 (node_key n) (held l)

module _ (l : NearestList) (n : Node) (p : ℕ) (a : AtPlace l n p) where
  abbrev t : List ℕ
  t = l.target.0

  pub count_small : l.count ≤ 16
  count_small = let w = whole l a.stands in let x = w.within in let y = w.small in omega arith

  fits : l.count ≤ length l.nodes
  fits = let w = count_small in let x = a.slots in omega arith

  long : length (held l) ≡ l.count
  long = held_length l fits

  up : Up t (held l)
  up = rising_up t (held l) (whole l a.stands).rises

  pub place_within : p ≤ l.count
  place_within = let h = place_le t n (held l) in let k = long in let q = a.place in omega arith

  -- what is to be shown: the effect, and the slots once it is done
  shown : (w : Effect) → effect_on l n ≡ w → (c : ℕ) (ns h : List Node) → after_effect w t n (held l) ≡ h → c ≡ length h → l.count ≤ c
      → ns ≡ h ++ drop c l.nodes
      → record { list = record { target = l.target; size = l.size; count = c; nodes = ns }; answer = offer_answer (kept w) } ≡ offered l n
  shown w q c ns h r k o m =
      ap (λ (x : NearestList). record { list = x; answer = offer_answer (kept w) }) (holding_more l fits h c ns k o m ∙ ap (holding l) (sym r))
      ∙ sym (offer_taken l n a.stands a.family ∙ taken_by l n w q)

  pub offer_replaced : p < l.count → same_key (node_key (get_or l.nodes p no_node)) (node_key n) ≡ true
      → record { list = record { target = l.target; size = l.size; count = l.count; nodes = set l.nodes p n }; answer = Ok true } ≡ offered l n
  unfolding kept after_effect
  offer_replaced h s =
      let k : p < length (held l) = let m = long in omega arith in
      let z : same_key (node_key (get_or (held l) p no_node)) (node_key n) ≡ true = rw (get_or-take l.count l.nodes p no_node h) s in
      let w = held_at_place t n (held l) p up (sym a.place) k z in
      shown replaced (effect_replaced t l.size n (held l) w.0) l.count (set l.nodes p n) (set (held l) p n) w.1
      (sym (length-set (held l) p n ∙ long)) (omega arith)
      (ap (λ (x : List Node). set x p n) (sym (take-append-drop l.count l.nodes)) ∙ set-append_left (held l) (drop l.count l.nodes) p n k)

  -- the key does not stand at its place, so it is not held
  module _ (fresh : (l.count ≤ p) ⊎ (same_key (node_key (get_or l.nodes p no_node)) (node_key n) ≡ false)) where
    none : (q : Node) → In q (held l) → node_key q ≡ node_key n → ⊥
    none = free_at_place t n (held l) p up (sym a.place) (by_held fresh)
      where
        by_held : (l.count ≤ p) ⊎ (same_key (node_key (get_or l.nodes p no_node)) (node_key n) ≡ false)
            → (length (held l) ≤ p) ⊎ (same_key (node_key (get_or (held l) p no_node)) (node_key n) ≡ false)
        by_held (inl h) = inl (let m = long in omega arith)
        by_held (inr s) = split (ltb p l.count) refl
          where
            split : (b : Bool) → ltb p l.count ≡ b → (length (held l) ≤ p) ⊎ (same_key (node_key (get_or (held l) p no_node)) (node_key n) ≡ false)
            split true q = inr (rw (get_or-take l.count l.nodes p no_node (ltb-true p l.count q)) s)
            split false q = inl (let m = long in let k = ltb-false p l.count q in omega arith)

    pub offer_added : l.count < l.size → (ns : List Node) → ns ≡ take (l.count + 1) (insert_at p n l.nodes) ++ drop (l.count + 1) l.nodes
        → record { list = record { target = l.target; size = l.size; count = l.count + 1; nodes = ns }; answer = Ok true } ≡ offered l n
    unfolding kept after_effect
    offer_added h ns e =
        let g = fits in
        let d = long in
        let m = length_in p n l.nodes in
        shown added (effect_added t l.size n (held l) (in_free (node_key n) (held l) none) (omega arith)) (l.count + 1) ns (take (l.count + 1) (insert_at p n l.nodes))
        (insert_at_lem t n (held l) ∙ ap (λ (x : ℕ). insert_at x n (held l)) (sym a.place) ∙ sym (take_more_in p l.count n l.nodes place_within g)
        ∙ ap (λ (x : ℕ). take x (insert_at p n l.nodes)) (sym (add-one l.count)))
        (sym (length-take-le (l.count + 1) (insert_at p n l.nodes) (omega arith))) (omega arith) e

    pub offer_put_out : l.size ≤ l.count → p < l.count
        → (ns : List Node) → ns ≡ take l.count (insert_at p n l.nodes) ++ drop l.count l.nodes
        → record { list = record { target = l.target; size = l.size; count = l.count; nodes = ns }; answer = Ok true } ≡ offered l n
    unfolding kept after_effect
    offer_put_out full h ns e =
        let g = fits in
        let d = long in
        let m = length_in p n l.nodes in
        let q = a.place in
        let w = full_nearer t l.size n a.target_key a.new_key (held l) up a.held_keys none (omega arith) (omega arith) in
        shown (put_out (furthest (held l))) w.0 l.count ns (take l.count (insert_at p n l.nodes))
        (w.1 ∙ ap₂ (λ (x y : ℕ). take x (insert_at y n (held l))) d (sym q)
        ∙ ap (take l.count) (sym (take_more_in p l.count n l.nodes place_within g)) ∙ take-take l.count (suc l.count) (insert_at p n l.nodes) (omega arith))
        (sym (length-take-le l.count (insert_at p n l.nodes) (omega arith))) (omega arith) e

    pub offer_too_far : l.size ≤ l.count → l.count ≤ p → record { list = l; answer = Ok false } ≡ offered l n
    unfolding kept after_effect
    offer_too_far full h =
        let w = (whole l a.stands).some_room in
        let d = long in
        let q = a.place in
        shown too_far (full_further t l.size n a.target_key a.new_key (held l) up none (omega arith) (omega arith) (omega arith)) l.count l.nodes (held l)
        refl (sym d) (omega arith) (sym (take-append-drop l.count l.nodes))
