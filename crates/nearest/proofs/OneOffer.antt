-- One offer keeps a list's promise: where it held the k nearest of what was offered, it does so with the new node among them. A case for each
-- effect. Assumes nothing.
use mathlib.Core.Path.{◌≡◌, ◌∙◌, refl, sym, ap, subst}
use mathlib.Core.Bool.{Bool, true, false}
use mathlib.Core.Logic.{◌⊎◌, inl, inr, ⊎_elim}
use mathlib.Core.List.{List, [], ◌∷◌, ◌++◌}
use Prim.Native.Nat.{ℕ, ◌<◌, ◌≤◌}
use native.Mathlib.Omega.{arith}
use lib.Dec.{ltb}
use lib.ListN.{length}
use lib.Seq.{length-take-le}
use borrow.Author.Tests.{ltb-true, ltb-false}
use Rattle.key.specs.Keys.{IsKey, same_key, distance, nearer}
use Rattle.key.proofs.Same.{same_sound}
use Rattle.key.proofs.Cancel.{same_differs, distance_cancels, nearer_lt, not_nearer_le, lt_nearer}
use Rattle.node.specs.declared.Node.{Node}
use Rattle.nearest.specs.Lists.{node_key}
use Rattle.nearest.specs.Effect.{Effect, holds, replace, insert, without, last_key, furthest, effect, after_effect}
use Rattle.nearest.specs.Sequence.{In, Last, Nearest, Keyed}
use Rattle.nearest.proofs.Members.{free_in, in_without, without_in, in_insert, insert_in, length_insert, in_replace, replace_in, replaced_in, length_replace}
use Rattle.nearest.proofs.Order.{far, Up, rising_up, up_rising, up_without, up_replace, replace_keys, up_insert, last_in, last_furthest, without_last}
use Rattle.nearest.proofs.OfferLaws.{effect_replaced, effect_added, effect_put_out, effect_too_far}
use Rattle.nearest.proofs.LastLaws.{last_in_all, last_more, more_last}

module _ (t : List ℕ) (k : ℕ) (past ns : List Node) (n : Node) (ht : IsKey t) (hn : IsKey (node_key n)) (hp : Keyed past) (N : Nearest t k past ns) where
  abbrev now : List Node
  now = past ++ (n ∷ [])

  up : Up t ns
  up = rising_up t ns N.rises

  keyed : Keyed ns
  keyed x i = hp x (last_in_all past x (N.last x i))

  -- no further and of another key is nearer
  strict : (a b : List ℕ) → IsKey a → IsKey b → (a ≡ b → ⊥) → distance t a ≤ distance t b → distance t a < distance t b
  strict a b ha hb d h =
      let ne : distance t a ≡ distance t b → ⊥ = λ e. d (distance_cancels t a b ht ha hb e) in
      omega (arith, h, ne)

  -- ---- replaced

  replaced_keeps : holds (node_key n) ns ≡ true → Nearest t k now (replace n ns)
  replaced_keeps h = record {
    rises = up_rising t (replace n ns) (up_replace t n ns up);
    short = let a = length_replace n ns in let b = N.short in omega arith;
    last = λ x i. last_more past n x (⊎_elim (λ p. inl p) (λ w. inr (N.last x w.0, w.1)) (in_replace n ns x i));
    nearest = λ x l. ⊎_elim (λ p. inl (subst (λ (z : Node). In z (replace n ns)) (sym p) (replaced_in n ns h))) (λ w. other x w.0 w.1) (more_last past n x l);
  }
    where
      other : (x : Node) → Last x past → (node_key x ≡ node_key n → ⊥)
          → In x (replace n ns) ⊎ ((length (replace n ns) ≡ k) × ((m : Node) → In m (replace n ns) → nearer t (node_key m) (node_key x) ≡ true))
      other x l d =
          ⊎_elim (λ i. inl (replace_in n ns x i d))
          (λ w. inr (
            length_replace n ns ∙ w.0,
            λ m i. let q = replace_keys t n ns m i in subst (λ (y : List ℕ). nearer t y (node_key x) ≡ true) q.2 (w.1 q.0 q.1),
          ))
          (N.nearest x l)

  -- ---- not held

  module _ (h : holds (node_key n) ns ≡ false) where
    free : (q : Node) → In q ns → node_key q ≡ node_key n → ⊥
    free = free_in (node_key n) ns h

    added_keeps : length ns < k → Nearest t k now (insert t n ns)
    added_keeps room = record {
      rises = up_rising t (insert t n ns) (up_insert t n ht hn ns keyed up free);
      short = let a = length_insert t n ns in omega arith;
      last = λ x i. last_more past n x (⊎_elim (λ p. inl p) (λ j. inr (N.last x j, free x j)) (in_insert t n ns x i));
      nearest = λ x l. ⊎_elim (λ p. inl (insert_in t n ns x (inl p)))
          (λ w. ⊎_elim (λ i. inl (insert_in t n ns x (inr i))) (λ v. absurd (let a = v.0 in omega arith)) (N.nearest x w.0)) (more_last past n x l);
    }

    too_far_keeps : (m : Node) (ms : List Node) → ns ≡ m ∷ ms → k ≤ length ns → nearer t (node_key n) (last_key m ms) ≡ false → Nearest t k now ns
    too_far_keeps m ms e full f =
        let len : length ns ≡ k = let a = N.short in omega arith in
        let u : Up t (m ∷ ms) = subst (Up t) e up in record {
          rises = N.rises;
          short = N.short;
          last = λ x i. last_more past n x (inr (N.last x i, free x i));
          nearest = λ x l. ⊎_elim
              (λ p. inr (
                len,
                λ q i.
                    let a = last_furthest t m ms u q (subst (In q) e i) in
                    let b = not_nearer_le t (node_key n) (last_key m ms) f in
                    let c = strict (node_key q) (node_key n) (keyed q i) hn (free q i) (omega arith) in
                    lt_nearer t (node_key q) (node_key x) (omega (arith, c, ap (far t) p)),
              ))
              (λ w. N.nearest x w.0) (more_last past n x l);
        }

    -- the furthest gives way
    module _ (m : Node) (ms : List Node) (e : ns ≡ m ∷ ms) (full : k ≤ length ns) (f : nearer t (node_key n) (last_key m ms) ≡ true) where
      abbrev last_key_lem : List ℕ
      last_key_lem = last_key m ms

      abbrev rest : List Node
      rest = without last_key_lem ns

      len : length ns ≡ k
      len = let a = N.short in omega arith

      u : Up t (m ∷ ms)
      u = subst (Up t) e up

      lt : far t n < distance t last_key_lem
      lt = nearer_lt t (node_key n) last_key_lem f

      long : length (insert t n rest) ≡ k
      long =
          let a = ap length (ap (without last_key_lem) e ∙ without_last t m ms u) ∙ length-take-le (length ms) (m ∷ ms) (omega arith) in
          let b = length_insert t n rest in
          let c = ap length e in
          let d = len in
          omega arith

      -- a key further than the last is further than all that are left, and than the new one
      beyond : (x : Node) → distance t last_key_lem ≤ far t x → (q : Node) → In q (insert t n rest) → nearer t (node_key q) (node_key x) ≡ true
      beyond x h q i =
          lt_nearer t (node_key q) (node_key x)
          (⊎_elim (λ (p : q ≡ n). omega (arith, ap (far t) p, lt, h)) (λ (j : In q rest).
          let w = in_without last_key_lem ns q j in
          let a = last_furthest t m ms u q (subst (In q) e w.0) in
          let v = last_in t m ms in
          let s = strict (node_key q) last_key_lem (keyed q w.0) (subst IsKey (sym v.2) (keyed v.0 (subst (In v.0) (sym e) v.1))) w.1 a in
          omega (arith, s, h)) (in_insert t n rest q i))

      other : (x : Node) (b : Bool) → same_key (node_key x) last_key_lem ≡ b → In x ns → In x (insert t n rest)
          ⊎ ((length (insert t n rest) ≡ k) × ((q : Node) → In q (insert t n rest) → nearer t (node_key q) (node_key x) ≡ true))
      other x true s i = inr (long, beyond x (omega (arith, ap (distance t) (same_sound (node_key x) last_key_lem s))))
      other x false s i = inl (insert_in t n rest x (inr (without_in last_key_lem ns x i (same_differs (node_key x) last_key_lem s))))

      further : (x : Node) → ((q : Node) → In q ns → nearer t (node_key q) (node_key x) ≡ true) → distance t last_key_lem ≤ far t x
      further x g =
          let v = last_in t m ms in
          let a = nearer_lt t (node_key v.0) (node_key x) (g v.0 (subst (In v.0) (sym e) v.1)) in
          omega (arith, a, ap (distance t) v.2)

      put_out_keeps : Nearest t k now (insert t n rest)
      put_out_keeps = record {
        rises = up_rising t (insert t n rest)
            (up_insert t n ht hn rest (λ x i. keyed x (in_without last_key_lem ns x i).0) (up_without t last_key_lem ns up) (λ x i. free x (in_without last_key_lem ns x i).0));
        short = let a = long in omega arith;
        last = λ x i. last_more past n x
            (⊎_elim (λ p. inl p) (λ j. let w = in_without last_key_lem ns x j in inr (N.last x w.0, free x w.0)) (in_insert t n rest x i));
        nearest = λ x l. ⊎_elim (λ p. inl (insert_in t n rest x (inl p)))
            (λ w. ⊎_elim (λ i. other x (same_key (node_key x) last_key_lem) refl i) (λ v. inr (long, beyond x (further x v.1))) (N.nearest x w.0)) (more_last past n x l);
      }

  -- ---- any effect

  by_full : (ms : List Node) → ns ≡ ms → 1 ≤ k → k ≤ length ns → holds (node_key n) ns ≡ false → (c : Bool) → nearer t (node_key n) (furthest ns) ≡ c
      → Nearest t k now (after_effect (effect t k n ns) t n ns)
  unfolding furthest after_effect
  by_full [] e one full h c f = absurd (let a = ap length e in omega arith)
  by_full (m ∷ ms) e one full h true f =
      let g : furthest ns ≡ last_key m ms = ap furthest e in
      subst (λ (w : Effect). Nearest t k now (after_effect w t n ns)) (sym (effect_put_out t k n ns h full f))
      (subst (λ (x : List ℕ). Nearest t k now (insert t n (without x ns))) (sym g)
      (put_out_keeps h m ms e full (ap (nearer t (node_key n)) (sym g) ∙ f)))
  by_full (m ∷ ms) e one full h false f =
      let g : furthest ns ≡ last_key m ms = ap furthest e in
      subst (λ (w : Effect). Nearest t k now (after_effect w t n ns)) (sym (effect_too_far t k n ns h full f))
      (too_far_keeps h m ms e full (ap (nearer t (node_key n)) (sym g) ∙ f))

  by_room : 1 ≤ k → (a b : Bool) → holds (node_key n) ns ≡ a → ltb (length ns) k ≡ b → Nearest t k now (after_effect (effect t k n ns) t n ns)
  unfolding after_effect
  by_room one true b h r = subst (λ (w : Effect). Nearest t k now (after_effect w t n ns)) (sym (effect_replaced t k n ns h)) (replaced_keeps h)
  by_room one false true h r =
      let room = ltb-true (length ns) k r in
      subst (λ (w : Effect). Nearest t k now (after_effect w t n ns)) (sym (effect_added t k n ns h room)) (added_keeps h room)
  by_room one false false h r = by_full ns refl one (ltb-false (length ns) k r) h (nearer t (node_key n) (furthest ns)) refl

  pub offer_keeps_nearest : 1 ≤ k → Nearest t k (past ++ (n ∷ [])) (after_effect (effect t k n ns) t n ns)
  offer_keeps_nearest one = by_room one (holds (node_key n) ns) (ltb (length ns) k) refl refl
