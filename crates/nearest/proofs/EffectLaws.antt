-- What an offer's effect tells: the answer is yes exactly when the key offered is held after it, and a key held before it is missing after it exactly
-- when the effect names it. Assumes nothing.
use mathlib.Core.Path.{◌≡◌, ◌∙◌, refl, sym, ap, subst}
use mathlib.Core.Bool.{Bool, true, false}
use mathlib.Core.Logic.{inl, inr, ⊎_elim}
use mathlib.Core.List.{List}
use Prim.Native.Nat.{ℕ}
use native.Mathlib.Omega.{arith}
use lib.Dec.{ltb}
use lib.ListN.{length}
use borrow.Author.Tests.{ltb-true, ltb-false}
use Rattle.std.specs.Prelude.{Ok}
use Rattle.nearest.specs.declared.Answered.{Answered}
use Rattle.key.specs.Keys.{same_key, nearer}
use Rattle.key.proofs.Same.{same_sound}
use Rattle.key.proofs.Cancel.{same_differs}
use Rattle.node.specs.declared.Node.{Node}
use Rattle.node.specs.Families.{known_family}
use Rattle.nearest.specs.declared.NearestList.{NearestList}
use Rattle.nearest.specs.Lists.{node_key, held}
use Rattle.nearest.specs.Effect.{Effect, added, replaced, put_out, too_far, holds, replace, insert, without, furthest, effect, after_effect, kept}
use Rattle.nearest.specs.Calls.{checked, offer_answer, effect_on, offered}
use Rattle.nearest.specs.Sequence.{In}
use Rattle.nearest.proofs.Members.{never, held_by, in_holds, in_free, free_in, in_without, without_in, in_insert, insert_in, replace_in, replaced_in}
use Rattle.nearest.proofs.Holding.{held_holding}
use Rattle.nearest.proofs.OfferLaws.{effect_replaced, effect_added, effect_put_out, effect_too_far, offer_taken, taken_by}

-- only `put_out` puts out a key
added_not : (j : List ℕ) → added ≡ put_out j → ⊥
added_not j e = let z : ◌≡◌ {A = ℕ} 0 1 = cc in omega arith

replaced_not : (j : List ℕ) → replaced ≡ put_out j → ⊥
replaced_not j e = let z : ◌≡◌ {A = ℕ} 0 1 = cc in omega arith

too_far_not : (j : List ℕ) → too_far ≡ put_out j → ⊥
too_far_not j e = let z : ◌≡◌ {A = ℕ} 0 1 = cc in omega arith

same_put_out : (i j : List ℕ) → put_out i ≡ put_out j → i ≡ j
same_put_out i j e = cc

-- ---- yes exactly when the key offered is held

module _ (t : List ℕ) (size : ℕ) (n : Node) (ns : List Node) where
  abbrev Says : Effect → Type 0
  Says w = kept w ≡ holds (node_key n) (after_effect w t n ns)

  says : (a b c : Bool) → holds (node_key n) ns ≡ a → ltb (length ns) size ≡ b → nearer t (node_key n) (furthest ns) ≡ c → Says (effect t size n ns)
  unfolding kept after_effect
  says true b c p q r =
      subst Says (sym (effect_replaced t size n ns p)) (sym (in_holds (node_key n) (replace n ns) n (replaced_in n ns p) refl))
  says false true c p q r =
      subst Says (sym (effect_added t size n ns p (ltb-true (length ns) size q)))
      (sym (in_holds (node_key n) (insert t n ns) n (insert_in t n ns n (inl refl)) refl))
  says false false true p q r =
      subst Says (sym (effect_put_out t size n ns p (ltb-false (length ns) size q) r))
      (sym (in_holds (node_key n) (insert t n (without (furthest ns) ns)) n (insert_in t n (without (furthest ns) ns) n (inl refl)) refl))
  says false false false p q r = subst Says (sym (effect_too_far t size n ns p (ltb-false (length ns) size q) r)) (sym p)

  pub kept_is_held : kept (effect t size n ns) ≡ holds (node_key n) (after_effect (effect t size n ns) t n ns)
  kept_is_held = says (holds (node_key n) ns) (ltb (length ns) size) (nearer t (node_key n) (furthest ns)) refl refl refl

-- ---- missing exactly when put out

module _ (t : List ℕ) (size : ℕ) (n : Node) (ns : List Node) (k : List ℕ) (was : holds k ns ≡ true) where
  abbrev after : Effect → List Node
  after w = after_effect w t n ns

  -- the two directions at one effect
  abbrev Tells : Effect → Type 0
  Tells w = (holds k (after w) ≡ false → w ≡ put_out k) × (w ≡ put_out k → holds k (after w) ≡ false)

  -- an effect after which the key is still held
  stays : (w : Effect) → ((j : List ℕ) → w ≡ put_out j → ⊥) → holds k (after w) ≡ true → Tells w
  stays w d h = (λ g. never (holds k (after w)) h g, λ e. absurd (d k e))

  after_replaced : holds (node_key n) ns ≡ true → Tells replaced
  unfolding after_effect
  after_replaced h = stays replaced replaced_not (let q = held_by k ns was in by q.0 q.1 q.2 (same_key (node_key q.0) (node_key n)) refl)
    where
      by : (q : Node) → In q ns → node_key q ≡ k → (b : Bool) → same_key (node_key q) (node_key n) ≡ b → holds k (replace n ns) ≡ true
      by q i e true s = in_holds k (replace n ns) n (replaced_in n ns h) (sym (same_sound (node_key q) (node_key n) s) ∙ e)
      by q i e false s = in_holds k (replace n ns) q (replace_in n ns q i (same_differs (node_key q) (node_key n) s)) e

  after_added : Tells added
  unfolding after_effect
  after_added = let q = held_by k ns was in stays added added_not (in_holds k (insert t n ns) q.0 (insert_in t n ns q.0 (inr q.1)) q.2)

  after_too_far : Tells too_far
  unfolding after_effect
  after_too_far = stays too_far too_far_not was

  after_put_out : (j : List ℕ) → holds (node_key n) ns ≡ false → Tells (put_out j)
  unfolding after_effect
  after_put_out j h = (
    λ g. let q = held_by k ns was in by q.0 q.1 q.2 g (same_key (node_key q.0) j) refl,
    λ e. in_free k (insert t n (without j ns)) (λ x i z. ⊎_elim
        (λ (p : x ≡ n). let q = held_by k ns was in free_in (node_key n) ns h q.0 q.1 (q.2 ∙ sym z ∙ ap node_key p))
        (λ (i' : In x (without j ns)). (in_without j ns x i').1 (z ∙ sym (same_put_out j k e))) (in_insert t n (without j ns) x i)),
  )
    where
      by : (q : Node) → In q ns → node_key q ≡ k → holds k (insert t n (without j ns)) ≡ false → (b : Bool) → same_key (node_key q) j ≡ b → put_out j ≡ put_out k
      by q i e g true s = ap put_out (sym (same_sound (node_key q) j s) ∙ e)
      by q i e g false s =
          absurd (free_in k (insert t n (without j ns)) g q (insert_in t n (without j ns) q (inr (without_in j ns q i (same_differs (node_key q) j s)))) e)

  by_tests : (a b c : Bool) → holds (node_key n) ns ≡ a → ltb (length ns) size ≡ b → nearer t (node_key n) (furthest ns) ≡ c → Tells (effect t size n ns)
  by_tests true b c p q r = subst Tells (sym (effect_replaced t size n ns p)) (after_replaced p)
  by_tests false true c p q r = subst Tells (sym (effect_added t size n ns p (ltb-true (length ns) size q))) after_added
  by_tests false false true p q r = subst Tells (sym (effect_put_out t size n ns p (ltb-false (length ns) size q) r)) (after_put_out (furthest ns) p)
  by_tests false false false p q r = subst Tells (sym (effect_too_far t size n ns p (ltb-false (length ns) size q) r)) after_too_far

  tells : Tells (effect t size n ns)
  tells = by_tests (holds (node_key n) ns) (ltb (length ns) size) (nearer t (node_key n) (furthest ns)) refl refl refl

  pub missing_was_put_out : holds k (after_effect (effect t size n ns) t n ns) ≡ false → effect t size n ns ≡ put_out k
  missing_was_put_out = tells.0

  pub put_out_is_missing : effect t size n ns ≡ put_out k → holds k (after_effect (effect t size n ns) t n ns) ≡ false
  put_out_is_missing = tells.1

-- ---- the same of lists

module _ (l : NearestList) (n : Node) (e : checked l ≡ Ok tt) (f : known_family n.family ≡ true) where
  pub held_offered : held (offered l n).list ≡ after_effect (effect_on l n) l.target.0 n (held l)
  held_offered =
      ap (λ (x : Answered Bool). held x.list) (offer_taken l n e f ∙ taken_by l n (effect_on l n) refl)
      ∙ held_holding l (after_effect (effect_on l n) l.target.0 n (held l))

  pub answer_is_held : (offered l n).answer ≡ offer_answer (holds (node_key n) (held (offered l n).list))
  answer_is_held =
      ap (λ (x : Answered Bool). x.answer) (offer_taken l n e f ∙ taken_by l n (effect_on l n) refl)
      ∙ ap offer_answer (kept_is_held l.target.0 l.size n (held l) ∙ ap (holds (node_key n)) (sym held_offered))

  module _ (k : List ℕ) (was : holds k (held l) ≡ true) where
    pub lost_was_put_out : holds k (held (offered l n).list) ≡ false → effect_on l n ≡ put_out k
    lost_was_put_out h = missing_was_put_out l.target.0 l.size n (held l) k was (ap (holds k) (sym held_offered) ∙ h)

    pub put_out_is_lost : effect_on l n ≡ put_out k → holds k (held (offered l n).list) ≡ false
    put_out_is_lost h = ap (holds k) held_offered ∙ put_out_is_missing l.target.0 l.size n (held l) k was h
