-- The nearest list keeps what document 01 promises of it.
--
-- Take the list that `begin` returns for a target and any size from 1 to 16, and offer any nodes to it, one after the other, each to the list that
-- the last offer handed back; nodes of unknown family may be among them, and are refused with 15 and change nothing. Then the list holds exactly
-- the `size` nearest of the distinct keys that were offered without refusal, nearest first, each with the last node so offered, or all of them
-- when they are fewer; and the slots behind them are blank.
--
-- `offers` is the fold of `offered`, which is what `NearestList::offer` is proved to return. What `Nearest` says leaves nothing free: `Unique`
-- shows that. The only hypotheses are that the keys are keys, 32 bytes each.
--
-- The idea: each offer keeps the promise (`OneOffer`), so the fold does. Assumes nothing.
use mathlib.Core.Path.{◌≡◌, ◌∙◌, refl, sym, ap, ap₂, subst}
use mathlib.Core.Bool.{Bool, true, false, cond}
use mathlib.Core.Logic.{inl, inr, ⊎_elim}
use mathlib.Core.List.{List, [], ◌∷◌, ◌++◌, append-nil, append_assoc}
use Prim.Native.Nat.{ℕ, ◌≤◌}
use native.Mathlib.Omega.{arith}
use Rattle.nearest.specs.declared.Answered.{Answered}
use Rattle.key.specs.declared.Key.{Key}
use Rattle.key.specs.Keys.{IsKey}
use Rattle.node.specs.declared.Node.{Node}
use Rattle.node.specs.Families.{known_family}
use Rattle.nearest.specs.declared.NearestList.{NearestList}
use Rattle.nearest.specs.Lists.{node_key, held, all_known}
use Rattle.nearest.specs.Effect.{effect, after_effect}
use Rattle.nearest.specs.Calls.{begun, offered}
use Rattle.nearest.specs.Sequence.{offers, refused_offer, accepted, Nearest, Keyed, known_ones, list_of}
use Rattle.nearest.proofs.Steps.{known_none, rising_none}
use Rattle.nearest.proofs.LastLaws.{in_more}
use Rattle.nearest.proofs.Known.{after_known}
use Rattle.nearest.proofs.OneOffer.{offer_keeps_nearest}
use Rattle.nearest.proofs.ListOf.{begun_is, held_list_of, offer_known, offer_stranger}

-- ---- the fold, one node more

module _ (l : NearestList) (n : Node) (ns : List Node) where
  pub offers_more : (m : NearestList) → (offered l n).list ≡ m → offers l (n ∷ ns) ≡ offers m ns
  unfolding offers
  offers_more m e = ap (λ (x : NearestList). offers x ns) e

  accepted_more : (m : NearestList) (b : Bool) → (offered l n).list ≡ m → refused_offer (offered l n).answer ≡ b
      → accepted l (n ∷ ns) ≡ cond b (accepted m ns) (n ∷ accepted m ns)
  unfolding accepted
  accepted_more m b e f = ap₂ (λ (x : Bool) (y : NearestList). cond x (accepted y ns) (n ∷ accepted y ns)) f e

pub ones_one : (n : Node) (ns : List Node) (b : Bool) → known_family n.family ≡ b → known_ones (n ∷ ns) ≡ cond b (n ∷ known_ones ns) (known_ones ns)
unfolding known_ones
ones_one n ns b e = ap (λ (x : Bool). cond x (n ∷ known_ones ns) (known_ones ns)) e

-- ---- the induction over the offers

module _ (target : Key) (size : ℕ) (lo : 1 ≤ size) (hi : size ≤ 16) (ht : IsKey target.0) where
  -- where a list ends that holds h, of what was offered in the past, when ns are offered to it
  record Ends (past h ns : List Node) : Type 0 where
    pub nodes : List Node
    pub list : offers (list_of target size h) ns ≡ list_of target size nodes
    pub unrefused : accepted (list_of target size h) ns ≡ known_ones ns
    pub nearest : Nearest target.0 size (past ++ known_ones ns) nodes

  keyed_more : (past : List Node) (n : Node) → Keyed past → IsKey (node_key n) → Keyed (past ++ (n ∷ []))
  keyed_more past n hp hn x i = ⊎_elim (hp x) (λ (p : x ≡ n). subst (λ (z : Node). IsKey (node_key z)) (sym p) hn) (in_more past n x i)

  abbrev Rest : List Node → Type 0
  Rest ns = (past h : List Node) → Keyed past → all_known h ≡ true → Nearest target.0 size past h → Ends past h ns

  step : (n : Node) (ns : List Node) → IsKey (node_key n) → Rest ns → (past h : List Node) → Keyed past → all_known h ≡ true → Nearest target.0 size past h
      → (b : Bool) → known_family n.family ≡ b → Ends past h (n ∷ ns)
  step n ns hn rest past h hp f N true e =
      let w = effect target.0 size n h in
      let g = after_effect w target.0 n h in
      let o = offer_known target size lo hi h N.short f N.rises n e in
      let q = ap (λ (x : Answered Bool). x.list) o in
      let r = rest (past ++ (n ∷ [])) g (keyed_more past n hp hn) (after_known w target.0 n h e f) (offer_keeps_nearest target.0 size past h n ht hn hp N lo) in record {
        nodes = r.nodes;
        list = offers_more (list_of target size h) n ns (list_of target size g) q ∙ r.list;
        unrefused =
            accepted_more (list_of target size h) n ns (list_of target size g) false q (ap (λ (x : Answered Bool). refused_offer x.answer) o)
            ∙ ap (λ (x : List Node). n ∷ x) r.unrefused ∙ sym (ones_one n ns true e);
        nearest =
            subst (λ (x : List Node). Nearest target.0 size x r.nodes)
            (append_assoc past (n ∷ []) (known_ones ns) ∙ ap (λ (x : List Node). past ++ x) (sym (ones_one n ns true e))) r.nearest;
      }
  step n ns hn rest past h hp f N false e =
      let o = offer_stranger target size lo hi h N.short f N.rises n e in
      let q = ap (λ (x : Answered Bool). x.list) o in
      let r = rest past h hp f N in record {
        nodes = r.nodes;
        list = offers_more (list_of target size h) n ns (list_of target size h) q ∙ r.list;
        unrefused =
            accepted_more (list_of target size h) n ns (list_of target size h) true q (ap (λ (x : Answered Bool). refused_offer x.answer) o)
            ∙ r.unrefused ∙ sym (ones_one n ns false e);
        nearest = subst (λ (x : List Node). Nearest target.0 size (past ++ x) r.nodes) (sym (ones_one n ns false e)) r.nearest;
      }

  ends : (ns : List Node) → Keyed ns → Rest ns
  unfolding offers accepted known_ones
  ends [] hs past h hp f N = record {
    nodes = h;
    list = refl;
    unrefused = refl;
    nearest = subst (λ (x : List Node). Nearest target.0 size x h) (sym (append-nil past)) N;
  }
  ends (n ∷ ns) hs past h hp f N =
      step n ns (hs n (inl refl)) (ends ns (λ x i. hs x (inr i))) past h hp f N (known_family n.family) refl

  none : Nearest target.0 size [] []
  none = record { rises = rising_none target.0; short = omega arith; last = λ x i. absurd i; nearest = λ x l. absurd l }

  module _ (ns : List Node) (hs : Keyed ns) where
    abbrev first : NearestList
    first = (begun target size).list

    from_empty_lem : Ends [] [] ns
    from_empty_lem = ends ns hs [] [] (λ x i. absurd i) known_none none

    begins : first ≡ list_of target size []
    begins = ap (λ (x : Answered (Unit {0})). x.list) (begun_is target size lo hi)

    -- a node is refused just where its family is unknown
    pub accepted_known : accepted first ns ≡ known_ones ns
    accepted_known = ap (λ (l : NearestList). accepted l ns) begins ∙ from_empty_lem.unrefused

    list_is : offers first ns ≡ list_of target size from_empty_lem.nodes
    list_is = ap (λ (l : NearestList). offers l ns) begins ∙ from_empty_lem.list

    held_is : held (offers first ns) ≡ from_empty_lem.nodes
    held_is = ap held list_is ∙ held_list_of target size from_empty_lem.nodes

    -- the theorem
    pub offers_hold_nearest : Nearest target.0 size (accepted first ns) (held (offers first ns))
    offers_hold_nearest = subst (λ (x : List Node). Nearest target.0 size x (held (offers first ns))) (sym accepted_known)
        (subst (Nearest target.0 size (known_ones ns)) (sym held_is) from_empty_lem.nearest)

    -- and nothing of the list is left unsaid
    pub offers_leave_blank : offers first ns ≡ list_of target size (held (offers first ns))
    offers_leave_blank = list_is ∙ ap (list_of target size) (sym held_is)
