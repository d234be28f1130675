-- Every call keeps a list that keeps its rules so: a removal takes out exactly its key, an offer loses exactly the key that it puts out, and in
-- every list reached from `begin` the slots behind the nodes held are blank. Assumes nothing.
use mathlib.Core.Path.{◌≡◌, ◌∙◌, refl, sym, ap, subst}
use mathlib.Core.Bool.{Bool, true, false}
use mathlib.Core.Logic.{inl, inr, ⊎_elim}
use mathlib.Core.List.{List, [], ◌∷◌}
use Prim.Native.Nat.{ℕ, suc, ◌≤◌}
use native.Mathlib.Omega.{arith}
use lib.ListN.{length}
use Rattle.std.specs.Prelude.{Ok}
use Rattle.nearest.specs.declared.Answered.{Answered}
use Rattle.key.specs.declared.Key.{Key}
use Rattle.key.specs.Keys.{IsKey, same_key}
use Rattle.node.specs.declared.Node.{Node}
use Rattle.node.specs.Families.{known_family}
use Rattle.nearest.specs.declared.NearestList.{NearestList}
use Rattle.nearest.specs.Lists.{node_key, held, holding, all_known, rising}
use Rattle.nearest.specs.Effect.{holds, without, effect, after_effect}
use Rattle.nearest.specs.Calls.{checked, effect_on, offered, removed}
use Rattle.nearest.specs.Sequence.{In, Last, Nearest, Keyed, list_of, Reached, begins, offering, removing}
use Rattle.nearest.proofs.Steps.{known_none, rising_none, without_none, without_one}
use Rattle.nearest.proofs.Members.{in_free, free_in, in_without, without_in, without_free}
use Rattle.nearest.proofs.Order.{Up, rising_up, up_rising, up_without, behind_differs}
use Rattle.nearest.proofs.Known.{after_from, after_known, without_known}
use Rattle.nearest.proofs.Judge.{whole, whole_passes}
use Rattle.nearest.proofs.Holding.{held_length, held_holding}
use Rattle.nearest.proofs.LastLaws.{last_in_all}
use Rattle.nearest.proofs.OfferLaws.{offer_unknown, offer_taken, taken_by}
use Rattle.nearest.proofs.RemoveLaws.{remove_taken, remove_missing}
use Rattle.nearest.proofs.OneOffer.{offer_keeps_nearest}
use Rattle.nearest.proofs.ListOf.{begun_is, held_list_of, list_of_whole, offer_known, offer_stranger, remove_held, remove_absent}

pub length_without : (k : List ℕ) (ns : List Node) → length (without k ns) ≤ length ns
length_without k [] = let e = ap length (without_none k) in omega arith
length_without k (m ∷ ms) = by (same_key (node_key m) k) refl (length_without k ms)
  where
    by : (b : Bool) → same_key (node_key m) k ≡ b → length (without k ms) ≤ length ms → length (without k (m ∷ ms)) ≤ suc (length ms)
    by true e h = let q = ap length (without_one k m ms true e) in omega arith
    by false e h = let q = ap length (without_one k m ms false e) in omega arith

-- nodes that rise in distance are the nearest of themselves
pub nearest_of_itself : (t : List ℕ) (k : ℕ) (ns : List Node) → rising t ns ≡ true → length ns ≤ k → Nearest t k ns ns
nearest_of_itself t k ns r s = record { rises = r; short = s; last = λ n i. each ns (rising_up t ns r) n i; nearest = λ n l. inl (last_in_all ns n l) }
  where
    each : (ms : List Node) → Up t ms → (n : Node) → In n ms → Last n ms
    each [] u n i = absurd i
    each (m ∷ ms) u n (inl p) = inl (p, in_free (node_key n) ms (λ q i e. behind_differs t m ms u q i (e ∙ ap node_key p)))
    each (m ∷ ms) u n (inr i) = inr (each ms u.1 n i)

-- ---- any list that keeps its rules

whole_holding : (l : NearestList) → checked l ≡ Ok tt → (g : List Node) → length g ≤ l.size → all_known g ≡ true → rising l.target.0 g ≡ true
    → checked (holding l g) ≡ Ok tt
unfolding holding
whole_holding l e g s k r =
    let w = whole l e in
    whole_passes (holding l g)
    (record {
      some_room = w.some_room;
      small = w.small;
      within = s;
      knows = ap all_known (held_holding l g) ∙ k;
      rises = ap (rising l.target.0) (held_holding l g) ∙ r;
    })

module _ (l : NearestList) (e : checked l ≡ Ok tt) (slots : length l.nodes ≡ 16) where
  short : length (held l) ≤ l.size
  short = let w = whole l e in let a = w.within in let b = held_length l (omega arith) in omega arith

  -- an offer to a list that keeps its rules hands back one that does
  pub offer_keeps_whole : IsKey l.target.0 → Keyed (held l) → (n : Node) → IsKey (node_key n) → checked (offered l n).list ≡ Ok tt
  offer_keeps_whole ht hs n hn = by (known_family n.family) refl
    where
      by : (b : Bool) → known_family n.family ≡ b → checked (offered l n).list ≡ Ok tt
      by false f = ap (λ (x : Answered Bool). checked x.list) (sym (offer_unknown l n e f)) ∙ e
      by true f =
          let w = whole l e in
          let N = offer_keeps_nearest l.target.0 l.size (held l) (held l) n ht hn hs (nearest_of_itself l.target.0 l.size (held l) w.rises short) w.some_room in
          ap (λ (x : Answered Bool). checked x.list) (offer_taken l n e f ∙ taken_by l n (effect_on l n) refl)
          ∙ whole_holding l e (after_effect (effect_on l n) l.target.0 n (held l)) N.short (after_known (effect_on l n) l.target.0 n (held l) f w.knows) N.rises

  module _ (key : Key) where
    -- so does a removal
    pub remove_keeps_whole : checked (removed l key).list ≡ Ok tt
    remove_keeps_whole = by (holds key.0 (held l)) refl
      where
        by : (b : Bool) → holds key.0 (held l) ≡ b → checked (removed l key).list ≡ Ok tt
        by false f = ap (λ (x : Answered (Unit {0})). checked x.list) (remove_missing l key e f) ∙ e
        by true f =
            let w = whole l e in
            let a = length_without key.0 (held l) in
            let b = short in
            ap (λ (x : Answered (Unit {0})). checked x.list) (remove_taken l key e f)
            ∙ whole_holding l e (without key.0 (held l)) (omega arith) (without_known key.0 (held l) w.knows)
            (up_rising l.target.0 (without key.0 (held l)) (up_without l.target.0 key.0 (held l) (rising_up l.target.0 (held l) w.rises)))

    -- what it leaves are the nodes of other keys, refused or not
    held_left : held (removed l key).list ≡ without key.0 (held l)
    held_left = by (holds key.0 (held l)) refl
      where
        by : (b : Bool) → holds key.0 (held l) ≡ b → held (removed l key).list ≡ without key.0 (held l)
        by false f = ap (λ (x : Answered (Unit {0})). held x.list) (remove_missing l key e f) ∙ sym (without_free key.0 (held l) (free_in key.0 (held l) f))
        by true f = ap (λ (x : Answered (Unit {0})). held x.list) (remove_taken l key e f) ∙ held_holding l (without key.0 (held l))

    pub remove_takes_only : (x : Node) → In x (held (removed l key).list) → In x (held l) × (node_key x ≡ key.0 → ⊥)
    remove_takes_only x i = in_without key.0 (held l) x (subst (In x) held_left i)

    pub remove_leaves : (x : Node) → In x (held l) → (node_key x ≡ key.0 → ⊥) → In x (held (removed l key).list)
    remove_leaves x i d = subst (In x) (sym held_left) (without_in key.0 (held l) x i d)

-- ---- lists reached from `begin`

-- the nodes that a list of a size may hold
pub record Fit (target : Key) (size : ℕ) (h : List Node) : Type 0 where
  pub few : length h ≤ size
  pub knows : all_known h ≡ true
  pub rises : rising target.0 h ≡ true
  pub keyed : Keyed h

module _ (target : Key) (size : ℕ) (lo : 1 ≤ size) (hi : size ≤ 16) (ht : IsKey target.0) where
  abbrev Blank : NearestList → Type 0
  Blank l = (h : List Node) × (l ≡ list_of target size h) × Fit target size h

  offered_blank : (h : List Node) → Fit target size h → (n : Node) → IsKey (node_key n) → (b : Bool) → known_family n.family ≡ b → Blank (offered (list_of target size h) n).list
  offered_blank h F n hn false f = (h, ap (λ (x : Answered Bool). x.list) (offer_stranger target size lo hi h F.few F.knows F.rises n f), F)
  offered_blank h F n hn true f =
      let w = effect target.0 size n h in
      let g = after_effect w target.0 n h in
      let N = offer_keeps_nearest target.0 size h h n ht hn F.keyed (nearest_of_itself target.0 size h F.rises F.few) lo in (
        g,
        ap (λ (x : Answered Bool). x.list) (offer_known target size lo hi h F.few F.knows F.rises n f),
        record {
          few = N.short;
          knows = after_known w target.0 n h f F.knows;
          rises = N.rises;
          keyed = λ x i. ⊎_elim (λ (p : x ≡ n). subst (λ (z : Node). IsKey (node_key z)) (sym p) hn) (F.keyed x) (after_from w target.0 n h x i);
        },
      )

  removed_blank : (h : List Node) → Fit target size h → (key : Key) → (b : Bool) → holds key.0 h ≡ b → Blank (removed (list_of target size h) key).list
  removed_blank h F key false f = (h, ap (λ (x : Answered (Unit {0})). x.list) (remove_absent target size lo hi h F.few F.knows F.rises key f), F)
  removed_blank h F key true f = (
    without key.0 h,
    ap (λ (x : Answered (Unit {0})). x.list) (remove_held target size lo hi h F.few F.knows F.rises key f),
    record {
      few = let a = length_without key.0 h in let b = F.few in omega arith;
      knows = without_known key.0 h F.knows;
      rises = up_rising target.0 (without key.0 h) (up_without target.0 key.0 h (rising_up target.0 h F.rises));
      keyed = λ x i. F.keyed x (in_without key.0 h x i).0;
    },
  )

  blank : {l : NearestList} → Reached target size l → Blank l
  blank begins = (
    [],
    ap (λ (x : Answered (Unit {0})). x.list) (begun_is target size lo hi),
    record { few = omega arith; knows = known_none; rises = rising_none target.0; keyed = λ x i. absurd i },
  )
  blank (offering r n hn) =
      let w = blank r in
      subst (λ (l : NearestList). Blank (offered l n).list) (sym w.1) (offered_blank w.0 w.2 n hn (known_family n.family) refl)
  blank (removing r key) =
      let w = blank r in
      subst (λ (l : NearestList). Blank (removed l key).list) (sym w.1) (removed_blank w.0 w.2 key (holds key.0 w.0) refl)

  -- a list reached from `begin` keeps its rules, and is blank behind the nodes that it holds
  pub reached_whole : {l : NearestList} → Reached target size l → checked l ≡ Ok tt
  reached_whole r = let w = blank r in ap checked w.1 ∙ list_of_whole target size lo hi w.0 w.2.few w.2.knows w.2.rises

  pub reached_blank : {l : NearestList} → Reached target size l → l ≡ list_of target size (held l)
  reached_blank r = let w = blank r in w.1 ∙ ap (list_of target size) (sym (ap held w.1 ∙ held_list_of target size w.0))

  -- so lists reached from `begin` that hold equal nodes are equal
  pub reached_same : {l m : NearestList} → Reached target size l → Reached target size m → held l ≡ held m → l ≡ m
  reached_same r s e = reached_blank r ∙ ap (list_of target size) e ∙ sym (reached_blank s)
