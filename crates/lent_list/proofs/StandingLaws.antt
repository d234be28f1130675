-- Each way out of the test of a list in lent bytes, and what the calls make of its answer. Assumes nothing.
use Rattle.std.proofs.Common.{◌≡◌, ◌∙◌, refl, sym, ap, Bool, true, false, cond, leb, ℕ, ◌*◌, ◌/◌, ◌<◌, ◌≤◌, List, length, get_or, take, drop, Result, Ok, Err, arith}
use borrow.Author.Tests.{le-leb, lt-leb, leb-true, leb-false}
use Rattle.wire.specs.Numbers.{Bytes}
use Rattle.wire.proofs.Copy.{length_lent}
use Rattle.refusal.specs.declared.Refusal.{Refusal}
use Rattle.refusal.specs.declared.Refusal.TheVariants.{ListSize, ListNotWhole}
use Rattle.key.specs.declared.Key.{Key}
use Rattle.node.specs.declared.Node.{Node}
use Rattle.nearest.specs.Lists.{size_right, held}
use Rattle.nearest.specs.Calls.{checked, not_offered}
use Rattle.nearest.proofs.Judge.{bad_size}
use Rattle.nearest.proofs.OfferLaws.{offer_refused}
use Rattle.nearest.proofs.RemoveLaws.{remove_refused}
use Rattle.lent_list_laws.specs.Layout.{slots_at, list_at, Fits}
use Rattle.lent_list_laws.specs.Calls.{short_refusal, Offers, Removes}
use Rattle.lent_list_laws.proofs.SlotLaws.{slots_front, slots_taken}
use Rattle.lent_list_laws.proofs.CallLaws.{short_none, short_no_size, short_size, offers_short, offers_refused, removes_short, removes_refused}
use Rattle.lent_list.specs.Standing.{standing}

module _ (m : List ℕ) where
  pub standing_long : 850 ≤ length m → standing m ≡ checked (list_at m)
  unfolding standing
  standing_long h = simp (le-leb 850 (length m) h)

  pub standing_short : length m < 850 → standing m ≡ Err (short_refusal m)
  unfolding standing
  standing_short h = simp (lt-leb 850 (length m) h)

  -- ---- the ways out

  pub no_byte : length m ≡ 0 → Err ListNotWhole ≡ standing m
  no_byte h = ap (λ (x : Refusal). Err x) (short_none m h) ∙ sym (standing_short (omega arith))

  pub no_size : 0 < length m → size_right (get_or m 0 0) ≡ false → Err ListSize ≡ standing m
  unfolding list_at
  no_size h e = go (leb 850 (length m)) refl
    where
      go : (t : Bool) → leb 850 (length m) ≡ t → Err ListSize ≡ standing m
      go true q = bad_size (list_at m) e ∙ sym (standing_long (leb-true 850 (length m) q))
      go false q = ap (λ (x : Refusal). Err x) (short_no_size m h e) ∙ sym (standing_short (leb-false 850 (length m) q))

  pub too_short : 0 < length m → size_right (get_or m 0 0) ≡ true → length m < 850 → Err ListNotWhole ≡ standing m
  too_short h e k = ap (λ (x : Refusal). Err x) (short_size m h e) ∙ sym (standing_short k)

  -- ---- what its answer tells

  pub stands : standing m ≡ Ok tt → (850 ≤ length m) × (checked (list_at m) ≡ Ok tt)
  unfolding standing
  stands e = go (leb 850 (length m)) refl e
    where
      go : (t : Bool) → leb 850 (length m) ≡ t → ◌≡◌ {A = Result (Unit {0}) Refusal} (cond t (checked (list_at m)) (Err (short_refusal m))) (Ok tt)
          → (850 ≤ length m) × (checked (list_at m) ≡ Ok tt)
      go true q f = (leb-true 850 (length m) q, f)
      go false q f = cc

  module _ (why : Refusal) where
    abbrev pub Refused : Type 0 → Type 0
    Refused P = (length m < 850 → why ≡ short_refusal m → P) → (850 ≤ length m → checked (list_at m) ≡ Err why → P) → P

    pub refused : {P : Type 0} → standing m ≡ Err why → Refused P
    unfolding standing
    refused {P} e short long = go (leb 850 (length m)) refl e
      where
        go : (t : Bool) → leb 850 (length m) ≡ t → ◌≡◌ {A = Result (Unit {0}) Refusal} (cond t (checked (list_at m)) (Err (short_refusal m))) (Err why) → P
        go true q f = long (leb-true 850 (length m) q) f
        go false q f = short (leb-false 850 (length m) q) cc

    pub offers_not_standing : (n : Node) → Fits n → Bytes m → standing m ≡ Err why → Offers n m m (Err why)
    offers_not_standing n f b e =
        refused e (λ h q. offers_short n m f b why q h)
        (λ h q. offers_refused n m f b h (not_offered (list_at m) why) (offer_refused (list_at m) n why q) why refl)

    pub removes_not_standing : (key : Key) → Bytes m → standing m ≡ Err why → Removes key m m (Err why)
    removes_not_standing key b e =
        refused e (λ h q. removes_short key m b why q h)
        (λ h q. removes_refused key m b h (record { list = list_at m; answer = Err why }) (remove_refused (list_at m) key why q) why refl)

  -- ---- the slots that hold nodes

  pub held_slots : get_or m 1 0 ≤ 16 → 850 ≤ length m → (s : List ℕ) → s ≡ take (get_or m 1 0 * 51) (drop 34 m) → slots_at (length s / 51) s ≡ held (list_at m)
  unfolding list_at
  held_slots few room s e =
      let l = ap length e ∙ length_lent m 34 (get_or m 1 0 * 51) (omega arith) in
      ap (λ (n : ℕ). slots_at n s) (let q : length s / 51 ≡ get_or m 1 0 = omega arith in q)
      ∙ ap (slots_at (get_or m 1 0)) e ∙ slots_front (get_or m 1 0) (drop 34 m) ∙ sym (slots_taken 16 (get_or m 1 0) (drop 34 m) few)
