-- Each call's ways out: what the functions called promise, put together to the call's own promise. Assumes nothing.
use mathlib.Core.Path.{◌≡◌, ◌∙◌, sym, ap}
use mathlib.Core.Bool.{Bool, true, false}
use mathlib.Core.List.{List}
use Prim.Native.Nat.{ℕ, ◌<◌, ◌≤◌}
use native.Mathlib.Omega.{arith}
use lib.ListN.{length, get_or}
use borrow.Author.Tests.{le-leb, lt-leb, lt-ltb, le-ltb}
use Rattle.std.specs.Prelude.{Result, Ok, Err}
use Rattle.nearest.specs.declared.Answered.{Answered}
use Rattle.wire.specs.Numbers.{Bytes}
use Rattle.refusal.specs.declared.Refusal.{Refusal}
use Rattle.refusal.specs.declared.Refusal.TheVariants.{ListSize, ListNotWhole}
use Rattle.key.specs.declared.Key.{Key}
use Rattle.key.specs.Keys.{IsKey}
use Rattle.node.specs.declared.Node.{Node}
use Rattle.nearest.specs.Lists.{size_right}
use Rattle.nearest.specs.Calls.{begun, offered, removed}
use Rattle.lent_list_laws.specs.Layout.{list_at, stored, Fits}
use Rattle.lent_list_laws.specs.Calls.{short_refusal, begun_answer, Begins, offer_answered, Offers, remove_answered, Removes}
use Rattle.lent_list_laws.proofs.StoreLaws.{stored_short}
use Rattle.lent_list_laws.proofs.RoundTrips.{refused_offer_stored, refused_remove_stored}

-- ---- memory too short

module _ (m : List ℕ) where
  pub short_none : length m ≡ 0 → ListNotWhole ≡ short_refusal m
  unfolding short_refusal
  short_none e = simp (le-ltb 0 (length m) (omega arith))

  pub short_no_size : 0 < length m → size_right (get_or m 0 0) ≡ false → ListSize ≡ short_refusal m
  unfolding short_refusal
  short_no_size h e = simp (lt-ltb 0 (length m) h, e)

  pub short_size : 0 < length m → size_right (get_or m 0 0) ≡ true → ListNotWhole ≡ short_refusal m
  unfolding short_refusal
  short_size h e = simp (lt-ltb 0 (length m) h, e)

-- ---- begin

module _ (target : Key) (size : ℕ) (m left : List ℕ) (k : IsKey target.0) (b : Answered (Unit {0})) (e : b ≡ begun target size) (s : left ≡ stored b.list m) where
  left_begun : left ≡ stored (begun target size).list m
  left_begun = s ∙ ap (λ (x : Answered (Unit {0})). stored x.list m) e

  answer_begun : (a : Result (Unit {0}) Refusal) → b.answer ≡ a → (begun target size).answer ≡ a
  answer_begun a h = sym (ap (λ (x : Answered (Unit {0})). x.answer) e) ∙ h

  pub begins_refused : (why : Refusal) → b.answer ≡ Err why → Begins target size m left (Err why)
  unfolding begun_answer
  begins_refused why a = record { key = k; answers = sym (ap (λ (x : Result (Unit {0}) Refusal). begun_answer x m) (answer_begun (Err why) a)); leaves = left_begun }

  pub begins_short : b.answer ≡ Ok tt → length m < 850 → Begins target size m left (Err ListNotWhole)
  unfolding begun_answer
  begins_short a h = record { key = k; answers = sym (ap (λ (x : Result (Unit {0}) Refusal). begun_answer x m) (answer_begun (Ok tt) a) ∙ simp (lt-leb 850 (length m) h)); leaves = left_begun }

  pub begins_done : b.answer ≡ Ok tt → 850 ≤ length m → Begins target size m left (Ok tt)
  unfolding begun_answer
  begins_done a h = record { key = k; answers = sym (ap (λ (x : Result (Unit {0}) Refusal). begun_answer x m) (answer_begun (Ok tt) a) ∙ simp (le-leb 850 (length m) h)); leaves = left_begun }

-- ---- offer

module _ (n : Node) (m : List ℕ) (f : Fits n) (b : Bytes m) where
  pub offers_short : (why : Refusal) → why ≡ short_refusal m → length m < 850 → Offers n m m (Err why)
  unfolding offer_answered
  offers_short why e h = record { bytes = b; node = f; answers = simp (lt-leb 850 (length m) h, e); leaves = sym (stored_short _ m h) }

  module _ (h : 850 ≤ length m) (o : Answered Bool) (e : o ≡ offered (list_at m) n) where
    offer_told : offer_answered m n ≡ (offered (list_at m) n).answer
    unfolding offer_answered
    offer_told = simp (le-leb 850 (length m) h)

    pub offers_refused : (why : Refusal) → o.answer ≡ Err why → Offers n m m (Err why)
    offers_refused why a =
        let g : (offered (list_at m) n).answer ≡ Err why = sym (ap (λ (x : Answered Bool). x.answer) e) ∙ a in
        record { bytes = b; node = f; answers = sym (offer_told ∙ g); leaves = sym (refused_offer_stored m b why n g) }

    pub offers_taken : (left : List ℕ) → left ≡ stored o.list m → Offers n m left o.answer
    offers_taken left s = record { bytes = b; node = f; answers = ap (λ (x : Answered Bool). x.answer) e ∙ sym offer_told; leaves = s ∙ ap (λ (x : Answered Bool). stored x.list m) e }

-- ---- remove

module _ (key : Key) (m : List ℕ) (b : Bytes m) where
  pub removes_short : (why : Refusal) → why ≡ short_refusal m → length m < 850 → Removes key m m (Err why)
  unfolding remove_answered
  removes_short why e h = record { bytes = b; answers = simp (lt-leb 850 (length m) h, e); leaves = sym (stored_short _ m h) }

  module _ (h : 850 ≤ length m) (o : Answered (Unit {0})) (e : o ≡ removed (list_at m) key) where
    remove_told : remove_answered m key ≡ (removed (list_at m) key).answer
    unfolding remove_answered
    remove_told = simp (le-leb 850 (length m) h)

    pub removes_refused : (why : Refusal) → o.answer ≡ Err why → Removes key m m (Err why)
    removes_refused why a =
        let f : (removed (list_at m) key).answer ≡ Err why = sym (ap (λ (x : Answered (Unit {0})). x.answer) e) ∙ a in
        record { bytes = b; answers = sym (remove_told ∙ f); leaves = sym (refused_remove_stored m b why key f) }

    pub removes_done : (left : List ℕ) → left ≡ stored o.list m → Removes key m left o.answer
    removes_done left s = record { bytes = b; answers = ap (λ (x : Answered (Unit {0})). x.answer) e ∙ sym remove_told; leaves = s ∙ ap (λ (x : Answered (Unit {0})). stored x.list m) e }
