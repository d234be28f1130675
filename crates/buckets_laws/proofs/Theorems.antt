-- Buckets over any calls:
--
--   - the answer to a question on whole buckets is the node list of what a nearest list of size 4 holds to which every held node was offered
--     (`answers_as_a_list`). It is written where it has room (`answer_written`, `answer_no_room`), and walking over what was written shows just these nodes
--     (`answer_read_back`). Buckets that are not whole are refused (`answer_not_whole`);
--   - memory in which buckets were begun, and which only offers changed, is whole and keeps its base key (`reached_whole`). So no offer and no question on
--     it is refused with 20 (`offer_never_refused`, `question_never_refused`), and an offer of known family is answered yes or no (`offer_answered`).
--
-- Assumes nothing.
use Rattle.std.proofs.Common.{Result, Ok, Err}
use Rattle.refusal.specs.declared.Refusal.{Refusal}
use mathlib.Core.Path.{◌≡◌, ◌∙◌, refl, sym, ap, ap₂}
use mathlib.Core.Bool.{Bool, true, false}
use mathlib.Core.Logic.{◌⊎◌, inl, inr}
use mathlib.Core.List.{List, ◌++◌, map}
use Prim.Native.Nat.{ℕ, ◌<◌, ◌≤◌}
use native.Mathlib.Omega.{arith}
use lib.Dec.{leb}
use lib.ListN.{length, take, drop}
use lib.Seq.{take_at}
use borrow.Author.Tests.{leb-true, leb-false, le-leb, lt-leb}
use Rattle.wire.specs.Numbers.{Bytes}
use Rattle.refusal.specs.declared.Refusal.TheVariants.{OutputTooShort, BucketsNotWhole}
use Rattle.key.specs.declared.Key.{Key}
use Rattle.node.specs.declared.Node.{Node}
use Rattle.node.specs.Families.{known_family}
use Rattle.node.specs.Values.{info_of}
use Rattle.node.specs.Walks.{Walk, ended, walk_from, packed_nodes}
use Rattle.nearest.specs.Lists.{held}
use Rattle.nearest.specs.Calls.{begun}
use Rattle.nearest.specs.Sequence.{offers, Nearest}
use Rattle.nearest_first.proofs.SameAsOffers.{nearest_of_is_nearest, offers_hold_nearest_of}
use Rattle.buckets_laws.specs.Layout.{base_of, held_nodes}
use Rattle.buckets_laws.specs.Whole.{buckets_whole}
use Rattle.buckets_laws.specs.Effect.{effect_on, is_kept}
use Rattle.buckets_laws.specs.Calls.{Offers, nearest_held, answer_bytes, nearest_answered, nearest_left, Asks}
use Rattle.buckets_laws.specs.Sequence.{Reached, begins, offering}
use Rattle.buckets_laws.proofs.HeldLaws.{held_keyed, held_known, held_apart}
use Rattle.buckets_laws.proofs.BeginLaws.{begin_base, begin_bytes, begin_whole}
use Rattle.buckets_laws.proofs.AnswerLaws.{answer_few, answer_walks}
use Rattle.buckets_laws.proofs.OfferWays.{known_answer}
use Rattle.buckets_laws.proofs.OfferLaws.{offer_keeps_whole, offer_keeps_base, offer_keeps_bytes, unknown_refused}

-- ---- a question

module _ {target : Key} {memory out left : List ℕ} {said : Result ℕ Refusal} (is : Asks target memory out left said) where
  module _ (whole : buckets_whole memory ≡ true) where
    nearest_as_a_list : nearest_held memory target.0 ≡ held (offers (begun target 4).list (held_nodes memory))
    unfolding nearest_held
    nearest_as_a_list =
        sym (offers_hold_nearest_of target 4 (omega arith) (omega arith) is.key (held_nodes memory)
        (held_keyed memory whole is.bytes) (held_known memory whole) (held_apart memory whole))

    -- THE THEOREM: the answer is what a nearest list of size 4 holds to which every held node was offered, nearest first, as a node list
    pub answers_as_a_list : answer_bytes memory target.0 ≡ packed_nodes (map info_of (held (offers (begun target 4).list (held_nodes memory))))
    unfolding answer_bytes
    answers_as_a_list = ap (λ (ns : List Node). packed_nodes (map info_of ns)) nearest_as_a_list

    -- of the held nodes those are the 4 nearest in document 01's sense: no key twice, nearest first, and each that is left out is further than all of them
    pub answer_nearest : Nearest target.0 4 (held_nodes memory) (nearest_held memory target.0)
    unfolding nearest_held
    answer_nearest = nearest_of_is_nearest target.0 (held_nodes memory) is.key (held_keyed memory whole is.bytes) (held_apart memory whole) 4

    pub answer_written : length (answer_bytes memory target.0) ≤ length out
        → (said ≡ Ok (length (answer_bytes memory target.0)))
        × (left ≡ answer_bytes memory target.0 ++ drop (length (answer_bytes memory target.0)) out)
    unfolding nearest_answered nearest_left
    answer_written h = let l = le-leb (length (answer_bytes memory target.0)) (length out) h in (is.answers ∙ simp (whole, l), is.leaves ∙ simp (whole, l))

    -- no answer is longer than 204 bytes, so these are always enough
    pub answer_in_204 : 204 ≤ length out → said ≡ Ok (length (answer_bytes memory target.0))
    answer_in_204 h = let f = answer_few memory whole is.bytes target.0 in (answer_written (omega arith)).0

    -- 10 goes by the exact length
    pub answer_no_room : length out < length (answer_bytes memory target.0) → (said ≡ Err OutputTooShort) × (left ≡ out)
    unfolding nearest_answered nearest_left
    answer_no_room h = let l = lt-leb (length (answer_bytes memory target.0)) (length out) h in (is.answers ∙ simp (whole, l), is.leaves ∙ simp (whole, l))

    -- the bytes that the answer counts are the node list
    pub answer_front : (size : ℕ) → said ≡ Ok size → take size left ≡ answer_bytes memory target.0
    answer_front size e = go (answer_bytes memory target.0) answer_written answer_no_room (leb (length (answer_bytes memory target.0)) (length out)) refl
      where
        go : (list : List ℕ) → (length list ≤ length out → (said ≡ Ok (length list)) × (left ≡ list ++ drop (length list) out))
            → (length out < length list → (said ≡ Err OutputTooShort) × (left ≡ out)) → (t : Bool) → leb (length list) (length out) ≡ t
            → take size left ≡ list
        go list room none true l =
            let w = room (leb-true (length list) (length out) l) in
            let p = w.0 in
            let s : size ≡ length list = cc in
            ap₂ take s w.1 ∙ take_at list (drop (length list) out) (length list) refl
        go list room none false l =
            let p = (none (leb-false (length list) (length out) l)).0 in
            let z : ◌≡◌ {A = ℕ} 0 1 = cc in
            absurd (omega arith)

    -- so a walk over them shows these nodes and says end
    pub answer_read_back : (size : ℕ) → said ≡ Ok size
        → walk_from 5 (take size left) 0 0 ≡ record { nodes = map info_of (held (offers (begun target 4).list (held_nodes memory))); ending = ended }
    answer_read_back size e =
        ap (λ (list : List ℕ). walk_from 5 list 0 0) (answer_front size e) ∙ answer_walks memory whole is.bytes target.0 5 (omega arith)
        ∙ ap {B = Walk} (λ (ns : List Node). record { nodes = map info_of ns; ending = ended }) nearest_as_a_list

  pub answer_not_whole : buckets_whole memory ≡ false → (said ≡ Err BucketsNotWhole) × (left ≡ out)
  unfolding nearest_answered nearest_left
  answer_not_whole broken = (is.answers ∙ simp broken, is.leaves ∙ simp broken)

-- ---- memory that buckets were begun in

pub reached_whole : {base : Key} {m : List ℕ} → Reached base m → (buckets_whole m ≡ true) × (base_of m ≡ base.0)
reached_whole (begins is) = (begin_whole is, begin_base is)
reached_whole (offering before n said is) =
    let w = reached_whole before in
    (offer_keeps_whole is w.0, offer_keeps_base is ∙ w.1)

pub reached_bytes : {base : Key} {m : List ℕ} → Reached base m → Bytes m
reached_bytes (begins is) = begin_bytes is
reached_bytes (offering before n said is) = offer_keeps_bytes is

-- ---- an offer to it

kept_or_not : (b : Bool) → ◌≡◌ {A = Result Bool Refusal} (Ok b) (Ok true) ⊎ ◌≡◌ {A = Result Bool Refusal} (Ok b) (Ok false)
kept_or_not true = inl refl
kept_or_not false = inr refl

module _ {base : Key} {memory left : List ℕ} {n : Node} {said : Result Bool Refusal} (reached : Reached base memory) (is : Offers n memory left said) where
  pub offer_answered : known_family n.family ≡ true → (said ≡ Ok true) ⊎ (said ≡ Ok false)
  offer_answered k =
      go (Ok (is_kept (effect_on memory n))) (is.answers ∙ known_answer memory n (reached_whole reached).0 k)
      (kept_or_not (is_kept (effect_on memory n)))
    where
      go : (a : Result Bool Refusal) → said ≡ a → (a ≡ Ok true) ⊎ (a ≡ Ok false) → (said ≡ Ok true) ⊎ (said ≡ Ok false)
      go a e (inl p) = inl (e ∙ p)
      go a e (inr p) = inr (e ∙ p)

  -- not even one of unknown family, which gets 15
  pub offer_never_refused : said ≡ Err BucketsNotWhole → ⊥
  offer_never_refused e = go (known_family n.family) refl
    where
      answered : (said ≡ Ok true) ⊎ (said ≡ Ok false) → ⊥
      answered (inl p) = cc
      answered (inr p) = cc

      go : (t : Bool) → known_family n.family ≡ t → ⊥
      go true k = answered (offer_answered k)
      go false k = let p = (unknown_refused is (reached_whole reached).0 k).1 in cc

-- ---- a question on it

pub question_never_refused : {base target : Key} {memory out left : List ℕ} {said : Result ℕ Refusal} → Reached base memory → Asks target memory out left said
    → said ≡ Err BucketsNotWhole → ⊥
question_never_refused {target = target} {memory = memory} {out = out} reached is e = go (leb (length (answer_bytes memory target.0)) (length out)) refl
  where
    go : (t : Bool) → leb (length (answer_bytes memory target.0)) (length out) ≡ t → ⊥
    go true l =
        let p = (answer_written is (reached_whole reached).0 (leb-true (length (answer_bytes memory target.0)) (length out) l)).0 in
        cc
    go false l =
        let p = (answer_no_room is (reached_whole reached).0 (leb-false (length (answer_bytes memory target.0)) (length out) l)).0 in
        cc
