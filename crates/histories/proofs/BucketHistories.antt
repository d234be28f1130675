-- Document 02's request 05, of buckets as the host keeps them: from what `banavoge_buckets_begin` leaves of any memory where it answers 0, after any offers and
-- questions. Each question gets the 4 nearest of the nodes held then, as a nearest list of size 4 has them to which every held node was offered, and each offer is
-- answered by the rules, and leaves the nodes that it must (`buckets_answered`); no call gets 20 (`buckets_never_broken`); the buckets keep their rules and their
-- base key (`buckets_stay_whole`); a key that is held stays held (`held_later`); no key is held twice (`no_key_twice`); and the base key is never held
-- (`base_never_held`). Assumes nothing.
use mathlib.Core.Path.{◌≡◌, refl, sym, ap, subst, ◌∙◌}
use mathlib.Core.Bool.{Bool, true, false}
use mathlib.Core.List.{List}
use Prim.Native.Nat.{ℕ}
use native.Mathlib.Omega.{arith}
use lib.Dec.{leb}
use lib.IntN.{ℤ, pos}
use lib.ListN.{length}
use borrow.Author.Tests.{leb-true, leb-false}
use Rattle.std.proofs.Common.{Result, Ok, Err}
use Rattle.refusal.specs.declared.Refusal.{Refusal}
use Rattle.refusal.specs.declared.Refusal.TheVariants.{BucketsNotWhole}
use Rattle.key.specs.declared.Key.{Key}
use Rattle.key.specs.Keys.{same_key}
use Rattle.key.proofs.Same.{same_refl}
use Rattle.node.specs.declared.Node.{Node}
use Rattle.nearest.specs.Lists.{node_key}
use Rattle.nearest.specs.Effect.{holds}
use Rattle.nearest.specs.Calls.{offer_answer}
use Rattle.nearest_first.specs.NearestFirst.{Apart}
use Rattle.buckets_laws.specs.Layout.{base_of, held_in, held_nodes}
use Rattle.buckets_laws.specs.Whole.{bucket_of, buckets_whole}
use Rattle.buckets_laws.specs.Effect.{bucket_effect, effect_on, is_kept}
use Rattle.buckets_laws.specs.Calls.{answer_bytes, Begins, Offers, Asks}
use Rattle.buckets_laws.specs.Sequence.{Reached}
use Rattle.buckets_laws.specs.Sequence as reached
use Rattle.buckets_laws.proofs.AnswerLaws.{answer_few}
use Rattle.buckets_laws.proofs.BeginLaws.{begin_refused}
use Rattle.buckets_laws.proofs.HeldLaws.{held_apart, base_not_held}
use Rattle.buckets_laws.proofs.OfferLaws.{held_stays, offered_only, offered_others, kept_is_held, unkept_leaves, unknown_refused}
use Rattle.buckets_laws.proofs.OfferedBucket.{offered_answer, offered_base}
use Rattle.buckets_laws.proofs.Theorems.{answers_as_a_list, answer_written, answer_no_room, answer_not_whole, reached_whole, offer_never_refused, question_never_refused}
use Rattle.banavoge_laws.specs.Answers.{refusal_code, written_code, ToldAs}
use Rattle.banavoge_laws.specs.Nodes.{node_written_code}
use Rattle.banavoge_laws.specs.Nearest.{done_code, kept_code}
use Rattle.histories.specs.ExportedCalls.{Below0}
use Rattle.histories.specs.BucketHistory.{BucketEvent, BucketStep, BucketChain, none, next, BucketsBegun, BucketHistory, NeverBroken, OfferAnswered, nearest_written, QuestionAnswered, CallAnswered, AllAnswered}
use Rattle.histories.specs.BucketHistory as bucket
use Rattle.histories.proofs.Answered.{below_not, same_refusal}

-- ---- the number tells the answer

done_number : (a : Result (Unit {0}) Refusal) → pos 0 ≡ done_code a → a ≡ Ok tt
unfolding done_code
done_number (Ok done) e = refl
done_number (Err why) e = absurd (below_not why 0 (sym e))

kept_number : (a : Result Bool Refusal) → pos 1 ≡ kept_code a → a ≡ Ok true
unfolding kept_code
kept_number (Ok true) e = refl
kept_number (Ok false) e = absurd (cc)
kept_number (Err why) e = absurd (below_not why 1 (sym e))

refused_number : (a : Result Bool Refusal) (why : Refusal) → kept_code a ≡ refusal_code why → a ≡ Err why
unfolding kept_code
refused_number (Ok true) why e = absurd (below_not why 1 (sym e))
refused_number (Ok false) why e = absurd (below_not why 0 (sym e))
refused_number (Err other) why e = ap Err (same_refusal other why e)

unwritten_number : (w : Result ℕ Refusal) (why : Refusal) → node_written_code w ≡ refusal_code why → w ≡ Err why
unfolding node_written_code written_code
unwritten_number (Ok count) why e = absurd (below_not why count (sym e))
unwritten_number (Err other) why e = ap Err (same_refusal other why e)

-- ---- what a refused call leaves, of any memory

pub begin_below_0 : {base : Key} {memory left : List ℕ} {z : ℤ} → ToldAs done_code (Begins base memory left) z → Below0 z → left ≡ memory
unfolding done_code
begin_below_0 {base} {memory} {left} c below = go c.given c.relates (subst Below0 c.codes below)
  where
    go : (a : Result (Unit {0}) Refusal) → Begins base memory left a → Below0 (done_code a) → left ≡ memory
    go (Ok done) is l = absurd l
    go (Err why) is l = (begin_refused is).2

-- an offer that is not answered 1
pub offer_not_1 : {n : Node} {memory left : List ℕ} {z : ℤ} → ToldAs kept_code (Offers n memory left) z → (z ≡ pos 1 → ⊥) → left ≡ memory
offer_not_1 c d = unkept_leaves c.relates (λ (e : c.given ≡ Ok true). d (c.codes ∙ ap kept_code e ∙ (unfold kept_code in refl)))

pub offer_below_0 : {n : Node} {memory left : List ℕ} {z : ℤ} → ToldAs kept_code (Offers n memory left) z → Below0 z → left ≡ memory
offer_below_0 c below = offer_not_1 c (λ e. subst Below0 e below)

pub question_below_0 : {target : Key} {memory out left : List ℕ} {z : ℤ} → ToldAs node_written_code (Asks target memory out left) z → Below0 z → left ≡ out
unfolding node_written_code written_code
question_below_0 {target} {memory} {out} {left} {z} c below = go (buckets_whole memory) refl (leb (length (answer_bytes memory target.0)) (length out)) refl
  where
    go : (t : Bool) → buckets_whole memory ≡ t → (u : Bool) → leb (length (answer_bytes memory target.0)) (length out) ≡ u → left ≡ out
    go true w true l =
        let a = (answer_written c.relates w (leb-true (length (answer_bytes memory target.0)) (length out) l)).0 in
        absurd (subst Below0 (c.codes ∙ ap node_written_code a) below)
    go true w false l = (answer_no_room c.relates w (leb-false (length (answer_bytes memory target.0)) (length out) l)).1
    go false w u l = (answer_not_whole c.relates w).1

-- ---- the memory that a history leaves

begun_reached : {base : Key} {m : List ℕ} → BucketsBegun base m → Reached base m
begun_reached {base} {m} b =
    let c = b.begins in
    reached.begins (subst (Begins base b.memory m) (done_number c.given c.codes) c.relates)

step_reached : {base : Key} {m m' : List ℕ} {e : BucketEvent} → Reached base m → BucketStep m e m' → Reached base m'
step_reached r (bucket.offers n number c q) = reached.offering r n c.given c.relates
step_reached {base} r (bucket.asks target number out left c same q) = subst (Reached base) (sym same) r

chain_reached : {base : Key} {m m' : List ℕ} {events : List BucketEvent} → Reached base m → BucketChain m events m' → Reached base m'
chain_reached r none = r
chain_reached r (next step chain) = chain_reached (step_reached r step) chain

-- ---- one call

module _ {base : Key} {m : List ℕ} (r : Reached base m) where
  module _ {n : Node} {number : ℤ} {m' : List ℕ} (c : ToldAs kept_code (Offers n m m') number) where
    effect_is : effect_on m n ≡ bucket_effect base.0 n (held_in m (bucket_of base.0 (node_key n)))
    unfolding effect_on
    effect_is = ap (λ (k : List ℕ). bucket_effect k n (held_in m (bucket_of k (node_key n)))) (reached_whole r).1

    is_base : node_key n ≡ base.0 → same_key (base_of m) (node_key n) ≡ true
    is_base e = ap (λ (k : List ℕ). same_key k (node_key n)) ((reached_whole r).1 ∙ sym e) ∙ same_refl (node_key n)

    offer_answers : OfferAnswered base n m number m'
    unfolding kept_code
    offer_answers =
        let o = c.relates in
        let whole = (reached_whole r).0 in
        record {
          known = λ k. c.codes ∙ ap kept_code (offered_answer o whole k ∙ ap (λ e. offer_answer (is_kept e)) effect_is);
          base_key = λ k e. c.codes ∙ ap kept_code (offered_base o whole k (is_base e)).1;
          unknown = λ k. c.codes ∙ ap kept_code (unknown_refused o whole k).1;
          kept = λ e. kept_is_held o (kept_number c.given (sym e ∙ c.codes));
          not_kept = λ e. offer_not_1 c (λ f. let z : ◌≡◌ {A = ℕ} 0 1 = cc in omega arith);
          refused = offer_below_0 c;
          only = offered_only o;
          others = offered_others o;
          leaves = o.leaves;
        }

    offer_unbroken : number ≡ refusal_code BucketsNotWhole → ⊥
    offer_unbroken e = offer_never_refused r c.relates (refused_number c.given BucketsNotWhole (sym c.codes ∙ e))

  module _ {target : Key} {number : ℤ} {out left : List ℕ} (c : ToldAs node_written_code (Asks target m out left) number) where
    question_answers : QuestionAnswered (nearest_written m target) out number left
    unfolding nearest_written node_written_code written_code
    question_answers =
        let is = c.relates in
        let whole = (reached_whole r).0 in
        subst (λ (bytes : List ℕ). QuestionAnswered bytes out number left) (answers_as_a_list is whole)
        (record {
          enough = λ h. let w = answer_written is whole h in (c.codes ∙ ap node_written_code w.0, w.1);
          too_short = λ h. let w = answer_no_room is whole h in (c.codes ∙ ap node_written_code w.0, w.1);
          few = answer_few m whole is.bytes target.0;
        })

    question_unbroken : number ≡ refusal_code BucketsNotWhole → ⊥
    question_unbroken e = question_never_refused r c.relates (unwritten_number c.given BucketsNotWhole (sym c.codes ∙ e))

  -- of any step after a history
  step_answered : {e : BucketEvent} {m' : List ℕ} → BucketStep m e m' → CallAnswered base m e.call e.number e.left m'
  step_answered (bucket.offers n number c q) = rw q (offer_answers c)
  step_answered (bucket.asks target number out left c same q) = rw q (question_answers c, same)

  step_unbroken : {e : BucketEvent} {m' : List ℕ} → BucketStep m e m' → e.number ≡ refusal_code BucketsNotWhole → ⊥
  step_unbroken (bucket.offers n number c q) = rw q (offer_unbroken c)
  step_unbroken (bucket.asks target number out left c same q) = rw q (question_unbroken c)

-- ---- any calls

chain_answered : {base : Key} {m m' : List ℕ} {events : List BucketEvent} → Reached base m → (chain : BucketChain m events m') → AllAnswered base chain
chain_answered r none = tt
chain_answered r (next step chain) = (step_answered r step, chain_answered (step_reached r step) chain)

chain_unbroken : {base : Key} {m m' : List ℕ} {events : List BucketEvent} → Reached base m → BucketChain m events m' → NeverBroken events
chain_unbroken r none = tt
chain_unbroken r (next step chain) = (step_unbroken r step, chain_unbroken (step_reached r step) chain)

-- a key that is held at some point is held at every later one, of any memory
step_holds : {m m' : List ℕ} {e : BucketEvent} → BucketStep m e m' → (key : List ℕ) → holds key (held_nodes m) ≡ true → holds key (held_nodes m') ≡ true
step_holds (bucket.offers n number c q) key h = held_stays c.relates key h
step_holds (bucket.asks target number out left c same q) key h = rw same h

pub held_later : {m m' : List ℕ} {events : List BucketEvent} → BucketChain m events m' → (key : List ℕ) → holds key (held_nodes m) ≡ true
    → holds key (held_nodes m') ≡ true
held_later none key h = h
held_later (next step chain) key h = held_later chain key (step_holds step key h)

module _ {base : Key} {events : List BucketEvent} {m' : List ℕ} (h : BucketHistory base events m') where
  -- REQUEST 05: each question gets what a nearest list of size 4 holds to which every held node was offered, and each offer is answered by the rules
  pub buckets_answered : AllAnswered base h.chain
  buckets_answered = chain_answered (begun_reached h.begun) h.chain

  -- no call gets 20
  pub buckets_never_broken : NeverBroken events
  buckets_never_broken = chain_unbroken (begun_reached h.begun) h.chain

  -- after any calls the buckets keep their rules, and have the base key that they were begun with
  pub buckets_stay_whole : (buckets_whole m' ≡ true) × (base_of m' ≡ base.0)
  buckets_stay_whole = reached_whole (chain_reached (begun_reached h.begun) h.chain)

  -- no key is held twice
  pub no_key_twice : Apart (held_nodes m')
  no_key_twice = held_apart m' buckets_stay_whole.0

  -- "The base key is never held": not after any calls, and so at no point of a history
  pub base_never_held : holds base.0 (held_nodes m') ≡ false
  base_never_held =
      subst (λ (key : List ℕ). holds key (held_nodes m') ≡ false) buckets_stay_whole.1 (base_not_held m' buckets_stay_whole.0)
