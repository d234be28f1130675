-- Buckets as the host keeps them: what `banavoge_buckets_begin` leaves of any memory where it answers 0, then calls of `banavoge_buckets_offer` and
-- `banavoge_buckets_nearest`, each given the memory that the last one left. A step is the relation that the contract of the export states, and is seen by the
-- number that it answers; a question is seen by its output too, before and afterwards. Quotations are document 02's, request 05.
use Rattle.std.specs.Prelude.{true, false, List, [], ◌∷◌, ◌++◌, map, ◌⊎◌, ◌≡◌, ℕ, ◌≤◌, ◌<◌, ℤ, pos, length, drop}
use Rattle.refusal.specs.declared.Refusal.TheVariants.{OutputTooShort, UnknownFamily, BucketsNotWhole}
use Rattle.key.specs.declared.Key.{Key}
use Rattle.key.specs.Keys.{IsKey}
use Rattle.node.specs.declared.Node.{Node}
use Rattle.node.specs.Families.{known_family}
use Rattle.node.specs.Values.{info_of}
use Rattle.node.specs.Walks.{packed_nodes}
use Rattle.nearest.specs.Lists.{held, node_key}
use Rattle.nearest.specs.Calls.{begun, offer_answer}
use Rattle.nearest.specs.Sequence as sequence
use Rattle.lent_list_laws.specs.Layout.{Fits}
use Rattle.buckets_laws.specs.Layout.{held_in, held_nodes}
use Rattle.buckets_laws.specs.Whole.{bucket_of}
use Rattle.buckets_laws.specs.Effect.{bucket_effect, is_kept}
use Rattle.buckets_laws.specs.Calls.{offer_left, Begins, Offers, Asks}
use Rattle.banavoge_laws.specs.Answers.{refusal_code, ToldAs}
use Rattle.banavoge_laws.specs.Nodes.{node_written_code}
use Rattle.banavoge_laws.specs.Nearest.{done_code, kept_code}
use Rattle.histories.specs.ExportedCalls.{Below0}

-- ---- one call

-- a question is asked with a target, and with what stands in the output lent
pub data BucketCall : Type 0 where
  offering : Node → BucketCall
  asking : Key → List ℕ → BucketCall

-- the call, the number answered, and the output afterwards; an offer is lent none, and has []
pub record BucketEvent : Type 0 where
  pub call : BucketCall
  pub number : ℤ
  pub left : List ℕ

abbrev pub bucket_event : BucketCall → ℤ → List ℕ → BucketEvent
bucket_event call number left = record { call = call; number = number; left = left }

-- on the memory m: it leaves m' and is seen as e. To a question the memory is lent to read only
pub data BucketStep (m : List ℕ) (e : BucketEvent) (m' : List ℕ) : Type 0 where
  offers : (n : Node) (number : ℤ) → ToldAs kept_code (Offers n m m') number → e ≡ bucket_event (offering n) number [] → BucketStep m e m'
  asks : (target : Key) (number : ℤ) (out left : List ℕ) → ToldAs node_written_code (Asks target m out left) number → m' ≡ m
      → e ≡ bucket_event (asking target out) number left → BucketStep m e m'

-- ---- one after the other

pub data BucketChain : List ℕ → List BucketEvent → List ℕ → Type 0 where
  none : {m : List ℕ} → BucketChain m [] m
  next : {m m₁ m' : List ℕ} {e : BucketEvent} {events : List BucketEvent} → BucketStep m e m₁ → BucketChain m₁ events m' → BucketChain m (e ∷ events) m'

-- what `banavoge_buckets_begin` leaves of some memory where it answers 0
pub record BucketsBegun (base : Key) (m : List ℕ) : Type 0 where
  pub memory : List ℕ
  pub begins : ToldAs done_code (Begins base memory m) (pos 0)

-- any calls on buckets from their beginning on
pub record BucketHistory (base : Key) (events : List BucketEvent) (m' : List ℕ) : Type 0 where
  pub memory : List ℕ
  pub begun : BucketsBegun base memory
  pub chain : BucketChain memory events m'

unfoldable pub bucket_calls : List BucketEvent → List BucketCall
bucket_calls [] = []
bucket_calls (e ∷ events) = e.call ∷ bucket_calls events

-- nodes with fields as the types of the parameters have them, and targets that are keys
abbrev pub FitsBucketCalls : List BucketCall → Type 0
FitsBucketCalls [] = Unit {0}
FitsBucketCalls (offering n ∷ calls) = Fits n × FitsBucketCalls calls
FitsBucketCalls (asking target out ∷ calls) = IsKey target.0 × FitsBucketCalls calls

-- a history of given calls on buckets
pub record BucketHistoryOf (base : Key) (calls : List BucketCall) : Type 0 where
  pub seen_as : List BucketEvent
  pub left : List ℕ
  pub history : BucketHistory base seen_as left
  pub are : bucket_calls seen_as ≡ calls

-- ---- buckets that were begun keep their rules: no call on them gets 20

abbrev pub NeverBroken : List BucketEvent → Type 0
NeverBroken [] = Unit {0}
NeverBroken (e ∷ events) = (e.number ≡ refusal_code BucketsNotWhole → ⊥) × NeverBroken events

-- ---- what an offer of n to the memory m is answered, and the memory m' that it leaves

pub record OfferAnswered (base : Key) (n : Node) (m : List ℕ) (number : ℤ) (m' : List ℕ) : Type 0 where
  -- 1 or 0 by the base key and by what the key's bucket holds: "a full bucket takes no new key; a held key has its node replaced"
  pub known : known_family n.family ≡ true → number ≡ kept_code (offer_answer (is_kept (bucket_effect base.0 n (held_in m (bucket_of base.0 (node_key n))))))
  -- "The base key is never held; offering it answers no."
  pub base_key : known_family n.family ≡ true → node_key n ≡ base.0 → number ≡ pos 0
  pub unknown : known_family n.family ≡ false → number ≡ refusal_code UnknownFamily
  -- answered 1, the node is held; answered 0 or below 0, every byte of the memory is as before
  pub kept : number ≡ pos 1 → sequence.In n (held_nodes m')
  pub not_kept : number ≡ pos 0 → m' ≡ m
  pub refused : Below0 number → m' ≡ m
  -- no node but this one comes in, and every node of another key stays: so where 1 is answered, of a held key the old node is gone, since no key is held twice
  pub only : (x : Node) → sequence.In x (held_nodes m') → (x ≡ n) ⊎ sequence.In x (held_nodes m)
  pub others : (x : Node) → sequence.In x (held_nodes m) → (node_key x ≡ node_key n → ⊥) → sequence.In x (held_nodes m')
  -- every byte of the memory afterwards
  pub leaves : m' ≡ offer_left m n

-- ---- what a question is answered, and the output that it leaves

-- "A question with a target gets the 4 nearest of all held nodes, or all when fewer, written nearest first as a node list. Prove that this equals offering
-- every held node to a nearest list of size 4."
unfoldable pub nearest_written : List ℕ → Key → List ℕ
nearest_written m target = packed_nodes (map info_of (held (sequence.offers (begun target 4).list (held_nodes m))))

-- these bytes stand at the front of the output, the number is their count, and the rest of the output is as before; an output that is shorter than they are
-- gets 10, and is as before
pub record QuestionAnswered (bytes out : List ℕ) (number : ℤ) (left : List ℕ) : Type 0 where
  pub enough : length bytes ≤ length out → (number ≡ pos (length bytes)) × (left ≡ bytes ++ drop (length bytes) out)
  pub too_short : length out < length bytes → (number ≡ refusal_code OutputTooShort) × (left ≡ out)
  -- so an output of 204 bytes is always enough
  pub few : length bytes ≤ 204

-- ---- what is said of each call of a history, by the memory that it is given

abbrev pub CallAnswered : Key → List ℕ → BucketCall → ℤ → List ℕ → List ℕ → Type 0
CallAnswered base m (offering n) number left m' = OfferAnswered base n m number m'
CallAnswered base m (asking target out) number left m' = QuestionAnswered (nearest_written m target) out number left × (m' ≡ m)

abbrev pub AllAnswered : {m m' : List ℕ} {events : List BucketEvent} → Key → BucketChain m events m' → Type 0
AllAnswered base none = Unit {0}
AllAnswered base (next {m = m} {m₁ = m₁} {e = e} step chain) = CallAnswered base m e.call e.number e.left m₁ × AllAnswered base chain
