-- The theorems on buckets are not vacuous: any offers and questions, of nodes as the types of the parameters have them and with targets that are keys, are
-- those of calls on buckets begun for any base key in any memory that fits buckets (`every_buckets`). Assumes nothing.
use mathlib.Core.Path.{◌≡◌, refl, ap}
use mathlib.Core.List.{List, [], ◌∷◌}
use Prim.Native.Nat.{ℕ, ◌≤◌}
use lib.ListN.{length}
use borrow.Author.Tests.{le-leb}
use Rattle.wire.specs.Numbers.{Bytes}
use Rattle.key.specs.declared.Key.{Key}
use Rattle.key.specs.Keys.{IsKey}
use Rattle.std.proofs.Common.{Ok}
use Rattle.buckets_laws.specs.Layout.{buckets_length}
use Rattle.buckets_laws.specs.Calls.{begun_answer, begun_memory, Begins, offer_answered, offer_left, Offers, nearest_answered, nearest_left, Asks}
use Rattle.buckets_laws.proofs.BeginLaws.{begin_bytes}
use Rattle.buckets_laws.proofs.OfferLaws.{offer_keeps_bytes}
use Rattle.banavoge_laws.specs.Nodes.{node_written_code}
use Rattle.banavoge_laws.specs.Nearest.{done_code, kept_code}
use Rattle.histories.specs.BucketHistory.{BucketCall, offering, asking, BucketEvent, bucket_event, BucketChain, none, next}
use Rattle.histories.specs.BucketHistory.{bucket_calls, FitsBucketCalls, BucketHistoryOf}
use Rattle.histories.specs.BucketHistory as bucket

record Chained (m : List ℕ) (calls : List BucketCall) : Type 0 where
  pub seen_as : List BucketEvent
  pub left : List ℕ
  pub chain : BucketChain m seen_as left
  pub are : bucket_calls seen_as ≡ calls

chained : (calls : List BucketCall) → FitsBucketCalls calls → (m : List ℕ) → Bytes m → Chained m calls
unfolding bucket_calls
chained [] f m b = record { seen_as = []; left = m; chain = none; are = refl }
chained (offering n ∷ calls) f m b =
    let o : Offers n m (offer_left m n) (offer_answered m n) = record { bytes = b; node = f.0; answers = refl; leaves = refl } in
    let rest = chained calls f.1 (offer_left m n) (offer_keeps_bytes o) in
    record {
      seen_as = bucket_event (offering n) (kept_code (offer_answered m n)) [] ∷ rest.seen_as;
      left = rest.left;
      chain = next (bucket.offers n _ (record { given = offer_answered m n; relates = o; codes = refl }) refl) rest.chain;
      are = ap (λ (x : List BucketCall). offering n ∷ x) rest.are;
    }
chained (asking target out ∷ calls) f m b =
    let said = nearest_answered m target.0 out in
    let left = nearest_left m target.0 out in
    let a : Asks target m out left said = record { bytes = b; key = f.0; answers = refl; leaves = refl } in
    let rest = chained calls f.1 m b in
    record {
      seen_as = bucket_event (asking target out) (node_written_code said) left ∷ rest.seen_as;
      left = rest.left;
      chain = next (bucket.asks target _ out left (record { given = said; relates = a; codes = refl }) refl refl) rest.chain;
      are = ap (λ (x : List BucketCall). asking target out ∷ x) rest.are;
    }

begin_of : (base : Key) → IsKey base.0 → (memory : List ℕ) → Bytes memory → buckets_length ≤ length memory
    → Begins base memory (begun_memory base memory) (Ok tt)
unfolding begun_answer
begin_of base k memory b long = record { bytes = b; key = k; answers = rw (le-leb 106784 (length memory) long); leaves = refl }

pub every_buckets : (base : Key) → IsKey base.0 → (memory : List ℕ) → Bytes memory → buckets_length ≤ length memory
    → (calls : List BucketCall) → FitsBucketCalls calls → BucketHistoryOf base calls
every_buckets base k memory b long calls f =
    let is = begin_of base k memory b long in
    let rest = chained calls f (begun_memory base memory) (begin_bytes is) in
    record {
      seen_as = rest.seen_as;
      left = rest.left;
      history = record {
        memory = begun_memory base memory;
        begun = record { memory = memory; begins = record { given = Ok tt; relates = is; codes = unfold done_code in refl } };
        chain = rest.chain;
      };
      are = rest.are;
    }
