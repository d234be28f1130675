-- The theorems on lists are not vacuous: any offers, removals and held nodes read, of nodes as the types of the parameters have them, are those of calls on a
-- list begun for any key, with any size, right or not, in any memory that fits a list (`every_list_history`). Assumes nothing.
use mathlib.Core.Path.{◌≡◌, refl, sym, ap, subst, ◌∙◌}
use mathlib.Core.Bool.{Bool, true, false, cond}
use mathlib.Core.List.{List, [], ◌∷◌}
use Prim.Native.Nat.{ℕ, ◌≤◌}
use native.Mathlib.Omega.{arith}
use lib.ListN.{length}
use borrow.Author.Tests.{le-leb}
use Rattle.wire.specs.Numbers.{Bytes}
use Rattle.refusal.specs.declared.Refusal.TheVariants.{ListSize}
use Rattle.key.specs.declared.Key.{Key}
use Rattle.key.specs.Keys.{IsKey}
use Rattle.nearest.specs.declared.NearestList.{NearestList}
use Rattle.std.proofs.Common.{Ok, Err}
use Rattle.nearest.specs.Lists.{default_size, size_right}
use Rattle.nearest.specs.Calls.{begun, offered, removed}
use Rattle.lent_list_laws.specs.Layout.{list_length, list_at, stored, Storable}
use Rattle.lent_list_laws.specs.Calls.{begun_answer, offer_answered, remove_answered}
use Rattle.lent_list.specs.Held.{held_at}
use Rattle.lent_list_laws.proofs.AfterCalls.{begin_storable, offer_storable, remove_storable, stored_read, bytes_stored, length_stored}
use Rattle.banavoge_laws.specs.Nearest.{done_code, kept_code, held_code, held_after}
use Rattle.histories.specs.ListHistory.{ListCall, offering, removing, reading, ListEvent, list_event, no_held, ListChain, none, next, ListBegun, of_size, of_bad_size, list_calls, FitsCalls, ListHistoryOf}
use Rattle.histories.specs.ListHistory as list
use Rattle.histories.proofs.ListHistories.{begun_answer_lem}

-- memory that holds a list whose parts are bytes
record Holds (m : List ℕ) : Type 0 where
  long : 850 ≤ length m
  are : Bytes m
  storable : Storable (list_at m)

stores : (l : NearestList) (m : List ℕ) → 850 ≤ length m → Bytes m → Storable l → Holds (stored l m)
stores l m h b s = record {
  long = let k = length_stored m h l s in omega arith;
  are = bytes_stored l m s b;
  storable = subst Storable (sym (stored_read m h l s)) s;
}

record Chained (m : List ℕ) (calls : List ListCall) : Type 0 where
  pub seen_as : List ListEvent
  pub left : List ℕ
  pub chain : ListChain m seen_as left
  pub are : list_calls seen_as ≡ calls

chained : (calls : List ListCall) → FitsCalls calls → (m : List ℕ) → Holds m → Chained m calls
unfolding list_calls
chained [] f m h = record { seen_as = []; left = m; chain = none; are = refl }
chained (offering n ∷ calls) f m h =
    let l = (offered (list_at m) n).list in
    let rest = chained calls f.1 (stored l m) (stores l m h.long h.are (offer_storable (list_at m) h.storable n f.0)) in
    record {
      seen_as = list_event (offering n) (kept_code (offer_answered m n)) no_held ∷ rest.seen_as;
      left = rest.left;
      chain =
          next
          (list.offers n _ (record { given = offer_answered m n; relates = record { bytes = h.are; node = f.0; answers = refl; leaves = refl }; codes = refl }) refl)
          rest.chain;
      are = ap (λ (x : List ListCall). offering n ∷ x) rest.are;
    }
chained (removing key ∷ calls) f m h =
    let l = (removed (list_at m) key).list in
    let rest = chained calls f (stored l m) (stores l m h.long h.are (remove_storable (list_at m) h.storable key)) in
    record {
      seen_as = list_event (removing key) (done_code (remove_answered m key)) no_held ∷ rest.seen_as;
      left = rest.left;
      chain =
          next (list.removes key _ (record { given = remove_answered m key; relates = record { bytes = h.are; answers = refl; leaves = refl }; codes = refl }) refl)
          rest.chain;
      are = ap (λ (x : List ListCall). removing key ∷ x) rest.are;
    }
chained (reading index before ∷ calls) f m h =
    let shown = held_at m index in
    let rest = chained calls f m h in
    record {
      seen_as = list_event (reading index before) (held_code shown) (held_after shown before) ∷ rest.seen_as;
      left = rest.left;
      chain = next (list.reads index _ before _ (record { answers = refl; leaves = refl }) refl refl) rest.chain;
      are = ap (λ (x : List ListCall). reading index before ∷ x) rest.are;
    }

-- begun, of a size that is right or of one that is not
begins : (target : Key) (asked : ℕ) → IsKey target.0 → (memory : List ℕ) → list_length ≤ length memory
    → ListBegun target (cond (size_right asked) asked default_size) (stored (begun target asked).list memory)
begins target asked k memory long = go (size_right asked) refl
  where
    answers : (t : Bool) → size_right asked ≡ t → cond t (Ok tt) (Err ListSize) ≡ begun_answer (begun target asked).answer memory
    answers true e = sym (begun_answer_lem target asked memory ∙ simp (e, le-leb 850 (length memory) long))
    answers false e = sym (begun_answer_lem target asked memory ∙ simp e)

    go : (t : Bool) → size_right asked ≡ t → ListBegun target (cond t asked default_size) (stored (begun target asked).list memory)
    go true e =
        of_size memory (record { given = Ok tt; relates = record { key = k; answers = answers true e; leaves = refl }; codes = unfold done_code in refl })
    go false e =
        of_bad_size asked memory long
        (record { given = Err ListSize; relates = record { key = k; answers = answers false e; leaves = refl }; codes = unfold done_code in refl })

pub every_list_history : (target : Key) (asked : ℕ) → IsKey target.0 → (memory : List ℕ) → list_length ≤ length memory → Bytes memory
    → (calls : List ListCall) → FitsCalls calls → ListHistoryOf target (cond (size_right asked) asked default_size) calls
every_list_history target asked k memory long b calls f =
    let l = (begun target asked).list in
    let rest = chained calls f (stored l memory) (stores l memory long b (begin_storable target asked k)) in
    record {
      seen_as = rest.seen_as;
      left = rest.left;
      history = record { memory = stored l memory; begun = begins target asked k memory long; chain = rest.chain };
      are = rest.are;
    }
