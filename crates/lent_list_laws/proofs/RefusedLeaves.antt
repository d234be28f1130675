-- "A refusal answers its number with 0 bytes written; room, list and lent output are as before the call." Of an offer and of a removal in lent bytes, by the answer
-- that the call itself gives, on memory of any length: every byte is as before. Assumes nothing.
use mathlib.Core.Path.{◌≡◌, refl, sym, ◌∙◌}
use mathlib.Core.Bool.{Bool, true, false, cond}
use mathlib.Core.List.{List}
use Prim.Native.Nat.{ℕ}
use lib.Dec.{leb}
use lib.ListN.{length}
use Rattle.std.specs.Prelude.{Err}
use Rattle.refusal.specs.declared.Refusal.{Refusal}
use Rattle.key.specs.declared.Key.{Key}
use Rattle.node.specs.declared.Node.{Node}
use Rattle.nearest.specs.declared.NearestList.{NearestList}
use Rattle.nearest.specs.Calls.{offered, removed}
use Rattle.lent_list_laws.specs.Layout.{list_length, list_at, stored}
use Rattle.lent_list_laws.specs.Calls.{short_refusal, offer_answered, Offers, remove_answered, Removes}
use Rattle.lent_list_laws.proofs.RoundTrips.{refused_offer_stored, refused_remove_stored}

-- where what a refusal by value hands back is stored without a change, in memory long enough
module _ (m : List ℕ) where
  by_length : {A : Type 0} (l : NearestList) (value short given : A) → cond (leb list_length (length m)) value short ≡ given → (value ≡ given → stored l m ≡ m) → stored l m ≡ m
  unfolding stored
  by_length {A} l value short given e long = go (leb list_length (length m)) refl e
    where
      go : (t : Bool) → leb list_length (length m) ≡ t → cond t value short ≡ given → stored l m ≡ m
      go true h e = long e
      go false h e = simp h

  module _ (left : List ℕ) (why : Refusal) where
    pub refused_offer_leaves : (n : Node) → Offers n m left (Err why) → left ≡ m
    unfolding offer_answered
    refused_offer_leaves n o =
        o.leaves ∙ by_length (offered (list_at m) n).list (offered (list_at m) n).answer (Err (short_refusal m)) (Err why) (sym o.answers)
        (λ e. refused_offer_stored m o.bytes why n e)

    pub refused_remove_leaves : (key : Key) → Removes key m left (Err why) → left ≡ m
    unfolding remove_answered
    refused_remove_leaves key r =
        r.leaves ∙ by_length (removed (list_at m) key).list (removed (list_at m) key).answer (Err (short_refusal m)) (Err why) (sym r.answers)
        (λ e. refused_remove_stored m r.bytes why key e)
