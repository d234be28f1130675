-- An outcome that is made part by part: what is done so far and what is left make up the whole. Assumes nothing.
use mathlib.Core.Path.{◌≡◌, refl, sym, ap, ◌∙◌, subst}
use mathlib.Core.List.{List, [], ◌∷◌, ◌++◌, append_assoc, append-nil}
use Prim.Native.Nat.{ℕ, ◌+◌, ◌≤◌}
use native.Mathlib.Omega.{arith}
use lib.ListN.{length}
use Rattle.rules.specs.Call.{Sent}
use Rattle.rules.specs.Outcome.{Change, Outcome, accept, both, sent_bytes}
use Rattle.rules.proofs.SentLaws.{count_append}
use Rattle.room_laws.specs.Store.{store, store_all}
use Rattle.records.specs.Output.{Appends}
use Rattle.records.proofs.AppendLaws.{appends_none, appends_more}
use Rattle.relay_laws.specs.Steps.{Made}

-- changes stored one after the other
pub store_all_append : (s n : ℕ) (b : List ℕ) (changes later : List Change) → store_all s n b (changes ++ later) ≡ store_all s n (store_all s n b changes) later
unfolding store_all
store_all_append s n b [] later = refl
store_all_append s n b (change ∷ changes) later = store_all_append s n (store s n b change) changes later

-- of the outcome o, on the bytes b₀ with the output out₀ behind its first at₀ bytes, `rest` is left to do, on b with the output `out` behind its first `at`
pub record SoFar (s n : ℕ) (o : Outcome) (b₀ out₀ : List ℕ) (at₀ : ℕ) (rest : Outcome) (b out : List ℕ) (at : ℕ) : Type 0 where
  pub sent : List Sent
  pub writes : Appends sent out₀ at₀ at out
  pub records : sent ++ rest.sent ≡ o.sent
  pub stores : store_all s n b rest.changes ≡ store_all s n b₀ o.changes

module _ (s n : ℕ) (o : Outcome) (b₀ out₀ : List ℕ) (at₀ : ℕ) where
  pub begun : SoFar s n o b₀ out₀ at₀ o b₀ out₀ at₀
  begun = record { sent = []; writes = appends_none out₀ at₀; records = refl; stores = refl }

  -- the first part of what is left is made
  pub onward : at₀ ≤ length out₀ → (first rest : Outcome) (b out : List ℕ) (at : ℕ) → SoFar s n o b₀ out₀ at₀ (both first rest) b out at
      → (b' : List ℕ) (next : ℕ) (out' : List ℕ) → Made s n first b out at b' next out' → SoFar s n o b₀ out₀ at₀ rest b' out' next
  unfolding accept
  onward h first rest b out at so b' next out' made = record {
    sent = so.sent ++ first.sent;
    writes = appends_more so.sent first.sent out₀ at₀ at next out out' h so.writes made.writes;
    records = append_assoc so.sent first.sent rest.sent ∙ so.records;
    stores =
        ap (λ (x : List ℕ). store_all s n x rest.changes) made.stores
        ∙ sym (store_all_append s n b first.changes rest.changes)
        ∙ so.stores;
  }

  -- nothing is left
  pub done : (rest : Outcome) (b out : List ℕ) (at : ℕ) → rest.changes ≡ [] → rest.sent ≡ [] → SoFar s n o b₀ out₀ at₀ rest b out at
      → Made s n o b₀ out₀ at₀ b at out
  done rest b out at c r so = record {
    stores = unfold store_all in (ap (λ (x : List Change). store_all s n b x) (sym c) ∙ so.stores);
    writes = subst (λ (x : List Sent). Appends x out₀ at₀ at out) (sym (append-nil so.sent) ∙ ap (λ (x : List Sent). so.sent ++ x) (sym r) ∙ so.records) so.writes;
  }

  -- what was written so far and what is left to write are all that is written
  pub so_far_within : (rest : Outcome) (b out : List ℕ) (at : ℕ) → SoFar s n o b₀ out₀ at₀ rest b out at
      → at + length (sent_bytes rest.sent) ≡ at₀ + length (sent_bytes o.sent)
  so_far_within rest b out at so =
      omega (arith, so.writes.answers, ap (λ (x : List Sent). length (sent_bytes x)) so.records, count_append so.sent rest.sent)
