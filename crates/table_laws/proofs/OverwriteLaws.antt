-- Part of a used place's record overwritten behind its key, in any bytes: the keys, what is listed and so what is found, free and whole stay, and
-- the view changes at that place alone.
use mathlib.Core.Path.{◌≡◌, refl, ap, ◌∙◌}
use mathlib.Core.Bool.{Bool, true, false, cond}
use mathlib.Core.List.{List}
use Prim.Native.Nat.{ℕ, ◌<◌}
use lib.ListN.{length, set}
use Rattle.table_laws.specs.Bytes.{splice}
use Rattle.table_laws.specs.Table.{fits_table, listed, record_at, key_at, table_whole, is_table, found, key_of_place, is_used, lowest_free, view}
use Rattle.table_laws.specs.Table.{refilled, may_overwrite, overwritten_in}
use Rattle.table_laws.proofs.FitsLaws.{overwrite_may, overwrite_facts}
use Rattle.table_laws.proofs.RecordLaws.{refilled_length, refilled_listed, refilled_other, refilled_same, view_refilled, refilled_keys, refilled_whole_same}

module _ (p w : ℕ) (b : List ℕ) (n at : ℕ) (new : List ℕ) where
  -- what holds of b and of the record refilled
  either : (P : List ℕ → Type 0) → P b → (may_overwrite p w b n at new ≡ true → P (refilled p w b n at new)) → P (overwritten_in p w b n at new)
  unfolding overwritten_in
  either P h k = go (may_overwrite p w b n at new) refl
    where
      go : (u : Bool) → may_overwrite p w b n at new ≡ u → P (cond u (refilled p w b n at new) b)
      go true e = k e
      go false e = h

  pub overwritten_length : length (overwritten_in p w b n at new) ≡ length b
  overwritten_length =
      either (λ (x : List ℕ). length x ≡ length b) refl
      (λ e. let q = overwrite_facts p w b n at new e in refilled_length p w b q.0 n q.1 at new q.3)

  pub overwritten_listed : listed p (overwritten_in p w b n at new) ≡ listed p b
  overwritten_listed =
      either (λ (x : List ℕ). listed p x ≡ listed p b) refl
      (λ e. let q = overwrite_facts p w b n at new e in refilled_listed p w b q.0 n q.1 at new q.3)

  -- the key at each place
  pub overwritten_keys : key_at p w (overwritten_in p w b n at new) ≡ key_at p w b
  overwritten_keys =
      either (λ (x : List ℕ). key_at p w x ≡ key_at p w b) refl
      (λ e. let q = overwrite_facts p w b n at new e in refilled_keys p w b q.0 n q.1 at new q.3 q.2)

  -- THE LAW: what is whole stays whole, and what is not does not become so
  pub overwritten_whole : table_whole p w (overwritten_in p w b n at new) ≡ table_whole p w b
  overwritten_whole =
      either (λ (x : List ℕ). table_whole p w x ≡ table_whole p w b) refl
      (λ e. let q = overwrite_facts p w b n at new e in refilled_whole_same p w b q.0 n q.1 at new q.3 q.2)

  pub overwritten_fits : fits_table p w (overwritten_in p w b n at new) ≡ fits_table p w b
  unfolding fits_table
  overwritten_fits = rw overwritten_length

  pub overwritten_table : is_table p w (overwritten_in p w b n at new) ≡ is_table p w b
  unfolding is_table
  overwritten_table = rw (overwritten_fits, overwritten_whole)

  -- each lookup answers as before

  pub overwritten_found : (k : List ℕ) → found p w (overwritten_in p w b n at new) k ≡ found p w b k
  unfolding found
  overwritten_found k = rw (overwritten_fits, overwritten_keys, overwritten_listed)

  pub overwritten_key : (m : ℕ) → key_of_place p w (overwritten_in p w b n at new) m ≡ key_of_place p w b m
  unfolding key_of_place
  overwritten_key m = rw (overwritten_fits, overwritten_keys)

  pub overwritten_used : (m : ℕ) → is_used p (overwritten_in p w b n at new) m ≡ is_used p b m
  unfolding is_used
  overwritten_used m = rw (overwritten_length, overwritten_listed)

  pub overwritten_lowest : lowest_free p (overwritten_in p w b n at new) ≡ lowest_free p b
  unfolding lowest_free
  overwritten_lowest = rw (overwritten_length, overwritten_listed)

  -- the records, and so the view

  pub overwritten_other : (m : ℕ) → m < p → (m ≡ n → ⊥) → record_at p w (overwritten_in p w b n at new) m ≡ record_at p w b m
  overwritten_other m h d =
      either (λ (x : List ℕ). record_at p w x m ≡ record_at p w b m) refl
      (λ e. let q = overwrite_facts p w b n at new e in refilled_other p w b q.0 n q.1 at new q.3 m h d)

  module _ (may : may_overwrite p w b n at new ≡ true) where
    pub overwritten_same : record_at p w (overwritten_in p w b n at new) n ≡ splice (record_at p w b n) at new (length new)
    overwritten_same =
        let q = overwrite_facts p w b n at new may in
        ap (λ (x : List ℕ). record_at p w x n) (overwrite_may p w b n at new may) ∙ refilled_same p w b q.0 n q.1 at new q.3

    -- THE LAW: the view changes at that place alone, by the part
    pub view_overwritten : {A : Type 0} (h : Bool → List ℕ → A) →
        view p w h (overwritten_in p w b n at new) ≡ set (view p w h b) n (h true (splice (record_at p w b n) at new (length new)))
    view_overwritten {A} h =
        let q = overwrite_facts p w b n at new may in
        ap (view p w h) (overwrite_may p w b n at new may)
        ∙ view_refilled p w b q.0 n q.1 at new q.3 h
        ∙ ap (λ (u : Bool). set (view p w h b) n (h u (splice (record_at p w b n) at new (length new)))) q.4
