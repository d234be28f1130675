-- A part of one record, behind its key, is replaced: the same places are listed, every other record stays, the table stays whole, and its view
-- changes at that place alone.
use mathlib.Core.Path.{◌≡◌, refl, sym, ap, ap₂, fun_ext, ◌∙◌}
use mathlib.Core.Bool.{Bool, true, false}
use mathlib.Core.List.{List, [], ◌∷◌, ◌++◌}
use Prim.Native.Nat.{ℕ, ◌+◌, ◌*◌, ◌≤◌, ◌<◌}
use native.Mathlib.Nat.{not-suc-le-zero}
use native.Mathlib.Omega.{arith}
use lib.ListN.{length, take, drop, set, take-append-drop}
use lib.Seq.{length-take-le, take-take, take-append-le, drop-drop}
use lib.Dec.{eqb, ltb}
use borrow.Author.Tests.{eqb-true, eqb-false, ltb-true, ltb-false}
use Rattle.lists.specs.Find.{member}
use Rattle.table_laws.specs.Bytes.{splice}
use Rattle.table_laws.specs.Table.{Table, count, order, records, listed, record_at, key_at, table_whole, view}
unfoldable pub use Rattle.table_laws.specs.Table.{refilled}
use Rattle.table_laws.proofs.Listed.{listed_is, length_order, row_fits}
use Rattle.table_laws.proofs.SearchLaws.{key_none}
use Rattle.table_laws.proofs.Stores.{length_splice, record_back}
use Rattle.table_laws.proofs.Places.{tabulate_set, part, part_other, part_same, splice_inner}
use Rattle.table_laws.proofs.TableLaws.{listed_made, record_made, record_is, length_records, length_record, key_record}

-- a table is its count, its order and its records
pub table_split : (p : ℕ) (b : List ℕ) → 0 < length b → b ≡ count b ∷ (order p b ++ records p b)
table_split p [] h = absurd (not-suc-le-zero h)
table_split p (x ∷ xs) h = ap (λ (y : List ℕ). x ∷ y) (sym (take-append-drop p xs) ∙ ap (λ (y : List ℕ). take p xs ++ y) (drop-drop p 1 (x ∷ xs)))

module _ (p w : ℕ) (b : List ℕ) (t : Table p w b) (n : ℕ) (below : n < p) (at : ℕ) (new : List ℕ) (most : at + length new ≤ w) where
  order_length : length (order p b) ≡ p
  order_length = length_order p b (let q = t.long in omega arith)

  made : refilled p w b n at new ≡ count b ∷ (order p b ++ splice (records p b) (n * w + at) new (length new))
  unfolding refilled
  made =
      ap₂ (λ (x : List ℕ) (y : ℕ). splice x y new (length new)) (table_split p b (let q = t.long in omega arith))
      (let q : 1 + p + n * w + at ≡ 1 + p + (n * w + at) = omega arith in q)
      ∙ record_back p (n * w + at) (length new) (count b) (order p b) (records p b) new order_length

  fill : splice (records p b) (n * w + at) new (length new) ≡ splice (records p b) (n * w) (splice (part w n (records p b)) at new (length new)) w
  fill = splice_inner (records p b) (n * w) w at new (rw (length_records p w b t) (row_fits p w n below)) most

  filled : length (splice (part w n (records p b)) at new (length new)) ≡ w
  filled =
      let l = ap length (sym (record_is p w b n)) ∙ length_record p w b t n below in
      length_splice (part w n (records p b)) at new (length new) (omega arith) refl ∙ l

  pub refilled_length : length (refilled p w b n at new) ≡ length b
  unfolding refilled
  refilled_length =
      let q = row_fits p w n below in
      let z = t.long in
      length_splice b (1 + p + n * w + at) new (length new) (omega arith) refl

  refilled_table : Table p w (refilled p w b n at new)
  refilled_table = record { small = t.small; key = t.key; narrow = t.narrow; long = refilled_length ∙ t.long }

  pub refilled_count : count (refilled p w b n at new) ≡ count b
  refilled_count = ap count made

  pub refilled_listed : listed p (refilled p w b n at new) ≡ listed p b
  refilled_listed =
      ap (listed p) made
      ∙ listed_made p (count b) (order p b) (splice (records p b) (n * w + at) new (length new)) order_length
      ∙ listed_is p b

  pub refilled_other : (m : ℕ) → m < p → (m ≡ n → ⊥) → record_at p w (refilled p w b n at new) m ≡ record_at p w b m
  refilled_other m h d =
      ap (λ (x : List ℕ). record_at p w x m) made
      ∙ record_made p (count b) (order p b) (splice (records p b) (n * w + at) new (length new)) order_length w m
      ∙ ap (part w m) fill
      ∙ part_other w n m (records p b) (splice (part w n (records p b)) at new (length new)) d (rw (length_records p w b t) (row_fits p w n below)) (rw (length_records p w b t) (row_fits p w m h)) filled
      ∙ sym (record_is p w b m)

  pub refilled_same : record_at p w (refilled p w b n at new) n ≡ splice (record_at p w b n) at new (length new)
  refilled_same =
      ap (λ (x : List ℕ). record_at p w x n) made
      ∙ record_made p (count b) (order p b) (splice (records p b) (n * w + at) new (length new)) order_length w n
      ∙ ap (part w n) fill
      ∙ part_same w n (records p b) (splice (part w n (records p b)) at new (length new)) (rw (length_records p w b t) (row_fits p w n below)) filled
      ∙ ap (λ (x : List ℕ). splice x at new (length new)) (sym (record_is p w b n))

  -- THE LAW: the view changes at that place alone
  pub view_refilled : {A : Type 0} (h : Bool → List ℕ → A) →
      view p w h (refilled p w b n at new) ≡ set (view p w h b) n (h (member n (listed p b)) (splice (record_at p w b n) at new (length new)))
  unfolding view
  view_refilled {A} h =
      tabulate_set 0 p n
      (λ (m : ℕ). h (member m (listed p b)) (record_at p w b m))
      (λ (m : ℕ). h (member m (listed p (refilled p w b n at new))) (record_at p w (refilled p w b n at new) m))
      (h (member n (listed p b)) (splice (record_at p w b n) at new (length new))) below here other
    where
      z : 0 + n ≡ n
      z = omega arith

      here : h (member (0 + n) (listed p (refilled p w b n at new))) (record_at p w (refilled p w b n at new) (0 + n))
          ≡ h (member n (listed p b)) (splice (record_at p w b n) at new (length new))
      here = rw (z, refilled_listed, refilled_same)

      other : (m : ℕ) → m < 0 + p → (m ≡ 0 + n → ⊥) →
          h (member m (listed p (refilled p w b n at new))) (record_at p w (refilled p w b n at new) m) ≡ h (member m (listed p b)) (record_at p w b m)
      other m k d = rw (refilled_listed, refilled_other m (omega arith) (λ q. d (q ∙ sym z)))

  -- behind the key every key stays, and so what is whole
  module _ (behind : 32 ≤ at) where
    key_kept : (m : ℕ) (u : Bool) → eqb m n ≡ u → m < p → take 32 (record_at p w (refilled p w b n at new) m) ≡ take 32 (record_at p w b m)
    key_kept m true e h =
        let l = length_record p w b t n below in
        rw (eqb-true m n e)
        (ap (take 32) refilled_same
        ∙ take-append-le 32 (take at (record_at p w b n)) (new ++ drop (length new) (drop at (record_at p w b n)))
        (rw (length-take-le at (record_at p w b n) (omega arith)) behind)
        ∙ take-take 32 at (record_at p w b n) behind)
    key_kept m false e h = ap (take 32) (refilled_other m h (eqb-false m n e))

    key_at_kept : (m : ℕ) (u : Bool) → ltb m p ≡ u → key_at p w (refilled p w b n at new) m ≡ key_at p w b m
    key_at_kept m true e =
        key_record p w (refilled p w b n at new) m t.key
        ∙ key_kept m (eqb m n) refl (ltb-true m p e)
        ∙ sym (key_record p w b m t.key)
    key_at_kept m false e =
        key_none p w (refilled p w b n at new) refilled_table m (ltb-false m p e) ∙ sym (key_none p w b t m (ltb-false m p e))

    pub refilled_keys : key_at p w (refilled p w b n at new) ≡ key_at p w b
    refilled_keys = fun_ext (λ m. key_at_kept m (ltb m p) refl)

    pub refilled_whole_same : table_whole p w (refilled p w b n at new) ≡ table_whole p w b
    unfolding table_whole
    refilled_whole_same = rw (refilled_count, refilled_listed, refilled_keys)

    pub refilled_whole : table_whole p w b ≡ true → table_whole p w (refilled p w b n at new) ≡ true
    refilled_whole o = refilled_whole_same ∙ o
