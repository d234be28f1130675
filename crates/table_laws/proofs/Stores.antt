-- What the stores leave, as one list.
use mathlib.Core.Path.{◌≡◌, ◌∙◌, sym, ap, ap₂}
use mathlib.Core.List.{List, [], ◌∷◌, ◌++◌, append_assoc}
use Prim.Native.Nat.{ℕ, ◌+◌, ◌*◌, ◌-◌, ◌<◌, ◌≤◌}
use native.Mathlib.Nat.{not-suc-le-zero}
use native.Mathlib.Omega.{arith}
use lib.ListN.{length, get_or, take, drop, set, length-drop, length-append}
use lib.Seq.{length-take-le, drop-drop, take-add, take_at, drop_at}
use borrow.Author.Tests.{lt-ltb, le-ltb}
use Rattle.lists.specs.Find.{index_of}
use Rattle.table_laws.specs.Bytes.{splice}
use Rattle.table_laws.specs.Table.{Table, Spot, count, order, records, listed, place_of, entered, closed, put, unlisted, freed, refilled}

pub splice_add : (l new : List ℕ) (k j w : ℕ) → splice l (k + j) new w ≡ take k l ++ splice (drop k l) j new w
splice_add l new k j w = rw (take-add, ← drop-drop j k l) (append_assoc (take k l) (take j (drop k l)) _)

pub length_splice : (l : List ℕ) (at : ℕ) (new : List ℕ) (w : ℕ) → at + w ≤ length l → length new ≡ w → length (splice l at new w) ≡ length l
length_splice l at new w f e =
    rw (length-append, length-append, length-drop, length-drop, length-take-le at l (omega arith)) (omega arith)

-- the order replaced
pub order_back : (p : ℕ) (b o : List ℕ) → 0 < length b → splice b 1 o p ≡ get_or b 0 0 ∷ (o ++ drop (1 + p) b)
order_back p [] o h = absurd (not-suc-le-zero h)
order_back p (x ∷ xs) o h = ap (λ (r : List ℕ). x ∷ (o ++ r)) (drop-drop p 1 (x ∷ xs))

-- and then the count
pub freed_back : (p c : ℕ) (b o : List ℕ) → 0 < length b → set (splice b 1 o p) 0 c ≡ c ∷ (o ++ drop (1 + p) b)
freed_back p c b o h = ap (λ (x : List ℕ). set x 0 c) (order_back p b o h)

-- the order replaced, and then a part of a record
pub record_back : (p k l x : ℕ) (o r new : List ℕ) → length o ≡ p → splice (x ∷ (o ++ r)) (1 + p + k) new l ≡ x ∷ (o ++ splice r k new l)
record_back p k l x o r new e =
    splice_add (x ∷ (o ++ r)) new (1 + p) k l
    ∙ ap₂ (λ (y z : List ℕ). y ++ splice z k new l)
    (take_at (x ∷ o) r (1 + p) (omega arith))
    (drop_at (x ∷ o) r (1 + p) (omega arith))

pub put_back : (p k l c : ℕ) (b o new : List ℕ) → 0 < length b → length o ≡ p →
    set (splice (splice b 1 o p) (1 + p + k) new l) 0 c ≡ c ∷ (o ++ splice (drop (1 + p) b) k new l)
put_back p k l c b o new h e =
    ap (λ (x : List ℕ). set x 0 c)
    (ap (λ (x : List ℕ). splice x (1 + p + k) new l) (order_back p b o h) ∙ record_back p k l (get_or b 0 0) o (drop (1 + p) b) new e)

-- ---- as the borrow checker has them

module _ (p w : ℕ) (b : List ℕ) (t : Table p w b) (k : ℕ) (o : List ℕ) (ek : k ≡ p) (lo : length o ≡ p) where
  -- with another order it is a table as before
  pub opened_table : Table p w (splice b 1 o k)
  opened_table =
      let l = t.long in
      record { small = t.small; key = t.key; narrow = t.narrow; long = length_splice b 1 o k (omega arith) (lo ∙ sym ek) ∙ t.long }

  pub put_done : (n : ℕ) (new : List ℕ) (c i m : ℕ) (x : List ℕ) → c ≡ count b + 1 → i ≡ place_of p w b (take 32 new) → m ≡ count b →
      o ≡ entered m i n (order p b) → x ≡ refilled p w (splice b 1 o k) n 0 new → set x 0 c ≡ put p w b n new
  unfolding put refilled
  put_done n new c i m x ec ei em e ex =
      let z : 0 < length b = let q = t.long in omega arith in
      let f : 1 + p + n * w + 0 ≡ 1 + p + n * w = omega arith in
      ap (λ (y : List ℕ). set y 0 c) (ex ∙ ap₂ (λ (y v : ℕ). splice (splice b 1 o y) v new (length new)) ek f)
      ∙ put_back p (n * w) (length new) c b o new z lo
      ∙ ap₂ (λ (y : ℕ) (v : List ℕ). y ∷ (v ++ splice (records p b) (n * w) new (length new))) ec
      (e ∙ ap₂ (λ (y v : ℕ). entered y v n (order p b)) em ei)

module _ (p : ℕ) (b : List ℕ) (n : ℕ) where
  pub freed_none : (m i : ℕ) → m ≡ count b → i ≡ index_of n (listed p b) → m ≤ i → b ≡ freed p b n
  unfolding freed
  freed_none m i em ei h = rw (le-ltb (index_of n (listed p b)) (count b) (omega arith))

  pub freed_done : (c i m : ℕ) (o : List ℕ) → 0 < length b → c ≡ count b - 1 → i ≡ index_of n (listed p b) → m ≡ count b - 1 → i < count b →
      o ≡ closed m i (order p b) → set (splice b 1 o p) 0 c ≡ freed p b n
  unfolding freed unlisted
  freed_done c i m o z ec ei em h e =
      rw (lt-ltb (index_of n (listed p b)) (count b) (omega arith))
      (freed_back p c b o z ∙ ap₂ (λ (x : ℕ) (y : List ℕ). x ∷ (y ++ records p b)) ec (e ∙ ap₂ (λ (x y : ℕ). closed x y (order p b)) em ei))

pub refilled_done : (p w : ℕ) (b : List ℕ) (n at : ℕ) (new : List ℕ) (r : ℕ) → Spot p w b n r → splice b (r + at) new (length new) ≡ refilled p w b n at new
unfolding refilled
refilled_done p w b n at new r s = rw s.at
