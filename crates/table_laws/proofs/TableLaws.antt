-- What the stores do to the view, and that what is whole stays whole.
use mathlib.Core.Path.{◌≡◌, refl, sym, ap, ◌∙◌}
use mathlib.Core.Bool.{Bool, true, false, ◌&&◌, or-true}
use Prim.Native.Nat.{ℕ, suc, ◌+◌, ◌*◌, ◌-◌, ◌≤◌, ◌<◌}
use native.Mathlib.Numerals.{add-one}
use native.Mathlib.Omega.{arith}
use mathlib.Core.List.{List, [], ◌∷◌, ◌++◌}
use lib.ListN.{length, take, drop, get_or, set, length-append, length-drop, get_or-eq_default}
use lib.Seq.{length-take-le, take_at, drop_at, take-take, take-append-le}
use lib.Dec.{eqb, ltb}
use borrow.Author.Tests.{eq-eqb, ne_eqb, lt-ltb}
use Rattle.lists.specs.Insert.{insert_at, remove_at}
use Rattle.lists.specs.Find.{leading, member, index_of}
use Rattle.lists.proofs.Shift.{length_in, take_more_in, length_out, take_less_out}
use Rattle.lists.proofs.Members.{member_in, member_out, index_member, out_gone}
use Rattle.table_laws.specs.Bytes.{splice, key_before}
use Rattle.table_laws.specs.Table.{Table, count, order, records, listed, record_at, key_at, rising, rising_after, table_whole, position, place_of, entered, closed, put, unlisted, freed, view}
use Rattle.table_laws.proofs.KeyOrder.{clash, key_before_total, rising_apart, rising_below, rising_put, rising_out}
use Rattle.table_laws.proofs.Listed.{listed_is, length_order, length_listed, row_fits, whole_count, whole_rising, whole_is, length_key, place_le}
use Rattle.table_laws.proofs.Distinct.{rising_distinct}
use Rattle.table_laws.proofs.Stores.{length_splice}
use Rattle.table_laws.proofs.Places.{get_d_tabulate, length_tabulate, tabulate_set, part, part_other, part_same, splice_inner}

-- ---- a table made of a count, an order and records

module _ (p c : ℕ) (o r : List ℕ) (e : length o ≡ p) where
  pub order_made : order p (c ∷ (o ++ r)) ≡ o
  order_made = take_at o r p e

  pub records_made : records p (c ∷ (o ++ r)) ≡ r
  records_made = drop_at (c ∷ o) r (1 + p) (omega arith)

  pub listed_made : listed p (c ∷ (o ++ r)) ≡ take c o
  unfolding listed
  listed_made = ap (take c) order_made

  pub record_made : (w n : ℕ) → record_at p w (c ∷ (o ++ r)) n ≡ part w n r
  unfolding record_at
  record_made w n = ap (part w n) records_made

pub record_is : (p w : ℕ) (b : List ℕ) (n : ℕ) → record_at p w b n ≡ part w n (records p b)
unfolding record_at
record_is p w b n = refl

pub length_records : (p w : ℕ) (b : List ℕ) → Table p w b → length (records p b) ≡ p * w
length_records p w b t = rw length-drop (let q = t.long in omega arith)

pub length_record : (p w : ℕ) (b : List ℕ) → Table p w b → (n : ℕ) → n < p → length (record_at p w b n) ≡ w
length_record p w b t n below =
    let q = row_fits p w n below in
    let l = length_records p w b t in
    ap length (record_is p w b n) ∙ length-take-le w (drop (n * w) (records p b)) (rw length-drop (omega arith))

pub key_record : (p w : ℕ) (b : List ℕ) (n : ℕ) → 32 ≤ w → key_at p w b n ≡ take 32 (record_at p w b n)
unfolding key_at record_at
key_record p w b n h = sym (take-take 32 w (drop (n * w) (records p b)) h)

length_entered : (c i n : ℕ) (o : List ℕ) → i ≤ length o → c < length o → length (entered c i n o) ≡ length o
unfolding entered
length_entered c i n o h k =
    rw (length-append, length-drop, length-take-le (c + 1) (insert_at i n o) (let q = length_in i n o in omega arith)) (omega arith)

length_closed : (c i : ℕ) (o : List ℕ) → i < length o → c < length o → length (closed c i o) ≡ length o
unfolding closed
length_closed c i o h k =
    rw (length-append, length-drop, length-take-le c (remove_at i o) (let q = length_out i o h in omega arith)) (omega arith)

listed_entered : (c i n : ℕ) (o : List ℕ) → i ≤ c → c < length o → take (c + 1) (entered c i n o) ≡ insert_at i n (take c o)
unfolding entered
listed_entered c i n o h k =
    let q = length_in i n o in
    take_at (take (c + 1) (insert_at i n o)) (drop (c + 1) o) (c + 1) (length-take-le (c + 1) (insert_at i n o) (omega arith))
    ∙ rw add-one (take_more_in i c n o h (omega arith))

listed_closed : (c i : ℕ) (o : List ℕ) → i ≤ c → c < length o → take c (closed c i o) ≡ remove_at i (take (suc c) o)
unfolding closed
listed_closed c i o h k =
    let q = length_out i o (omega arith) in
    take_at (take c (remove_at i o)) (drop c o) c (length-take-le c (remove_at i o) (omega arith))
    ∙ take_less_out i c o h

-- ---- by the keys alone

module _ (p : ℕ) (f g : ℕ → List ℕ) where
  from_same : (m : ℕ) (ns : List ℕ) → g m ≡ f m → ((x : ℕ) → member x ns ≡ true → g x ≡ f x) → rising_after p g m ns ≡ rising_after p f m ns
  unfolding rising_after member
  from_same m [] e h = refl
  from_same m (n ∷ ns) e h =
      let q : g n ≡ f n = h n (rw (eq-eqb n n refl)) in
      rw (e, q, from_same n ns q (λ x i. h x (rw (i, or-true (eqb n x)))))

  pub rising_same : (ns : List ℕ) → ((x : ℕ) → member x ns ≡ true → g x ≡ f x) → rising p g ns ≡ rising p f ns
  unfolding rising member
  rising_same [] h = refl
  rising_same (n ∷ ns) h =
      ap (λ (t : Bool). ltb n p && t) (from_same n ns (h n (rw (eq-eqb n n refl))) (λ x i. h x (rw (i, or-true (eqb n x)))))

  pub position_same : (k : List ℕ) (ns : List ℕ) → ((x : ℕ) → member x ns ≡ true → g x ≡ f x) → position g k ns ≡ position f k ns
  unfolding leading member
  position_same k [] h = refl
  position_same k (n ∷ ns) h =
      rw (h n (rw (eq-eqb n n refl)), position_same k ns (λ x i. h x (rw (i, or-true (eqb n x)))))

-- ---- the view

module _ {A : Type 0} (p w : ℕ) (h : Bool → List ℕ → A) (b : List ℕ) where
  pub view_at : (n : ℕ) (d : A) → n < p → get_or (view p w h b) n d ≡ h (member n (listed p b)) (record_at p w b n)
  unfolding view
  view_at n d k =
      get_d_tabulate 0 p (λ (m : ℕ). h (member m (listed p b)) (record_at p w b m)) n d k
      ∙ ap (λ (m : ℕ). h (member m (listed p b)) (record_at p w b m)) (let q : 0 + n ≡ n = omega arith in q)

  pub length_view : length (view p w h b) ≡ p
  unfolding view
  length_view = length_tabulate 0 p (λ (m : ℕ). h (member m (listed p b)) (record_at p w b m))

  pub view_past : (n : ℕ) (d : A) → p ≤ n → get_or (view p w h b) n d ≡ d
  view_past n d k = get_or-eq_default (view p w h b) d (rw length_view k)

-- THE LAW: in a table that is whole no two places that are used have the same key
pub keys_apart : (p w : ℕ) (b : List ℕ) → table_whole p w b ≡ true → 32 ≤ w → (n m : ℕ) → member n (listed p b) ≡ true → member m (listed p b) ≡ true →
    take 32 (record_at p w b n) ≡ take 32 (record_at p w b m) → n ≡ m
keys_apart p w b o h n m e d k =
    rising_apart p (key_at p w b) (listed p b) (whole_rising p w b o) n m e d (key_record p w b n h ∙ k ∙ sym (key_record p w b m h))

-- ---- place n put in use

module _ (p w : ℕ) (b : List ℕ) (n : ℕ) (new : List ℕ) (t : Table p w b) (room : count b < p) (below : n < p) (most : length new ≤ w) where
  i : ℕ
  i = place_of p w b (take 32 new)

  long : p < length b
  long = let q = t.long in omega arith

  i_le : place_of p w b (take 32 new) ≤ count b
  i_le = place_le p w b (let q = room in omega arith) long (take 32 new)

  in_length : length (entered (count b) (place_of p w b (take 32 new)) n (order p b)) ≡ p
  in_length =
      length_entered (count b) (place_of p w b (take 32 new)) n (order p b) (let q = i_le in let l = length_order p b long in omega arith) (let l = length_order p b long in omega arith)
      ∙ length_order p b long

  pub put_listed : listed p (put p w b n new) ≡ insert_at (place_of p w b (take 32 new)) n (listed p b)
  unfolding put
  put_listed =
      listed_made p (count b + 1) (entered (count b) (place_of p w b (take 32 new)) n (order p b)) (splice (records p b) (n * w) new (length new)) in_length
      ∙ listed_entered (count b) (place_of p w b (take 32 new)) n (order p b) i_le (let l = length_order p b long in omega arith)
      ∙ ap (insert_at (place_of p w b (take 32 new)) n) (listed_is p b)

  fill : splice (records p b) (n * w) new (length new) ≡ splice (records p b) (n * w) (splice (part w n (records p b)) 0 new (length new)) w
  fill =
      ap (λ (x : ℕ). splice (records p b) x new (length new)) (let q : n * w ≡ n * w + 0 = omega arith in q)
      ∙ splice_inner (records p b) (n * w) w 0 new (rw (length_records p w b t) (row_fits p w n below)) (omega arith)

  filled : length (splice (part w n (records p b)) 0 new (length new)) ≡ w
  filled =
      let l = ap length (sym (record_is p w b n)) ∙ length_record p w b t n below in
      length_splice (part w n (records p b)) 0 new (length new) (omega arith) refl ∙ l

  pub put_other : (m : ℕ) → m < p → (m ≡ n → ⊥) → record_at p w (put p w b n new) m ≡ record_at p w b m
  unfolding put
  put_other m h d =
      record_made p (count b + 1) (entered (count b) (place_of p w b (take 32 new)) n (order p b)) (splice (records p b) (n * w) new (length new)) in_length w m
      ∙ ap (part w m) fill
      ∙ part_other w n m (records p b) (splice (part w n (records p b)) 0 new (length new)) d (rw (length_records p w b t) (row_fits p w n below)) (rw (length_records p w b t) (row_fits p w m h)) filled
      ∙ sym (record_is p w b m)

  pub put_same : record_at p w (put p w b n new) n ≡ new ++ drop (length new) (record_at p w b n)
  unfolding put
  put_same =
      record_made p (count b + 1) (entered (count b) (place_of p w b (take 32 new)) n (order p b)) (splice (records p b) (n * w) new (length new)) in_length w n
      ∙ ap (part w n) fill
      ∙ part_same w n (records p b) (splice (part w n (records p b)) 0 new (length new)) (rw (length_records p w b t) (row_fits p w n below)) filled
      ∙ ap (λ (x : List ℕ). new ++ drop (length new) x) (sym (record_is p w b n))

  pub length_put : length (put p w b n new) ≡ length b
  unfolding put
  length_put =
      let q = row_fits p w n below in
      let r = length_records p w b t in
      let l = length_splice (records p b) (n * w) new (length new) (omega arith) refl in
      let k = in_length in
      let z = t.long in
      rw length-append (omega arith)

  -- the view of it
  pub view_put : {A : Type 0} (h : Bool → List ℕ → A) →
      view p w h (put p w b n new) ≡ set (view p w h b) n (h true (new ++ drop (length new) (record_at p w b n)))
  unfolding view
  view_put {A} h =
      tabulate_set 0 p n
      (λ (m : ℕ). h (member m (listed p b)) (record_at p w b m))
      (λ (m : ℕ). h (member m (listed p (put p w b n new))) (record_at p w (put p w b n new) m))
      (h true (new ++ drop (length new) (record_at p w b n))) below here other
    where
      z : 0 + n ≡ n
      z = omega arith

      here : h (member (0 + n) (listed p (put p w b n new))) (record_at p w (put p w b n new) (0 + n)) ≡ h true (new ++ drop (length new) (record_at p w b n))
      here = rw (z, put_listed, put_same, member_in n (place_of p w b (take 32 new)) n (listed p b), eq-eqb n n refl)

      other : (m : ℕ) → m < 0 + p → (m ≡ 0 + n → ⊥) →
          h (member m (listed p (put p w b n new))) (record_at p w (put p w b n new) m) ≡ h (member m (listed p b)) (record_at p w b m)
      other m k d =
          let e : m ≡ n → ⊥ = λ q. d (q ∙ sym z) in
          rw (put_listed, put_other m (omega arith) e, member_in m (place_of p w b (take 32 new)) n (listed p b), ne_eqb n m (λ q. e (sym q)))

  -- and it is whole
  module _ (o : table_whole p w b ≡ true) (least : 32 ≤ length new) (absent : member n (listed p b) ≡ false)
      (fresh : (x : ℕ) → member x (listed p b) ≡ true → key_at p w b x ≡ take 32 new → ⊥) where
    key_other : (x : ℕ) → member x (listed p b) ≡ true → key_at p w (put p w b n new) x ≡ key_at p w b x
    key_other x h =
        let d : x ≡ n → ⊥ = λ q. clash (ap (λ (y : ℕ). member y (listed p b)) (sym q) ∙ h) absent in
        key_record p w (put p w b n new) x t.key
        ∙ ap (take 32) (put_other x (rising_below p (key_at p w b) (listed p b) (whole_rising p w b o) x h) d)
        ∙ sym (key_record p w b x t.key)

    key_new : key_at p w (put p w b n new) n ≡ take 32 new
    key_new =
        key_record p w (put p w b n new) n t.key
        ∙ ap (take 32) put_same
        ∙ take-append-le 32 new (drop (length new) (record_at p w b n)) least

    put_rising : rising p (key_at p w (put p w b n new)) (listed p (put p w b n new)) ≡ true
    put_rising =
        let f = key_at p w (put p w b n new) in
        let s = rising_same p (key_at p w b) f (listed p b) key_other in
        let q : position f (f n) (listed p b) ≡ place_of p w b (take 32 new)
        = ap (λ (k : List ℕ). position f k (listed p b)) key_new ∙ position_same p (key_at p w b) f (take 32 new) (listed p b) key_other in
        ap (rising p f) (put_listed ∙ ap (λ (j : ℕ). insert_at j n (listed p b)) (sym q))
        ∙ rising_put p f n below (listed p b) (s ∙ whole_rising p w b o) after
      where
        after : (x : ℕ) → member x (listed p b) ≡ true → key_before (key_at p w (put p w b n new) x) (key_at p w (put p w b n new) n) ≡ false →
            key_before (key_at p w (put p w b n new) n) (key_at p w (put p w b n new) x) ≡ true
        after x h = rw (key_other x h, key_new) (go (key_before (take 32 new) (key_at p w b x)) refl)
          where
            go : (u : Bool) → key_before (take 32 new) (key_at p w b x) ≡ u → key_before (key_at p w b x) (take 32 new) ≡ false → u ≡ true
            go true e d = refl
            go false e d =
                absurd (fresh x h
                (key_before_total (key_at p w b x) (take 32 new)
                (length_key p w b x t (rising_below p (key_at p w b) (listed p b) (whole_rising p w b o) x h) ∙ sym (length-take-le 32 new least)) d e))

    pub whole_put : table_whole p w (put p w b n new) ≡ true
    whole_put =
        whole_is p w (put p w b n new) (unfold put in let q = room in omega arith)
        ∙ put_rising

-- ---- place n no more in use

module _ (p w : ℕ) (b : List ℕ) (n : ℕ) (t : Table p w b) (o : table_whole p w b ≡ true) where
  c_le : count b ≤ p
  c_le = whole_count p w b o

  long' : p < length b
  long' = let q = t.long in omega arith

  module _ (h : member n (listed p b) ≡ true) where
    at : index_of n (listed p b) < count b
    at = let q = index_member n (listed p b) h in let l = length_listed p b long' c_le in omega arith

    unlisted_is : unlisted p b n ≡ (count b - 1) ∷ (closed (count b - 1) (index_of n (listed p b)) (order p b) ++ records p b)
    unfolding unlisted
    unlisted_is = refl

    pub freed_is : freed p b n ≡ unlisted p b n
    unfolding freed
    freed_is = rw (lt-ltb (index_of n (listed p b)) (count b) at)

    out_length : length (closed (count b - 1) (index_of n (listed p b)) (order p b)) ≡ p
    out_length =
        let a = at in
        let q = length_order p b long' in
        let c = c_le in
        length_closed (count b - 1) (index_of n (listed p b)) (order p b) (omega arith) (omega arith) ∙ q

    pub freed_listed : listed p (freed p b n) ≡ remove_at (index_of n (listed p b)) (listed p b)
    freed_listed =
        let a = at in
        let q = length_order p b long' in
        let c = c_le in
        let k : suc (count b - 1) ≡ count b = omega arith in
        ap (listed p) (freed_is ∙ unlisted_is)
        ∙ listed_made p (count b - 1) (closed (count b - 1) (index_of n (listed p b)) (order p b)) (records p b) out_length
        ∙ listed_closed (count b - 1) (index_of n (listed p b)) (order p b) (omega arith) (omega arith)
        ∙ ap (λ (x : ℕ). remove_at (index_of n (listed p b)) (take x (order p b))) k
        ∙ ap (remove_at (index_of n (listed p b))) (listed_is p b)

    pub freed_record : (m : ℕ) → record_at p w (freed p b n) m ≡ record_at p w b m
    freed_record m =
        ap (λ (x : List ℕ). record_at p w x m) (freed_is ∙ unlisted_is)
        ∙ record_made p (count b - 1) (closed (count b - 1) (index_of n (listed p b)) (order p b)) (records p b) out_length w m
        ∙ sym (record_is p w b m)

    pub length_freed : length (freed p b n) ≡ length b
    length_freed =
        let k = out_length in
        let z = t.long in
        ap length (freed_is ∙ unlisted_is)
        ∙ rw (length-append, length-drop) (omega arith)

    pub view_freed : {A : Type 0} (f : Bool → List ℕ → A) → view p w f (freed p b n) ≡ set (view p w f b) n (f false (record_at p w b n))
    unfolding view
    view_freed {A} f =
        tabulate_set 0 p n
        (λ (m : ℕ). f (member m (listed p b)) (record_at p w b m))
        (λ (m : ℕ). f (member m (listed p (freed p b n))) (record_at p w (freed p b n) m))
        (f false (record_at p w b n)) (rising_below p (key_at p w b) (listed p b) (whole_rising p w b o) n h) here other
      where
        z : 0 + n ≡ n
        z = omega arith

        gone : member n (listed p (freed p b n)) ≡ false
        gone = rw freed_listed (out_gone n (listed p b) (rising_distinct p (key_at p w b) (listed p b) (whole_rising p w b o)))

        here : f (member (0 + n) (listed p (freed p b n))) (record_at p w (freed p b n) (0 + n)) ≡ f false (record_at p w b n)
        here = rw (z, gone, freed_record n)

        other : (m : ℕ) → m < 0 + p → (m ≡ 0 + n → ⊥) →
            f (member m (listed p (freed p b n))) (record_at p w (freed p b n) m) ≡ f (member m (listed p b)) (record_at p w b m)
        other m l d = rw (freed_listed, freed_record m, member_out m n (listed p b) (λ q. d (sym q ∙ sym z)))

    pub whole_freed : table_whole p w (freed p b n) ≡ true
    whole_freed =
        let c = c_le in
        whole_is p w (freed p b n) (rw freed_is (unfold unlisted in omega arith))
        ∙ ap (rising p (key_at p w (freed p b n))) freed_listed
        ∙ rising_same p (key_at p w b) (key_at p w (freed p b n)) (remove_at (index_of n (listed p b)) (listed p b)) keys
        ∙ rising_out p (key_at p w b) (index_of n (listed p b)) (listed p b) (whole_rising p w b o)
      where
        keys : (x : ℕ) → member x (remove_at (index_of n (listed p b)) (listed p b)) ≡ true → key_at p w (freed p b n) x ≡ key_at p w b x
        keys x i = key_record p w (freed p b n) x t.key ∙ ap (take 32) (freed_record x) ∙ sym (key_record p w b x t.key)
