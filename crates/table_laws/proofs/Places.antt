-- Lists by their elements, and parts of one size.
use mathlib.Core.Path.{◌≡◌, refl, sym, ap, ap₂, ◌∙◌}
use Prim.Native.Nat.{ℕ, zero, suc, ◌+◌, ◌*◌, ◌≤◌, ◌<◌}
use native.Mathlib.Nat.{le_of_suc-le-suc, not-suc-le-zero, zero-mul, suc-mul}
use native.Mathlib.Omega.{arith}
use mathlib.Core.List.{List, ◌∷◌, ◌++◌, append_assoc}
use lib.ListN.{length, take, drop, get_or, set, length-drop, take-append-drop}
use lib.Seq.{length-take-le, take_at, drop_at, drop-drop, take-take, drop-append-le}
pub use Rattle.lists.proofs.Members.{member_in}
use Rattle.table_laws.specs.Bytes.{splice}
use Rattle.table_laws.specs.Table.{tabulate}
use Rattle.table_laws.proofs.Stores.{splice_add}

-- ---- tabulate

module _ {A : Type 0} where
  pub length_tabulate : (i n : ℕ) (f : ℕ → A) → length (tabulate i n f) ≡ n
  unfolding tabulate
  length_tabulate i zero f = refl
  length_tabulate i (suc n) f = ap suc (length_tabulate (suc i) n f)

  pub get_d_tabulate : (i n : ℕ) (f : ℕ → A) (j : ℕ) (d : A) → j < n → get_or (tabulate i n f) j d ≡ f (i + j)
  unfolding tabulate
  get_d_tabulate i zero f j d h = absurd (not-suc-le-zero h)
  get_d_tabulate i (suc n) f zero d h = ap f (let q : i ≡ i + 0 = omega arith in q)
  get_d_tabulate i (suc n) f (suc j) d h =
      get_d_tabulate (suc i) n f j d (le_of_suc-le-suc h) ∙ ap f (let q : suc i + j ≡ i + suc j = omega arith in q)

  pub tabulate_same : (i n : ℕ) (f h : ℕ → A) → ((m : ℕ) → m < i + n → h m ≡ f m) → tabulate i n h ≡ tabulate i n f
  unfolding tabulate
  tabulate_same i zero f h e = refl
  tabulate_same i (suc n) f h e =
      ap₂ (λ (x : A) (y : List A). x ∷ y) (e i (omega arith)) (tabulate_same (suc i) n f h (λ m b. e m (omega arith)))

  pub tabulate_set : (i n j : ℕ) (f h : ℕ → A) (a : A) → j < n → h (i + j) ≡ a → ((m : ℕ) → m < i + n → (m ≡ i + j → ⊥) → h m ≡ f m) →
      tabulate i n h ≡ set (tabulate i n f) j a
  unfolding tabulate
  tabulate_set i zero j f h a b e o = absurd (not-suc-le-zero b)
  tabulate_set i (suc n) zero f h a b e o =
      ap₂ (λ (x : A) (y : List A). x ∷ y)
      (ap h (let q : i ≡ i + 0 = omega arith in q) ∙ e)
      (tabulate_after i n f h (λ m l u. o m u (λ (z : m ≡ i + 0). omega arith)))
    where
      tabulate_after : (i n : ℕ) (f h : ℕ → A) → ((m : ℕ) → i < m → m < i + suc n → h m ≡ f m) → tabulate (suc i) n h ≡ tabulate (suc i) n f
      tabulate_after i n f h e = go (suc i) n (λ m l u. e m (omega arith) (omega arith))
        where
          go : (k n : ℕ) → ((m : ℕ) → k ≤ m → m < k + n → h m ≡ f m) → tabulate k n h ≡ tabulate k n f
          go k zero e = refl
          go k (suc n) e = ap₂ (λ (x : A) (y : List A). x ∷ y) (e k (omega arith) (omega arith)) (go (suc k) n (λ m l u. e m (omega arith) (omega arith)))
  tabulate_set i (suc n) (suc j) f h a b e o =
      ap₂ (λ (x : A) (y : List A). x ∷ y)
      (o i (omega arith) (λ (z : i ≡ i + suc j). omega arith))
      (tabulate_set (suc i) n j f h a (le_of_suc-le-suc b)
      (ap h (let q : suc i + j ≡ i + suc j = omega arith in q) ∙ e)
      (λ m l z. o m (omega arith) (λ (q : m ≡ i + suc j). z (omega arith))))

-- ---- a record replaced

abbrev pub part : ℕ → ℕ → List ℕ → List ℕ
part w n l = take w (drop (n * w) l)

pub part_other : (w n m : ℕ) (l new : List ℕ) → (m ≡ n → ⊥) → n * w + w ≤ length l → m * w + w ≤ length l → length new ≡ w →
    part w m (splice l (n * w) new w) ≡ part w m l
part_other w zero zero l new d f g e = absurd (d refl)
part_other w zero (suc m) l new d f g e =
    let s : suc m * w ≡ w + m * w = omega (arith, suc-mul m w) in
    let z : zero * w ≡ 0 = zero-mul w in
    rw (z, s)
    (ap (take w) (sym (drop-drop (m * w) w (new ++ drop w l)) ∙ ap (drop (m * w)) (drop_at new (drop w l) w e) ∙ drop-drop (m * w) w l))
part_other w (suc n) zero l new d f g e =
    let s : suc n * w ≡ w + n * w = omega (arith, suc-mul n w) in
    let z : zero * w ≡ 0 = zero-mul w in
    rw (z, s, splice_add l new w (n * w) w)
    (take_at (take w l) (splice (drop w l) (n * w) new w) w (length-take-le w l (omega (arith, suc-mul n w))))
part_other w (suc n) (suc m) l new d f g e =
    let s : suc n * w ≡ w + n * w = omega (arith, suc-mul n w) in
    let z : suc m * w ≡ w + m * w = omega (arith, suc-mul m w) in
    let r : List ℕ = splice (drop w l) (n * w) new w in
    rw (s, z, splice_add l new w (n * w) w)
    (ap (take w)
    (sym (drop-drop (m * w) w (take w l ++ r)) ∙ ap (drop (m * w)) (drop_at (take w l) r w (length-take-le w l (omega (arith, suc-mul n w)))))
    ∙ part_other w n m (drop w l) new (λ q. d (ap suc q)) (rw length-drop (omega (arith, suc-mul n w))) (rw length-drop (omega (arith, suc-mul m w))) e
    ∙ ap (take w) (drop-drop (m * w) w l))

pub part_same : (w n : ℕ) (l new : List ℕ) → n * w + w ≤ length l → length new ≡ w → part w n (splice l (n * w) new w) ≡ new
part_same w n l new f e =
    ap (take w) (drop_at (take (n * w) l) (new ++ drop w (drop (n * w) l)) (n * w) (length-take-le (n * w) l (omega arith)))
    ∙ take_at new (drop w (drop (n * w) l)) w e

-- bytes put into a part of a list, as the part replaced
pub splice_inner : (l : List ℕ) (at w j : ℕ) (new : List ℕ) → at + w ≤ length l → j + length new ≤ w →
    splice l (at + j) new (length new) ≡ splice l at (splice (take w (drop at l)) j new (length new)) w
splice_inner l at w j new f h =
    splice_add l new at j (length new)
    ∙ ap (λ (x : List ℕ). take at l ++ x) (inner (drop at l) (rw length-drop (omega arith)))
  where
    inner : (d : List ℕ) → w ≤ length d → splice d j new (length new) ≡ splice (take w d) j new (length new) ++ drop w d
    inner d g =
        sym (append_assoc (take j (take w d)) (new ++ drop (length new) (drop j (take w d))) (drop w d)
        ∙ ap₂ (λ (x y : List ℕ). x ++ y) (take-take j w d (omega arith))
        (append_assoc new (drop (length new) (drop j (take w d))) (drop w d)
        ∙ ap (λ (x : List ℕ). new ++ x)
        (ap (λ (x : List ℕ). x ++ drop w d) (drop-drop (length new) j (take w d))
        ∙ sym (drop-append-le (j + length new) (take w d) (drop w d) (rw (length-take-le w d g) h))
        ∙ ap (drop (j + length new)) (take-append-drop w d)
        ∙ sym (drop-drop (length new) j d))))
