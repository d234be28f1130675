-- Records by where they begin, and those that a search keeps: where one more belongs, what is kept then, and each step of a pass over the buckets. Assumes
-- nothing.
use mathlib.Core.Path.{◌≡◌, ◌∙◌, refl, sym, ap, subst}
use mathlib.Core.Bool.{Bool, true, false}
use mathlib.Core.List.{List, [], ◌∷◌, ◌++◌, map}
use Prim.Native.Nat.{ℕ, zero, suc, ◌+◌, ◌-◌, ◌<◌, ◌≤◌, min}
use native.Mathlib.Nat.{le_of_suc-le-suc, not-suc-le-zero}
use native.Mathlib.Omega.{arith}
use native.Mathlib.Numerals.{add-one}
use lib.Dec.{leb}
use lib.ListN.{length, get_or, take, drop, length-append, length-drop, length-map, get_or-append, get_or-map}
use lib.Seq.{length-take-le, take_all, take-suc, take-take, take_at, get_or-take}
use borrow.Author.Tests.{leb-true, leb-false}
use Rattle.key.specs.Keys.{key_of, nearer}
use Rattle.key.proofs.Lent.{key_itself}
use Rattle.lists.specs.Insert.{insert_at}
use Rattle.lists.proofs.Found.{leading_stops}
use Rattle.lists.proofs.Mapped.{map_in, map_take}
use Rattle.lists.proofs.Shift.{length_in, take_more_in}
use Rattle.node.specs.declared.Node.{Node}
use Rattle.nearest.specs.Lists.{node_key}
use Rattle.nearest.specs.Effect.{insert}
use Rattle.nearest.specs.Slots.{position}
use Rattle.nearest.proofs.Place.{place_le, place_front, insert_at_lem}
use Rattle.nearest.proofs.Members.{length_insert}
use Rattle.nearest_first.specs.NearestFirst.{nearest_of}
use Rattle.nearest_first.specs.Kept.{kept_onto, Sorted}
use Rattle.nearest_first.proofs.Arranged.{sorted_insert, sorted_take}
use Rattle.nearest_first.proofs.KeptLaws.{kept_append, kept_is_nearest}
use Rattle.nearest_first.proofs.PlaceLaws.{behind_stays, last_nearer}
use Rattle.table_laws.specs.Table.{listed, record_at, used_places, is_table}
use Rattle.buckets_laws.specs.Layout.{record_node, bucket_at, bucket_nodes, held_in, held_below, held_nodes, record_start}
use Rattle.buckets_laws.specs.Whole.{buckets_whole}
use Rattle.buckets_laws.proofs.WholeLaws.{whole_long, whole_bucket, bucket_table}
use Rattle.buckets.specs.declared.search.Found.{Found}
use Rattle.buckets.specs.Kept.{node_at, kept_nodes, Starts, KeptWell, KeptAs, KeptWith}
use Rattle.buckets.proofs.Places.{node_at_place, record_inside, key_here, used_listed, listed_place_low}

-- ---- lists alone

-- what holds of the first c elements and of one put in among them holds of the first c + 1 then
module _ {A : Type 0} (P : A → Type 0) (n d : A) (here : P n) where
  pub each_in : (p c : ℕ) (l : List A) → p ≤ c → c ≤ length l → ((i : ℕ) → i < c → P (get_or l i d)) → (i : ℕ) → i < suc c → P (get_or (insert_at p n l) i d)
  each_in zero c l hp hl each zero h = here
  each_in zero c l hp hl each (suc i) h = each i (le_of_suc-le-suc h)
  each_in (suc p) zero l hp hl each i h = absurd (not-suc-le-zero hp)
  each_in (suc p) (suc c) [] hp hl each i h = absurd (not-suc-le-zero hl)
  each_in (suc p) (suc c) (m ∷ l) hp hl each zero h = each 0 (omega arith)
  each_in (suc p) (suc c) (m ∷ l) hp hl each (suc i) h =
      each_in p c l (le_of_suc-le-suc hp) (le_of_suc-le-suc hl) (λ j g. each (suc j) (omega arith)) i (le_of_suc-le-suc h)

-- ---- where a node belongs, found from the furthest on

module _ (t : List ℕ) (n d : Node) (b : List Node) (i : ℕ) (h : i < length b) where
  -- one that is not nearer: the place is at it or before it
  pub place_before : nearer t (node_key (get_or b i d)) (node_key n) ≡ false → position t (node_key n) b ≤ i
  place_before e = leading_stops (λ (m : Node). nearer t (node_key m) (node_key n)) b i d h e

  -- one that is nearer: so are all before it, and the place is behind it
  pub place_behind : nearer t (node_key (get_or b i d)) (node_key n) ≡ true → Sorted t b → suc i ≤ position t (node_key n) b
  place_behind e s = go (leb (position t (node_key n) b) (suc i)) refl
    where
      front : suc i ≤ position t (node_key n) (take (suc i) b)
      front =
          let l = length-take-le (suc i) b h in
          let q = last_nearer t n d (take (suc i) b) i l
          (ap (λ (m : Node). nearer t (node_key m) (node_key n)) (get_or-take (suc i) b i d (omega arith)) ∙ e) (sorted_take t (suc i) b s) in
          omega arith

      go : (r : Bool) → leb (position t (node_key n) b) (suc i) ≡ r → suc i ≤ position t (node_key n) b
      go true r = let q = place_front t n b (suc i) (leb-true _ _ r) in let f = front in omega arith
      go false r = let q = leb-false (position t (node_key n) b) (suc i) r in omega arith

-- ---- records by where they begin

-- a comparison of the keys of two of them
pub nearer_lent : (memory t : List ℕ) → length t ≡ 32 → (a b : ℕ) → a + 51 ≤ length memory → b + 51 ≤ length memory → (x : Bool)
    → x ≡ nearer (key_of t) (key_of (take (a + 32 - a) (drop a memory))) (key_of (take (b + 32 - b) (drop b memory)))
    → x ≡ nearer t (node_key (node_at memory a)) (node_key (node_at memory b))
nearer_lent memory t ht a b ha hb x e =
    e ∙ ap (λ (k : List ℕ). nearer k (key_of (take (a + 32 - a) (drop a memory))) (key_of (take (b + 32 - b) (drop b memory)))) (key_itself t ht)
    ∙ ap (λ (k : List ℕ). nearer t k (key_of (take (b + 32 - b) (drop b memory)))) (key_here memory a ha)
    ∙ ap (nearer t (node_key (node_at memory a))) (key_here memory b hb)

-- ---- those kept

module _ (memory : List ℕ) (kept : Found) (s : Starts memory kept) where
  pub kept_length : length (kept_nodes memory kept) ≡ kept.count
  kept_length =
      length-map (take kept.count kept.starts) (node_at memory)
      ∙ length-take-le kept.count kept.starts (let f = s.few in let l = s.four in omega arith)

  pub kept_at : (i : ℕ) → i < kept.count → get_or (kept_nodes memory kept) i (node_at memory 0) ≡ node_at memory (get_or kept.starts i 0)
  kept_at i h =
      get_or-map (node_at memory) (take kept.count kept.starts) i 0 ∙ ap (node_at memory) (get_or-take kept.count kept.starts i 0 h)

module _ (memory t : List ℕ) (kept : Found) (w : KeptWell memory t kept) (at i : ℕ) (h : i < kept.count) where
  abbrev place : ℕ
  place = position t (node_key (node_at memory at)) (kept_nodes memory kept)

  abbrev Nearer : Bool → Type 0
  Nearer x = nearer t (node_key (node_at memory (get_or kept.starts i 0))) (node_key (node_at memory at)) ≡ x

  at_kept : (x : Bool) → Nearer x → nearer t (node_key (get_or (kept_nodes memory kept) i (node_at memory 0))) (node_key (node_at memory at)) ≡ x
  at_kept x e = ap (λ (m : Node). nearer t (node_key m) (node_key (node_at memory at))) (kept_at memory kept w.starts i h) ∙ e

  pub scan_goes_on : Nearer false → place ≤ i
  scan_goes_on e =
      place_before t (node_at memory at) (node_at memory 0) (kept_nodes memory kept) i (let l = kept_length memory kept w.starts in omega arith)
      (at_kept false e)

  pub scan_stops : Nearer true → place ≤ suc i → place ≡ suc i
  scan_stops e g =
      let q = place_behind t (node_at memory at) (node_at memory 0) (kept_nodes memory kept) i
      (let l = kept_length memory kept w.starts in omega arith) (at_kept true e) w.sorted in
      omega arith

-- ---- one node more

module _ (memory t : List ℕ) (kept : Found) (w : KeptWell memory t kept) (at : ℕ) (inside : at + 51 ≤ length memory) (p : ℕ)
    (e : p ≡ position t (node_key (node_at memory at)) (kept_nodes memory kept)) where
  abbrev new : List Node
  new = insert t (node_at memory at) (kept_nodes memory kept)

  fits : kept.count ≤ length kept.starts
  fits = let f = w.starts.few in let l = w.starts.four in omega arith

  pub place_few : p ≤ kept.count
  place_few = let q = place_le t (node_at memory at) (kept_nodes memory kept) in let l = kept_length memory kept w.starts in omega arith

  put_in : (m : ℕ) → m ≤ suc kept.count → map (node_at memory) (take m (insert_at p at kept.starts)) ≡ take m new
  put_in m h =
      ap (map (node_at memory))
      (sym (take-take m (suc kept.count) (insert_at p at kept.starts) h)
      ∙ ap (take m) (take_more_in p kept.count at kept.starts place_few fits))
      ∙ map_take (node_at memory) m (insert_at p at (take kept.count kept.starts))
      ∙ ap (take m)
      (map_in (node_at memory) p at (take kept.count kept.starts)
      ∙ ap (λ (x : ℕ). insert_at x (node_at memory at) (kept_nodes memory kept)) e ∙ sym (insert_at_lem t (node_at memory at) (kept_nodes memory kept)))

  -- the place is behind the four that are kept
  pub kept_stays : 4 ≤ p → KeptAs memory t (take 4 new) kept
  kept_stays h =
      record {
        well = w;
        nodes = sym (behind_stays t (node_at memory at) (node_at memory 0) 4 (kept_nodes memory kept)
            (let l = kept_length memory kept w.starts in let f = w.starts.few in omega arith) (omega arith));
      }

  -- the first m slots are those of the list with the start put in, and the others as they were
  module _ (m : ℕ) (l : List ℕ) (count : ℕ) (few : m ≤ 4) (more : m ≤ suc kept.count) (q : l ≡ take m (insert_at p at kept.starts) ++ drop m kept.starts)
      (c : count ≡ m) where
    front_long : length (take m (insert_at p at kept.starts)) ≡ m
    front_long = length-take-le m (insert_at p at kept.starts) (let f = w.starts.four in let g = length_in p at kept.starts in omega arith)

    slot_in : (i : ℕ) → i < m → get_or l i 0 ≡ get_or (insert_at p at kept.starts) i 0
    slot_in i h =
        ap (λ (x : List ℕ). get_or x i 0) q
        ∙ get_or-append (take m (insert_at p at kept.starts)) (drop m kept.starts) 0 i (let g = front_long in omega arith)
        ∙ get_or-take m (insert_at p at kept.starts) i 0 h

    four_still : length l ≡ 4
    four_still =
        let g = ap length q ∙ length-append (take m (insert_at p at kept.starts)) (drop m kept.starts) in
        let k = front_long in
        let d = length-drop m kept.starts in
        let f = w.starts.four in
        omega arith

    inside_still : (i : ℕ) → i < m → get_or l i 0 + 51 ≤ length memory
    inside_still i h =
        let g = slot_in i h in
        let k = each_in (λ (x : ℕ). x + 51 ≤ length memory) at 0 inside p kept.count kept.starts place_few fits w.starts.inside i (omega arith) in
        omega arith

    kept_are : map (node_at memory) (take count l) ≡ take m new
    kept_are =
        ap (λ (x : ℕ). map (node_at memory) (take x l)) c
        ∙ ap (λ (x : List ℕ). map (node_at memory) (take m x)) q
        ∙ ap (map (node_at memory)) (take_at (take m (insert_at p at kept.starts)) (drop m kept.starts) m front_long)
        ∙ put_in m more

    made : take m new ≡ take 4 new → KeptAs memory t (take 4 new) (record { count = count; starts = l })
    made g =
        record {
          well =
              record {
                starts = record { few = omega arith; four = four_still; inside = λ i h. inside_still i (omega arith) };
                sorted = subst (Sorted t) (sym (kept_are ∙ g)) (sorted_take t 4 new (sorted_insert t (node_at memory at) (kept_nodes memory kept) w.sorted));
              };
          nodes = kept_are ∙ g;
        }

  new_length : length new ≡ suc kept.count
  new_length = length_insert t (node_at memory at) (kept_nodes memory kept) ∙ ap suc (kept_length memory kept w.starts)

  -- one more is kept, or of four the last gives way
  pub kept_put : (last : ℕ) → last ≡ min kept.count 3 → (l : List ℕ) → l ≡ take (last + 1) (insert_at p at kept.starts) ++ drop (last + 1) kept.starts
      → KeptAs memory t (take 4 new) (record { count = last + 1; starts = l })
  kept_put last e l q = made (last + 1) l (last + 1) (omega arith) (omega arith) q refl (go (leb 4 kept.count) refl)
    where
      go : (u : Bool) → leb 4 kept.count ≡ u → take (last + 1) new ≡ take 4 new
      go true h = let c = leb-true 4 kept.count h in ap (λ (k : ℕ). take k new) {y = 4} (let f = w.starts.few in omega arith)
      go false h =
          let c = leb-false 4 kept.count h in
          let k = new_length in
          take_all (last + 1) new (omega arith) ∙ sym (take_all 4 new (omega arith))

-- ---- the nodes of a bucket

module _ (memory : List ℕ) (whole : buckets_whole memory ≡ true) (b : ℕ) (low : b < 256) where
  long : 106784 ≤ length memory
  long = whole_long memory whole

  is : is_table 8 51 (bucket_at memory b) ≡ true
  is = bucket_table _ b (bucket_at memory b) (whole_bucket memory whole b low)

  pub bucket_used : used_places 8 (bucket_at memory b) ≡ listed 8 (bucket_at memory b)
  bucket_used = used_listed (bucket_at memory b) is

  module _ (i : ℕ) (h : i < length (listed 8 (bucket_at memory b))) where
    pub place_low : get_or (listed 8 (bucket_at memory b)) i 0 < 8
    place_low = listed_place_low (bucket_at memory b) is i h

    pub listed_inside : record_start b (get_or (listed 8 (bucket_at memory b)) i 0) + 51 ≤ length memory
    listed_inside = record_inside memory b (get_or (listed 8 (bucket_at memory b)) i 0) place_low long low

    -- one node more of those held
    pub held_more : take (i + 1) (held_in memory b) ≡ take i (held_in memory b) ++ (node_at memory (record_start b (get_or (listed 8 (bucket_at memory b)) i 0)) ∷ [])
    unfolding bucket_nodes
    held_more =
        let g : ℕ → Node = λ place. record_node (record_at 8 51 (bucket_at memory b) place) in
        let e : get_or (held_in memory b) i (g 0) ≡ node_at memory (record_start b (get_or (listed 8 (bucket_at memory b)) i 0)) =
        get_or-map g (listed 8 (bucket_at memory b)) i 0 ∙ sym (node_at_place memory b (get_or (listed 8 (bucket_at memory b)) i 0) place_low) in
        ap (λ (k : ℕ). take k (held_in memory b)) (add-one i)
        ∙ take-suc (held_in memory b) i (g 0) (let l = length-map (listed 8 (bucket_at memory b)) g in omega arith)
        ∙ ap (λ (x : Node). take i (held_in memory b) ++ (x ∷ [])) e

  pub held_all : (i : ℕ) → length (listed 8 (bucket_at memory b)) ≤ i → take i (held_in memory b) ≡ held_in memory b
  unfolding bucket_nodes
  held_all i h =
      take_all i (held_in memory b)
      (let l = length-map (listed 8 (bucket_at memory b)) (λ (place : ℕ). record_node (record_at 8 51 (bucket_at memory b) place)) in omega arith)

-- ---- the passes

module _ (memory t : List ℕ) (best : List Node) where
  abbrev After : List Node → Found → Type 0
  After ns kept = KeptAs memory t (kept_onto 4 t best ns) kept

  -- what is kept onto what is kept
  kept_on : (ns ms : List Node) (kept : Found) → After ns kept → (next : Found) → KeptWith memory t kept ms next → After (ns ++ ms) next
  kept_on ns ms kept a next k =
      subst (λ (x : List Node). KeptAs memory t x next)
      (ap (λ (x : List Node). kept_onto 4 t x ms) a.nodes ∙ sym (kept_append 4 t best ns ms)) k

  module _ (whole : buckets_whole memory ≡ true) (b : ℕ) (low : b < 256) where
    pub node_passed : (i : ℕ) (h : i < length (listed 8 (bucket_at memory b))) (kept : Found) → After (take i (held_in memory b)) kept → (next : Found)
        → KeptWith memory t kept (node_at memory (record_start b (get_or (listed 8 (bucket_at memory b)) i 0)) ∷ []) next
        → After (take (i + 1) (held_in memory b)) next
    node_passed i h kept a next k =
        subst (λ (ns : List Node). After ns next) (sym (held_more memory whole b low i h))
        (kept_on (take i (held_in memory b)) (node_at memory (record_start b (get_or (listed 8 (bucket_at memory b)) i 0)) ∷ []) kept a next k)

    pub nodes_passed : (i : ℕ) → length (listed 8 (bucket_at memory b)) ≤ i → (kept : Found) → After (take i (held_in memory b)) kept → After (held_in memory b) kept
    nodes_passed i h kept a = subst (λ (ns : List Node). After ns kept) (held_all memory whole b low i h) a

  pub bucket_passed : (b : ℕ) (kept : Found) → After (held_below memory b) kept → (next : Found)
      → KeptWith memory t kept (held_in memory b) next → After (held_below memory (b + 1)) next
  unfolding held_below
  bucket_passed b kept a next k = rw add-one (kept_on (held_below memory b) (held_in memory b) kept a next k)

module _ (memory t : List ℕ) where
  pub none_passed : KeptAs memory t (kept_onto 4 t [] (held_below memory 0)) (record { count = 0; starts = 0 ∷ 0 ∷ 0 ∷ 0 ∷ [] })
  unfolding held_below
  none_passed = record { well = record { starts = record { few = omega arith; four = refl; inside = λ i h. omega arith }; sorted = tt }; nodes = refl }

  pub buckets_passed : (b : ℕ) → b ≡ 256 → (kept : Found) → KeptAs memory t (kept_onto 4 t [] (held_below memory b)) kept
      → KeptAs memory t (nearest_of 4 t (held_nodes memory)) kept
  unfolding held_nodes
  buckets_passed b e kept a =
      subst (λ (ns : List Node). KeptAs memory t ns kept)
      (ap (λ (x : ℕ). kept_onto 4 t [] (held_below memory x)) e ∙ kept_is_nearest 4 t (held_below memory 256)) a
