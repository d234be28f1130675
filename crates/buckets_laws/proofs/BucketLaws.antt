-- One bucket by itself, where its bytes are a table: which keys it holds, where a place is free, and its bytes and nodes after a node is added or replaced.
-- Assumes nothing.
use mathlib.Core.Path.{◌≡◌, ◌∙◌, refl, sym, ap, subst}
use mathlib.Core.Bool.{Bool, true, false, cond}
use mathlib.Core.List.{List, map}
use Prim.Native.Nat.{ℕ, zero, suc, ◌*◌, ◌≤◌, ◌<◌}
use native.Mathlib.Omega.{arith}
use lib.Dec.{leb, ltb}
use lib.ListN.{length, take, drop, length-map}
use borrow.Author.Tests.{leb-true, leb-false, ltb-true, ltb-false}
use Rattle.wire.specs.Numbers.{Bytes}
use Rattle.wire.proofs.Numbers.{bytes_take, bytes_drop}
use Rattle.key.specs.Keys.{same_key}
use Rattle.key.proofs.Same.{same_sound, same_refl}
use Rattle.lists.proofs.Mapped.{map_in}
use Rattle.lists.specs.Insert.{insert_at, remove_at}
use Rattle.lists.specs.Find.{member, index_of}
use Rattle.lists.proofs.Members.{member_out, index_member}
use Rattle.lists.proofs.Shift.{length_out}
use Rattle.node.specs.declared.Node.{Node}
use Rattle.nearest.specs.Lists.{node_key}
use Rattle.nearest.specs.Effect.{holds, replace}
use Rattle.nearest.specs.Sequence.{In}
use Rattle.nearest.proofs.Members.{free_in}
use Rattle.lent_list_laws.specs.Layout.{Fits}
use Rattle.table_laws.specs.Table.{Table, count, listed, record_at, key_at, table_whole, is_table, place_of, found, find_key, lowest, lowest_free, put}
use Rattle.table_laws.specs.Table.{may_overwrite, overwritten_in}
use Rattle.table_laws.proofs.KeyOrder.{clash}
use Rattle.table_laws.proofs.Listed.{length_listed, whole_count}
use Rattle.table_laws.proofs.FitsLaws.{table_fits, whole_fits, found_fits, lowest_in, overwrite_is}
use Rattle.table_laws.proofs.FoundLaws.{found_has_key, lowest_unlisted, below_lowest}
use Rattle.table_laws.proofs.Distinct.{unlisted_leaves_room}
use Rattle.table_laws.proofs.PutLaws.{put_in_is_put}
use Rattle.table_laws.proofs.BytesKept.{put_in_bytes, overwritten_in_bytes}
use Rattle.table_laws.proofs.TableLaws.{length_record, key_record, keys_apart, put_listed, put_other, put_same, length_put, whole_put}
use Rattle.table_laws.proofs.OverwriteLaws.{overwritten_length, overwritten_listed, overwritten_table, overwritten_other, overwritten_same}
use Rattle.buckets_laws.specs.Layout.{record_node, bucket_nodes, node_fields, node_record}
use Rattle.buckets_laws.specs.Effect.{added, replaced, bucket_after}
use Rattle.buckets_laws.proofs.WholeLaws.{table_facts, listed_low}
use Rattle.buckets_laws.proofs.RecordNodes.{record_key, record_fits, length_fields, length_node, key_first}
use Rattle.buckets_laws.proofs.RecordNodes.{fields_bytes, record_bytes, record_then, record_filled}
use Rattle.buckets_laws.proofs.NodeLists.{map_same, place_in_lem, in_place, find_holds, replace_places}

-- the node at a place of a bucket
abbrev pub node_at : List ℕ → ℕ → Node
node_at t x = record_node (record_at 8 51 t x)

pub nodes_are : (t : List ℕ) → bucket_nodes t ≡ map (node_at t) (listed 8 t)
unfolding bucket_nodes
nodes_are t = refl

pub place_key : (t : List ℕ) (x : ℕ) → node_key (node_at t x) ≡ key_at 8 51 t x
place_key t x = record_key (record_at 8 51 t x) ∙ sym (key_record 8 51 t x (omega arith))

place_bytes : (t : List ℕ) → Bytes t → (x : ℕ) → Bytes (record_at 8 51 t x)
unfolding record_at
place_bytes t b x = bytes_take 51 (drop (x * 51) (drop 9 t)) (bytes_drop (x * 51) (drop 9 t) (bytes_drop 9 t b))

-- a list that has each number below p is no shorter than p
all_few : (p : ℕ) (ns : List ℕ) → ((j : ℕ) → j < p → member j ns ≡ true) → p ≤ length ns
all_few zero ns h = omega arith
all_few (suc p) ns h =
    let l = length_out (index_of p ns) ns (index_member p ns (h p (omega arith))) in
    let r = all_few p (remove_at (index_of p ns) ns) (λ j b. member_out j p ns (λ (q : p ≡ j). omega arith) ∙ h j (omega arith)) in
    omega arith

module _ (t : List ℕ) (is : is_table 8 51 t ≡ true) where
  table : Table 8 51 t
  table = (table_facts t is).0

  whole : table_whole 8 51 t ≡ true
  whole = (table_facts t is).1

  pub bucket_length : length t ≡ 417
  bucket_length = table.long

  long : 8 < length t
  long = let l = bucket_length in omega arith

  -- ---- the keys held

  pub found_is : (k : List ℕ) → found 8 51 t k ≡ find_key 8 (key_at 8 51 t) k (listed 8 t)
  found_is k = found_fits 8 51 t k (table_fits 8 51 t table)

  pub found_holds : (k : List ℕ) → ltb (found 8 51 t k) 8 ≡ holds k (bucket_nodes t)
  found_holds k =
      ap (λ (x : ℕ). ltb x 8) (found_is k)
      ∙ find_holds (node_at t) 8 (key_at 8 51 t) k (place_key t) (listed 8 t) (listed_low t is)
      ∙ ap (holds k) (sym (nodes_are t))

  pub holds_found : (k : List ℕ) → holds k (bucket_nodes t) ≡ true → found 8 51 t k < 8
  holds_found k h = ltb-true (found 8 51 t k) 8 (found_holds k ∙ h)

  -- the place found is listed and has the key
  pub found_listed : (k : List ℕ) → found 8 51 t k < 8 → (member (found 8 51 t k) (listed 8 t) ≡ true) × (key_at 8 51 t (found 8 51 t k) ≡ k)
  found_listed k h =
      subst (λ (x : ℕ). x < 8 → (member x (listed 8 t) ≡ true) × (key_at 8 51 t x ≡ k)) (sym (found_is k))
      (found_has_key 8 (key_at 8 51 t) k (listed 8 t)) h

  -- ---- how many

  pub length_nodes : length (bucket_nodes t) ≡ length (listed 8 t)
  length_nodes = ap length (nodes_are t) ∙ length-map (listed 8 t) (node_at t)

  pub count_nodes : length (bucket_nodes t) ≡ count t
  count_nodes = length_nodes ∙ length_listed 8 t long (whole_count 8 51 t whole)

  pub nodes_few : length (bucket_nodes t) ≤ 8
  nodes_few = let c = count_nodes in let q = whole_count 8 51 t whole in omega arith

  -- ---- what bytes hold

  -- each node has the fields of a value
  pub nodes_fit : Bytes t → (x : Node) → In x (bucket_nodes t) → Fits x
  nodes_fit b x i =
      let w = in_place (node_at t) (listed 8 t) x (subst (In x) (nodes_are t) i) in
      subst Fits (sym w.2)
      (record_fits (record_at 8 51 t w.0) (place_bytes t b w.0) (length_record 8 51 t table w.0 (listed_low t is w.0 w.1)))

  -- ---- a free place, where there are fewer than 8

  module _ (room : length (bucket_nodes t) < 8) where
    free_is : lowest_free 8 t ≡ lowest 0 8 (listed 8 t)
    free_is = lowest_in 8 t (omega arith) long

    pub free_found : lowest_free 8 t < 8
    free_found = go (ltb (lowest_free 8 t) 8) refl
      where
        go : (u : Bool) → ltb (lowest_free 8 t) 8 ≡ u → lowest_free 8 t < 8
        go true e = ltb-true (lowest_free 8 t) 8 e
        go false e =
            let h = ltb-false (lowest_free 8 t) 8 e in
            let f = free_is in
            let l = length_nodes in
            let a = all_few 8 (listed 8 t) (λ (j : ℕ) (b : j < 8). below_lowest 0 8 (listed 8 t) j (omega arith) (omega arith)) in
            absurd (omega arith)

    pub free_unlisted : member (lowest_free 8 t) (listed 8 t) ≡ false
    free_unlisted =
        let f = free_is in
        let h = free_found in
        ap (λ (x : ℕ). member x (listed 8 t)) free_is ∙ lowest_unlisted 0 8 (listed 8 t) (omega arith)

  -- and where there is a free place there are fewer
  pub free_room : lowest_free 8 t < 8 → length (bucket_nodes t) < 8
  free_room h =
      let f = lowest_in 8 t (omega arith) long in
      let u = ap (λ (x : ℕ). member x (listed 8 t)) f ∙ lowest_unlisted 0 8 (listed 8 t) (omega arith) in
      let c = unlisted_leaves_room 8 51 t long whole (lowest_free 8 t) h u in
      let l = count_nodes in
      omega arith

  pub free_none : 8 ≤ lowest_free 8 t → 8 ≤ length (bucket_nodes t)
  free_none h = go (leb 8 (length (bucket_nodes t))) refl
    where
      go : (u : Bool) → leb 8 (length (bucket_nodes t)) ≡ u → 8 ≤ length (bucket_nodes t)
      go true e = leb-true 8 (length (bucket_nodes t)) e
      go false e = let f = free_found (leb-false 8 (length (bucket_nodes t)) e) in absurd (omega arith)

  -- ---- a node added

  module _ (n : Node) (fits : Fits n) (fresh : holds (node_key n) (bucket_nodes t) ≡ false) (room : length (bucket_nodes t) < 8) where
    abbrev at : ℕ
    at = lowest_free 8 t

    record_long : length (node_record n) ≡ 51
    record_long = length_node n fits.1

    most : length (node_record n) ≤ 51
    most = let l = record_long in omega arith

    least : 32 ≤ length (node_record n)
    least = let l = record_long in omega arith

    added_is : bucket_after added n t ≡ put 8 51 t at (node_record n)
    unfolding bucket_after
    added_is = put_in_is_put 8 51 t table whole at (free_found room) (free_unlisted room) (node_record n) least most

    few : count t < 8
    few = unlisted_leaves_room 8 51 t long whole at (free_found room) (free_unlisted room)

    -- no place listed has its key
    none_has : (x : ℕ) → member x (listed 8 t) ≡ true → key_at 8 51 t x ≡ take 32 (node_record n) → ⊥
    none_has x i e =
        free_in (node_key n) (map (node_at t) (listed 8 t)) (ap (holds (node_key n)) (sym (nodes_are t)) ∙ fresh)
        (node_at t x) (place_in_lem (node_at t) (listed 8 t) x i) (place_key t x ∙ e ∙ key_first n fits.1)

    pub added_long : length (bucket_after added n t) ≡ 417
    added_long = ap length added_is ∙ length_put 8 51 t at (node_record n) table few (free_found room) most ∙ bucket_length

    pub added_table : is_table 8 51 (bucket_after added n t) ≡ true
    added_table =
        let b : Table 8 51 (put 8 51 t at (node_record n)) =
        record { small = table.small; key = table.key; narrow = table.narrow; long = ap length (sym added_is) ∙ added_long } in
        ap (is_table 8 51) added_is ∙ whole_fits 8 51 (put 8 51 t at (node_record n)) (table_fits 8 51 (put 8 51 t at (node_record n)) b)
        ∙ whole_put 8 51 t at (node_record n) table few (free_found room) most whole least (free_unlisted room) none_has

    others_stay : (x : ℕ) → member x (listed 8 t) ≡ true → node_at (put 8 51 t at (node_record n)) x ≡ node_at t x
    others_stay x i =
        ap record_node
        (put_other 8 51 t at (node_record n) table few (free_found room) most x (listed_low t is x i)
        (λ (q : x ≡ at). clash (ap (λ (y : ℕ). member y (listed 8 t)) (sym q) ∙ i) (free_unlisted room)))

    pub added_nodes : bucket_nodes (bucket_after added n t) ≡ insert_at (place_of 8 51 t (node_key n)) n (bucket_nodes t)
    added_nodes =
        let b : List ℕ = put 8 51 t at (node_record n) in
        let i : ℕ = place_of 8 51 t (node_key n) in
        ap bucket_nodes added_is ∙ nodes_are (put 8 51 t at (node_record n))
        ∙ ap (map (node_at b))
        (put_listed 8 51 t at (node_record n) table few (free_found room) most
        ∙ ap (λ (k : List ℕ). insert_at (place_of 8 51 t k) at (listed 8 t)) (key_first n fits.1))
        ∙ map_in (node_at b) i at (listed 8 t)
        ∙ ap (λ (x : Node). insert_at i x (map (node_at b) (listed 8 t)))
        (ap record_node (put_same 8 51 t at (node_record n) table few (free_found room) most)
        ∙ record_then n fits.1 (drop (length (node_record n)) (record_at 8 51 t at)))
        ∙ ap (insert_at i n) (map_same (node_at b) (node_at t) (listed 8 t) others_stay ∙ sym (nodes_are t))

  -- ---- a node replaced

  module _ (n : Node) (fits : Fits n) (held : holds (node_key n) (bucket_nodes t) ≡ true) where
    abbrev place : ℕ
    place = found 8 51 t (node_key n)

    below : place < 8
    below = holds_found (node_key n) held

    has : (member place (listed 8 t) ≡ true) × (key_at 8 51 t place ≡ node_key n)
    has = found_listed (node_key n) below

    key_there : take 32 (record_at 8 51 t place) ≡ node_key n
    key_there = sym (key_record 8 51 t place (omega arith)) ∙ has.1

    replaced_is : bucket_after replaced n t ≡ overwritten_in 8 51 t place 32 (node_fields n)
    unfolding bucket_after
    replaced_is = refl

    may : may_overwrite 8 51 t place 32 (node_fields n) ≡ true
    may =
        let l = length_fields n fits.1 in
        overwrite_is 8 51 t place 32 (node_fields n) (table_fits 8 51 t table) below (omega arith) (omega arith) ∙ has.0

    pub replaced_long : length (bucket_after replaced n t) ≡ 417
    replaced_long = ap length replaced_is ∙ overwritten_length 8 51 t place 32 (node_fields n) ∙ bucket_length

    pub replaced_table : is_table 8 51 (bucket_after replaced n t) ≡ true
    replaced_table = ap (is_table 8 51) replaced_is ∙ overwritten_table 8 51 t place 32 (node_fields n) ∙ is

    -- the node at a place listed: the new one where the key is its key
    each_place : (x : ℕ) → member x (listed 8 t) ≡ true
        → node_at (overwritten_in 8 51 t place 32 (node_fields n)) x ≡ cond (same_key (node_key (node_at t x)) (node_key n)) n (node_at t x)
    each_place x i = go (same_key (node_key (node_at t x)) (node_key n)) refl
      where
        go : (u : Bool) → same_key (node_key (node_at t x)) (node_key n) ≡ u → node_at (overwritten_in 8 51 t place 32 (node_fields n)) x ≡ cond u n (node_at t x)
        go true e =
            let k : take 32 (record_at 8 51 t x) ≡ take 32 (record_at 8 51 t place) =
            sym (record_key (record_at 8 51 t x)) ∙ same_sound (node_key (node_at t x)) (node_key n) e ∙ sym key_there in
            ap (node_at (overwritten_in 8 51 t place 32 (node_fields n))) (keys_apart 8 51 t whole (omega arith) x place i has.0 k)
            ∙ ap record_node (overwritten_same 8 51 t place 32 (node_fields n) may)
            ∙ record_filled n fits.1 (record_at 8 51 t place) (length (node_fields n)) key_there
        go false e =
            ap record_node
            (overwritten_other 8 51 t place 32 (node_fields n) x (listed_low t is x i)
            (λ (q : x ≡ place). clash
            (ap (λ (y : ℕ). same_key (node_key (node_at t y)) (node_key n)) q
            ∙ ap (λ (y : List ℕ). same_key y (node_key n)) (record_key (record_at 8 51 t place) ∙ key_there) ∙ same_refl (node_key n))
            e))

    pub replaced_nodes : bucket_nodes (bucket_after replaced n t) ≡ replace n (bucket_nodes t)
    replaced_nodes =
        let b : List ℕ = overwritten_in 8 51 t place 32 (node_fields n) in
        ap bucket_nodes replaced_is ∙ nodes_are (overwritten_in 8 51 t place 32 (node_fields n))
        ∙ ap (map (node_at b)) (overwritten_listed 8 51 t place 32 (node_fields n))
        ∙ replace_places (node_at t) (node_at b) n (listed 8 t) each_place
        ∙ ap (replace n) (sym (nodes_are t))

-- ---- bytes stay bytes

module _ (t : List ℕ) (b : Bytes t) (n : Node) (fits : Fits n) where
  pub added_bytes : Bytes (bucket_after added n t)
  unfolding bucket_after
  added_bytes = put_in_bytes 8 t b 51 (lowest_free 8 t) (node_record n) (record_bytes n fits.1 fits.0)

  pub replaced_bytes : Bytes (bucket_after replaced n t)
  unfolding bucket_after
  replaced_bytes = overwritten_in_bytes 8 t b 51 (found 8 51 t (node_key n)) 32 (node_fields n) (fields_bytes n fits.1 fits.0)
