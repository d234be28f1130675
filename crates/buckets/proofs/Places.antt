-- Where a record stands in the memory: that it is the record of its bucket's table, what its key and its family are, and which places a table lists. Assumes nothing.
use mathlib.Core.Path.{◌≡◌, ◌∙◌, sym, ap}
use mathlib.Core.Bool.{true}
use mathlib.Core.List.{List}
use Prim.Native.Nat.{ℕ, ◌+◌, ◌*◌, ◌-◌, ◌<◌, ◌≤◌}
use native.Mathlib.Nat.{add-sub_cancel_left}
use native.Mathlib.Omega.{arith}
use lib.ListN.{length, take, drop, get_or}
use lib.Seq.{drop-drop, take-take, get_or-take, get_or-drop}
use borrow.Author.Tests.{lt-ltb}
use Rattle.wire.proofs.Copy.{length_lent, part_of_part}
use Rattle.key.specs.Keys.{key_of}
use Rattle.key.proofs.Lent.{key_itself}
use Rattle.nearest.specs.Lists.{node_key}
use Rattle.table_laws.specs.Table.{listed, used_places, record_at, key_at, is_table}
use Rattle.table_laws.proofs.KeyOrder.{rising_at}
use Rattle.table_laws.proofs.Listed.{whole_rising}
use Rattle.buckets_laws.specs.Layout.{bucket_at, record_node, record_start}
use Rattle.buckets_laws.proofs.WholeLaws.{table_facts}
use Rattle.buckets.specs.Kept.{node_at}

module _ (m : List ℕ) (b place : ℕ) (below : place < 8) where
  -- the bytes of a record, by its bucket and by the memory
  pub record_at_place : record_at 8 51 (bucket_at m b) place ≡ take 51 (drop (record_start b place) m)
  unfolding record_at bucket_at
  record_at_place =
      let part = take 417 (drop (32 + b * 417) m) in
      ap (take 51) (drop-drop (place * 51) 9 part)
      ∙ part_of_part 51 (9 + place * 51) 417 (drop (32 + b * 417) m) (omega arith)
      ∙ ap (take 51) (drop-drop (9 + place * 51) (32 + b * 417) m)
      ∙ ap (λ (k : ℕ). take 51 (drop k m)) (let q : 32 + b * 417 + (9 + place * 51) ≡ record_start b place = omega arith in q)

  pub node_at_place : node_at m (record_start b place) ≡ record_node (record_at 8 51 (bucket_at m b) place)
  node_at_place = ap record_node (sym record_at_place)

  pub record_inside : 106784 ≤ length m → b < 256 → record_start b place + 51 ≤ length m
  record_inside l h = omega arith

-- ---- a record by where it begins

module _ (m : List ℕ) (at : ℕ) where
  pub node_key_lem : node_key (node_at m at) ≡ take 32 (drop at m)
  unfolding record_node
  node_key_lem = take-take 32 51 (drop at m) (omega arith)

  pub family_here : get_or m (at + 32) 0 ≡ (node_at m at).family
  unfolding record_node
  family_here = sym (get_or-take 51 (drop at m) 32 0 (omega arith) ∙ get_or-drop at m 32 0)

  -- the bytes that are lent for its key
  pub key_here : at + 51 ≤ length m → key_of (take (at + 32 - at) (drop at m)) ≡ node_key (node_at m at)
  key_here inside =
      ap (λ (k : ℕ). key_of (take k (drop at m))) (add-sub_cancel_left at 32)
      ∙ key_itself (take 32 (drop at m)) (length_lent m at 32 (omega arith))
      ∙ sym node_key_lem

-- ---- the places that a table lists

module _ (t : List ℕ) (is : is_table 8 51 t ≡ true) where
  pub used_listed : used_places 8 t ≡ listed 8 t
  unfolding used_places
  used_listed = rw (lt-ltb 8 (length t) (let q = (table_facts t is).0.long in omega arith))

  pub listed_place_low : (i : ℕ) → i < length (listed 8 t) → get_or (listed 8 t) i 0 < 8
  listed_place_low i h = rising_at 8 (key_at 8 51 t) (listed 8 t) i (whole_rising 8 51 t (table_facts t is).1) h
