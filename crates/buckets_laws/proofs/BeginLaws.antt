-- Buckets that were begun: they are whole, have the base key given and hold no node, and the memory keeps its length. A refused begin leaves the memory as
-- it was. Assumes nothing.
use Rattle.std.proofs.Common.{Ok, Err}
use mathlib.Core.Path.{◌≡◌, ◌∙◌, refl, sym, ap, ap₂, subst}
use mathlib.Core.Bool.{Bool, true, false, cond}
use mathlib.Core.List.{List, [], ◌++◌, map}
use Prim.Native.Nat.{ℕ, zero, suc, ◌+◌, ◌*◌, ◌<◌, ◌≤◌}
use native.Mathlib.Omega.{arith}
use lib.Dec.{leb}
use lib.ListN.{length, get_or, take, drop, length-append, length-drop, length-replicate, get_or-replicate, get_or-append}
use lib.Seq.{take_at, get_or-take, get_or-drop, get_or-append-add}
use borrow.Author.Tests.{leb-true, leb-false, le-leb, lt-leb}
use Rattle.wire.specs.Numbers.{Bytes}
use Rattle.wire.proofs.Numbers.{bytes_append, bytes_drop}
use Rattle.refusal.specs.declared.Refusal.{Refusal}
use Rattle.refusal.specs.declared.Refusal.TheVariants.{OutputTooShort}
use Rattle.key.specs.declared.Key.{Key}
use Rattle.node.specs.declared.Node.{Node}
use Rattle.table_laws.specs.Table.{count, record_at, is_table}
use Rattle.table_laws.proofs.Listed.{whole_none}
use Rattle.table_laws.proofs.NoneListed.{listed_none}
use Rattle.table_laws.proofs.FitsLaws.{table_fits, whole_fits}
use Rattle.buckets_laws.specs.Layout.{base_of, bucket_at, record_node, bucket_nodes, held_in, held_below, held_nodes}
use Rattle.buckets_laws.specs.Whole.{all_belong, bucket_whole, buckets_whole}
use Rattle.buckets_laws.specs.Calls.{begun_answer, zeros, begun_memory, Begins}
use Rattle.buckets_laws.proofs.WholeLaws.{bucket_whole_lem, buckets_whole_lem, bucket_long}

-- ---- a bucket that lists no place

module _ (t : List ℕ) (none : count t ≡ 0) where
  pub no_nodes : bucket_nodes t ≡ []
  unfolding bucket_nodes
  no_nodes = ap (map (λ (place : ℕ). record_node (record_at 8 51 t place))) (listed_none 8 t none)

  no_table : length t ≡ 417 → is_table 8 51 t ≡ true
  no_table l =
      whole_fits 8 51 t (table_fits 8 51 t (record { small = omega arith; key = omega arith; narrow = omega arith; long = l })) ∙ whole_none 8 51 t none

  pub no_nodes_whole : (base : List ℕ) (b : ℕ) → length t ≡ 417 → bucket_whole base b t ≡ true
  unfolding all_belong
  no_nodes_whole base b l = bucket_whole_lem base b t (no_table l) (ap (all_belong base b) no_nodes)

-- buckets that hold no node each hold none together
pub none_held : (m : List ℕ) (k : ℕ) → ((b : ℕ) → b < k → held_in m b ≡ []) → held_below m k ≡ []
unfolding held_below
none_held m zero h = refl
none_held m (suc k) h = ap₂ (λ (x y : List Node). x ++ y) (none_held m k (λ b l. h b (omega arith))) (h k (omega arith))

-- ---- a key, k zeros, and what stands behind them

pub bytes_zeros : (k : ℕ) → Bytes (zeros k)
unfolding zeros
bytes_zeros zero = tt
bytes_zeros (suc k) = (omega arith, bytes_zeros k)

pub length_zeros : (k : ℕ) → length (zeros k) ≡ k
unfolding zeros
length_zeros k = length-replicate {A = ℕ} k 0

pub at_zeros : (k i : ℕ) → i < k → get_or (zeros k) i 0 ≡ 0
unfolding zeros
at_zeros k i h = get_or-replicate k i 0 0 h

abbrev zeroed : ℕ → List ℕ → List ℕ → List ℕ
zeroed k key behind = key ++ (zeros k ++ behind)

module _ (k : ℕ) (key behind : List ℕ) where
  zeroed_bytes : Bytes key → Bytes behind → Bytes (zeroed k key behind)
  zeroed_bytes a b = bytes_append key (zeros k ++ behind) a (bytes_append (zeros k) behind (bytes_zeros k) b)

  module _ (long : length key ≡ 32) where
    zeroed_key : take 32 (zeroed k key behind) ≡ key
    zeroed_key = take_at key (zeros k ++ behind) 32 long

    zeroed_long : length (zeroed k key behind) ≡ 32 + k + length behind
    zeroed_long =
        let a = length-append key (zeros k ++ behind) in
        let b = length-append (zeros k) behind in
        let c = length_zeros k in
        omega arith

    zeroed_at : (i : ℕ) → i < k → get_or (zeroed k key behind) (32 + i) 0 ≡ 0
    zeroed_at i h =
        ap (λ (n : ℕ). get_or (zeroed k key behind) (n + i) 0) (sym long) ∙ get_or-append-add key (zeros k ++ behind) i 0
        ∙ get_or-append (zeros k) behind 0 i (let c = length_zeros k in omega arith) ∙ at_zeros k i h

-- ---- begun

count_at : (m : List ℕ) (b : ℕ) → count (bucket_at m b) ≡ get_or m (32 + b * 417) 0
unfolding bucket_at
count_at m b =
    get_or-take 417 (drop (32 + b * 417) m) 0 0 (omega arith) ∙ get_or-drop (32 + b * 417) m 0 0
    ∙ ap (λ (i : ℕ). get_or m i 0) (let e : 32 + b * 417 + 0 ≡ 32 + b * 417 = omega arith in e)

begun_zeroed : (base : Key) (memory : List ℕ) → 106784 ≤ length memory → begun_memory base memory ≡ zeroed 106752 base.0 (drop 106784 memory)
unfolding begun_memory
begun_zeroed base memory l = ap (λ (t : Bool). cond t (zeroed 106752 base.0 (drop 106784 memory)) memory) (le-leb 106784 (length memory) l)

begun_short : (base : Key) (memory : List ℕ) → length memory < 106784 → begun_memory base memory ≡ memory
unfolding begun_memory
begun_short base memory l = rw (lt-leb 106784 (length memory) l)

answer_short : (memory : List ℕ) → length memory < 106784 → begun_answer memory ≡ Err OutputTooShort
unfolding begun_answer
answer_short memory l = rw (lt-leb 106784 (length memory) l)

answer_done : (memory : List ℕ) → 106784 ≤ length memory → begun_answer memory ≡ Ok tt
unfolding begun_answer
answer_done memory l = rw (le-leb 106784 (length memory) l)

module _ {base : Key} {memory left : List ℕ} (is : Begins base memory left (Ok tt)) where
  pub begin_long : 106784 ≤ length memory
  begin_long = go (leb 106784 (length memory)) refl
    where
      go : (t : Bool) → leb 106784 (length memory) ≡ t → 106784 ≤ length memory
      go true e = leb-true 106784 (length memory) e
      go false e =
          let a = is.answers ∙ answer_short memory (leb-false 106784 (length memory) e) in
          let z : ◌≡◌ {A = ℕ} 0 1 = cc in
          absurd (omega arith)

  left_is : left ≡ zeroed 106752 base.0 (drop 106784 memory)
  left_is = is.leaves ∙ begun_zeroed base memory begin_long

  pub begin_base : base_of left ≡ base.0
  begin_base = ap base_of left_is ∙ zeroed_key 106752 base.0 (drop 106784 memory) is.key.long

  pub begin_length : length left ≡ length memory
  begin_length =
      let d = length-drop 106784 memory in
      let l = begin_long in
      ap length left_is ∙ zeroed_long 106752 base.0 (drop 106784 memory) is.key.long ∙ (omega arith)

  pub begin_bytes : Bytes left
  begin_bytes = subst Bytes (sym left_is) (zeroed_bytes 106752 base.0 (drop 106784 memory) is.key.bytes (bytes_drop 106784 memory is.bytes))

  none_listed : (b : ℕ) → b < 256 → count (bucket_at left b) ≡ 0
  none_listed b h =
      count_at left b ∙ ap (λ (m : List ℕ). get_or m (32 + b * 417) 0) left_is
      ∙ zeroed_at 106752 base.0 (drop 106784 memory) is.key.long (b * 417) (omega arith)

  pub begin_whole : buckets_whole left ≡ true
  begin_whole =
      let long : 106784 ≤ length left = let l = begin_long in let e = begin_length in omega arith in
      buckets_whole_lem left long (λ b h. no_nodes_whole (bucket_at left b) (none_listed b h) (base_of left) b (bucket_long left b long h))

  pub begin_holds_none : held_nodes left ≡ []
  unfolding held_nodes
  begin_holds_none = none_held left 256 (λ b h. no_nodes (bucket_at left b) (none_listed b h))

-- 10, and no other; nothing is changed
pub begin_refused : {base : Key} {memory left : List ℕ} {why : Refusal} → Begins base memory left (Err why)
    → (why ≡ OutputTooShort) × (length memory < 106784) × (left ≡ memory)
begin_refused {base} {memory} {left} {why} is = go (leb 106784 (length memory)) refl
  where
    go : (t : Bool) → leb 106784 (length memory) ≡ t → (why ≡ OutputTooShort) × (length memory < 106784) × (left ≡ memory)
    go true e =
        let a = is.answers ∙ answer_done memory (leb-true 106784 (length memory) e) in
        let z : ◌≡◌ {A = ℕ} 0 1 = cc in
        absurd (omega arith)
    go false e =
        let l = leb-false 106784 (length memory) e in
        let a = is.answers ∙ answer_short memory l in
        (cc, l, is.leaves ∙ begun_short base memory l)
