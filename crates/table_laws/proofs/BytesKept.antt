-- The stores keep bytes: what was a list of bytes is one after a place is put in use or freed, or part of its record overwritten.
use mathlib.Core.Path.{◌≡◌, refl}
use mathlib.Core.Bool.{Bool, true, false, ◌&&◌, cond}
use mathlib.Core.List.{List, [], ◌∷◌, ◌++◌}
use Prim.Native.Nat.{ℕ, zero, suc, ◌+◌, ◌*◌, ◌-◌, ◌<◌}
use native.Mathlib.Omega.{arith}
use lib.Dec.{ltb, leb}
use lib.ListN.{length, take, drop}
use Rattle.wire.specs.Numbers.{Bytes}
use Rattle.wire.proofs.Numbers.{bytes_append, bytes_take, bytes_drop, bytes_get_d}
use Rattle.lists.specs.Insert.{insert_at, remove_at}
use Rattle.lists.specs.Find.{index_of}
use Rattle.table_laws.specs.Bytes.{splice}
use Rattle.table_laws.specs.Table.{count, order, records, listed, place_of, entered, closed, put, may_put, put_in, unlisted, freed, freed_in}
use Rattle.table_laws.specs.Table.{refilled, may_overwrite, overwritten_in}
use Rattle.table_laws.proofs.FitsLaws.{may_facts}

bytes_insert : (i n : ℕ) (l : List ℕ) → n < 256 → Bytes l → Bytes (insert_at i n l)
bytes_insert zero n l h g = (h, g)
bytes_insert (suc i) n [] h g = (h, tt)
bytes_insert (suc i) n (m ∷ l) h g = (g.0, bytes_insert i n l h g.1)

bytes_remove : (i : ℕ) (l : List ℕ) → Bytes l → Bytes (remove_at i l)
bytes_remove i [] g = tt
bytes_remove zero (m ∷ l) g = g.1
bytes_remove (suc i) (m ∷ l) g = (g.0, bytes_remove i l g.1)

pub bytes_splice : (l : List ℕ) (at : ℕ) (new : List ℕ) (w : ℕ) → Bytes l → Bytes new → Bytes (splice l at new w)
bytes_splice l at new w g h =
    bytes_append (take at l) (new ++ drop w (drop at l)) (bytes_take at l g)
    (bytes_append new (drop w (drop at l)) h (bytes_drop w (drop at l) (bytes_drop at l g)))

module _ (p : ℕ) (b : List ℕ) (g : Bytes b) where
  bytes_order : Bytes (order p b)
  bytes_order = bytes_take p (drop 1 b) (bytes_drop 1 b g)

  bytes_records : Bytes (records p b)
  bytes_records = bytes_drop (1 + p) b g

  pub put_in_bytes : (w n : ℕ) (new : List ℕ) → Bytes new → Bytes (put_in p w b n new)
  unfolding put_in put entered
  put_in_bytes w n new h = go (may_put p w b n new) refl
    where
      go : (u : Bool) → may_put p w b n new ≡ u → Bytes (cond u (put p w b n new) b)
      go true e =
          let q = may_facts p w b n new e in
          let few = q.0.small in
          let c = q.1 in
          let l = q.2 in
          let i : ℕ = place_of p w b (take 32 new) in (
            omega arith,
            bytes_append (entered (count b) i n (order p b)) (splice (records p b) (n * w) new (length new))
                (bytes_append (take (count b + 1) (insert_at i n (order p b))) (drop (count b + 1) (order p b))
                (bytes_take (count b + 1) (insert_at i n (order p b)) (bytes_insert i n (order p b) (omega arith) bytes_order))
                (bytes_drop (count b + 1) (order p b) bytes_order))
                (bytes_splice (records p b) (n * w) new (length new) bytes_records h),
          )
      go false e = g

  pub freed_in_bytes : (n : ℕ) → Bytes (freed_in p b n)
  unfolding freed_in freed unlisted closed
  freed_in_bytes n = go (ltb p (length b) && leb (count b) p)
    where
      less : Bytes (unlisted p b n)
      less =
          let c = bytes_get_d 0 b g in (
            omega arith,
            bytes_append (closed (count b - 1) (index_of n (listed p b)) (order p b)) (records p b)
                (bytes_append (take (count b - 1) (remove_at (index_of n (listed p b)) (order p b))) (drop (count b - 1) (order p b))
                (bytes_take (count b - 1) (remove_at (index_of n (listed p b)) (order p b)) (bytes_remove (index_of n (listed p b)) (order p b) bytes_order))
                (bytes_drop (count b - 1) (order p b) bytes_order))
                bytes_records,
          )

      one : (u : Bool) → Bytes (cond u (unlisted p b n) b)
      one true = less
      one false = g

      go : (u : Bool) → Bytes (cond u (freed p b n) b)
      go true = one (ltb (index_of n (listed p b)) (count b))
      go false = g

  pub overwritten_in_bytes : (w n at : ℕ) (new : List ℕ) → Bytes new → Bytes (overwritten_in p w b n at new)
  unfolding overwritten_in refilled
  overwritten_in_bytes w n at new h = go (may_overwrite p w b n at new)
    where
      go : (u : Bool) → Bytes (cond u (refilled p w b n at new) b)
      go true = bytes_splice b (1 + p + n * w + at) new (length new) g h
      go false = g
