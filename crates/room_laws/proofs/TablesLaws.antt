-- The tables of a room, within its bytes: a seat's key and its ping stand where the layout says, and a seat's table of routes is the end of the seat's record,
-- behind its key and its header. Whether bytes fit a room is a matter of their length.
use mathlib.Core.Path.{◌≡◌, refl, sym, ap, ap₂, ◌∙◌}
use mathlib.Core.List.{List}
use Prim.Native.Nat.{ℕ, ◌+◌, ◌*◌, ◌-◌, ◌≤◌, ◌<◌}
use native.Mathlib.Omega.{arith}
use lib.ListN.{length, take, drop}
use lib.Seq.{take-take, drop-drop}
use Rattle.wire.specs.Numbers.{number_of}
use Rattle.table_laws.specs.Table.{table_bytes, record_at}
use Rattle.table_laws.proofs.Listed.{row_fits}
use Rattle.std.proofs.lemmas.List.{drop-take}
use Rattle.room_laws.specs.Layout.{room_header, key_bytes, word_bytes, ping_in_seat, outstanding_in_seat, routes_bytes, routes_in_seat, seat_bytes, fits_room, seat_table, seat_start, routes_table}
use Rattle.room_laws.specs.View.{record_ping, seat_ping}
use Rattle.room_laws.proofs.PartLaws.{part_of_take}

-- whether bytes fit a room is a matter of their length
pub fits_same : (s n : ℕ) (c b : List ℕ) → length c ≡ length b → fits_room s n c ≡ fits_room s n b
unfolding fits_room
fits_same s n c b e = rw e

-- ---- a part of a record

-- record i of a table that stands at h, of which m bytes are passed and n are left
end_of_record : (s m n w i h : ℕ) (b : List ℕ) → w ≡ m + n → i < s →
    drop m (record_at s w (take (table_bytes s w) (drop h b)) i) ≡ take n (drop (h + (1 + s + i * w) + m) b)
unfolding record_at
end_of_record s m n w i h b e l =
    let r = row_fits s w i l in
    let t : List ℕ = take (table_bytes s w) (drop h b) in
    ap (λ (k : ℕ). drop m (take k (drop (i * w) (drop (1 + s) t)))) e ∙ drop-take m n (drop (i * w) (drop (1 + s) t))
    ∙ ap (take n) (ap (drop m) (drop-drop (i * w) (1 + s) t) ∙ drop-drop m (1 + s + i * w) t)
    ∙ part_of_take (1 + s + i * w + m) n (table_bytes s w) (drop h b) (omega arith)
    ∙ ap (take n) (drop-drop (1 + s + i * w + m) h b ∙ ap (λ (x : ℕ). drop x b) (let q : h + (1 + s + i * w + m) ≡ h + (1 + s + i * w) + m = omega arith in q))

-- ---- the record of a seat

module _ (s n : ℕ) (b : List ℕ) (i : ℕ) (l : i < s) where
  -- the k bytes behind the first a
  seat_part_stands : (a k : ℕ) → a + k ≤ seat_bytes n → take k (drop a (record_at s (seat_bytes n) (seat_table s n b) i)) ≡ take k (drop a (drop (seat_start s n i) b))
  unfolding seat_table
  seat_part_stands a k h =
      ap (take k) (end_of_record s a (seat_bytes n - a) (seat_bytes n) i room_header b (omega arith) l)
      ∙ take-take k (seat_bytes n - a) (drop (seat_start s n i + a) b) (omega arith)
      ∙ ap (take k) (sym (drop-drop a (seat_start s n i) b))

  -- it begins with the key, which the ping follows
  pub seat_key_stands : take key_bytes (record_at s (seat_bytes n) (seat_table s n b) i) ≡ take key_bytes (drop (seat_start s n i) b)
  seat_key_stands = seat_part_stands 0 key_bytes (omega arith)

  pub seat_ping_stands : record_ping (record_at s (seat_bytes n) (seat_table s n b) i) ≡ seat_ping s n b i
  unfolding seat_ping
  seat_ping_stands =
      ap₂ (λ (x y : List ℕ). record { time = number_of x; number = number_of y }) (seat_part_stands ping_in_seat word_bytes (omega arith))
      (seat_part_stands outstanding_in_seat word_bytes (omega arith))

  -- and ends with the table of routes
  pub routes_in_record : routes_table s n b i ≡ drop routes_in_seat (record_at s (seat_bytes n) (seat_table s n b) i)
  unfolding seat_table routes_table
  routes_in_record = sym (end_of_record s routes_in_seat (routes_bytes n) (seat_bytes n) i room_header b refl l)
