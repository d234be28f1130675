-- The clock of a room replaced by a time that is not earlier: the room has the new clock and every seat stays, it stays whole, and the memory keeps its length.
use mathlib.Core.Path.{◌≡◌, refl, sym, ap, ap₂, ◌∙◌}
use mathlib.Core.Bool.{true}
use mathlib.Core.List.{List, ◌++◌}
use Prim.Native.Nat.{ℕ, ◌^◌, ◌≤◌, ◌<◌}
use native.Mathlib.Omega.{arith}
use lib.ListN.{length, take, drop, get_or, get_or-append}
use lib.Seq.{length-take-le, take_at, get_or-take}
use lib.Dec.{leb}
use borrow.Author.Tests.{le-leb, leb-true}
use Rattle.wire.specs.Numbers.{number_of}
use Rattle.wire.proofs.Numbers.{length_bytes_of, number_bytes_of}
use Rattle.table_laws.specs.Bytes.{member}
use Rattle.table_laws.specs.Table.{listed, record_at, table_whole, view}
use Rattle.table_laws.proofs.KeyOrder.{both}
use Rattle.table_laws.proofs.Stores.{length_splice}
use Rattle.rules.specs.Room.{set_clock, set_seats}
use Rattle.room_laws.specs.Layout.{word_bytes, clock_start, room_header, seat_bytes, seats_bytes, seat_table}
use Rattle.room_laws.specs.View.{clock_in, record_ping, seat_in, view_room}
use Rattle.room_laws.specs.Whole.{header_right, seat_whole, room_whole}
use Rattle.room_laws.specs.Store.{word_of, with_clock}
use Rattle.room_laws.proofs.LayoutLaws.{room_long}
use Rattle.room_laws.proofs.PartLaws.{splice_from, splice_behind}
use Rattle.room_laws.proofs.TablesLaws.{fits_same}
use Rattle.room_laws.proofs.WholeLaws.{SeatRecordWhole, seat_by_record, make_whole, whole_fits, whole_header, whole_seats, listed_below, whole_record}

module _ (s n : ℕ) (b : List ℕ) (o : room_whole s n b ≡ true) (time : ℕ) (small : time < 256 ^ word_bytes) where
  within : room_header ≤ length b
  within = let q = room_long s n b (whole_fits s n b o) in omega arith

  pub clock_length : length (with_clock b time) ≡ length b
  unfolding with_clock
  clock_length = length_splice b clock_start (word_of time) word_bytes within (length_bytes_of word_bytes time)

  clock_replaced : clock_in (with_clock b time) ≡ time
  unfolding clock_in with_clock
  clock_replaced =
      let k : clock_start ≤ length b = let q = within in omega arith in
      ap number_of
      (ap (take word_bytes) (splice_from b (word_of time) clock_start word_bytes k)
      ∙ take_at (word_of time) (drop word_bytes (drop clock_start b)) word_bytes (length_bytes_of word_bytes time))
      ∙ number_bytes_of word_bytes time small

  seats_kept : seat_table s n (with_clock b time) ≡ seat_table s n b
  unfolding seat_table with_clock
  seats_kept =
      let k : clock_start ≤ length b = let q = within in omega arith in
      ap (take (seats_bytes s n)) (splice_behind b (word_of time) clock_start word_bytes k (length_bytes_of word_bytes time) room_header refl)

  sizes_kept : (i : ℕ) → i < clock_start → get_or (with_clock b time) i 0 ≡ get_or b i 0
  unfolding with_clock
  sizes_kept i h =
      let q = length-take-le clock_start b (let k = within in omega arith) in
      get_or-append (take clock_start b) (word_of time ++ drop word_bytes (drop clock_start b)) 0 i (omega arith)
      ∙ get_or-take clock_start b i 0 h

  header_kept : header_right s n (with_clock b time) ≡ header_right s n b
  unfolding header_right
  header_kept = rw (sizes_kept 0 (omega arith), sizes_kept 1 (omega arith))

  -- THE LAW: the room has the new clock, and every seat stays
  pub clock_view : view_room s n (with_clock b time) ≡ set_clock (view_room s n b) time
  unfolding view_room
  clock_view =
      ap₂ (λ (x : List ℕ) (t : ℕ). set_clock (set_seats (view_room s n b) (view s (seat_bytes n) (seat_in n) x)) t) seats_kept clock_replaced

  -- a record that is whole by the clock is so by a later one
  later_whole : (clock : ℕ) (r : List ℕ) → clock ≤ time → SeatRecordWhole n clock r → SeatRecordWhole n time r
  later_whole clock r h w =
      let q = both (leb (record_ping r).time clock) _ w in
      let l = leb-true (record_ping r).time clock q.0 in
      rw (le-leb (record_ping r).time time (omega arith)) q.1

  pub clock_whole : clock_in b ≤ time → room_whole s n (with_clock b time) ≡ true
  clock_whole h =
      make_whole s n (with_clock b time) (fits_same s n (with_clock b time) b clock_length ∙ whole_fits s n b o) (header_kept ∙ whole_header s n b o)
      (ap (table_whole s (seat_bytes n)) seats_kept ∙ whole_seats s n b o) each
    where
      each : (i : ℕ) → member i (listed s (seat_table s n (with_clock b time))) ≡ true → seat_whole s n (with_clock b time) i ≡ true
      each i m =
          let d = ap (λ (x : List ℕ). member i (listed s x)) (sym seats_kept) ∙ m in
          seat_by_record s n (with_clock b time) i (listed_below s n b o i d)
          ∙ rw (clock_replaced, seats_kept) (later_whole (clock_in b) (record_at s (seat_bytes n) (seat_table s n b) i) h (whole_record s n b o i d))
