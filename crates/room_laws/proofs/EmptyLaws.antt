-- The empty room: where the memory is long enough, what is written is a whole room, it is the rules' empty room, and the memory keeps its length.
use mathlib.Core.Path.{◌≡◌, refl, ◌∙◌, ap₂}
use mathlib.Core.Bool.{true}
use mathlib.Core.List.{List, ◌∷◌}
use Prim.Native.Nat.{ℕ, ◌+◌}
use native.Mathlib.Omega.{arith}
use lib.ListN.{length, drop, length-append, length-drop}
use lib.Seq.{get_or-take}
use borrow.Author.Tests.{eq-eqb}
use Rattle.wire.specs.Numbers.{number_of, bytes_of}
use Rattle.wire.proofs.Numbers.{length_bytes_of}
use Rattle.table_laws.specs.Bytes.{member}
use Rattle.table_laws.specs.Table.{count, listed}
use Rattle.table_laws.proofs.KeyOrder.{no}
use Rattle.table_laws.proofs.Listed.{whole_none}
use Rattle.table_laws.proofs.NoneListed.{listed_none, view_none}
use Rattle.rules.specs.Room.{Seat, vacant, set_clock, set_seats, empty_room, sizes_of}
use Rattle.room_laws.specs.Layout.{word_bytes, room_header, seat_bytes, seats_bytes, fits_room, seat_table}
use Rattle.room_laws.specs.View.{clock_in, seat_in, view_room}
use Rattle.room_laws.specs.Whole.{header_right, seat_whole, room_whole}
use Rattle.room_laws.specs.Store.{emptied}
use Rattle.room_laws.proofs.LayoutLaws.{room_long}
use Rattle.room_laws.proofs.TablesLaws.{fits_same}
use Rattle.room_laws.proofs.WholeLaws.{make_whole}

module _ (s n : ℕ) (b : List ℕ) (f : fits_room s n b ≡ true) where
  pub empty_length : length (emptied s n b) ≡ length b
  unfolding emptied
  empty_length = rw (length-append, length_bytes_of word_bytes 0, length-drop) (let q = room_long s n b f in omega arith)

  empty_count : count (seat_table s n (emptied s n b)) ≡ 0
  unfolding emptied seat_table bytes_of
  empty_count = get_or-take (seats_bytes s n) (0 ∷ drop (1 + room_header) b) 0 0 (omega arith)

  -- "first 0"
  empty_clock : clock_in (emptied s n b) ≡ 0
  unfolding clock_in emptied bytes_of number_of
  empty_clock = refl

  empty_header : header_right s n (emptied s n b) ≡ true
  unfolding emptied header_right
  empty_header = rw (eq-eqb s s refl, eq-eqb n n refl)

  pub empty_whole : room_whole s n (emptied s n b) ≡ true
  empty_whole =
      make_whole s n (emptied s n b) (fits_same s n (emptied s n b) b empty_length ∙ f) empty_header
      (whole_none s (seat_bytes n) (seat_table s n (emptied s n b)) empty_count) none
    where
      none : (i : ℕ) → member i (listed s (seat_table s n (emptied s n b))) ≡ true → seat_whole s n (emptied s n b) i ≡ true
      none i m = absurd (no (unfold member in rw (listed_none s (seat_table s n (emptied s n b)) empty_count) at m))

  pub empty_view : view_room s n (emptied s n b) ≡ empty_room (sizes_of s n)
  unfolding view_room empty_room seat_in
  empty_view =
      ap₂ (λ (x : List Seat) (t : ℕ). set_clock (set_seats (empty_room (sizes_of s n)) x) t)
      (view_none s (seat_bytes n) (seat_in n) (seat_table s n (emptied s n b)) vacant empty_count (λ r. refl)) empty_clock
