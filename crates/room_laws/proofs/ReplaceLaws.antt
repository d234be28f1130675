-- A part of a room replaced by one as long. The table of seats: the header and the length stay, and the room is the new table's. A part of the record of a seat
-- that holds a key, behind the key: that seat is what its new record says, every other seat stays, and the room is whole where the new record is. The seat's
-- table of routes is such a part.
use mathlib.Core.Path.{◌≡◌, refl, sym, ap, ap₂, subst, ◌∙◌}
use mathlib.Core.Bool.{Bool, true, false, ◌&&◌}
use mathlib.Core.List.{List, ◌++◌, append-nil}
use Prim.Native.Nat.{ℕ, ◌+◌, ◌*◌, ◌≤◌, ◌<◌}
use native.Mathlib.Omega.{arith}
use lib.ListN.{length, take, drop, get_or, set, length-drop, drop_of_length-le, get_or-append}
use lib.Seq.{length-take-le, take_at, drop_at, get_or-take}
use lib.Dec.{eqb, leb}
use borrow.Author.Tests.{eqb-true, eqb-false, le-leb}
use Rattle.wire.specs.Numbers.{number_of}
use Rattle.table_laws.specs.Bytes.{splice, member}
use Rattle.table_laws.specs.Table.{Table, listed, record_at, table_whole, table_without, view}
use Rattle.table_laws.proofs.Listed.{row_fits}
use Rattle.table_laws.proofs.Stores.{length_splice}
use Rattle.table_laws.proofs.Places.{splice_inner}
use Rattle.table_laws.proofs.TableLaws.{length_record}
use Rattle.table_laws.proofs.RecordLaws.{refilled, refilled_length, refilled_listed, refilled_other, refilled_same, view_refilled, refilled_whole}
use Rattle.rules.specs.Room.{Key, Ping, Held, Seat, holds, set_key, set_ping, set_routes, set_clock, set_seats, set_seat, seat_at}
use Rattle.room_laws.specs.Layout.{room_header, clock_start, word_bytes, key_bytes, ping_in_seat, outstanding_in_seat, routes_bytes, routes_in_seat, seat_bytes, seats_bytes, fits_room, seat_table, seat_start, routes_start}
use Rattle.room_laws.specs.View.{clock_in, record_ping, held_in, seat_in, view_routes, view_room}
use Rattle.room_laws.specs.Whole.{header_right, seat_whole, room_whole}
use Rattle.room_laws.specs.Store.{with_seats, with_routes}
use Rattle.room_laws.proofs.LayoutLaws.{room_long}
use Rattle.room_laws.proofs.PartLaws.{splice_before, splice_from}
use Rattle.room_laws.proofs.TablesLaws.{fits_same}
use Rattle.room_laws.proofs.ViewLaws.{view_is, seat_holds}
use Rattle.room_laws.proofs.WholeLaws.{seat_record_whole, SeatRecordWhole, seat_by_record, make_whole, whole_fits, whole_header, whole_seats, whole_seat_table, listed_below, whole_record, held_ping}

-- ---- the table of seats

module _ (s n : ℕ) (b : List ℕ) (f : fits_room s n b ≡ true) (table : List ℕ) (l : length table ≡ seats_bytes s n) where
  header_length : length (take room_header b) ≡ room_header
  header_length = length-take-le room_header b (let q = room_long s n b f in omega arith)

  pub seats_replaced : seat_table s n (with_seats s n b table) ≡ table
  unfolding seat_table with_seats
  seats_replaced =
      ap (take (seats_bytes s n)) (drop_at (take room_header b) (table ++ drop (seats_bytes s n) (drop room_header b)) room_header header_length)
      ∙ take_at table (drop (seats_bytes s n) (drop room_header b)) (seats_bytes s n) l

  pub seats_length : length (with_seats s n b table) ≡ length b
  unfolding with_seats
  seats_length = length_splice b room_header table (seats_bytes s n) (room_long s n b f) l

  pub seats_fits : fits_room s n (with_seats s n b table) ≡ true
  seats_fits = fits_same s n (with_seats s n b table) b seats_length ∙ f

  header_byte : (i : ℕ) → i < room_header → get_or (with_seats s n b table) i 0 ≡ get_or b i 0
  unfolding with_seats
  header_byte i h =
      get_or-append (take room_header b) (table ++ drop (seats_bytes s n) (drop room_header b)) 0 i (let q = header_length in omega arith)
      ∙ get_or-take room_header b i 0 h

  pub seats_header : header_right s n (with_seats s n b table) ≡ header_right s n b
  unfolding header_right
  seats_header = rw (header_byte 0 (omega arith), header_byte 1 (omega arith))

  seats_clock : clock_in (with_seats s n b table) ≡ clock_in b
  unfolding clock_in with_seats
  seats_clock =
      ap number_of
      (splice_before b table room_header (seats_bytes s n) (let q = room_long s n b f in omega arith) clock_start word_bytes (omega arith))

  pub seats_view : view_room s n (with_seats s n b table) ≡ set_seats (view_room s n b) (view s (seat_bytes n) (seat_in n) table)
  unfolding view_room
  seats_view =
      ap₂ (λ (x : List ℕ) (t : ℕ). set_clock (set_seats (view_room s n b) (view s (seat_bytes n) (seat_in n) x)) t) seats_replaced seats_clock

  pub seats_whole : header_right s n b ≡ true → table_whole s (seat_bytes n) table ≡ true
      → ((i : ℕ) → member i (listed s table) ≡ true → (i < s) × SeatRecordWhole n (clock_in b) (record_at s (seat_bytes n) table i))
      → room_whole s n (with_seats s n b table) ≡ true
  seats_whole h o r =
      make_whole s n (with_seats s n b table) seats_fits (seats_header ∙ h) (ap (table_whole s (seat_bytes n)) seats_replaced ∙ o) each
    where
      each : (i : ℕ) → member i (listed s (seat_table s n (with_seats s n b table))) ≡ true → seat_whole s n (with_seats s n b table) i ≡ true
      each i m =
          let q = r i (ap (λ (x : List ℕ). member i (listed s x)) (sym seats_replaced) ∙ m) in
          seat_by_record s n (with_seats s n b table) i q.0
          ∙ ap₂ (λ (t : ℕ) (x : List ℕ). seat_record_whole n t (record_at s (seat_bytes n) x i)) seats_clock seats_replaced ∙ q.1

-- ---- a part of one seat's record, behind its key

module _ (s n : ℕ) (b : List ℕ) (o : room_whole s n b ≡ true) (i : ℕ) (held : Held) (e : seat_at (view_room s n b) i ≡ holds held)
    (at : ℕ) (behind : key_bytes ≤ at) (new : List ℕ) (most : at + length new ≤ seat_bytes n) where
  f : fits_room s n b ≡ true
  f = whole_fits s n b o

  t : Table s (seat_bytes n) (seat_table s n b)
  t = whole_seat_table s n b o

  below : i < s
  below = (seat_holds s n b i held e).0

  -- it is the table of seats, with a part of a record replaced
  part_as_seats : splice b (seat_start s n i + at) new (length new) ≡ with_seats s n b (refilled s (seat_bytes n) (seat_table s n b) i at new)
  unfolding with_seats refilled seat_table
  part_as_seats =
      let q = room_long s n b f in
      let r = row_fits s (seat_bytes n) i below in
      ap (λ (x : ℕ). splice b x new (length new)) (let z : seat_start s n i + at ≡ room_header + (1 + s + i * seat_bytes n + at) = omega arith in z)
      ∙ splice_inner b room_header (seats_bytes s n) (1 + s + i * seat_bytes n + at) new q (omega arith)

  long : length (refilled s (seat_bytes n) (seat_table s n b) i at new) ≡ seats_bytes s n
  long = refilled_length s (seat_bytes n) (seat_table s n b) t i below at new most ∙ t.long

  -- THE LAW: that seat is what its new record says
  pub part_view : view_room s n (splice b (seat_start s n i + at) new (length new))
      ≡ set_seat (view_room s n b) i (holds (held_in n (splice (record_at s (seat_bytes n) (seat_table s n b) i) at new (length new))))
  part_view =
      ap (view_room s n) part_as_seats
      ∙ seats_view s n b f (refilled s (seat_bytes n) (seat_table s n b) i at new) long
      ∙ ap (set_seats (view_room s n b))
      (view_refilled s (seat_bytes n) (seat_table s n b) t i below at new most (seat_in n)
      ∙ ap₂ (λ (x : List Seat) (y : Seat). set x i y) (view_is s n b) here)
    where
      here : seat_in n (member i (listed s (seat_table s n b))) (splice (record_at s (seat_bytes n) (seat_table s n b) i) at new (length new))
          ≡ holds (held_in n (splice (record_at s (seat_bytes n) (seat_table s n b) i) at new (length new)))
      here = rw (seat_holds s n b i held e).1 (unfold seat_in in refl)

  pub part_length : length (splice b (seat_start s n i + at) new (length new)) ≡ length b
  part_length = ap length part_as_seats ∙ seats_length s n b f (refilled s (seat_bytes n) (seat_table s n b) i at new) long

  -- and the room is whole, where that record is
  pub part_whole : SeatRecordWhole n (clock_in b) (splice (record_at s (seat_bytes n) (seat_table s n b) i) at new (length new))
      → room_whole s n (splice b (seat_start s n i + at) new (length new)) ≡ true
  part_whole w =
      ap (room_whole s n) part_as_seats
      ∙ seats_whole s n b f (refilled s (seat_bytes n) (seat_table s n b) i at new) long (whole_header s n b o)
      (refilled_whole s (seat_bytes n) (seat_table s n b) t i below at new most behind (whole_seats s n b o))
      (λ j m.
      let d = ap (member j) (sym (refilled_listed s (seat_bytes n) (seat_table s n b) t i below at new most)) ∙ m in
      (listed_below s n b o j d, each j (eqb j i) refl d))
    where
      each : (j : ℕ) (u : Bool) → eqb j i ≡ u → member j (listed s (seat_table s n b)) ≡ true
          → SeatRecordWhole n (clock_in b) (record_at s (seat_bytes n) (refilled s (seat_bytes n) (seat_table s n b) i at new) j)
      each j true q m =
          rw (eqb-true j i q) (subst (SeatRecordWhole n (clock_in b)) (sym (refilled_same s (seat_bytes n) (seat_table s n b) t i below at new most)) w)
      each j false q m =
          subst (SeatRecordWhole n (clock_in b))
          (sym (refilled_other s (seat_bytes n) (seat_table s n b) t i below at new most j (listed_below s n b o j m) (eqb-false j i q)))
          (whole_record s n b o j m)

  -- what stands before that part stays, so the key does
  pub part_within : at ≤ length (record_at s (seat_bytes n) (seat_table s n b) i)
  part_within = let q = length_record s (seat_bytes n) (seat_table s n b) t i below in omega arith

  pub part_key : take key_bytes (splice (record_at s (seat_bytes n) (seat_table s n b) i) at new (length new)) ≡ held.key
  part_key =
      splice_before (record_at s (seat_bytes n) (seat_table s n b) i) new at (length new) part_within 0 key_bytes behind
      ∙ ap (λ (h : Held). h.key) (seat_holds s n b i held e).2

-- ---- the table of routes of one seat

-- a record whose end is replaced
end_replaced : (a w : ℕ) (r new : List ℕ) → length r ≡ w → a + length new ≡ w → drop a (splice r a new (length new)) ≡ new
end_replaced a w r new l e =
    splice_from r new a (length new) (omega arith)
    ∙ ap (λ (x : List ℕ). new ++ x) (drop_of_length-le (drop a r) {i = length new} (rw length-drop (omega arith))) ∙ append-nil new

module _ (s n : ℕ) (b : List ℕ) (o : room_whole s n b ≡ true) (i : ℕ) (held : Held)
    (e : seat_at (view_room s n b) i ≡ holds held) (new : List ℕ) (l : length new ≡ routes_bytes n) where
  fills : routes_in_seat + length new ≤ seat_bytes n
  fills = omega arith

  routes_as_part : with_routes s n b i new ≡ splice b (routes_start s n i) new (length new)
  unfolding with_routes
  routes_as_part = ap (λ (x : ℕ). splice b (routes_start s n i) new x) (sym l)

  abbrev filled : List ℕ
  filled = splice (record_at s (seat_bytes n) (seat_table s n b) i) routes_in_seat new (length new)

  routes_behind : drop routes_in_seat filled ≡ new
  routes_behind =
      let kept = record_at s (seat_bytes n) (seat_table s n b) i in
      let k = length_record s (seat_bytes n) (seat_table s n b) (whole_seat_table s n b o) i (seat_holds s n b i held e).0 in
      end_replaced routes_in_seat (seat_bytes n) kept new k (omega arith)

  routes_key : take key_bytes filled ≡ held.key
  routes_key = part_key s n b o i held e routes_in_seat (omega arith) new fills

  routes_ping : record_ping filled ≡ held.ping
  routes_ping =
      let kept = record_at s (seat_bytes n) (seat_table s n b) i in
      let within = part_within s n b o i held e routes_in_seat (omega arith) new fills in
      ap₂ (λ (x y : List ℕ). record { time = number_of x; number = number_of y })
      (splice_before kept new routes_in_seat (length new) within ping_in_seat word_bytes (omega arith))
      (splice_before kept new routes_in_seat (length new) within outstanding_in_seat word_bytes (omega arith))
      ∙ ap (λ (h : Held). h.ping) (seat_holds s n b i held e).2

  -- THE LAW: that seat has the new routes
  pub routes_view : view_room s n (with_routes s n b i new) ≡ set_seat (view_room s n b) i (holds (set_routes held (view_routes n new)))
  routes_view =
      ap (view_room s n) routes_as_part ∙ part_view s n b o i held e routes_in_seat (omega arith) new fills
      ∙ ap (λ (h : Held). set_seat (view_room s n b) i (holds h))
      (ap₂ (λ (k : Key) (p : Ping). set_key (set_ping (held_in n filled) p) k) routes_key routes_ping
      ∙ ap (λ (x : List ℕ). set_routes held (view_routes n x)) routes_behind)

  pub routes_length : length (with_routes s n b i new) ≡ length b
  routes_length = ap length routes_as_part ∙ part_length s n b o i held e routes_in_seat (omega arith) new fills

  -- and the room is whole, where they do not have its key
  pub routes_whole : table_without n key_bytes new held.key ≡ true → room_whole s n (with_routes s n b i new) ≡ true
  routes_whole w =
      ap (room_whole s n) routes_as_part
      ∙ part_whole s n b o i held e routes_in_seat (omega arith) new fills
      (ap₂ (λ (x y : Bool). x && y)
      (ap (λ (p : Ping). leb p.time (clock_in b)) routes_ping ∙ le-leb held.ping.time (clock_in b) (held_ping s n b o i held e))
      (ap₂ (table_without n key_bytes) routes_behind routes_key ∙ w))
