-- A seat of a whole room taken or emptied in its table of seats: the room changes at that seat alone, and stays whole.
use mathlib.Core.Path.{◌≡◌, refl, sym, ap, ap₂, subst, ◌∙◌}
use mathlib.Core.Bool.{Bool, true, false, ◌&&◌, ◌||◌, true≢false}
use mathlib.Core.List.{List, [], ◌∷◌, ◌++◌, append_assoc}
use Prim.Native.Nat.{ℕ, ◌≤◌, ◌<◌}
use native.Mathlib.Omega.{arith}
use lib.ListN.{length, take, drop, set, replicate, length-append}
use lib.Seq.{take_at, drop_at, drop-drop}
use lib.Dec.{eqb, leb}
use borrow.Author.Tests.{eqb-true, eqb-false, le-leb}
use Rattle.wire.specs.Numbers.{number_of}
use Rattle.wire.proofs.Copy.{length_lent}
use Rattle.wire.proofs.Numbers.{length_bytes_of, number_bytes_of}
use Rattle.key.proofs.Same.{same_refl}
use Rattle.table_laws.specs.Bytes.{member, index_of}
use Rattle.table_laws.specs.Table.{Table, count, listed, record_at, key_at, table_without, place_of, put, put_in, freed, freed_in}
use Rattle.table_laws.proofs.Listed.{whole_count}
use Rattle.table_laws.proofs.WithoutLaws.{without_empty}
use Rattle.table_laws.proofs.Places.{member_in}
use Rattle.table_laws.proofs.TableLaws.{key_record, put_listed, put_other, put_same, length_put, view_put, whole_put, freed_listed, freed_record, length_freed, view_freed, whole_freed}
use Rattle.table_laws.proofs.Distinct.{member_less, unlisted_leaves_room}
use Rattle.table_laws.proofs.FitsLaws.{freed_in_lem}
use Rattle.table_laws.proofs.PutLaws.{put_in_is_put}
use Rattle.table_laws.proofs.NoneListed.{listed_none, view_none}
use Rattle.rules.specs.Room.{sizes_of, Key, Route, free, Ping, Held, Seat, vacant, holds, none_since, newcomer, set_key, set_ping, set_routes, set_seats, set_seat, none, find, seat_of, seat_at}
use Rattle.rules.proofs.FindLaws.{find_miss}
use Rattle.room_laws.specs.Layout.{word_bytes, clock_start, key_bytes, ping_in_seat, outstanding_in_seat, routes_in_seat, seat_bytes, seats_bytes, fits_room, seat_table}
use Rattle.room_laws.specs.View.{word_at, clock_in, record_ping, route_in, view_routes, held_in, seat_in, view_room}
use Rattle.room_laws.specs.Whole.{room_whole}
use Rattle.room_laws.specs.Store.{word_of, new_seat, with_seats}
use Rattle.room_laws.proofs.LayoutLaws.{room_long}
use Rattle.room_laws.proofs.ViewLaws.{view_is, seat_at_lem, seat_vacant, seat_holds}
use Rattle.room_laws.proofs.WholeLaws.{whole_fits, whole_header, whole_seats, whole_seat_table, listed_below, SeatRecordWhole, whole_record}
use Rattle.room_laws.proofs.ReplaceLaws.{seats_view, seats_length, seats_whole}

-- ---- how a seat's record begins

no_routes : (n : ℕ) (x : List ℕ) → view_routes n (0 ∷ x) ≡ replicate n free
unfolding view_routes route_in
no_routes n x = view_none n key_bytes route_in (0 ∷ x) free refl (λ r. refl)

module _ (clock : List ℕ) (c : length clock ≡ word_bytes) (key : Key) (e : length key ≡ 32) where
  new_length : length (new_seat clock key) ≡ 49
  unfolding new_seat
  new_length = let z = length_bytes_of word_bytes 0 in rw (length-append, length-append, length-append) (omega arith)

  new_key : take 32 (new_seat clock key) ≡ key
  unfolding new_seat
  new_key = take_at key (clock ++ (word_of 0 ++ (0 ∷ []))) 32 e

  module _ (x : List ℕ) where
    -- its parts, and what stands behind them
    new_parts : new_seat clock key ++ x ≡ key ++ (clock ++ (word_of 0 ++ (0 ∷ x)))
    unfolding new_seat
    new_parts = simp append_assoc

    behind_key : drop ping_in_seat (new_seat clock key ++ x) ≡ clock ++ (word_of 0 ++ (0 ∷ x))
    behind_key = ap (drop ping_in_seat) new_parts ∙ drop_at key (clock ++ (word_of 0 ++ (0 ∷ x))) key_bytes e

    behind_clock : drop outstanding_in_seat (new_seat clock key ++ x) ≡ word_of 0 ++ (0 ∷ x)
    behind_clock = sym (drop-drop word_bytes ping_in_seat (new_seat clock key ++ x)) ∙ ap (drop word_bytes) behind_key ∙ drop_at clock (word_of 0 ++ (0 ∷ x)) word_bytes c

    new_routes : drop routes_in_seat (new_seat clock key ++ x) ≡ 0 ∷ x
    new_routes =
        sym (drop-drop word_bytes outstanding_in_seat (new_seat clock key ++ x)) ∙ ap (drop word_bytes) behind_clock
        ∙ drop_at (word_of 0) (0 ∷ x) word_bytes (length_bytes_of word_bytes 0)

    first_key : take key_bytes (new_seat clock key ++ x) ≡ key
    first_key = ap (take key_bytes) new_parts ∙ take_at key (clock ++ (word_of 0 ++ (0 ∷ x))) key_bytes e

    -- none is outstanding since the clock
    new_ping : record_ping (new_seat clock key ++ x) ≡ none_since (number_of clock)
    new_ping =
        ap₂ (λ (t m : ℕ). record { time = t; number = m })
        (ap number_of (ap (take word_bytes) behind_key ∙ take_at clock (word_of 0 ++ (0 ∷ x)) word_bytes c))
        (ap number_of (ap (take word_bytes) behind_clock ∙ take_at (word_of 0) (0 ∷ x) word_bytes (length_bytes_of word_bytes 0)) ∙ number_bytes_of word_bytes 0 (omega arith))

    -- it lists no key, so not its own
    new_whole : (n : ℕ) → SeatRecordWhole n (number_of clock) (new_seat clock key ++ x)
    new_whole n =
        ap₂ (λ (p : Ping) (t : List ℕ). leb p.time (number_of clock) && table_without n key_bytes t (take key_bytes (new_seat clock key ++ x))) new_ping new_routes
        ∙ rw (le-leb (number_of clock) (number_of clock) (omega arith)) (without_empty n key_bytes (0 ∷ x) (take key_bytes (new_seat clock key ++ x)) (omega arith) (ap length (listed_none n (0 ∷ x) refl)))

    new_seat_lem : (s n : ℕ) → seat_in n true (new_seat clock key ++ x) ≡ holds (newcomer (sizes_of s n) (number_of clock) key)
    unfolding seat_in
    new_seat_lem s n =
        ap₂ (λ (k : Key) (p : Ping). holds (set_key (set_ping (held_in n (new_seat clock key ++ x)) p) k)) first_key new_ping
        ∙ ap (λ (t : List Route). holds (set_routes (newcomer (sizes_of s n) (number_of clock) key) t)) (ap (view_routes n) new_routes ∙ no_routes n x)

module _ (s n : ℕ) (b : List ℕ) (o : room_whole s n b ≡ true) (i : ℕ) where
  f : fits_room s n b ≡ true
  f = whole_fits s n b o

  t : Table s (seat_bytes n) (seat_table s n b)
  t = whole_seat_table s n b o

  long : s < length (seat_table s n b)
  long = let q = t.long in omega arith

  -- the clock is 8 bytes
  clock_long : length (word_at clock_start b) ≡ word_bytes
  clock_long = length_lent b clock_start word_bytes (let q = room_long s n b f in omega arith)

  -- ---- taken

  module _ (h : i < s) (key : Key) (e : length key ≡ 32) (unused : seat_at (view_room s n b) i ≡ vacant) (fresh : find (seat_of key) (view_room s n b).seats ≡ none) where
    absent : member i (listed s (seat_table s n b)) ≡ false
    absent = seat_vacant s n b i h unused

    left_room : count (seat_table s n b) < s
    left_room = unlisted_leaves_room s (seat_bytes n) (seat_table s n b) long (whole_seats s n b o) i h absent

    most : length (new_seat (word_at clock_start b) key) ≤ seat_bytes n
    most = let q = new_length (word_at clock_start b) clock_long key e in omega arith

    is_put : put_in s (seat_bytes n) (seat_table s n b) i (new_seat (word_at clock_start b) key) ≡ put s (seat_bytes n) (seat_table s n b) i (new_seat (word_at clock_start b) key)
    is_put = put_in_is_put s (seat_bytes n) (seat_table s n b) t (whole_seats s n b o) i h absent (new_seat (word_at clock_start b) key) (let q = new_length (word_at clock_start b) clock_long key e in omega arith) most

    put_long : length (put s (seat_bytes n) (seat_table s n b) i (new_seat (word_at clock_start b) key)) ≡ seats_bytes s n
    put_long = length_put s (seat_bytes n) (seat_table s n b) i (new_seat (word_at clock_start b) key) t left_room h most ∙ t.long

    -- a seat that is listed holds its key
    holds_key : (x : ℕ) → member x (listed s (seat_table s n b)) ≡ true → seat_of (key_at s (seat_bytes n) (seat_table s n b) x) (seat_at (view_room s n b) x) ≡ true
    holds_key x m =
        ap (seat_of (key_at s (seat_bytes n) (seat_table s n b) x))
        (seat_at_lem s n b x (listed_below s n b o x m) ∙ ap (λ (u : Bool). seat_in n u (record_at s (seat_bytes n) (seat_table s n b) x)) m)
        ∙ passes (record_at s (seat_bytes n) (seat_table s n b) x) (key_at s (seat_bytes n) (seat_table s n b) x) (key_record s (seat_bytes n) (seat_table s n b) x (omega arith))
      where
        passes : (r : List ℕ) (k : Key) → k ≡ take 32 r → seat_of k (seat_in n true r) ≡ true
        passes r k q = rw q (unfold seat_of seat_in in same_refl (take 32 r))

    key_fresh : (x : ℕ) → member x (listed s (seat_table s n b)) ≡ true → key_at s (seat_bytes n) (seat_table s n b) x ≡ take 32 (new_seat (word_at clock_start b) key) → ⊥
    key_fresh x m q =
        true≢false
        (sym (ap (λ (k : Key). seat_of k (seat_at (view_room s n b) x)) (sym (q ∙ new_key (word_at clock_start b) clock_long key e)) ∙ holds_key x m)
        ∙ missed)
      where
        missed : seat_of key (seat_at (view_room s n b) x) ≡ false
        missed = unfold seat_at in find_miss (seat_of key) vacant (view_room s n b).seats (unfold seat_of in refl) fresh x

    put_routes : (j : ℕ) (u : Bool) → eqb i j ≡ u → (u || member j (listed s (seat_table s n b))) ≡ true
        → (j < s) × SeatRecordWhole n (clock_in b) (record_at s (seat_bytes n) (put s (seat_bytes n) (seat_table s n b) i (new_seat (word_at clock_start b) key)) j)
    put_routes j true q m = rw (← eqb-true i j q) (
      h,
      subst (SeatRecordWhole n (clock_in b)) (sym (put_same s (seat_bytes n) (seat_table s n b) i (new_seat (word_at clock_start b) key) t left_room h most))
          (unfold clock_in in new_whole (word_at clock_start b) clock_long key e (drop (length (new_seat (word_at clock_start b) key)) (record_at s (seat_bytes n) (seat_table s n b) i)) n),
    )
    put_routes j false q m = (
      listed_below s n b o j m,
      subst (SeatRecordWhole n (clock_in b))
          (sym (put_other s (seat_bytes n) (seat_table s n b) i (new_seat (word_at clock_start b) key) t left_room h most j (listed_below s n b o j m) (λ d. eqb-false i j q (sym d))))
          (whole_record s n b o j m),
    )

    pub seat_taken_lem : (view_room s n (with_seats s n b (put_in s (seat_bytes n) (seat_table s n b) i (new_seat (word_at clock_start b) key))) ≡ set_seat (view_room s n b) i (holds (newcomer (sizes_of s n) (view_room s n b).clock key)))
        × (room_whole s n (with_seats s n b (put_in s (seat_bytes n) (seat_table s n b) i (new_seat (word_at clock_start b) key))) ≡ true)
        × (length (with_seats s n b (put_in s (seat_bytes n) (seat_table s n b) i (new_seat (word_at clock_start b) key))) ≡ length b)
    unfolding view_room clock_in
    seat_taken_lem = rw is_put (
      seats_view s n b f (put s (seat_bytes n) (seat_table s n b) i (new_seat (word_at clock_start b) key)) put_long
          ∙ ap (set_seats (view_room s n b))
          (view_put s (seat_bytes n) (seat_table s n b) i (new_seat (word_at clock_start b) key) t left_room h most (seat_in n)
          ∙ ap₂ (λ (x : List Seat) (y : Seat). set x i y) (view_is s n b) (new_seat_lem (word_at clock_start b) clock_long key e (drop (length (new_seat (word_at clock_start b) key)) (record_at s (seat_bytes n) (seat_table s n b) i)) s n)),
      seats_whole s n b f (put s (seat_bytes n) (seat_table s n b) i (new_seat (word_at clock_start b) key)) put_long (whole_header s n b o)
          (whole_put s (seat_bytes n) (seat_table s n b) i (new_seat (word_at clock_start b) key) t left_room h most (whole_seats s n b o) (let q = new_length (word_at clock_start b) clock_long key e in omega arith) absent key_fresh)
          (λ j m. put_routes j (eqb i j) refl
          (sym (member_in j (place_of s (seat_bytes n) (seat_table s n b) (take 32 (new_seat (word_at clock_start b) key))) i (listed s (seat_table s n b)))
          ∙ ap (member j) (sym (put_listed s (seat_bytes n) (seat_table s n b) i (new_seat (word_at clock_start b) key) t left_room h most)) ∙ m)),
      seats_length s n b f (put s (seat_bytes n) (seat_table s n b) i (new_seat (word_at clock_start b) key)) put_long,
    )

  -- ---- emptied

  module _ (held : Held) (e : seat_at (view_room s n b) i ≡ holds held) where
    present : member i (listed s (seat_table s n b)) ≡ true
    present = (seat_holds s n b i held e).1

    freed_long : length (freed s (seat_table s n b) i) ≡ seats_bytes s n
    freed_long = length_freed s (seat_bytes n) (seat_table s n b) i t (whole_seats s n b o) present ∙ t.long

    freed_routes : (j : ℕ) → member j (listed s (freed s (seat_table s n b) i)) ≡ true
        → (j < s) × SeatRecordWhole n (clock_in b) (record_at s (seat_bytes n) (freed s (seat_table s n b) i) j)
    freed_routes j m =
        let d = member_less j (index_of i (listed s (seat_table s n b))) (listed s (seat_table s n b))
        (ap (member j) (sym (freed_listed s (seat_bytes n) (seat_table s n b) i t (whole_seats s n b o) present)) ∙ m) in (
          listed_below s n b o j d,
          subst (SeatRecordWhole n (clock_in b)) (sym (freed_record s (seat_bytes n) (seat_table s n b) i t (whole_seats s n b o) present j)) (whole_record s n b o j d),
        )

    pub seat_emptied_lem : (view_room s n (with_seats s n b (freed_in s (seat_table s n b) i)) ≡ set_seat (view_room s n b) i vacant)
        × (room_whole s n (with_seats s n b (freed_in s (seat_table s n b) i)) ≡ true)
        × (length (with_seats s n b (freed_in s (seat_table s n b) i)) ≡ length b)
    seat_emptied_lem = rw (freed_in_lem s (seat_table s n b) long (whole_count s (seat_bytes n) (seat_table s n b) (whole_seats s n b o)) i) (
      seats_view s n b f (freed s (seat_table s n b) i) freed_long
          ∙ ap (set_seats (view_room s n b))
          (view_freed s (seat_bytes n) (seat_table s n b) i t (whole_seats s n b o) present (seat_in n)
          ∙ ap₂ (λ (x : List Seat) (y : Seat). set x i y) (view_is s n b) empty),
      seats_whole s n b f (freed s (seat_table s n b) i) freed_long (whole_header s n b o)
          (whole_freed s (seat_bytes n) (seat_table s n b) i t (whole_seats s n b o) present) freed_routes,
      seats_length s n b f (freed s (seat_table s n b) i) freed_long,
    )
      where
        empty : seat_in n false (record_at s (seat_bytes n) (seat_table s n b) i) ≡ vacant
        empty = unfold seat_in in refl
