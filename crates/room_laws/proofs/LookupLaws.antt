-- What is looked up in the bytes of a whole room is what the rules look up in the room that the bytes are: the clock, the seat that holds a key, the lowest
-- empty seat, whether a seat is taken and what it holds, its ping, the route of a seat that wants a key, its lowest free place, the route at a place, and the
-- peer on a route.
use mathlib.Core.Path.{◌≡◌, refl, sym, ap, ap₂, ◌∙◌}
use mathlib.Core.Bool.{Bool, true, false, ◌&&◌, not, cond, not-not}
use mathlib.Core.List.{List}
use Prim.Native.Nat.{ℕ, ◌<◌}
use native.Mathlib.Omega.{arith}
use lib.Dec.{eqb, ltb}
use lib.ListN.{length, take, drop, get_or}
use borrow.Author.Tests.{ltb-true, ltb-false, lt-ltb}
use Rattle.key.specs.Keys.{same_key}
use Rattle.table_laws.specs.Bytes.{member}
use Rattle.table_laws.specs.Table.{listed, record_at}
use Rattle.table_laws.proofs.KeyOrder.{both}
use Rattle.table_laws.proofs.FitsLaws.{used_in}
use Rattle.table_laws.proofs.TableLaws.{key_record}
use Rattle.rules.specs.Room.{Key, Route, free, Ping, Held, vacant, holds, set_key, set_ping, set_routes, find, seat_of, is_vacant, route_to, is_free, routes_of, seat_at, Seat, Found, none, at, alone}
use Rattle.rules.proofs.FindLaws.{vacant_no_key, find_hit}
use Rattle.rules.specs.Outcome.{joined_by, peer, peer_in, peer_at}
use Rattle.room_laws.specs.Layout.{seat_bytes, fits_room, seat_table, seat_start, routes_table}
use Rattle.room_laws.specs.View.{route_in, view_routes, held_in, seat_in, view_room, seat_ping, seat_held}
use Rattle.room_laws.specs.Whole.{room_whole}
use Rattle.room_laws.specs.Lookup.{seat_holding, lowest_empty, taken, clock_found, ping_time_of, outstanding_of, route_wanting, lowest_route, route_at_place, route_of_place, has_seat, peer_in_seat, peer_wanting}
use Rattle.room_laws.proofs.LayoutLaws.{length_seats, length_routes}
use Rattle.room_laws.proofs.TablesLaws.{seat_key_stands, seat_ping_stands, routes_in_record}
use Rattle.room_laws.proofs.ViewLaws.{route_at, route_past, seat_at_lem, seat_past, seat_holds}
use Rattle.room_laws.proofs.WholeLaws.{whole_fits, whole_seats, whole_seat_table, whole_routes, whole_routes_table}
use Rattle.room_laws.proofs.ViewFinds.{finds_by_key, finds_unlisted}
use Rattle.room_laws.proofs.RouteFinds.{free_unlisted, finds_route}

-- ---- the tests, on what a place is

vacant_unlisted : (n : ℕ) (u : Bool) (r : List ℕ) → is_vacant (seat_in n u r) ≡ not u
unfolding is_vacant seat_in
vacant_unlisted n true r = refl
vacant_unlisted n false r = refl

seat_keyed : (n : ℕ) (key : Key) (r : List ℕ) → seat_of key (seat_in n true r) ≡ same_key (take 32 r) key
unfolding seat_of seat_in
seat_keyed n key r = refl

-- ---- THE LAWS, in a whole room

module _ (s n : ℕ) (b : List ℕ) (whole : room_whole s n b ≡ true) where
  fits : fits_room s n b ≡ true
  fits = whole_fits s n b whole

  long : s < length (seat_table s n b)
  long = let q = length_seats s n b fits in omega arith

  -- ---- seats

  pub seat_holding_finds : (key : Key) → seat_holding s n b key ≡ find (seat_of key) (view_room s n b).seats
  unfolding seat_holding view_room
  seat_holding_finds key =
      rw fits
      (sym (finds_by_key s (seat_bytes n) (seat_table s n b) (whole_seat_table s n b whole) (whole_seats s n b whole) (seat_in n) vacant (seat_of key) key
      (λ r. vacant_no_key key (seat_in n false r) (vacant_unlisted n false r))
      (λ m l.
      seat_keyed n key (record_at s (seat_bytes n) (seat_table s n b) m)
      ∙ ap (λ (k : Key). same_key k key) (sym (key_record s (seat_bytes n) (seat_table s n b) m (omega arith))))))

  pub lowest_empty_finds : lowest_empty s n b ≡ find is_vacant (view_room s n b).seats
  unfolding lowest_empty view_room
  lowest_empty_finds =
      rw fits
      (sym (finds_unlisted s (seat_bytes n) (seat_table s n b) (whole_seat_table s n b whole) (whole_seats s n b whole) (seat_in n) vacant is_vacant (vacant_unlisted n)))

  pub taken_is : (i : ℕ) → taken s n b i ≡ not (is_vacant (seat_at (view_room s n b) i))
  unfolding taken
  taken_is i = rw (fits, used_in s (seat_table s n b) long i) (go (ltb i s) refl)
    where
      go : (u : Bool) → ltb i s ≡ u → (u && member i (listed s (seat_table s n b))) ≡ not (is_vacant (seat_at (view_room s n b) i))
      go true e =
          rw (seat_at_lem s n b i (ltb-true i s e), vacant_unlisted n (member i (listed s (seat_table s n b))) (record_at s (seat_bytes n) (seat_table s n b) i))
          (sym (not-not (member i (listed s (seat_table s n b)))))
      go false e = rw (seat_past s n b i (ltb-false i s e)) (unfold is_vacant in refl)

  -- ---- the clock, and the ping of a seat that holds a key

  pub clock_is : clock_found s n b ≡ (view_room s n b).clock
  unfolding clock_found view_room
  clock_is = rw fits

  module _ (i : ℕ) (held : Held) (sits : seat_at (view_room s n b) i ≡ holds held) where
    ping_is : seat_ping s n b i ≡ held.ping
    ping_is =
        let q = seat_holds s n b i held sits in
        sym (seat_ping_stands s n b i q.0) ∙ ap (λ (h : Held). h.ping) q.2

    pub ping_time_is : ping_time_of s n b i ≡ held.ping.time
    unfolding ping_time_of has_seat
    ping_time_is = rw (fits, lt-ltb i s (seat_holds s n b i held sits).0) (ap (λ (p : Ping). p.time) ping_is)

    pub outstanding_is : outstanding_of s n b i ≡ held.ping.number
    unfolding outstanding_of has_seat
    outstanding_is = rw (fits, lt-ltb i s (seat_holds s n b i held sits).0) (ap (λ (p : Ping). p.number) ping_is)

  -- ---- a seat that is taken

  module _ (i : ℕ) (sits : taken s n b i ≡ true) where
    within : i < s
    unfolding taken
    within = ltb-true i s (both (fits_room s n b) _ (both (fits_room s n b && ltb i s) _ sits).0).1

    lists : member i (listed s (seat_table s n b)) ≡ true
    unfolding taken
    lists = sym (used_in s (seat_table s n b) long i) ∙ (both (fits_room s n b && ltb i s) _ sits).1

    pub taken_holds : seat_at (view_room s n b) i ≡ holds (seat_held s n b i (take 32 (drop (seat_start s n i) b)))
    unfolding seat_in
    taken_holds =
        rw (seat_at_lem s n b i within, lists)
        (ap₂ (λ (k : Key) (t : List Route). holds (set_key (set_routes (held_in n (record_at s (seat_bytes n) (seat_table s n b) i)) t) k))
        (seat_key_stands s n b i within) (ap (view_routes n) (sym (routes_in_record s n b i within)))
        ∙ ap (λ (p : Ping). holds (set_ping (seat_held s n b i (take 32 (drop (seat_start s n i) b))) p)) (seat_ping_stands s n b i within))

    routes_are : routes_of (seat_at (view_room s n b) i) ≡ view_routes n (routes_table s n b i)
    unfolding routes_of
    routes_are = ap routes_of taken_holds

    pub route_wanting_finds : (key : Key) → route_wanting s n b i key ≡ find (route_to key) (routes_of (seat_at (view_room s n b) i))
    unfolding route_wanting
    route_wanting_finds key =
        rw (fits, lt-ltb i s within, routes_are)
        (sym (finds_route n (routes_table s n b i) (whole_routes_table s n b whole i lists) (whole_routes s n b whole i lists) key))

    pub lowest_route_finds : lowest_route s n b i ≡ find is_free (routes_of (seat_at (view_room s n b) i))
    unfolding lowest_route view_routes
    lowest_route_finds =
        rw (fits, lt-ltb i s within, routes_are)
        (sym (finds_unlisted n 32 (routes_table s n b i) (whole_routes_table s n b whole i lists) (whole_routes s n b whole i lists) route_in free is_free free_unlisted))

    pub route_at_place_is : (j : ℕ) → route_at_place s n b i j ≡ get_or (routes_of (seat_at (view_room s n b) i)) j free
    unfolding route_at_place route_of_place has_seat
    route_at_place_is j =
        let l : n < length (routes_table s n b i) = let q = length_routes s n b fits i within in omega arith in
        rw (fits, lt-ltb i s within, routes_are, used_in n (routes_table s n b i) l j) (go (ltb j n) refl)
      where
        go : (u : Bool) → ltb j n ≡ u →
            cond u (route_in (member j (listed n (routes_table s n b i))) (record_at n 32 (routes_table s n b i) j)) free
            ≡ get_or (view_routes n (routes_table s n b i)) j free
        go true e = sym (route_at n (routes_table s n b i) j (ltb-true j n e))
        go false e = sym (route_past n (routes_table s n b i) j (ltb-false j n e))

  -- ---- the peer

  found_taken : (wanted : Key) (other : ℕ) → find (seat_of wanted) (view_room s n b).seats ≡ at other → taken s n b other ≡ true
  unfolding seat_at
  found_taken wanted other e = taken_is other ∙ held (seat_at (view_room s n b) other) (find_hit (seat_of wanted) vacant (view_room s n b).seats other e)
    where
      held : (sits : Seat) → seat_of wanted sits ≡ true → not (is_vacant sits) ≡ true
      held vacant h = let z : ◌≡◌ {A = Bool} false true = unfold seat_of in h in cc
      held (holds client) h = unfold is_vacant in refl

  pub peer_wanting_is : (i : ℕ) (key wanted : Key) → peer_wanting s n b i key wanted ≡ peer (view_room s n b) i key wanted
  unfolding peer_wanting peer_in_seat peer peer_in peer_at
  peer_wanting_is i key wanted = ap (peer_in_seat s n b i key) (seat_holding_finds wanted) ∙ go (find (seat_of wanted) (view_room s n b).seats) refl
    where
      at_seat : (other : ℕ) → taken s n b other ≡ true → (own : Bool) →
          cond own alone (joined_by other (route_wanting s n b other key)) ≡ peer_at own (view_room s n b) key other
      at_seat other sits true = refl
      at_seat other sits false = ap (joined_by other) (route_wanting_finds other sits key)

      go : (f : Found) → find (seat_of wanted) (view_room s n b).seats ≡ f → peer_in_seat s n b i key f ≡ peer_in f (view_room s n b) i key
      go none e = refl
      go (at other) e = at_seat other (found_taken wanted other e) (eqb i other)
