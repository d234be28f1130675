-- THE LAW of the stores: a change that fits the room that whole bytes are, stored in the bytes, is the rules' change of that room; the bytes stay
-- whole and keep their length. Which changes fit is said in `Fits`.
use mathlib.Core.Path.{◌≡◌, refl, sym, ap, ◌∙◌, subst}
use mathlib.Core.Bool.{true, false, ◌&&◌}
use mathlib.Core.List.{List, [], ◌∷◌}
use Prim.Native.Nat.{ℕ, ◌<◌}
use lib.ListN.{length, get_or, set}
use lib.Dec.{ltb}
use borrow.Author.Tests.{lt-ltb}
use Rattle.table_laws.specs.Table.{Table, table_whole, put_in, freed_in}
use Rattle.rules.specs.Room.{Route, free, wants, Held, Seat, holds, Room, set_routes, set_seat, none, find, route_to, seat_at, sizes_of}
use Rattle.rules.proofs.FindLaws.{find_miss, set_all}
use Rattle.rules.specs.Outcome.{Change, seat_taken, seat_emptied, route_given, route_freed, clock_set, ping_sent, ping_answered, with_route, with_ping, without_ping, apply, apply_all}
use Rattle.room_laws.specs.Layout.{key_bytes, routes_bytes, fits_room, routes_table}
use Rattle.room_laws.specs.View.{view_routes, view_room}
use Rattle.room_laws.specs.Whole.{room_whole}
use Rattle.room_laws.specs.Store.{with_routes, store, store_all}
use Rattle.room_laws.proofs.LayoutLaws.{length_routes}
use Rattle.room_laws.specs.Fits.{Fit, takes, empties, gives, frees, sets, pings, answers, FitAll}
use Rattle.room_laws.proofs.ViewLaws.{seat_holds}
use Rattle.room_laws.proofs.ViewFinds.{none_found}
use Rattle.room_laws.proofs.RouteFinds.{none_without}
use Rattle.room_laws.proofs.WholeLaws.{whole_fits, whole_routes_table, held_routes, held_others}
use Rattle.room_laws.proofs.ReplaceLaws.{routes_view, routes_whole, routes_length}
use Rattle.room_laws.proofs.ClockLaws.{clock_view, clock_whole, clock_length}
use Rattle.room_laws.proofs.PingLaws.{ping_sent_lem, ping_answered_lem}
use Rattle.room_laws.proofs.RouteLaws.{route_put, route_out}
use Rattle.room_laws.proofs.SeatLaws.{seat_taken_lem, seat_emptied_lem}

module _ (s n : ℕ) (b : List ℕ) (o : room_whole s n b ≡ true) where
  -- where the room fits and there is a seat i, a store is done
  fits_at : (i : ℕ) → i < s → (fits_room s n b && ltb i s) ≡ true
  fits_at i h = rw (whole_fits s n b o, lt-ltb i s h)

  -- a seat's routes replaced by a whole table that has one of them changed, to one that does not want the seat's own key
  module _ (i : ℕ) (held : Held) (e : seat_at (view_room s n b) i ≡ holds held) (j : ℕ) (route : Route) (apart : route_to held.key route ≡ false) (new : List ℕ)
      (q : (view_routes n new ≡ set (view_routes n (routes_table s n b i)) j route) × (table_whole n key_bytes new ≡ true) × (length new ≡ length (routes_table s n b i))) where
    below : i < s
    below = (seat_holds s n b i held e).0

    long : length new ≡ routes_bytes n
    long = q.2 ∙ length_routes s n b (whole_fits s n b o) i below

    new_table : Table n key_bytes new
    new_table =
        let t = whole_routes_table s n b o i (seat_holds s n b i held e).1 in
        record { small = t.small; key = t.key; narrow = t.narrow; long = long }

    -- none of the new routes wants the seat's own key
    others : find (route_to held.key) (view_routes n new) ≡ none
    others =
        let k = held.key in
        let old = view_routes n (routes_table s n b i) in
        let unwanted = ap (find (route_to k)) (held_routes s n b o i held e).1 ∙ held_others s n b o i held e in
        ap (find (route_to k)) q.0
        ∙ none_found (route_to k) free (set old j route)
        (λ x l. set_all (λ (r : Route). route_to k r ≡ false) free old j route apart (find_miss (route_to k) free old (unfold route_to in refl) unwanted) x)

    route_changed : (view_room s n (with_routes s n b i new) ≡ set_seat (view_room s n b) i (with_route (seat_at (view_room s n b) i) j route))
        × (room_whole s n (with_routes s n b i new) ≡ true) × (length (with_routes s n b i new) ≡ length b)
    unfolding with_route
    route_changed = (
      routes_view s n b o i held e new long
          ∙ ap (λ (x : List Route). set_seat (view_room s n b) i (holds (set_routes held x))) (q.0 ∙ ap (λ (x : List Route). set x j route) (held_routes s n b o i held e).1)
          ∙ ap (λ (x : Seat). set_seat (view_room s n b) i (with_route x j route)) (sym e),
      routes_whole s n b o i held e new long (none_without n new new_table q.1 held.key others),
      routes_length s n b o i held e new long,
    )

  -- the table of routes of a seat that holds a key
  module _ (i : ℕ) (held : Held) (e : seat_at (view_room s n b) i ≡ holds held) where
    held_table : Table n key_bytes (routes_table s n b i)
    held_table = whole_routes_table s n b o i (seat_holds s n b i held e).1

    held_whole : table_whole n key_bytes (routes_table s n b i) ≡ true
    held_whole = (held_routes s n b o i held e).0

    held_view : view_routes n (routes_table s n b i) ≡ held.routes
    held_view = (held_routes s n b o i held e).1

  -- THE LAW
  pub store_is_apply : (change : Change) → Fit s n (view_room s n b) change
      → (view_room s n (store s n b change) ≡ apply (sizes_of s n) (view_room s n b) change)
      × (room_whole s n (store s n b change) ≡ true) × (length (store s n b change) ≡ length b)
  unfolding store apply
  store_is_apply (seat_taken i key) (takes h unused fresh long) =
      rw (whole_fits s n b o) (seat_taken_lem s n b o i h key long unused fresh)
  store_is_apply (seat_emptied i) (empties {held = held} e) =
      rw (whole_fits s n b o) (seat_emptied_lem s n b o i held e)
  store_is_apply (route_given i j key) (gives {held = held} e h unused apart fresh long) =
      rw (fits_at i (seat_holds s n b i held e).0)
      (route_changed i held e j (wants key) (unfold route_to in apart) (put_in n key_bytes (routes_table s n b i) j key)
      (route_put n (routes_table s n b i) (held_table i held e) (held_whole i held e) j h key long
      (ap (λ (x : List Route). get_or x j free) (held_view i held e) ∙ unused)
      (ap (find (route_to key)) (held_view i held e) ∙ fresh)))
  store_is_apply (route_freed i j) (frees {w = w} {held = held} e h) =
      rw (fits_at i (seat_holds s n b i held e).0)
      (route_changed i held e j free (unfold route_to in refl) (freed_in n (routes_table s n b i) j)
      (route_out n (routes_table s n b i) (held_table i held e) (held_whole i held e) j w
      (ap (λ (x : List Route). get_or x j free) (held_view i held e) ∙ h)))
  store_is_apply (clock_set time) (sets h small) =
      rw (whole_fits s n b o) (clock_view s n b o time small, clock_whole s n b o time small (unfold view_room in h), clock_length s n b o time small)
  store_is_apply (ping_sent i time number) (pings {held = held} e h small few) =
      rw (fits_at i (seat_holds s n b i held e).0, e) (unfold with_ping in ping_sent_lem s n b o i held e time number small few (unfold view_room in h))
  store_is_apply (ping_answered i) (answers {held = held} e) =
      rw (fits_at i (seat_holds s n b i held e).0, e) (unfold without_ping in ping_answered_lem s n b o i held e)

-- ---- several changes

pub store_all_is_apply_all : (s n : ℕ) (b : List ℕ) → room_whole s n b ≡ true → (changes : List Change) → FitAll s n (view_room s n b) changes
    → (view_room s n (store_all s n b changes) ≡ apply_all (sizes_of s n) (view_room s n b) changes)
    × (room_whole s n (store_all s n b changes) ≡ true) × (length (store_all s n b changes) ≡ length b)
unfolding store_all apply_all
store_all_is_apply_all s n b o [] f = (refl, o, refl)
store_all_is_apply_all s n b o (change ∷ changes) f =
    let q = store_is_apply s n b o change f.0 in
    let r = store_all_is_apply_all s n (store s n b change) q.1 changes (subst (λ (x : Room). FitAll s n x changes) (sym q.0) f.1) in
    (r.0 ∙ ap (λ (x : Room). apply_all (sizes_of s n) x changes) q.0, r.1, r.2 ∙ q.2)
