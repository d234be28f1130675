-- Every whole room whose clock and numbers of pings 8 bytes hold is built up from the empty room by changes that fit: the clock is set, then each of its seats
-- is taken in turn, each of the seat's routes is given, and the seat is pinged. So what holds of the empty room and goes on holding over each change that fits
-- holds of every such room.
use mathlib.Core.Path.{◌≡◌, refl, sym, ap, ◌∙◌, subst}
use mathlib.Core.Bool.{Bool, true, false, false≢true}
use mathlib.Core.List.{List, [], ◌∷◌}
use Prim.Native.Nat.{ℕ, zero, suc, ◌^◌, ◌≤◌, ◌<◌}
use native.Mathlib.Omega.{arith}
use lib.Dec.{eqb}
use lib.ListN.{length, get_or, set, replicate, length-set, length-replicate, get_or-replicate, get_or-eq_default}
use lib.Seq.{ext_get_or, set-set, set-get_or, get_or-set_other}
use borrow.Author.Tests.{eqb-true, eqb-false}
use Rattle.key.specs.Keys.{same_key}
use Rattle.key.proofs.Same.{same_refl}
use Rattle.rules.specs.Room.{Sizes, Key, Route, free, wants, Ping, Held, Seat, vacant, holds, Room, newcomer, set_ping, set_routes, set_route, set_seats, set_seat, empty_room, seat_of, route_to, seat_at, sizes_of}
use Rattle.rules.specs.Outcome.{Change, seat_taken, seat_emptied, route_given, route_freed, clock_set, ping_sent, ping_answered, with_route, with_ping, apply}
use Rattle.rules.specs.Whole.{Whole}
use Rattle.rules.proofs.FindLaws.{Once, set_default, set_all, once_set, find_clear, seat_set, held_within}
use Rattle.rules.proofs.Whole.{key_once, wanted_once, own_unnamed}
use Rattle.room_laws.specs.Layout.{word_bytes}
use Rattle.room_laws.specs.Fits.{Fit, takes, gives, sets, pings}
use Rattle.room_laws.specs.Memory.{KeysAre, WordsFit}
use Rattle.room_laws.proofs.ViewLaws.{wants_passes}

-- the key that a change brings into the room
abbrev pub Brings : (Key → Type 0) → Change → Type 0
Brings K (seat_taken i key) = K key
Brings K (seat_emptied i) = Unit {0}
Brings K (route_given i j key) = K key
Brings K (route_freed i j) = Unit {0}
Brings K (clock_set time) = Unit {0}
Brings K (ping_sent i time number) = Unit {0}
Brings K (ping_answered i) = Unit {0}

-- ---- lists all of whose elements are the default

all_default : {A : Type 0} (d : A) (l : List A) → ((i : ℕ) → get_or l i d ≡ d) → l ≡ replicate (length l) d
all_default d l h = ext_get_or d l (replicate (length l) d) (sym (length-replicate (length l) d)) (λ i k. h i ∙ sym (get_or-replicate (length l) i d d k))

-- what is past a place, with the place cleared
cleared : {A : Type 0} (d : A) (l : List A) (k : ℕ) → ((i : ℕ) → suc k ≤ i → get_or l i d ≡ d) → (i : ℕ) → k ≤ i → get_or (set l k d) i d ≡ d
cleared d l k h i le = go (eqb i k) refl
  where
    go : (u : Bool) → eqb i k ≡ u → get_or (set l k d) i d ≡ d
    go true e = ap (λ (x : ℕ). get_or (set l k d) x d) (eqb-true i k e) ∙ set_default l k d
    go false e = let ne = eqb-false i k e in get_or-set_other l k i d d ne ∙ h i (omega (arith, ne))

-- a place replaced, in a list where it was cleared first, by what stood there
put_again : {A : Type 0} (l : List A) (i : ℕ) (x y d : A) → get_or l i d ≡ y → set (set l i x) i y ≡ l
put_again l i x y d e = set-set l i x y ∙ ap (set l i) (sym e) ∙ set-get_or l i d

wanted_within : (routes : List Route) (j : ℕ) (key : Key) → get_or routes j free ≡ wants key → j < length routes
wanted_within [] j key e = cc
wanted_within (r ∷ routes) zero key e = omega arith
wanted_within (r ∷ routes) (suc j) key e = let h = wanted_within routes j key e in omega arith

-- a route that does not want a key wants another
own_apart : (own : Key) (route : Route) (other : Key) → route ≡ wants other → route_to own route ≡ false → same_key other own ≡ false
unfolding route_to
own_apart own route other e h = ap (route_to own) (sym e) ∙ h

-- ---- what the changes of a seat do where they fit

-- a seat changed by what it is, and then changed by what it has become
seat_again : (room : Room) (i : ℕ) (seat : Seat) (g : Seat → Seat) → i < length room.seats →
    set_seat (set_seat room i seat) i (g (seat_at (set_seat room i seat) i)) ≡ set_seat room i (g seat)
seat_again room i seat g l = rw (seat_set room i seat l) (ap (set_seats room) (set-set room.seats i seat (g seat)))

given_sets : (sizes : Sizes) (room : Room) (i : ℕ) (held : Held) (j : ℕ) (other : Key) → i < length room.seats →
    apply sizes (set_seat room i (holds held)) (route_given i j other) ≡ set_seat room i (holds (set_route held j (wants other)))
unfolding apply with_route
given_sets sizes room i held j other l = seat_again room i (holds held) (λ (x : Seat). with_route x j (wants other)) l

pinged_sets : (sizes : Sizes) (room : Room) (i : ℕ) (held : Held) (ping : Ping) → i < length room.seats →
    apply sizes (set_seat room i (holds held)) (ping_sent i ping.time ping.number) ≡ set_seat room i (holds (set_ping held ping))
unfolding apply with_ping
pinged_sets sizes room i held ping l = seat_again room i (holds held) (λ (x : Seat). with_ping x ping.time ping.number) l

taken_sets : (sizes : Sizes) (room : Room) (i : ℕ) (key : Key) → apply sizes room (seat_taken i key) ≡ set_seat room i (holds (newcomer sizes room.clock key))
unfolding apply
taken_sets sizes room i key = refl

sits_itself : (room : Room) (i : ℕ) (held : Held) → seat_at room i ≡ holds held → seat_of held.key (get_or room.seats i vacant) ≡ true
unfolding seat_of seat_at
sits_itself room i held e = rw e (same_refl held.key)

-- ---- what is asked of one seat's routes, and of each seat

-- of a seat whose own key is `own`
record GoodRoutes (K : Key → Type 0) (n : ℕ) (own : Key) (routes : List Route) : Type 0 where
  long : length routes ≡ n
  once : (key : Key) → Once (route_to key) free routes
  keys : (j : ℕ) (key : Key) → get_or routes j free ≡ wants key → K key
  others : (j : ℕ) → route_to own (get_or routes j free) ≡ false

-- in a room whose clock is `clock`
record GoodPing (clock : ℕ) (ping : Ping) : Type 0 where
  earlier : ping.time ≤ clock
  few : ping.number < 256 ^ word_bytes

abbrev GoodSeat : (Key → Type 0) → ℕ → ℕ → Seat → Type 0
GoodSeat K n clock vacant = Unit {0}
GoodSeat K n clock (holds held) = K held.key × GoodRoutes K n held.key held.routes × GoodPing clock held.ping

record Good (K : Key → Type 0) (s n : ℕ) (room : Room) : Type 0 where
  long : length room.seats ≡ s
  once : (key : Key) → Once (seat_of key) vacant room.seats
  each : (i : ℕ) → GoodSeat K n room.clock (seat_at room i)
  clock : room.clock < 256 ^ word_bytes

-- a route freed, and a seat emptied
good_freed : (K : Key → Type 0) (n : ℕ) (own : Key) (routes : List Route) (j : ℕ) → GoodRoutes K n own routes → GoodRoutes K n own (set routes j free)
unfolding route_to
good_freed K n own routes j g = record {
  long = length-set routes j free ∙ g.long;
  once = λ key. once_set (route_to key) free routes j free (g.once key) (λ e. absurd (false≢true e));
  keys = λ i key. set_all (λ (r : Route). r ≡ wants key → K key) free routes j free (λ e. cc) (λ i. g.keys i key) i;
  others = set_all (λ (r : Route). route_to own r ≡ false) free routes j free refl g.others;
}

good_emptied : (K : Key → Type 0) (s n : ℕ) (room : Room) (i : ℕ) → Good K s n room → Good K s n (set_seat room i vacant)
unfolding seat_of seat_at
good_emptied K s n room i g = record {
  long = length-set room.seats i vacant ∙ g.long;
  once = λ key. once_set (seat_of key) vacant room.seats i vacant (g.once key) (λ e. absurd (false≢true e));
  each = set_all (GoodSeat K n room.clock) vacant room.seats i vacant tt g.each;
  clock = g.clock;
}

-- ---- THE LAW

module _ (s n : ℕ) (K : Key → Type 0) (thirty_two : (key : Key) → K key → length key ≡ 32) (P : Room → Type 0) (begins : P (empty_room (sizes_of s n)))
    (goes_on : (room : Room) (change : Change) → P room → Fit s n room change → Brings K change → P (apply (sizes_of s n) room change)) where
  -- the routes of a seat, from the lowest place on
  routes_given : (room : Room) (i : ℕ) (held : Held) → i < length room.seats → P (set_seat room i (holds (set_routes held (replicate n free)))) →
      (k : ℕ) (routes : List Route) → GoodRoutes K n held.key routes → ((j : ℕ) → k ≤ j → get_or routes j free ≡ free) → P (set_seat room i (holds (set_routes held routes)))
  routes_given room i held l h zero routes g past =
      let q : routes ≡ replicate n free = all_default free routes (λ j. past j (omega arith)) ∙ ap (λ (m : ℕ). replicate m free) g.long in
      rw q h
  routes_given room i held l h (suc k) routes g past =
      go (get_or routes k free) refl (routes_given room i held l h k (set routes k free) (good_freed K n held.key routes k g) (cleared free routes k past))
    where
      go : (r : Route) → get_or routes k free ≡ r → P (set_seat room i (holds (set_routes held (set routes k free)))) → P (set_seat room i (holds (set_routes held routes)))
      go free e h =
          let q : set routes k free ≡ routes = ap (set routes k) (sym e) ∙ set-get_or routes k free in
          rw (← q) h
      go (wants other) e h =
          let r : Held = set_routes held (set routes k free) in
          let fit : Fit s n (set_seat room i (holds r)) (route_given i k other) =
          gives {j = k} (seat_set room i (holds r) l) (let q = g.long in let w = wanted_within routes k other e in omega arith)
          (set_default routes k free) (own_apart held.key (get_or routes k free) other e (g.others k))
          (find_clear (route_to other) free routes k free (g.once other) (wants_passes other (get_or routes k free) e) (unfold route_to in refl))
          (thirty_two other (g.keys k other e)) in
          subst P
          (given_sets (sizes_of s n) room i r k other l
          ∙ ap (λ (x : List Route). set_seat room i (holds (set_routes held x))) (put_again routes k free (wants other) free e))
          (goes_on (set_seat room i (holds r)) (route_given i k other) h fit (g.keys k other e))

  -- the seats, from the lowest on
  seats_taken : (k : ℕ) (room : Room) → Good K s n room → ((i : ℕ) → k ≤ i → get_or room.seats i vacant ≡ vacant) → P room
  unfolding empty_room seat_at apply
  seats_taken zero room g past =
      let q : room.seats ≡ replicate s vacant =
      all_default vacant room.seats (λ i. past i (omega arith)) ∙ ap (λ (m : ℕ). replicate m vacant) g.long in
      subst P (ap (set_seats room) (sym q)) (goes_on (empty_room (sizes_of s n)) (clock_set room.clock) begins (sets (omega arith) g.clock) tt)
  seats_taken (suc k) room g past =
      go (seat_at room k) refl (g.each k) (seats_taken k (set_seat room k vacant) (good_emptied K s n room k g) (cleared vacant room.seats k past))
    where
      go : (seat : Seat) → seat_at room k ≡ seat → GoodSeat K n room.clock seat → P (set_seat room k vacant) → P room
      go vacant e a h =
          subst P (ap (set_seats room) (ap (set room.seats k) (sym e) ∙ set-get_or room.seats k vacant)) h
      go (holds held) e a h =
          let less : Room = set_seat room k vacant in
          let key = held.key in
          let w : k < length room.seats = held_within room k held e in
          let fit : Fit s n less (seat_taken k key) =
          takes {i = k} (let q = g.long in omega arith) (set_default room.seats k vacant)
          (find_clear (seat_of key) vacant room.seats k vacant (g.once key) (sits_itself room k held e) (unfold seat_of in refl)) (thirty_two key a.0) in
          let r = a.1 in
          let p = a.2 in
          let new : Held = newcomer (sizes_of s n) room.clock key in
          let inside : k < length less.seats = rw (length-set room.seats k vacant) w in
          let routed : P (set_seat less k (holds (set_routes new held.routes))) =
          routes_given less k new inside (subst P (taken_sets (sizes_of s n) less k key) (goes_on less (seat_taken k key) h fit a.0))
          n held.routes r (λ j l. get_or-eq_default held.routes free (rw r.long l)) in
          let earlier = p.earlier in
          let ends = g.clock in
          let pinged : Fit s n (set_seat less k (holds (set_routes new held.routes))) (ping_sent k held.ping.time held.ping.number) =
          pings (seat_set less k (holds (set_routes new held.routes)) inside) earlier (omega arith) p.few in
          subst P
          (pinged_sets (sizes_of s n) less k (set_routes new held.routes) held.ping inside
          ∙ ap (set_seats room) (put_again room.seats k vacant (holds held) vacant e))
          (goes_on (set_seat less k (holds (set_routes new held.routes))) (ping_sent k held.ping.time held.ping.number) routed pinged tt)

  pub every_room_built_up : (room : Room) → Whole (sizes_of s n) room → KeysAre K room → WordsFit room → P room
  every_room_built_up room whole keys words =
      seats_taken s room
      record {
        long = whole.seats;
        once = key_once (sizes_of s n) room whole;
        each = λ i. good i (seat_at room i) refl;
        clock = words.clock;
      }
      (λ i l. get_or-eq_default room.seats vacant (rw whole.seats l))
    where
      good : (i : ℕ) (seat : Seat) → seat_at room i ≡ seat → GoodSeat K n room.clock seat
      good i vacant e = tt
      good i (holds held) e = (
        keys.seated i held e,
        record {
          long = whole.numbers i held e;
          once = wanted_once (sizes_of s n) room whole i held e;
          keys = keys.wanted i held e;
          others = own_unnamed (sizes_of s n) room whole i held e;
        },
        record { earlier = whole.ping_times i held e; few = words.numbers i held e },
      )
