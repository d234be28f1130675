-- A tick writes no more than the output that it needs: document 02's bound, "tick output under 5,120". Whoever leaves sends each other client one record at most,
-- of 5 bytes: its routes name different keys, and a seat holds one key. The next to leave has one client fewer to tell, so where 40 leave they send
-- 39 + 38 + .. + 0 = 780 records at most. A ping takes 12 bytes, and 40 seats are pinged at most: 4,380 bytes in all. Assumes nothing.
use mathlib.Core.Path.{◌≡◌, refl, sym, ap, ◌∙◌}
use mathlib.Core.Bool.{Bool, true, false, false≢true}
use mathlib.Core.List.{List, [], ◌∷◌, ◌++◌}
use mathlib.Core.Logic.{◌≢◌}
use Prim.Native.Nat.{ℕ, zero, suc, ◌+◌, ◌*◌, ◌≤◌}
use native.Mathlib.Omega.{arith}
use lib.ListN.{get_or, set, length}
use lib.Seq.{get_or-set_other}
use Rattle.wire.proofs.Numbers.{length_bytes_of}
use Rattle.key.proofs.Same.{same_refl}
use Rattle.packet_laws.specs.FromRelay as relay
use Rattle.rules.specs.Room.{Sizes, Key, Route, free, wants, Seat, vacant, holds, Room, set_clock, set_seat, seat_of, route_to, routes_of, seat_at, number_of_place, place_when, places_from, Peer, alone, joined}
use Rattle.rules.specs.Whole.{Whole}
use Rattle.rules.specs.Call.{Sent}
use Rattle.rules.specs.Outcome.{refuse, accept, sent_bytes, peer, to_peer, to, tell_peer, tell_peers, leave_from, is_due, leave_each, ping_each, leavers, due_seats, tick_from, tick_at}
use Rattle.rules.proofs.FindLaws.{Once, once_tail, set_all, held_of, seat_of_holds}
use Rattle.rules.proofs.SentLaws.{count_more, count_append}
use Rattle.rules.proofs.PeerLaws.{peer_has}
use Rattle.rules.proofs.Whole.{wanted_once}

-- ---- numbers and lists

-- 0 + 1 + .. up to one less than the number
abbrev pub triangle : ℕ → ℕ
triangle zero = 0
triangle (suc m) = m + triangle m

triangle_rises : (m n : ℕ) → m ≤ n → triangle m ≤ triangle n
triangle_rises zero n h = omega arith
triangle_rises (suc m) zero h = absurd (omega arith)
triangle_rises (suc m) (suc n) h = omega (arith, triangle_rises m n (omega arith))

-- no more places pass a test than the list has
pub places_few : {A : Type 0} (test : A → Bool) (from : ℕ) (l : List A) → length (places_from test from l) ≤ length l
unfolding places_from place_when
places_few test from [] = omega arith
places_few test from (x ∷ l) = go (test x) (places_few test (suc from) l)
  where
    go : (t : Bool) → length (places_from test (suc from) l) ≤ length l → length (place_when t from (places_from test (suc from) l)) ≤ suc (length l)
    go true h = omega arith
    go false h = omega arith

-- ---- how many clients are seated

-- 1 for a seat that holds a client
abbrev pub taken : Seat → ℕ
taken vacant = 0
taken (holds held) = 1

abbrev pub seated : List Seat → ℕ
seated [] = 0
seated (s ∷ seats) = taken s + seated seats

seated_few : (seats : List Seat) → seated seats ≤ length seats
seated_few [] = omega arith
seated_few (vacant ∷ seats) = omega (arith, seated_few seats)
seated_few (holds held ∷ seats) = omega (arith, seated_few seats)

-- a seat is emptied: one fewer, where it held a client
seated_less : (seats : List Seat) (i : ℕ) → seated seats ≡ taken (get_or seats i vacant) + seated (set seats i vacant)
seated_less [] i = omega arith
seated_less (s ∷ seats) zero = omega arith
seated_less (s ∷ seats) (suc i) = omega (arith, seated_less seats i)

taken_of : (key : Key) (s : Seat) → seat_of key s ≡ true → taken s ≡ 1
unfolding seat_of
taken_of key vacant h = absurd (false≢true h)
taken_of key (holds held) h = refl

-- a seat holds one key
one_key : (key key' : Key) (s : Seat) → seat_of key s ≡ true → seat_of key' s ≡ true → key ≡ key'
one_key key key' s h h' = ap (λ (x : Seat). (held_of x).key) (sym (seat_of_holds key s h) ∙ seat_of_holds key' s h')

-- ---- one departure

-- how many bytes records take
abbrev size : List Sent → ℕ
size sent = length (sent_bytes sent)

module _ (room : Room) (seat : ℕ) (key : Key) where
  -- every client that these routes connect sits in these seats
  abbrev AllSit : List Route → List Seat → Type 0
  AllSit routes seats =
      (wanted : Key) (place other number : ℕ) → route_to wanted (get_or routes place free) ≡ true → peer room seat key wanted ≡ joined other number
      → seat_of wanted (get_or seats other vacant) ≡ true

  -- the first route's peer is crossed out: those of the later routes sit in the other seats, since none of them names its key
  crossed_out : (wanted : Key) (routes : List Route) (seats : List Seat) (other : ℕ) → ((w : Key) → Once (route_to w) free (wants wanted ∷ routes))
      → seat_of wanted (get_or seats other vacant) ≡ true → AllSit (wants wanted ∷ routes) seats → AllSit routes (set seats other vacant)
  unfolding route_to
  crossed_out wanted routes seats other once here sit w place other' number h e = rw (get_or-set_other seats other other' vacant vacant apart) there
    where
      there : seat_of w (get_or seats other' vacant) ≡ true
      there = sit w (suc place) other' number h e

      apart : other' ≢ other
      apart q =
          let same : wanted ≡ w = one_key wanted w (get_or seats other vacant) here (rw q at there) in
          let z = once w 0 (suc place) (rw same (same_refl w)) h in
          omega arith

  -- so there are no more records than clients in these seats
  tells_few : (routes : List Route) → ((w : Key) → Once (route_to w) free routes) → (seats : List Seat) → AllSit routes seats
      → size (tell_peers room seat key routes) ≤ 5 * seated seats
  unfolding tell_peers tell_peer to_peer to sent_bytes relay.relay_bytes route_to
  tells_few [] once seats sit = omega arith
  tells_few (free ∷ routes) once seats sit = tells_few routes (λ w. once_tail (route_to w) free free routes (once w)) seats (λ w place. sit w (suc place))
  tells_few (wants wanted ∷ routes) once seats sit =
      go (tells_few routes (λ w. once_tail (route_to w) free (wants wanted) routes (once w))) (peer room seat key wanted) refl
    where
      go : ((l : List Seat) → AllSit routes l → size (tell_peers room seat key routes) ≤ 5 * seated l) → (p : Peer) → peer room seat key wanted ≡ p
          → size (to_peer relay.disconnect_notice p ++ tell_peers room seat key routes) ≤ 5 * seated seats
      go few alone e = few seats (λ w place. sit w (suc place))
      go few (joined other number) e =
          let here = sit wanted 0 other number (same_refl wanted) e in
          let rest = few (set seats other vacant) (crossed_out wanted routes seats other once here sit) in
          omega (
            arith,
            count_more (to other (relay.disconnect_notice (number_of_place number))) (tell_peers room seat key routes),
            seated_less seats other,
            taken_of wanted (get_or seats other vacant) here,
          )

  -- a peer sits in another seat: there are no more records than other clients
  pub leave_few : (routes : List Route) → ((w : Key) → Once (route_to w) free routes)
      → length (sent_bytes (tell_peers room seat key routes)) ≤ 5 * seated (set room.seats seat vacant)
  unfolding seat_at seat_of
  leave_few routes once = tells_few routes once (set room.seats seat vacant) (λ wanted place other number h e.
      let has = peer_has room seat key wanted other number e in
      rw (get_or-set_other room.seats seat other vacant vacant (λ q. has.apart (sym q)), has.sits) (same_refl wanted))

-- ---- every departure

no_routes_once : (wanted : Key) → Once (route_to wanted) free []
unfolding route_to
no_routes_once wanted i j h = absurd (false≢true h)

-- the wanted keys of one seat differ, in every seat
abbrev NamedOnce : Room → Type 0
NamedOnce room = (seat : ℕ) (wanted : Key) → Once (route_to wanted) free (routes_of (get_or room.seats seat vacant))

whole_named : (sizes : Sizes) (room : Room) → Whole sizes room → NamedOnce room
unfolding seat_at routes_of
whole_named sizes room whole seat wanted = go (seat_at room seat) refl
  where
    go : (s : Seat) → seat_at room seat ≡ s → Once (route_to wanted) free (routes_of s)
    go vacant e = no_routes_once wanted
    go (holds held) e = wanted_once sizes room whole seat held e wanted

-- and they do after a seat is emptied
emptied_named : (room : Room) (seat : ℕ) → NamedOnce room → NamedOnce (set_seat room seat vacant)
unfolding routes_of
emptied_named room seat named =
    set_all (λ (s : Seat). (wanted : Key) → Once (route_to wanted) free (routes_of s)) vacant room.seats seat vacant no_routes_once named

-- whoever leaves has those to tell that are seated still, one fewer each time
leaves_few : (room : Room) → NamedOnce room → (seats : List ℕ) → size (leave_each room seats).sent ≤ 5 * triangle (seated room.seats)
unfolding leave_each leave_from accept refuse sent_bytes seat_at routes_of
leaves_few room named [] = omega arith
leaves_few room named (seat ∷ seats) = go (get_or room.seats seat vacant) refl (leaves_few (set_seat room seat vacant) (emptied_named room seat named) seats)
  where
    go : (s : Seat) → get_or room.seats seat vacant ≡ s → size (leave_each (set_seat room seat vacant) seats).sent ≤ 5 * triangle (seated (set room.seats seat vacant))
        → size ((leave_from s room seat).sent ++ (leave_each (set_seat room seat vacant) seats).sent) ≤ 5 * triangle (seated room.seats)
    go vacant e h = let q : seated room.seats ≡ seated (set room.seats seat vacant) = omega (arith, seated_less room.seats seat, ap taken e) in rw q h
    go (holds held) e h =
        let q : seated room.seats ≡ suc (seated (set room.seats seat vacant)) = omega (arith, seated_less room.seats seat, ap taken e) in
        rw q
        (omega (
          arith,
          leave_few room seat held.key held.routes (rw e at (named seat)),
          count_append (tell_peers room seat held.key held.routes) (leave_each (set_seat room seat vacant) seats).sent,
        ))

-- ---- the pings, and the tick

pub pings_size : (time number : ℕ) (seats : List ℕ) → size (ping_each time number seats).sent ≡ 12 * length seats
unfolding ping_each accept to relay.relay_bytes sent_bytes
pings_size time number [] = refl
pings_size time number (seat ∷ seats) =
    omega (arith, count_more (to seat (relay.ping number)) (ping_each time number seats).sent, length_bytes_of 8 number, pings_size time number seats)

module _ (sizes : Sizes) (room : Room) (whole : Whole sizes room) (time number : ℕ) where
  -- a room of any size
  pub tick_takes : length (sent_bytes (tick_from room time number).sent) ≤ 5 * triangle sizes.seats + 12 * sizes.seats
  unfolding tick_from accept due_seats
  tick_takes =
      let long = whole.seats in
      let rises = triangle_rises (seated room.seats) sizes.seats (omega (arith, seated_few room.seats)) in
      let few = places_few (is_due time) 0 room.seats in
      omega (
        arith,
        count_append (leave_each (set_clock room time) (leavers time room)).sent (ping_each time number (due_seats time room)).sent,
        leaves_few (set_clock room time) (whole_named sizes room whole) (leavers time room),
        pings_size time number (due_seats time room),
      )

pub tick_within : (sizes : Sizes) → sizes.seats ≤ 40 → (room : Room) → Whole sizes room → (time number : ℕ)
    → length (sent_bytes (tick_from room time number).sent) ≤ 5120
tick_within sizes few room whole time number = omega (arith, tick_takes sizes room whole time number, triangle_rises sizes.seats 40 few)

-- the departures alone, whichever seats leave
pub departures_within : (sizes : Sizes) → sizes.seats ≤ 40 → (room : Room) → Whole sizes room → (seats : List ℕ)
    → length (sent_bytes (leave_each room seats).sent) ≤ 3900
departures_within sizes few room whole seats =
    let long = whole.seats in
    omega (arith, leaves_few room (whole_named sizes room whole) seats, triangle_rises (seated room.seats) 40 (omega (arith, seated_few room.seats)))

-- a refusal sends nothing
pub tick_at_within : (sizes : Sizes) → sizes.seats ≤ 40 → (room : Room) → Whole sizes room → (zero back : Bool) (time number : ℕ)
    → length (sent_bytes (tick_at zero back room time number).sent) ≤ 5120
unfolding tick_at refuse sent_bytes
tick_at_within sizes few room whole true back time number = omega arith
tick_at_within sizes few room whole false true time number = omega arith
tick_at_within sizes few room whole false false time number = tick_within sizes few room whole time number
