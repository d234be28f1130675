-- What a view says of the room that it is of: where a key sits, which seat is open, whether C is connected, which of C's numbers names another
-- client; and which of the packets of an outcome are for C, those of a departure among them, and how many bytes an answer counts. Assumes nothing.
use mathlib.Core.Path.{◌≡◌, refl, sym, ap, ap₂, ◌∙◌}
use mathlib.Core.Bool.{Bool, true, false, cond, true≢false, false≢true}
use mathlib.Core.List.{List, [], ◌∷◌, ◌++◌, map, append-nil}
use Prim.Native.Nat.{ℕ, zero, suc, ◌+◌}
use native.Mathlib.Nat.{suc_inj}
use native.Mathlib.Omega.{arith}
use lib.Dec.{eqb}
use lib.ListN.{get_or, set, length, get_or-map}
use borrow.Author.Tests.{eqb-true}
use Rattle.key.specs.Keys.{same_key}
use Rattle.key.proofs.Same.{same_refl, same_sound}
use Rattle.packet_laws.specs.FromRelay as relay
use Rattle.rules.specs.Room.{Sizes, Key, Route, free, wants, Seat, vacant, holds, Room, Found, none, at, or_later, find, seat_of, is_vacant, route_to, routes_of, seat_at, Peer, alone, joined, Held, set_key, set_seat}
use Rattle.rules.specs.Whole.{Whole}
use Rattle.rules.specs.Call.{Answer, Sent}
use Rattle.rules.specs.Outcome.{Outcome, refuse, sent_bytes, accept, to, room_after, joined_by, peer_at, peer_in, peer, to_peer, tell_both, tell_peer, tell_peers, leave_from}
use Rattle.rules.specs.Transcript.{Past, Start}
use Rattle.rules.specs.After.{Tied}
use Rattle.isolation.specs.Record.{handed_if, handed}
use Rattle.rules.proofs.SeatedLaws.{is_found, client_of_lem}
use Rattle.rules.proofs.FindLaws.{Once, find_hit, once_tail, once_first}
use Rattle.rules.proofs.Whole.{key_once, wanted_once}
use Rattle.rules.proofs.PeerLaws.{peer_has}
use Rattle.rules.proofs.SentLaws.{count_append, count_same}
use Rattle.isolation.proofs.View.{SeatView, open_seat, own_seat, other_seat, View, set_views, set_view, view_seat_if, view_seat, project, is_open, is_held_by, own_routes, names_c, is_connected_in, is_connected, place_if, place_of, Observed, observed, packet_at, only, to_one, to_both, notice_by_view, notices_by_view, lost_notice, lost_by}

-- ---- lists

module _ {A B : Type 0} where
  find_map : (test' : B → Bool) (test : A → Bool) (f : A → B) → ((x : A) → test' (f x) ≡ test x) → (l : List A) → find test' (map f l) ≡ find test l
  unfolding find
  find_map test' test f e [] = refl
  find_map test' test f e (x ∷ l) = rw (e x, find_map test' test f e l)

  pub map_set : (f : A → B) (l : List A) (i : ℕ) (x : A) → map f (set l i x) ≡ set (map f l) i (f x)
  map_set f [] i x = refl
  map_set f (y ∷ l) zero x = refl
  map_set f (y ∷ l) (suc i) x = ap (λ t. f y ∷ t) (map_set f l i x)

pub found_later : (f : Found) → is_found (or_later false f) ≡ is_found f
unfolding is_found or_later
found_later none = refl
found_later (at i) = refl

-- put in at a place that is there, it is found
pub find_put : {A : Type 0} (test' test : A → Bool) (l : List A) (i : ℕ) (y : A) → test y ≡ true → find test' l ≡ at i → is_found (find test (set l i y)) ≡ true
unfolding find or_later is_found
find_put test' test [] i y hy e = absurd (cc)
find_put test' test (x ∷ l) zero y hy e = rw hy
find_put test' test (x ∷ l) (suc i) y hy e = go (test' x) (find test' l) (find_put test' test l i y hy) e (test x)
  where
    go : (b : Bool) (f : Found) → (f ≡ at i → is_found (find test (set l i y)) ≡ true) → or_later b f ≡ at (suc i) → (t : Bool) → is_found (or_later t (find test (set l i y))) ≡ true
    go true f k h t = let z : 0 ≡ suc i = cc in absurd (omega arith)
    go false none k h t = absurd (cc)
    go false (at m) k h true = refl
    go false (at m) k h false = found_later (find test (set l i y)) ∙ k (let q : suc m ≡ suc i = cc in ap at (suc_inj q))

-- ---- seats

module _ (c : Key) where
  view_held : (key : Key) (s : Seat) → is_held_by c key (view_seat c s) ≡ seat_of key s
  unfolding is_held_by view_seat view_seat_if seat_of
  view_held key vacant = refl
  view_held key (holds held) = go (same_key held.key c) refl
    where
      go : (t : Bool) → same_key held.key c ≡ t → is_held_by c key (view_seat_if t c held) ≡ same_key held.key key
      go true e = ap (λ (x : Key). same_key x key) (sym (same_sound held.key c e))
      go false e = refl

  view_open : (s : Seat) → is_open (view_seat c s) ≡ is_vacant s
  unfolding is_open view_seat view_seat_if is_vacant
  view_open vacant = refl
  view_open (holds held) = go (same_key held.key c)
    where
      go : (t : Bool) → is_open (view_seat_if t c held) ≡ false
      go true = refl
      go false = refl

  pub held_law : (key : Key) (room : Room) → find (is_held_by c key) (map (view_seat c) room.seats) ≡ find (seat_of key) room.seats
  held_law key room = find_map (is_held_by c key) (seat_of key) (view_seat c) (view_held key) room.seats

  pub open_law : (room : Room) → find is_open (map (view_seat c) room.seats) ≡ find is_vacant room.seats
  open_law room = find_map is_open is_vacant (view_seat c) view_open room.seats

  pub view_at : (room : Room) (seat : ℕ) → get_or (map (view_seat c) room.seats) seat open_seat ≡ view_seat c (seat_at room seat)
  unfolding seat_at view_seat
  view_at room seat = get_or-map (view_seat c) room.seats seat vacant

  -- a seat of a key is C's where that key is C
  pub held_as : (key : Key) (s : Seat) → seat_of key s ≡ true → seat_of c s ≡ same_key key c
  unfolding seat_of
  held_as key vacant h = absurd (false≢true h)
  held_as key (holds held) h = ap (λ (x : Key). same_key x c) (same_sound held.key key h)

  own_routes_lem : (s : Seat) → seat_of c s ≡ true → own_routes (view_seat c s) ≡ routes_of s
  unfolding seat_of view_seat view_seat_if own_routes routes_of
  own_routes_lem vacant h = refl
  own_routes_lem (holds held) h = rw h

  names_law : (s : Seat) → names_c c (view_seat c s) ≡ is_found (find (route_to c) (routes_of s))
  unfolding names_c view_seat view_seat_if routes_of is_found find
  names_law vacant = refl
  names_law (holds held) = go (same_key held.key c)
    where
      go : (t : Bool) → names_c c (view_seat_if t c held) ≡ is_found (find (route_to c) held.routes)
      go true = refl
      go false = refl

pub view_own : (c : Key) (held : Held) → held.key ≡ c → view_seat c (holds held) ≡ own_seat held
unfolding view_seat view_seat_if
view_own c held mine = rw (mine, same_refl c)

pub view_other : (c : Key) (held : Held) → same_key held.key c ≡ false → view_seat c (holds held) ≡ other_seat held.key (is_found (find (route_to c) held.routes))
unfolding view_seat view_seat_if
view_other c held hk = rw hk

-- the view where a seat becomes another
pub project_set : (c : Key) (room : Room) (seat : ℕ) (s : Seat) (v : SeatView) → view_seat c s ≡ v → project c (set_seat room seat s) ≡ set_view (project c room) seat v
unfolding project
project_set c room seat s v e = ap (set_views (project c room)) (map_set (view_seat c) room.seats seat s ∙ ap (set (map (view_seat c) room.seats) seat) e)

-- the view where a seat becomes empty
pub left_open : (c : Key) (room : Room) (seat : ℕ) → project c (set_seat room seat vacant) ≡ set_view (project c room) seat open_seat
unfolding view_seat
left_open c room seat = project_set c room seat vacant open_seat refl

-- ---- connected

unfoldable pub is_joined : Peer → Bool
is_joined alone = false
is_joined (joined seat place) = true

joined_found : (seat : ℕ) (f : Found) → is_found f ≡ is_joined (joined_by seat f)
unfolding is_found is_joined joined_by
joined_found seat none = refl
joined_found seat (at place) = refl

pub connected_law : (c : Key) (room : Room) (seat : ℕ) (wanted : Key) → is_connected c (project c room) seat wanted ≡ is_joined (peer room seat c wanted)
unfolding is_connected is_connected_in project peer peer_in peer_at is_joined
connected_law c room seat wanted = rw (held_law c wanted room) (go (find (seat_of wanted) room.seats))
  where
    on : (other : ℕ) (t : Bool) → cond t false (names_c c (get_or (map (view_seat c) room.seats) other open_seat)) ≡ is_joined (peer_at t room c other)
    on other true = refl
    on other false = rw (view_at c room other, names_law c (seat_at room other)) (joined_found other (find (route_to c) (routes_of (seat_at room other))))

    go : (f : Found) → is_connected_in f c (project c room) seat ≡ is_joined (peer_in f room seat c)
    go none = refl
    go (at other) = on other (eqb seat other)

-- ---- which packets are for C, by the room

unfoldable pub handed_by : Key → Room → List Sent → List (List ℕ)
handed_by c room [] = []
handed_by c room (s ∷ rest) = handed_if (seat_of c (seat_at room s.seat)) s.bytes (handed_by c room rest)

-- the room says of it what has happened says
pub handed_law : (start : Start) (past : Past) (room : Room) → Tied start past room → (c : Key) (sent : List Sent) → handed start past c sent ≡ handed_by c room sent
unfolding handed handed_by
handed_law start past room tie c [] = refl
handed_law start past room tie c (s ∷ rest) = rw (tie.sits s.seat, client_of_lem c (seat_at room s.seat), handed_law start past room tie c rest)

pub handed_append : (c : Key) (room : Room) (a b : List Sent) → handed_by c room (a ++ b) ≡ handed_by c room a ++ handed_by c room b
unfolding handed_by handed_if
handed_append c room [] b = refl
handed_append c room (s ∷ a) b = rw (handed_append c room a b) (go (seat_of c (seat_at room s.seat)))
  where
    go : (t : Bool) → handed_if t s.bytes (handed_by c room a ++ handed_by c room b) ≡ handed_if t s.bytes (handed_by c room a) ++ handed_by c room b
    go true = refl
    go false = refl

pub hand_only : (t : Bool) (bytes : List ℕ) → only t (bytes ∷ []) ≡ handed_if t bytes []
unfolding only handed_if
hand_only true bytes = refl
hand_only false bytes = refl

-- what goes to the peer that holds another key is not for C
pub else_seat : (c : Key) (room : Room) (seat : ℕ) (key wanted : Key) → same_key wanted c ≡ false → (other place : ℕ) → peer room seat key wanted ≡ joined other place
    → seat_of c (seat_at room other) ≡ false
unfolding seat_of
else_seat c room seat key wanted h other place e = let has = peer_has room seat key wanted other place e in rw has.sits h

pub not_handed : (c : Key) (room : Room) (seat : ℕ) (key wanted : Key) (p : ℕ → relay.FromRelay) → same_key wanted c ≡ false
    → handed_by c room (to_peer p (peer room seat key wanted)) ≡ []
unfolding handed_by handed_if to_peer to
not_handed c room seat key wanted p h = go (peer room seat key wanted) refl
  where
    go : (l : Peer) → peer room seat key wanted ≡ l → handed_by c room (to_peer p l) ≡ []
    go alone e = refl
    go (joined other place) e = rw (else_seat c room seat key wanted h other place e)

pub found_held : (key : Key) (room : Room) (seat : ℕ) → find (seat_of key) room.seats ≡ at seat → seat_of key (seat_at room seat) ≡ true
unfolding seat_at seat_of
found_held key room seat e = find_hit (seat_of key) vacant room.seats seat e

-- another client's packet for C, under C's own number
pub packet_law : (c : Key) (room : Room) (seat : ℕ) (key : Key) (held : Held) → seat_at room seat ≡ holds (set_key held key) → same_key key c ≡ false
    → (p : ℕ → relay.FromRelay) → packet_at p (place_of c (project c room) key) ≡ handed_by c room (to_peer p (peer room seat key c))
unfolding packet_at place_of place_if project peer peer_in peer_at joined_by handed_by handed_if to_peer to seat_of
packet_law c room seat key held sits h p = rw (held_law c c room) (go (find (seat_of c) room.seats) refl)
  where
    on : (other : ℕ) → seat_of c (seat_at room other) ≡ true → (f : Found) → packet_at p f ≡ handed_by c room (to_peer p (joined_by other f))
    on other q none = refl
    on other q (at place) = rw q

    apart_by : (other : ℕ) → seat_of c (seat_at room other) ≡ true → (t : Bool) → eqb seat other ≡ t
        → packet_at p (find (route_to key) (own_routes (view_seat c (seat_at room other)))) ≡ handed_by c room (to_peer p (peer_at t room key other))
    apart_by other q true e = absurd (true≢false (sym q ∙ ap (λ (i : ℕ). seat_of c (seat_at room i)) (sym (eqb-true seat other e)) ∙ ap (seat_of c) sits ∙ h))
    apart_by other q false e = rw (own_routes_lem c (seat_at room other) q) (on other q (find (route_to key) (routes_of (seat_at room other))))

    go : (f : Found) → find (seat_of c) room.seats ≡ f → packet_at p (place_if f (project c room) key) ≡ handed_by c room (to_peer p (peer_in f room seat key))
    go none e = refl
    go (at other) e = rw (view_at c room other) (apart_by other (found_held c room other e) (eqb seat other) refl)

-- ---- C in its own seat

module _ (sizes : Sizes) (room : Room) (whole : Whole sizes room) (c : Key) (seat : ℕ) (held : Held) (sits : seat_at room seat ≡ holds (set_key held c)) where
  pub own_held : seat_of c (seat_at room seat) ≡ true
  unfolding seat_of
  own_held = rw sits (same_refl c)

  -- no other seat is C's
  pub peer_else : (wanted : Key) (other place : ℕ) → peer room seat c wanted ≡ joined other place → seat_of c (seat_at room other) ≡ false
  unfolding seat_at
  peer_else wanted other place e = go (seat_of c (seat_at room other)) refl
    where
      go : (t : Bool) → seat_of c (seat_at room other) ≡ t → seat_of c (seat_at room other) ≡ false
      go true q = absurd ((peer_has room seat c wanted other place e).apart (key_once sizes room whole c seat other own_held q))
      go false q = q

  pub own_not_handed : (wanted : Key) (p : ℕ → relay.FromRelay) → handed_by c room (to_peer p (peer room seat c wanted)) ≡ []
  unfolding handed_by handed_if to_peer to
  own_not_handed wanted p = go (peer room seat c wanted) refl
    where
      go : (l : Peer) → peer room seat c wanted ≡ l → handed_by c room (to_peer p l) ≡ []
      go alone e = refl
      go (joined other place) e = rw (peer_else wanted other place e)

  pub own_tells : (t : List Route) → handed_by c room (tell_peers room seat c t) ≡ []
  unfolding tell_peers tell_peer handed_by
  own_tells [] = refl
  own_tells (free ∷ t) = own_tells t
  own_tells (wants wanted ∷ t) = handed_append c room (to_peer relay.disconnect_notice (peer room seat c wanted)) (tell_peers room seat c t) ∙ rw (own_not_handed wanted relay.disconnect_notice, own_tells t)

-- ---- a seat that is left

-- another client's notices: C is handed one, and only where it was named
module _ (c : Key) (room : Room) (seat : ℕ) (key : Key) where
  abbrev notice : List (List ℕ)
  notice = handed_by c room (to_peer relay.disconnect_notice (peer room seat key c))

  other_tells : (t : List Route) → Once (route_to c) free t → handed_by c room (tell_peers room seat key t) ≡ only (is_found (find (route_to c) t)) notice
  unfolding tell_peers tell_peer handed_by find is_found only route_to or_later
  other_tells [] o = refl
  other_tells (free ∷ t) o = other_tells t (once_tail (route_to c) free free t o) ∙ ap (λ b. only b notice) (sym (found_later (find (route_to c) t)))
  other_tells (wants wanted ∷ t) o =
      handed_append c room (to_peer relay.disconnect_notice (peer room seat key wanted)) (tell_peers room seat key t) ∙ go (same_key wanted c) refl (other_tells t (once_tail (route_to c) free (wants wanted) t o))
    where
      go : (b : Bool) → same_key wanted c ≡ b → handed_by c room (tell_peers room seat key t) ≡ only (is_found (find (route_to c) t)) notice
          → (handed_by c room (to_peer relay.disconnect_notice (peer room seat key wanted)) ++ handed_by c room (tell_peers room seat key t)) ≡ only (is_found (or_later b (find (route_to c) t))) notice
      go true hw ih = rw (ih, once_first (route_to c) free (wants wanted) t o hw, same_sound wanted c hw) (append-nil notice)
      go false hw ih = rw (not_handed c room seat key wanted relay.disconnect_notice hw, found_later (find (route_to c) t)) ih

module _ (sizes : Sizes) (room : Room) (whole : Whole sizes room) (c : Key) (seat : ℕ) where
  pub other_lost : (held : Held) → seat_at room seat ≡ holds held → same_key held.key c ≡ false
      → lost_notice (is_found (find (route_to c) held.routes)) c (project c room) held.key ≡ handed_by c room (leave_from (holds held) room seat).sent
  unfolding leave_from accept
  other_lost held sits hk =
      ap (only (is_found (find (route_to c) held.routes))) (packet_law c room seat held.key held sits hk relay.disconnect_notice)
      ∙ sym (other_tells c room seat held.key held.routes (wanted_once sizes room whole seat held sits c))

  -- whoever leaves it, C or another
  pub lost_law : (s : Seat) → seat_at room seat ≡ s → lost_by (view_seat c s) c (project c room) ≡ handed_by c room (leave_from s room seat).sent
  unfolding lost_by view_seat view_seat_if handed_by leave_from refuse accept
  lost_law vacant e = refl
  lost_law (holds held) e = go (same_key held.key c) refl
    where
      go : (t : Bool) → same_key held.key c ≡ t
          → lost_by (view_seat_if t c held) c (project c room) ≡ handed_by c room (tell_peers room seat held.key held.routes)
      go true h = let q = same_sound held.key c h in rw q (sym (own_tells sizes room whole c seat held (e ∙ ap (λ (k : Key). holds (set_key held k)) q) held.routes))
      go false h = other_lost held e h

-- ---- what an outcome is to C: the view of the room after it, the packets for C, and the answers that C gets

abbrev pub observed_of : Sizes → Key → Room → Outcome → List Answer → Observed
observed_of sizes c room o answers = observed (project c (room_after sizes room o)) (handed_by c room o.sent) answers

pub observed_same : {v v' : View} {h h' : List (List ℕ)} {t t' : List Answer} → v ≡ v' → h ≡ h' → t ≡ t' → observed v h t ≡ observed v' h' t'
observed_same a b d = rw (a, b, d)

-- ---- how many bytes

pub count_told : (l : Peer) → length (sent_bytes (to_peer relay.disconnect_notice l)) ≡ length (sent_bytes (to_one relay.disconnect_notice (is_joined l)))
unfolding to_peer to_one is_joined to relay.relay_bytes
count_told alone = refl
count_told (joined other place) = count_same _ _ [] [] refl refl

pub count_both : (seat number : ℕ) (l : Peer) → length (sent_bytes (tell_both seat number l)) ≡ length (sent_bytes (to_both (is_joined l)))
unfolding tell_both to_both is_joined to relay.relay_bytes
count_both seat number alone = refl
count_both seat number (joined other place) = count_same _ _ _ _ refl (count_same _ _ [] [] refl refl)

pub count_tells : (c : Key) (room : Room) (seat : ℕ) (t : List Route) → length (sent_bytes (tell_peers room seat c t)) ≡ length (sent_bytes (notices_by_view c (project c room) seat t))
unfolding tell_peers tell_peer notices_by_view notice_by_view
count_tells c room seat [] = refl
count_tells c room seat (free ∷ t) = count_tells c room seat t
count_tells c room seat (wants wanted ∷ t) =
    count_append (to_peer relay.disconnect_notice (peer room seat c wanted)) (tell_peers room seat c t)
    ∙ ap₂ ◌+◌ (count_told (peer room seat c wanted) ∙ ap (λ (b : Bool). length (sent_bytes (to_one relay.disconnect_notice b))) (sym (connected_law c room seat wanted))) (count_tells c room seat t)
    ∙ sym (count_append (to_one relay.disconnect_notice (is_connected c (project c room) seat wanted)) (notices_by_view c (project c room) seat t))
