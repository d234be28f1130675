-- What a call makes of a whole room fits it. So a call's changes stored in the bytes of a whole room are the room that the rules leave, and the
-- bytes stay whole. The key of one who arrives has 32 bytes; that of a routing request has, by the packet's length. And what a call sends is within document
-- 01's bound for lent output. Assumes nothing.
use mathlib.Core.Path.{◌≡◌, refl, ap}
use mathlib.Core.Bool.{Bool, true, false, false≢true}
use mathlib.Core.List.{List}
use Prim.Native.Nat.{ℕ, ◌≤◌, ◌<◌}
use native.Mathlib.Omega.{arith}
use lib.Dec.{eqb, ltb}
use lib.ListN.{length, get_or, length-take}
use Rattle.key.specs.Keys.{same_key}
use Rattle.packet_laws.specs.Read.{Read}
use Rattle.packet_laws.specs.Read as read
use Rattle.packet_laws.specs.FromClient as client
use Rattle.packet_laws.proofs.ReadBounds.{request_key_long}
use Rattle.rules.specs.Room.{Key, Route, free, wants, Held, Seat, vacant, holds, Room, Found, none, at, find, seat_of, is_vacant, route_to, is_free, seat_at, route_at, Peer, alone, joined, set_seat, sizes_of}
use Rattle.rules.specs.Whole.{Whole, ShortKeys}
use Rattle.rules.specs.Call.{Call, arrive, leave, packet_call, tick, FieldsFit, needed}
use Rattle.rules.specs.Outcome.{refuse, accept, sent_bytes, room_after, peer, apply, take_seat, leave_from, request_at, drop_at, oob_to, carry_to, data_at, pong_at, act, act_on, packet_from, outcome}
use Rattle.rules.proofs.FindLaws.{find_hit, find_within, wanted_place}
use Rattle.rules.proofs.Whole.{left_nowhere}
use Rattle.rules.proofs.ComesBack.{arrives_new, sits_there, some_empty, comes_back_to, left_whole}
use Rattle.rules.proofs.WithinOutput.{sent_within}
use Rattle.table_laws.specs.Table.{record_at}
use Rattle.room_laws.specs.Layout.{key_bytes, seat_bytes, seat_table}
use Rattle.room_laws.specs.View.{view_room}
use Rattle.room_laws.specs.Whole.{room_whole}
use Rattle.room_laws.specs.Store.{store_all}
use Rattle.room_laws.specs.Fits.{takes, empties, gives, frees, answers, FitAll}
use Rattle.room_laws.proofs.ViewLaws.{seat_holds}
use Rattle.room_laws.proofs.WholeLaws.{whole_few_seats, whole_few, whole_view}
use Rattle.room_laws.proofs.TickFits.{tick_fits}
use Rattle.room_laws.proofs.StoreLaws.{store_all_is_apply_all}

is_vacant_lem : (x : Seat) → is_vacant x ≡ true → x ≡ vacant
unfolding is_vacant
is_vacant_lem vacant h = refl
is_vacant_lem (holds held) h = absurd (false≢true h)

is_free_lem : (x : Route) → is_free x ≡ true → x ≡ free
unfolding is_free
is_free_lem free h = refl
is_free_lem (wants k) h = absurd (false≢true h)

module _ (s n : ℕ) (room : Room) (whole : Whole (sizes_of s n) room) where
  take_fits : (key : Key) → length key ≡ 32 → (lowest : Found) → find (seat_of key) room.seats ≡ none → find is_vacant room.seats ≡ lowest
      → FitAll s n room (take_seat lowest key).changes
  unfolding take_seat refuse accept
  take_fits key l none e d = tt
  take_fits key l (at seat) e d =
      let w = find_within is_vacant room.seats seat d in
      let q = whole.seats in
      let below : seat < s = omega arith in
      (takes below (unfold seat_at in is_vacant_lem (get_or room.seats seat vacant) (find_hit is_vacant vacant room.seats seat d)) e l, tt)

  leave_fits : (seat : ℕ) (x : Seat) → seat_at room seat ≡ x → FitAll s n room (leave_from x room seat).changes
  unfolding leave_from refuse accept
  leave_fits seat vacant e = tt
  leave_fits seat (holds held) e = (empties e, tt)

  module _ (seat : ℕ) (held : Held) (sits : seat_at room seat ≡ holds held) where
    request_fits : (wanted : Key) → length wanted ≡ 32 → (own : Bool) (old lowest : Found) → same_key wanted held.key ≡ own → find (route_to wanted) held.routes ≡ old
        → find is_free held.routes ≡ lowest → FitAll s n room (request_at own old lowest room seat held.key wanted).changes
    unfolding request_at accept
    request_fits wanted l true old lowest o e d = tt
    request_fits wanted l false (at place) lowest o e d = tt
    request_fits wanted l false none none o e d = tt
    request_fits wanted l false none (at place) o e d =
        let w = find_within is_free held.routes place d in
        let q = whole.numbers seat held sits in
        let below : place < n = omega arith in
        (gives sits below (is_free_lem (get_or held.routes place free) (find_hit is_free free held.routes place d)) o e l, tt)

    drop_fits : (number : ℕ) (route : Route) → route_at held.routes number ≡ route → FitAll s n room (drop_at route room seat held.key number).changes
    unfolding drop_at accept refuse
    drop_fits number free e = tt
    drop_fits number (wants wanted) e = (frees sits (wanted_place held.routes number wanted e), tt)

    oob_fits : (other : Found) (bytes : List ℕ) → FitAll s n room (oob_to other seat held.key bytes).changes
    unfolding oob_to accept
    oob_fits none bytes = tt
    oob_fits (at other) bytes = tt

    carry_fits : (p : Peer) (bytes : List ℕ) → FitAll s n room (carry_to p seat bytes).changes
    unfolding carry_to accept refuse
    carry_fits alone bytes = tt
    carry_fits (joined other place) bytes = tt

    data_fits : (route : Route) (bytes : List ℕ) → FitAll s n room (data_at route room seat held.key bytes).changes
    unfolding data_at refuse
    data_fits free bytes = tt
    data_fits (wants wanted) bytes = carry_fits (peer room seat held.key wanted) bytes

    pong_fits : (t : Bool) → FitAll s n room (pong_at t seat).changes
    unfolding pong_at accept
    pong_fits true = (answers sits, tt)
    pong_fits false = tt

    act_fits : (bytes : List ℕ) (p : client.FromClient) → client.relay_read bytes ≡ read.packet p → FitAll s n room (act p room seat held).changes
    unfolding act accept
    act_fits bytes (client.routing_request wanted) e =
        request_fits wanted (request_key_long bytes wanted e) (same_key wanted held.key) (find (route_to wanted) held.routes) (find is_free held.routes) refl refl refl
    act_fits bytes (client.drop_route number) e = drop_fits number (route_at held.routes number) refl
    act_fits bytes (client.ping m) e = tt
    act_fits bytes (client.pong m) e = pong_fits (eqb m held.ping.number)
    act_fits bytes (client.oob_send wanted content) e = oob_fits (find (seat_of wanted) room.seats) content
    act_fits bytes (client.routed_data number content) e = data_fits (route_at held.routes number) content

    read_fits : (bytes : List ℕ) (r : Read client.FromClient) → client.relay_read bytes ≡ r → FitAll s n room (act_on r room seat held).changes
    unfolding act_on refuse
    read_fits bytes (read.packet p) e = act_fits bytes p e
    read_fits bytes (read.refused why) e = tt

  packet_fits : (seat : ℕ) (bytes : List ℕ) (x : Seat) → seat_at room seat ≡ x → FitAll s n room (packet_from x room seat bytes).changes
  unfolding packet_from refuse
  packet_fits seat bytes vacant e = tt
  packet_fits seat bytes (holds held) e = read_fits seat held e bytes (client.relay_read bytes) refl

-- a seated key leaves, and takes a seat of the room that it has left
module _ (s n : ℕ) (room : Room) (whole : Whole (sizes_of s n) room) where
  back_fits : (key : Key) → length key ≡ 32 → (seat : ℕ) → find (seat_of key) room.seats ≡ at seat → FitAll s n room (outcome room (arrive key)).changes
  unfolding take_seat accept apply
  back_fits key l seat e =
      let low = some_empty room key seat e in
      let there = sits_there room key seat e in
      rw (comes_back_to room key seat e low.place low.lowest) (
        empties there,
        take_fits s n (set_seat room seat vacant) (left_whole room key seat e (sizes_of s n) whole) key l (at low.place) (left_nowhere (sizes_of s n) room whole key seat e) low.lowest,
      )

  arrive_fits : (key : Key) → length key ≡ 32 → (f : Found) → find (seat_of key) room.seats ≡ f → FitAll s n room (outcome room (arrive key)).changes
  arrive_fits key l none e = rw (arrives_new room key e) (take_fits s n room whole key l (find is_vacant room.seats) e refl)
  arrive_fits key l (at seat) e = back_fits key l seat e

  -- what a call makes of a whole room fits it
  pub outcome_fits : (call : Call) → FieldsFit call → FitAll s n room (outcome room call).changes
  unfolding outcome
  outcome_fits (arrive key) l = arrive_fits key l (find (seat_of key) room.seats) refl
  outcome_fits (leave seat) l = leave_fits s n room whole seat (seat_at room seat) refl
  outcome_fits (packet_call seat bytes) l = packet_fits s n room whole seat bytes (seat_at room seat) refl
  outcome_fits (tick time number) l = tick_fits s n room time number l.0 l.1 (eqb number 0) (ltb time room.clock) refl

-- THE LAW: a call's changes stored in whole bytes are the room that the rules leave, whole, and the memory keeps its length
pub outcome_stored : (s n : ℕ) (b : List ℕ) → room_whole s n b ≡ true → (call : Call) → FieldsFit call
    → (view_room s n (store_all s n b (outcome (view_room s n b) call).changes) ≡ room_after (sizes_of s n) (view_room s n b) (outcome (view_room s n b) call))
    × (room_whole s n (store_all s n b (outcome (view_room s n b) call).changes) ≡ true)
    × (length (store_all s n b (outcome (view_room s n b) call).changes) ≡ length b)
unfolding room_after
outcome_stored s n b o call l =
    store_all_is_apply_all s n b o (outcome (view_room s n b) call).changes (outcome_fits s n (view_room s n b) (whole_view s n b o) call l)

-- ---- what is sent

-- a key in lent bytes has 32 at most
pub view_keys : (s n : ℕ) (b : List ℕ) → ShortKeys (view_room s n b)
view_keys s n b seat held e =
    let kept = record_at s (seat_bytes n) (seat_table s n b) seat in
    omega (arith, ap (λ (h : Held). length h.key) (seat_holds s n b seat held e).2, length-take key_bytes kept)

pub outcome_within : (s n : ℕ) (b : List ℕ) → room_whole s n b ≡ true → (call : Call) → length (sent_bytes (outcome (view_room s n b) call).sent) ≤ needed call
outcome_within s n b o = sent_within (sizes_of s n) (whole_few_seats s n b o) (whole_few s n b o) (view_room s n b) (whole_view s n b o) (view_keys s n b)
