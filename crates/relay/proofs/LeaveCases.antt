-- A client leaves: what a route of it wants, the peer on it, and the records that are written, one behind the other.
use mathlib.Core.Path.{◌≡◌, refl, sym, ap, ◌∙◌, subst}
use mathlib.Core.Bool.{Bool, true, false, not}
use mathlib.Core.List.{List, [], ◌∷◌, ◌++◌, append_assoc, append-nil}
use Prim.Native.Nat.{ℕ, suc, ◌+◌, ◌-◌, ◌≤◌, ◌<◌}
use native.Mathlib.Nat.{add-sub_cancel_left}
use native.Mathlib.Omega.{arith}
use lib.ListN.{length, take, drop, get_or, take-append-drop}
use lib.Seq.{take-suc, take_all}
use borrow.Author.Tests.{lt-ltb}
use Rattle.refusal.specs.declared.Refusal.TheVariants.{NotSeated}
use Rattle.packet_laws.specs.FromRelay.{disconnect_notice}
use Rattle.std.proofs.Common.{Option, Some, None}
use Rattle.key.specs.declared.Key as keys
use Rattle.table_laws.specs.Table.{key_of_place}
use Rattle.table_laws.proofs.KeyOrder.{both}
use Rattle.table_laws.proofs.TableLaws.{key_record}
use Rattle.rules.specs.Room.{sizes_of, Key, Route, free, wants, Seat, vacant, holds, Room, is_vacant, seat_at, first_number, number_of_place}
use Rattle.rules.specs.Call.{Sent, leave, accepted, refused}
use Rattle.rules.specs.Outcome.{peer, to, to_peer, tell_peer, tell_peers, sent_bytes, outcome, leave_from, accept, refuse, seat_emptied}
use Rattle.rules.proofs.SentLaws.{count_append}
use Rattle.rules.proofs.WithinOutput.{tell_within, leave_within}
use Rattle.room_laws.specs.Layout.{key_bytes, seat_bytes, seat_table, seat_start, routes_table}
use Rattle.room_laws.specs.View.{view_room, view_routes, seat_held}
use Rattle.room_laws.specs.Whole.{room_whole}
use Rattle.room_laws.specs.Store.{store, store_all}
use Rattle.room_laws.specs.Lookup.{has_seat, taken, key_in}
use Rattle.room.specs.Numbers.{route_numbered, wanted_of, peer_found}
use Rattle.room_laws.proofs.LayoutLaws.{seats_fit}
use Rattle.room.proofs.LookupSteps.{has_seat_facts, key_in_seat}
use Rattle.room_laws.proofs.LookupLaws.{taken_is, taken_holds}
use Rattle.room_laws.proofs.TablesLaws.{seat_key_stands}
use Rattle.room_laws.proofs.WholeLaws.{whole_fits, whole_few, whole_view}
use Rattle.room.specs.declared.peer.Peer as code
use Rattle.relay_laws.specs.Calls.{Leaves}
use Rattle.relay_laws.specs.Steps.{Made, TellsFit, departure, LeaveFits}
use Rattle.relay.specs.Steps.{Sits}
use Rattle.relay.proofs.SeatedClient.{wanted_free, wanted_wants, sits_numbered, route_of_number}
use Rattle.room.proofs.PeersFound.{found_joined, found_alone}
use Rattle.records.specs.Output.{Appends}
use Rattle.records.proofs.AppendLaws.{appends_none, appends_more, appends_front, appends_front_answer}

-- ---- one peer told

module _ (room : Room) (seat : ℕ) (key : Key) (route : Route) where
  tells_free : route ≡ free → tell_peer room seat key route ≡ []
  unfolding tell_peer
  tells_free e = rw e

  module _ (wanted : Key) (names : route ≡ wants wanted) where
    pub tells_peer : tell_peer room seat key route ≡ to_peer disconnect_notice (peer room seat key wanted)
    unfolding tell_peer
    tells_peer = rw names

    tells_alone : (r : Option code.Peer) → r ≡ peer_found (peer room seat key wanted) → r ≡ None → tell_peer room seat key route ≡ []
    unfolding to_peer
    tells_alone r f e = tells_peer ∙ ap (to_peer disconnect_notice) (found_alone (peer room seat key wanted) r f e)

    tells_joined : (r : Option code.Peer) → r ≡ peer_found (peer room seat key wanted) → (other : code.Peer) → r ≡ Some other
        → tell_peer room seat key route ≡ to other.seat.0 (disconnect_notice other.number.0) ∷ []
    unfolding to_peer
    tells_joined r f other e =
        let j = found_joined (peer room seat key wanted) r f other e in
        let n : number_of_place (other.number.0 - first_number) ≡ other.number.0 = let l = j.1 in omega arith in
        tells_peer ∙ ap (to_peer disconnect_notice) j.0 ∙ ap (λ (x : ℕ). to other.seat.0 (disconnect_notice x) ∷ []) n

pub appends_as : (l m : List Sent) (out : List ℕ) (at next : ℕ) (left : List ℕ) → l ≡ m → Appends m out at next left → Appends l out at next left
appends_as l m out at next left e a = subst (λ (x : List Sent). Appends x out at next left) (sym e) a

-- one number: it names nothing, a key whose client is not connected, or that of a connected peer
module _ (s n : ℕ) (b : List ℕ) (whole : room_whole s n b ≡ true) (i : ℕ) (key : Key) (sits : Sits s n b i key) (number : ℕ) (high : 16 ≤ number)
    (w : Option keys.Key) (answer : w ≡ wanted_of (route_numbered s n b i number)) (out : List ℕ) (at : ℕ) where
  abbrev told : Route
  told = get_or (view_routes n (routes_table s n b i)) (number - 16) free

  numbered : route_numbered s n b i number ≡ told
  numbered = sits_numbered s n b whole i key sits number ∙ route_of_number (view_routes n (routes_table s n b i)) number high

  names : (k : keys.Key) → w ≡ Some k → told ≡ wants k.0
  names k h = sym numbered ∙ wanted_wants (route_numbered s n b i number) k (sym answer ∙ h)

  pub tell_none : w ≡ None
      → Appends (tell_peer (view_room s n b) i key (get_or (view_routes n (routes_table s n b i)) (number - 16) free)) out at at out
  tell_none h =
      appends_as _ [] out at at out (tells_free (view_room s n b) i key told (sym numbered ∙ wanted_free (route_numbered s n b i number) (sym answer ∙ h)))
      (appends_none out at)

  pub tell_alone : (k : keys.Key) → w ≡ Some k → (r : Option code.Peer) → r ≡ peer_found (peer (view_room s n b) i key k.0) → r ≡ None
      → Appends (tell_peer (view_room s n b) i key (get_or (view_routes n (routes_table s n b i)) (number - 16) free)) out at at out
  tell_alone k h r f e = appends_as _ [] out at at out (tells_alone (view_room s n b) i key told k.0 (names k h) r f e) (appends_none out at)

  pub tell_joined : (k : keys.Key) → w ≡ Some k → (r : Option code.Peer) → r ≡ peer_found (peer (view_room s n b) i key k.0)
      → (other : code.Peer) → r ≡ Some other
      → (next : ℕ) (left : List ℕ) → Appends (to other.seat.0 (disconnect_notice other.number.0) ∷ []) out at next left
      → Appends (tell_peer (view_room s n b) i key (get_or (view_routes n (routes_table s n b i)) (number - 16) free)) out at next left
  tell_joined k h r f other e next left a =
      appends_as _ (to other.seat.0 (disconnect_notice other.number.0) ∷ []) out at next left
      (tells_joined (view_room s n b) i key told k.0 (names k h) r f other e) a

-- ---- every peer told

module _ (room : Room) (seat : ℕ) (key : Key) where
  tells_one : (route : Route) → tell_peers room seat key (route ∷ []) ≡ tell_peer room seat key route
  unfolding tell_peers
  tells_one route = append-nil (tell_peer room seat key route)

  tells_append : (l m : List Route) → tell_peers room seat key (l ++ m) ≡ tell_peers room seat key l ++ tell_peers room seat key m
  unfolding tell_peers
  tells_append [] m = refl
  tells_append (r ∷ l) m =
      ap (λ (x : List Sent). tell_peer room seat key r ++ x) (tells_append l m)
      ∙ sym (append_assoc (tell_peer room seat key r) (tell_peers room seat key l) (tell_peers room seat key m))

  tells_next : (routes : List Route) (place : ℕ) → place < length routes
      → tell_peers room seat key (take (place + 1) routes) ≡ tell_peers room seat key (take place routes) ++ tell_peer room seat key (get_or routes place free)
  tells_next routes place h =
      ap (λ (x : ℕ). tell_peers room seat key (take x routes)) (let q : place + 1 ≡ suc place = omega arith in q)
      ∙ ap (tell_peers room seat key) (take-suc routes place free h)
      ∙ tells_append (take place routes) (get_or routes place free ∷ [])
      ∙ ap (λ (x : List Sent). tell_peers room seat key (take place routes) ++ x) (tells_one (get_or routes place free))

  -- no peer yet
  pub tells_begun : (routes : List Route) (out : List ℕ) (at : ℕ) → Appends (tell_peers room seat key (take 0 routes)) out at at out
  unfolding tell_peers
  tells_begun routes out at = appends_none out at

  -- one number more
  pub tells_more : (routes : List Route) (place : ℕ) → place < length routes → (out : List ℕ) (at : ℕ) → at ≤ length out → (mid next : ℕ) (left last : List ℕ)
      → Appends (tell_peers room seat key (take place routes)) out at mid left
      → Appends (tell_peer room seat key (get_or routes (16 + place - 16) free)) left mid next last
      → Appends (tell_peers room seat key (take (place + 1) routes)) out at next last
  tells_more routes place h out at start mid next left last a b =
      let m : List Sent = tell_peer room seat key (get_or routes place free) in
      appends_as (tell_peers room seat key (take (place + 1) routes)) (tell_peers room seat key (take place routes) ++ m) out at next last (tells_next routes place h)
      (appends_more (tell_peers room seat key (take place routes)) m out at mid next left last start a
      (appends_as m (tell_peer room seat key (get_or routes (16 + place - 16) free)) left mid next last
      (ap (λ (x : ℕ). tell_peer room seat key (get_or routes x free)) (sym (add-sub_cancel_left 16 place))) b))

  -- every number
  pub tells_all : (routes : List Route) (place : ℕ) → length routes ≤ place → (out : List ℕ) (at next : ℕ) (last : List ℕ)
      → Appends (tell_peers room seat key (take place routes)) out at next last → Appends (tell_peers room seat key routes) out at next last
  tells_all routes place h out at next last a =
      appends_as (tell_peers room seat key routes) (tell_peers room seat key (take place routes)) out at next last
      (ap (tell_peers room seat key) (sym (take_all place routes h))) a

  -- the first of them take no more bytes than all
  pub tells_some : (routes : List Route) (place : ℕ)
      → length (sent_bytes (tell_peers room seat key (take place routes))) ≤ length (sent_bytes (tell_peers room seat key routes))
  tells_some routes place =
      omega (
        arith,
        ap (λ (r : List Route). length (sent_bytes (tell_peers room seat key r))) (take-append-drop place routes),
        ap (λ (l : List Sent). length (sent_bytes l)) (tells_append (take place routes) (drop place routes)),
        count_append (tell_peers room seat key (take place routes)) (tell_peers room seat key (drop place routes)),
      )

  -- a record of 5 bytes at most
  pub tell_next : (route : Route) (out : List ℕ) (at next : ℕ) (left : List ℕ) → Appends (tell_peer room seat key route) out at next left → next ≤ at + 5
  tell_next route out at next left a = omega (arith, a.answers, tell_within room seat key route)

-- ---- the seat

module _ (s n : ℕ) (b : List ℕ) (whole : room_whole s n b ≡ true) (i : ℕ) where
  pub leave_none : taken s n b i ≡ false → (out : List ℕ) → Leaves s n (outcome (view_room s n b) (leave i)) b out (refused NotSeated) b out
  unfolding outcome leave_from refuse store_all sent_bytes
  leave_none h out = let e = none (seat_at (view_room s n b) i) (sym (taken_is s n b whole i) ∙ h) in record { answers = rw e; stores = rw e; writes = rw e }
    where
      none : (x : Seat) → not (is_vacant x) ≡ false → x ≡ vacant
      none vacant e = refl
      none (holds held) e = let z : ◌≡◌ {A = Bool} true false = unfold is_vacant in e in cc

  -- the key that a taken seat holds
  key_of_taken : taken s n b i ≡ true → key_in s n b i ≡ take key_bytes (drop (seat_start s n i) b)
  unfolding taken has_seat key_of_place
  key_of_taken h =
      let has : has_seat s n b i ≡ true = (both (has_seat s n b i) _ h).0 in
      let l = (has_seat_facts s n b i has).1 in
      key_in_seat s n b i has
      ∙ rw (seats_fit s n b (whole_fits s n b whole), lt-ltb i s l) (key_record s (seat_bytes n) (seat_table s n b) i (omega arith))
      ∙ seat_key_stands s n b i l

  pub leave_sits : (r : Bool) → r ≡ taken s n b i → r ≡ true → (key : Key) → key ≡ key_in s n b i → Sits s n b i key
  leave_sits r f d key e =
      let h : taken s n b i ≡ true = sym f ∙ d in
      taken_holds s n b whole i h
      ∙ ap (λ (k : Key). holds (seat_held s n b i k)) (sym (e ∙ key_of_taken h))

  -- its departure, behind the first `at` bytes of the output
  module _ (key : Key) (sits : Sits s n b i key) (out : List ℕ) (at : ℕ) where
    pub leave_fits : LeaveFits s n b i out at → TellsFit s n b i key out at
    unfolding leave_from accept
    leave_fits h = rw sits at h

    pub departs : (next : ℕ) (b' out' : List ℕ) → Appends (tell_peers (view_room s n b) i key (view_routes n (routes_table s n b i))) out at next out'
        → b' ≡ store s n b (seat_emptied i) → Made s n (departure s n b i) b out at b' next out'
    unfolding leave_from accept store_all
    departs next b' out' a f = record { stores = rw sits f; writes = rw sits a }

  -- a departure takes 1,200 bytes at most
  pub leave_room : (out : List ℕ) → 2048 ≤ length out → LeaveFits s n b i out 0
  leave_room out h = omega (arith, leave_within (sizes_of s n) (whole_few s n b whole) (view_room s n b) (whole_view s n b whole) i (seat_at (view_room s n b) i) refl)

  -- and is the leave
  pub leave_made : taken s n b i ≡ true → (out : List ℕ) (bytes : ℕ) (b' out' : List ℕ) → Made s n (departure s n b i) b out 0 b' bytes out'
      → Leaves s n (outcome (view_room s n b) (leave i)) b out (accepted i bytes) b' out'
  unfolding outcome leave_from accept
  leave_made h out bytes b' out' made = record {
    answers = let e = appends_front_answer (departure s n b i).sent out bytes out' made.writes in rw (taken_holds s n b whole i h) (ap (accepted i) (rw (taken_holds s n b whole i h) at e));
    stores = made.stores;
    writes = appends_front (departure s n b i).sent out bytes out' made.writes;
  }
