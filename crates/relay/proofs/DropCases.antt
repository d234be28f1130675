-- A client drops a number: it names no route, or the route is freed and a connected peer is told.
use mathlib.Core.Path.{◌≡◌, refl, sym, ap, ◌∙◌}
use mathlib.Core.Bool.{Bool, true, false}
use mathlib.Core.List.{List}
use Prim.Native.Nat.{ℕ, ◌-◌, ◌≤◌}
use native.Mathlib.Omega.{arith}
use lib.Dec.{ltb}
use lib.ListN.{get_or}
use borrow.Author.Tests.{ltb-false, le-ltb}
use Rattle.refusal.specs.declared.Refusal.TheVariants.{NoSuchRoute}
use Rattle.packet_laws.specs.FromClient.{drop_route}
use Rattle.packet_laws.specs.FromRelay.{disconnect_notice}
use Rattle.rules.specs.Room.{Key, Route, free, wants, Room, route_at, first_number, Held}
use Rattle.rules.specs.Call.{accepted, refused}
use Rattle.rules.specs.Outcome.{act, drop_at, accept, refuse, sent_bytes, route_freed, peer, to_peer, tell_peer}
use Rattle.room_laws.specs.Layout.{routes_table}
use Rattle.room_laws.specs.View.{view_room, view_routes, seat_held}
use Rattle.room_laws.specs.Whole.{room_whole}
use Rattle.room_laws.specs.Store.{store, store_all}
use Rattle.std.proofs.Common.{Option, Some, None}
use Rattle.key.specs.declared.Key as keys
use Rattle.room.specs.Numbers.{route_numbered, wanted_of, freed_number}
use Rattle.records.specs.Output.{Appends}
use Rattle.relay_laws.specs.Calls.{Leaves}
use Rattle.relay.specs.Steps.{Sits}
use Rattle.records.proofs.AppendLaws.{appends_front, appends_front_answer}
use Rattle.relay.proofs.LeaveCases.{tells_peer, appends_as}
use Rattle.relay.proofs.SeatedClient.{wanted_free, wanted_wants, sits_numbered, route_of_number}

-- a number that names a key is one
high_number : (routes : List Route) (number : ℕ) (k : Key) → route_at routes number ≡ wants k → 16 ≤ number
unfolding route_at
high_number routes number k e = go (ltb number first_number) refl
  where
    go : (u : Bool) → ltb number first_number ≡ u → 16 ≤ number
    go true h = let z : free ≡ wants k = sym (rw h) ∙ e in let y : ◌≡◌ {A = ℕ} 0 1 = cc in absurd (omega arith)
    go false h = ltb-false number first_number h

freed : (s n : ℕ) (b : List ℕ) (i number : ℕ) → 16 ≤ number → freed_number s n b i number ≡ store s n b (route_freed i (number - first_number))
unfolding freed_number
freed s n b i number h = rw (le-ltb number first_number h)

-- ---- on the rules' room

module _ (s n : ℕ) (room : Room) (b out : List ℕ) (i : ℕ) (held : Held) (number : ℕ) where
  drops_none : route_at held.routes number ≡ free → Leaves s n (act (drop_route number) room i held) b out (refused NoSuchRoute) b out
  unfolding act drop_at refuse store_all sent_bytes
  drops_none e = record { answers = rw e; stores = rw e; writes = rw e }

  drops : (k : Key) → route_at held.routes number ≡ wants k → (bytes : ℕ) (b' out' : List ℕ) → Appends (to_peer disconnect_notice (peer room i held.key k)) out 0 bytes out'
      → b' ≡ store s n b (route_freed i (number - first_number)) → Leaves s n (act (drop_route number) room i held) b out (accepted i bytes) b' out'
  unfolding act drop_at accept store_all
  drops k e bytes b' out' a f = record {
    answers = rw e (ap (accepted i) (appends_front_answer (to_peer disconnect_notice (peer room i held.key k)) out bytes out' a));
    stores = rw e f;
    writes = rw e (appends_front (to_peer disconnect_notice (peer room i held.key k)) out bytes out' a);
  }

-- ---- on bytes

module _ (s n : ℕ) (b : List ℕ) (whole : room_whole s n b ≡ true) (i : ℕ) (key : Key) (sits : Sits s n b i key) (number : ℕ)
    (w : Option keys.Key) (answer : w ≡ wanted_of (route_numbered s n b i number)) where
  pub drop_none : w ≡ None → (out : List ℕ)
      → Leaves s n (act (drop_route number) (view_room s n b) i (seat_held s n b i key)) b out (refused NoSuchRoute) b out
  drop_none h out =
      drops_none s n (view_room s n b) b out i (seat_held s n b i key) number
      (sym (sits_numbered s n b whole i key sits number) ∙ wanted_free (route_numbered s n b i number) (sym answer ∙ h))

  names : (k : keys.Key) → w ≡ Some k → route_at (view_routes n (routes_table s n b i)) number ≡ wants k.0
  names k h = sym (sits_numbered s n b whole i key sits number) ∙ wanted_wants (route_numbered s n b i number) k (sym answer ∙ h)

  pub drop_high : (k : keys.Key) → w ≡ Some k → 16 ≤ number
  drop_high k h = high_number (view_routes n (routes_table s n b i)) number k.0 (names k h)

  pub drop_route_lem : (k : keys.Key) → w ≡ Some k → (out : List ℕ) (bytes : ℕ) (b' out' : List ℕ)
      → Appends (tell_peer (view_room s n b) i key (get_or (view_routes n (routes_table s n b i)) (number - 16) free)) out 0 bytes out'
      → b' ≡ freed_number s n b i number
      → Leaves s n (act (drop_route number) (view_room s n b) i (seat_held s n b i key)) b out (accepted i bytes) b' out'
  drop_route_lem k h out bytes b' out' a f =
      let routes : List Route = view_routes n (routes_table s n b i) in
      let at : get_or routes (number - 16) free ≡ wants k.0 = sym (route_of_number routes number (drop_high k h)) ∙ names k h in
      let told = tells_peer (view_room s n b) i key (get_or routes (number - 16) free) k.0 at in
      drops s n (view_room s n b) b out i (seat_held s n b i key) number k.0 (names k h) bytes b' out'
      (appends_as (to_peer disconnect_notice (peer (view_room s n b) i key k.0)) (tell_peer (view_room s n b) i key (get_or routes (number - 16) free)) out 0 bytes out' (sym told) a)
      (f ∙ freed s n b i number (drop_high k h))
