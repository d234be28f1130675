-- What a routing request leaves, case by case: the client's own key, an old number, none free, a number given; and the notifications of two that are now
-- connected.
use mathlib.Core.Path.{◌≡◌, refl, sym, ap, ◌∙◌}
use mathlib.Core.Bool.{Bool, true, false}
use mathlib.Core.List.{List, [], ◌∷◌, ◌++◌}
use Prim.Native.Nat.{ℕ, ◌+◌, ◌-◌, ◌≤◌}
use native.Mathlib.Omega.{arith}
use borrow.Author.Tests.{le-ltb}
use lib.ListN.{length}
use Rattle.key.specs.Keys.{same_key}
use Rattle.packet_laws.specs.FromClient.{routing_request}
use Rattle.packet_laws.specs.FromRelay.{relay_bytes, routing_response, connect_notice}
use Rattle.packet.specs.declared.ConnectionNumber.{ConnectionNumber}
use Rattle.rules.specs.Room.{first_number, number_of_place, Key, Seat, Found, none, at, find, route_to, is_free, routes_of}
use Rattle.rules.specs.Call.{Answer, accepted}
use Rattle.rules.specs.Outcome.{Outcome, act, accept, answer_only, request_at, tell_both, to, peer, route_given}
use Rattle.std.proofs.Common.{Option, Some, None}
use Rattle.room_laws.specs.Layout.{routes_table}
use Rattle.room_laws.specs.View.{view_room, view_routes, seat_held}
use Rattle.room_laws.specs.Whole.{room_whole}
use Rattle.room_laws.specs.Lookup.{route_wanting, lowest_route}
use Rattle.room.specs.Numbers.{number_found, given_number, peer_found, peer_of}
use Rattle.room_laws.specs.Store.{store, store_all}
use Rattle.room_laws.proofs.LookupLaws.{route_wanting_finds, lowest_route_finds}
use Rattle.room.proofs.AnswerLaws.{number_found_lem, number_not_found}
use Rattle.room.specs.declared.peer.Peer as code
use Rattle.relay_laws.specs.Calls.{Leaves}
use Rattle.relay.specs.Steps.{Sits, Gives, Carries}
use Rattle.relay.proofs.SeatedClient.{sits_taken}
use Rattle.room.proofs.PeersFound.{found_back}
use Rattle.records.specs.Output.{Appends}
use Rattle.records.proofs.AppendLaws.{appends_none, appends_more, appends_one_next, appends_front, appends_front_answer}

-- ---- where the next record goes

pub connected_next : (seat number : ℕ) (out : List ℕ) (from next : ℕ) (left : List ℕ) → Appends (to seat (connect_notice number) ∷ []) out from next left
    → next ≡ from + 5
unfolding to relay_bytes
connected_next seat number out from next left p = appends_one_next (to seat (connect_notice number)) out from next left p

pub response_next : (seat number : ℕ) (key : Key) → length key ≡ 32 → (out : List ℕ) (from next : ℕ) (left : List ℕ)
    → Appends (to seat (routing_response number key) ∷ []) out from next left → next ≡ from + 37
unfolding to relay_bytes
response_next seat number key l out from next left p = let e = appends_one_next (to seat (routing_response number key)) out from next left p in omega arith

-- ---- both are told, or nobody is

module _ (seat number : ℕ) (q : Option code.Peer) where
  told_alone : q ≡ None → tell_both seat number (peer_of q) ≡ []
  unfolding tell_both peer_of
  told_alone e = rw e

  told_joined : (other : code.Peer) → q ≡ Some other → 16 ≤ other.number.0
      → (to seat (connect_notice number) ∷ []) ++ (to other.seat.0 (connect_notice other.number.0) ∷ []) ≡ tell_both seat number (peer_of q)
  unfolding tell_both peer_of
  told_joined other e h =
      let f : other.number.0 ≡ number_of_place (other.number.0 - first_number) = omega arith in
      ap (λ (x : ℕ). to seat (connect_notice number) ∷ to other.seat.0 (connect_notice x) ∷ []) f
      ∙ sym (ap (λ (p : Option code.Peer). tell_both seat number (peer_of p)) e)

  pub tells_nobody : q ≡ None → (out : List ℕ) (from : ℕ) → Appends (tell_both seat number (peer_of q)) out from from out
  tells_nobody e out from = rw (told_alone e) (appends_none out from)

  pub tells_both : (other : code.Peer) → q ≡ Some other → 16 ≤ other.number.0
      → (out : List ℕ) (from mid next : ℕ) (left last : List ℕ) → from ≤ length out
      → Appends (to seat (connect_notice number) ∷ []) out from mid left
      → Appends (to other.seat.0 (connect_notice other.number.0) ∷ []) left mid next last
      → Appends (tell_both seat number (peer_of q)) out from next last
  tells_both other e h out from mid next left last room p q' =
      rw (sym (told_joined other e h))
      (appends_more (to seat (connect_notice number) ∷ []) (to other.seat.0 (connect_notice other.number.0) ∷ []) out from mid next left last room p q')

-- ---- a number given

given_number_lem : (s n : ℕ) (b : List ℕ) (i number : ℕ) (key : Key) → 16 ≤ number
    → given_number s n b i number key ≡ store s n b (route_given i (number - first_number) key)
unfolding given_number
given_number_lem s n b i number key h = rw (le-ltb number 16 h)

pub gives : (s n : ℕ) (b : List ℕ) (seat : ℕ) (key wanted : Key) (number : ℕ) → 16 ≤ number
    → (q : Option code.Peer) → q ≡ peer_found (peer (view_room s n b) seat key wanted)
    → (b' : List ℕ) → b' ≡ given_number s n b seat number wanted
    → (out : List ℕ) (mid next : ℕ) (left last : List ℕ)
    → Appends (to seat (routing_response number wanted) ∷ []) out 0 mid left
    → Appends (tell_both seat number (peer_of q)) left mid next last
    → Gives s n b seat key wanted number out next b' last
gives s n b seat key wanted number h q e b' f out mid next left last p r = record {
  stores = f ∙ given_number_lem s n b seat number wanted h;
  writes =
      rw (sym (found_back (peer (view_room s n b) seat key wanted) q e))
      (appends_more (to seat (routing_response number wanted) ∷ []) (tell_both seat number (peer_of q)) out 0 mid next left last (omega arith) p r);
}

-- ---- the client who asks: its routes, looked up

-- a number that a lookup answers is one
pub number_right_lem : (f : Found) (r : Option ConnectionNumber) → r ≡ number_found f → (n : ConnectionNumber) → r ≡ Some n → 16 ≤ n.0
number_right_lem f r looked n e = (number_found_lem f n (sym looked ∙ e)).1

-- an answer alone changes no room
pub carries_answer : (seat number : ℕ) (wanted : Key) (out : List ℕ) (bytes : ℕ) (out' : List ℕ) → Appends (to seat (routing_response number wanted) ∷ []) out 0 bytes out'
    → Carries (answer_only seat number wanted) out (accepted seat bytes) out'
unfolding accept store_all
carries_answer seat number wanted out bytes out' p s n b =
    let sent = to seat (routing_response number wanted) ∷ [] in
    record {
      answers = ap (accepted seat) (appends_front_answer sent out bytes out' p);
      stores = refl;
      writes = appends_front sent out bytes out' p;
    }

module _ (s n : ℕ) (b : List ℕ) (i : ℕ) (key wanted : Key) where
  -- what the request does, by the rules
  abbrev asked : Outcome
  asked = act (routing_request wanted) (view_room s n b) i (seat_held s n b i key)

  -- the client's own key
  pub request_own : (own : Bool) → own ≡ same_key wanted key → own ≡ true → (out : List ℕ) (answer : Answer) (out' : List ℕ)
      → Carries (answer_only i 0 wanted) out answer out' → Leaves s n asked b out answer b out'
  unfolding act request_at
  request_own own compared e out answer out' p = rw (← compared, e) (p s n b)

  module _ (whole : room_whole s n b ≡ true) (sits : Sits s n b i key) (own : Bool) (compared : own ≡ same_key wanted key) (others : own ≡ false) where
    other : same_key wanted key ≡ false
    other = sym compared ∙ others

    wanting : route_wanting s n b i wanted ≡ find (route_to wanted) (view_routes n (routes_table s n b i))
    unfolding routes_of
    wanting = route_wanting_finds s n b whole i (sits_taken s n b whole i key sits) wanted ∙ ap (λ (x : Seat). find (route_to wanted) (routes_of x)) sits

    lowest : lowest_route s n b i ≡ find is_free (view_routes n (routes_table s n b i))
    unfolding routes_of
    lowest = lowest_route_finds s n b whole i (sits_taken s n b whole i key sits) ∙ ap (λ (x : Seat). find is_free (routes_of x)) sits

    module _ (out out' : List ℕ) (first : Option ConnectionNumber) (looked : first ≡ number_found (route_wanting s n b i wanted)) where
      -- an old number
      pub request_old : (old : ConnectionNumber) → first ≡ Some old → (answer : Answer) → Carries (answer_only i old.0 wanted) out answer out'
          → Leaves s n asked b out answer b out'
      unfolding act request_at
      request_old old e answer p =
          let f = number_found_lem (route_wanting s n b i wanted) old (sym looked ∙ e) in
          let g : find (route_to wanted) (view_routes n (routes_table s n b i)) ≡ at (old.0 - first_number) = sym wanting ∙ f.0 in
          let m : number_of_place (old.0 - first_number) ≡ old.0 = let h = f.1 in omega arith in
          rw (other, g, m) (p s n b)

      module _ (new : first ≡ None) (second : Option ConnectionNumber) (looked' : second ≡ number_found (lowest_route s n b i)) where
        unrouted : find (route_to wanted) (view_routes n (routes_table s n b i)) ≡ none
        unrouted = sym wanting ∙ number_not_found (route_wanting s n b i wanted) (sym looked ∙ new)

        -- none free
        pub request_full : second ≡ None → (answer : Answer) → Carries (answer_only i 0 wanted) out answer out' → Leaves s n asked b out answer b out'
        unfolding act request_at
        request_full e answer p =
            let g : find is_free (view_routes n (routes_table s n b i)) ≡ none = sym lowest ∙ number_not_found (lowest_route s n b i) (sym looked' ∙ e) in
            rw (other, unrouted, g) (p s n b)

        -- a number given
        pub request_given : (bytes : ℕ) (given : ConnectionNumber) → second ≡ Some given
            → (b' : List ℕ) → Gives s n b i key wanted given.0 out bytes b' out' → Leaves s n asked b out (accepted i bytes) b' out'
        unfolding act request_at accept store_all
        request_given bytes given e b' p =
            let f = number_found_lem (lowest_route s n b i) given (sym looked' ∙ e) in
            let g : find is_free (view_routes n (routes_table s n b i)) ≡ at (given.0 - first_number) = sym lowest ∙ f.0 in
            let m : number_of_place (given.0 - first_number) ≡ given.0 = let h = f.1 in omega arith in
            let sent = to i (routing_response given.0 wanted) ∷ tell_both i given.0 (peer (view_room s n b) i key wanted) in
            record {
              answers = rw (other, unrouted, g, m) (ap (accepted i) (appends_front_answer sent out bytes out' p.writes));
              stores = rw (other, unrouted, g) p.stores;
              writes = rw (other, unrouted, g, m) (appends_front sent out bytes out' p.writes);
            }
