-- Who is told of a connection, for every history, by what has happened alone. A drop sends one disconnect notification, to the connected peer under the
-- peer's own number, exactly when the two are connected on the number dropped, and else nothing. A leave sends, in rising number, exactly one disconnect
-- notification for each of the leaver's numbers that is connected, to the peer under the peer's own number, and nothing else. A request is answered
-- first; where its number is new and the two are now connected, connected is sent to the asker, then to the peer, each with its own number, and nothing
-- else; where no two are now connected, where the number is an old one, and where it is 0, the answer is all. Assumes nothing.
use mathlib.Core.Path.{◌≡◌, refl, sym, ap, ◌∙◌, subst}
use mathlib.Core.Bool.{Bool, true, false, true≢false}
use mathlib.Core.List.{List, [], ◌∷◌, ◌++◌}
use Prim.Native.Nat.{ℕ, zero, suc, ◌+◌, ◌-◌, ◌<◌, ◌≤◌}
use native.Mathlib.Omega.{arith}
use lib.Dec.{eqb}
use lib.ListN.{get_or, length}
use borrow.Author.Tests.{eqb-false}
use Rattle.key.specs.Keys.{same_key}
use Rattle.key.proofs.Same.{same_refl, same_sound}
use Rattle.packet_laws.specs.Read as read
use Rattle.packet_laws.specs.FromClient as client
use Rattle.packet_laws.specs.FromRelay as relay
use Rattle.rules.specs.Room.{Sizes, Key, Route, free, wants, Held, Seat, vacant, holds, Room, set_key, set_route, set_seat, empty_room, Found, none, at, find, seat_of, route_to, is_free, routes_of, seat_at, route_at, first_number, number_of_place, Peer, alone, joined}
use Rattle.rules.specs.Whole.{Whole}
use Rattle.rules.specs.Call.{Call, leave, packet_call, Sent}
use Rattle.rules.specs.Outcome.{with_route, apply, apply_all, refuse, accept, to, room_after, joined_by, peer_at, peer_in, peer, to_peer, tell_peer, tell_peers, leave_from, tell_both, request_at, drop_at, act, act_on, packet_from, outcome}
use Rattle.rules.specs.History.{Event, event, transcript}
use Rattle.rules.specs.Transcript.{Past, nobody, client_of, Start, from_empty, sitter, stands}
use Rattle.rules.specs.After.{past_after, client_in, Tied}
use Rattle.after_calls.specs.GoesOn.{Connected, OnlyPeer}
use Rattle.after_calls.specs.Told.{peer_is, no_peer, Disconnects, InTurn, LeaveTells, Connects, RequestTells}
use Rattle.rules.proofs.FindLaws.{find_hit, find_miss, find_within, find_set_same, find_once, held_of, seat_set, seat_set_other, held_within, route_to_wants, route_at_place, wanted_high, wanted_place, route_set}
use Rattle.rules.proofs.Whole.{wanted_once, whole_after}
use Rattle.rules.proofs.Tied.{tied_after, seat_holds, stands_wants, wants_stands}
use Rattle.after_calls.proofs.PeerConnected.{connected_asks, peer_is_connected}
use Rattle.rules.proofs.EachEvent.{from_empty_lem}

-- ---- what is told at a disconnect

-- a record tells its seat and its number
same_notice : (i j n m : ℕ) → ◌≡◌ {A = List Sent} (to i (relay.disconnect_notice n) ∷ []) (to j (relay.disconnect_notice m) ∷ []) → (i ≡ j) × (n ≡ m)
unfolding to relay.relay_bytes
same_notice i j n m e =
    let s : to i (relay.disconnect_notice n) ≡ to j (relay.disconnect_notice m) = cc in
    let b : ◌≡◌ {A = List ℕ} (3 ∷ n ∷ []) (3 ∷ m ∷ []) = ap (λ (r : Sent). r.bytes) s in
    (ap (λ (r : Sent). r.seat) s, cc)

module _ (start : Start) (past : Past) (seat number : ℕ) where
  none_told : ((other number' : ℕ) → Connected start past seat number other number' → ⊥) → Disconnects start past seat number []
  none_told never = record { decided = no_peer never; told = λ other number'. (λ q. absurd (cc), λ c. absurd (never other number' c)); otherwise = λ q. refl }

  peer_told : (p : Peer) → OnlyPeer start past seat number p → Disconnects start past seat number (to_peer relay.disconnect_notice p)
  unfolding to_peer OnlyPeer
  peer_told alone only = none_told only
  peer_told (joined other place) only = record {
    decided = peer_is other (number_of_place place) only.0;
    told = λ other' n. (
      λ s. (let q = same_notice other other' (number_of_place place) n s in rw (← q.0, ← q.1) only.0),
      λ c. (let q = only.1 other' n c in rw (← q.0, ← q.1)),
    );
    otherwise = λ never. absurd (never other (number_of_place place) only.0);
  }

-- ---- who is connected sits there, and asked

module _ (sizes : Sizes) (start : Start) (past : Past) (room : Room) (whole : Whole sizes room) (tie : Tied start past room) (seat : ℕ) where
  empty_alone : seat_at room seat ≡ vacant → (number other number' : ℕ) → Connected start past seat number other number' → ⊥
  unfolding client_in
  empty_alone h number other number' c = let a : sitter start past seat ≡ nobody = tie.sits seat ∙ ap client_in h in let b = c.here.sits in absurd (cc)

  module _ (held : Held) (sits : seat_at room seat ≡ holds held) where
    free_alone : (number : ℕ) → route_at held.routes number ≡ free → (other number' : ℕ) → Connected start past seat number other number' → ⊥
    free_alone number h other number' c = let a = (connected_asks sizes start past room whole tie seat held sits number other number' c).1 in absurd (cc)

    -- ---- a drop

    drop_route_lem : (number : ℕ) (route : Route) → route_at held.routes number ≡ route → Disconnects start past seat number (drop_at route room seat held.key number).sent
    unfolding drop_at refuse accept
    drop_route_lem number free h = none_told start past seat number (free_alone number h)
    drop_route_lem number (wants wanted) h =
        peer_told start past seat number (peer room seat held.key wanted) (peer_is_connected sizes start past room whole tie seat held sits number wanted h)

  drop_seat : (number : ℕ) (bytes : List ℕ) → client.relay_read bytes ≡ read.packet (client.drop_route number) → (s : Seat) → seat_at room seat ≡ s
      → Disconnects start past seat number (packet_from s room seat bytes).sent
  unfolding packet_from act_on act refuse
  drop_seat number bytes e vacant h = none_told start past seat number (empty_alone h number)
  drop_seat number bytes e (holds held) h = rw e (drop_route_lem held h number (route_at held.routes number) refl)

  pub drop_tells : (number : ℕ) (bytes : List ℕ) → client.relay_read bytes ≡ read.packet (client.drop_route number)
      → Disconnects start past seat number (event room (packet_call seat bytes)).sent
  unfolding event outcome
  drop_tells number bytes e = drop_seat number bytes e (seat_at room seat) refl

-- ---- a leave

module _ (sizes : Sizes) (start : Start) (past : Past) (room : Room) (whole : Whole sizes room) (tie : Tied start past room) (seat : ℕ) where
  none_in_turn : ((number other number' : ℕ) → Connected start past seat number other number' → ⊥) → (number many : ℕ) → InTurn start past seat number many []
  unfolding InTurn
  none_in_turn never number zero = refl
  none_in_turn never number (suc many) =
      record { front = []; back = []; both = refl; first = none_told start past seat number (never number); rest = none_in_turn never (suc number) many }

  module _ (held : Held) (sits : seat_at room seat ≡ holds held) where
    route_told : (number : ℕ) (route : Route) → route_at held.routes number ≡ route → Disconnects start past seat number (tell_peer room seat held.key route)
    unfolding tell_peer
    route_told number free h = none_told start past seat number (free_alone sizes start past room whole tie seat held sits number h)
    route_told number (wants wanted) h =
        peer_told start past seat number (peer room seat held.key wanted) (peer_is_connected sizes start past room whole tie seat held sits number wanted h)

    routes_told : (rest : List Route) (number : ℕ) → ((i : ℕ) → route_at held.routes (number + i) ≡ get_or rest i free) → InTurn start past seat number (length rest) (tell_peers room seat held.key rest)
    unfolding tell_peers InTurn
    routes_told [] number h = refl
    routes_told (route ∷ rest) number h = record {
      front = tell_peer room seat held.key route;
      back = tell_peers room seat held.key rest;
      both = refl;
      first = route_told number route (let z : number ≡ number + 0 = omega arith in ap (route_at held.routes) z ∙ h 0);
      rest = routes_told rest (suc number) (λ i. (let z : suc number + i ≡ number + suc i = omega arith in ap (route_at held.routes) z ∙ h (suc i)));
    }

    in_range : (number : ℕ) (wanted : Key) → route_at held.routes number ≡ wants wanted → (first_number ≤ number) × (number < first_number + sizes.numbers)
    unfolding route_to
    in_range number wanted h =
        let high = wanted_high held.routes number wanted h in
        let there : route_to wanted (get_or held.routes (number - first_number) free) ≡ true = ap (route_to wanted) (wanted_place held.routes number wanted h) ∙ same_refl wanted in
        let found = find_once (route_to wanted) free held.routes (number - first_number) refl (wanted_once sizes room whole seat held sits wanted) there in
        let within = find_within (route_to wanted) held.routes (number - first_number) found in
        let many = whole.numbers seat held sits in
        (omega arith, omega arith)

    holder_tells : LeaveTells sizes start past seat (tell_peers room seat held.key held.routes)
    holder_tells = record {
      in_turn = subst (λ (n : ℕ). InTurn start past seat first_number n (tell_peers room seat held.key held.routes)) (whole.numbers seat held sits) (routes_told held.routes first_number (route_at_place held.routes));
      all = λ number other number' c. in_range number c.wanted (connected_asks sizes start past room whole tie seat held sits number other number' c).1;
    }

  leave_seat : (s : Seat) → seat_at room seat ≡ s → LeaveTells sizes start past seat (leave_from s room seat).sent
  unfolding leave_from refuse accept
  leave_seat vacant h =
      let never = empty_alone sizes start past room whole tie seat h in
      record { in_turn = none_in_turn never first_number sizes.numbers; all = λ number other number' c. absurd (never number other number' c) }
  leave_seat (holds held) h = holder_tells held h

  pub leave_tells : LeaveTells sizes start past seat (event room (leave seat)).sent
  unfolding event outcome
  leave_tells = leave_seat (seat_at room seat) refl

-- ---- a request

same_notices : (seat number i j n m : ℕ)
    → ◌≡◌ {A = List Sent} (to seat (relay.connect_notice number) ∷ to i (relay.connect_notice n) ∷ []) (to seat (relay.connect_notice number) ∷ to j (relay.connect_notice m) ∷ []) → (i ≡ j) × (n ≡ m)
unfolding to relay.relay_bytes
same_notices seat number i j n m e =
    let s : to i (relay.connect_notice n) ≡ to j (relay.connect_notice m) = cc in
    let b : ◌≡◌ {A = List ℕ} (2 ∷ n ∷ []) (2 ∷ m ∷ []) = ap (λ (r : Sent). r.bytes) s in
    (ap (λ (r : Sent). r.seat) s, cc)

both_connected : (start : Start) (past : Past) (seat number : ℕ) (p : Peer) → OnlyPeer start past seat number p → Connects start past seat number (tell_both seat number p)
unfolding tell_both OnlyPeer
both_connected start past seat number alone only = record { decided = no_peer only; told = λ other number'. (λ q. absurd (cc), λ c. absurd (only other number' c)); otherwise = λ q. refl }
both_connected start past seat number (joined other place) only = record {
  decided = peer_is other (number_of_place place) only.0;
  told = λ other' n. (
    λ s. (let q = same_notices seat number other other' (number_of_place place) n s in rw (← q.0, ← q.1) only.0),
    λ c. (let q = only.1 other' n c in rw (← q.0, ← q.1)),
  );
  otherwise = λ never. absurd (never other (number_of_place place) only.0);
}

module _ (sizes : Sizes) (start : Start) (past : Past) (room : Room) (whole : Whole sizes room) (tie : Tied start past room) (seat : ℕ) (held : Held)
    (sits : seat_at room seat ≡ holds held) (wanted : Key) where
  -- the search for a peer does not see the asker's own routes
  peer_kept : (held' : Held) → held'.key ≡ held.key → peer (set_seat room seat (holds held')) seat held.key wanted ≡ peer room seat held.key wanted
  unfolding peer peer_in peer_at seat_at seat_of
  peer_kept held' same = rw (find_set_same (seat_of wanted) vacant room.seats seat (holds held') (rw (sits, same))) (go (find (seat_of wanted) room.seats))
    where
      on : (other : ℕ) (t : Bool) → eqb seat other ≡ t → peer_at t (set_seat room seat (holds held')) held.key other ≡ peer_at t room held.key other
      on other true e = refl
      on other false e = ap (λ (s : Seat). joined_by other (find (route_to held.key) (routes_of s))) (seat_set_other room seat (holds held') other (λ q. eqb-false seat other e (sym q)))

      go : (f : Found) → peer_in f (set_seat room seat (holds held')) seat held.key ≡ peer_in f room seat held.key
      go none = refl
      go (at other) = on other (eqb seat other) refl

  -- where the lowest free number is given
  module _ (bytes : List ℕ) (asks : client.relay_read bytes ≡ read.packet (client.routing_request wanted)) (place : ℕ) (other : same_key wanted held.key ≡ false)
      (not_asked : find (route_to wanted) held.routes ≡ none)
      (lowest : find is_free held.routes ≡ at place) where
    abbrev now : Past
    now = event room (packet_call seat bytes) ∷ past

    abbrev next : Room
    next = room_after sizes room (outcome room (packet_call seat bytes))

    given : next ≡ set_seat room seat (holds (set_route held place (wants wanted)))
    unfolding outcome packet_from act_on act request_at accept room_after apply_all apply with_route
    given = rw (sits, asks, other, not_asked, lowest) (ap (λ (s : Seat). set_seat room seat (with_route s place (wants wanted))) sits)

    now_connected : Connects start now seat (number_of_place place) (tell_both seat (number_of_place place) (peer room seat held.key wanted))
    now_connected =
        let here : seat_at next seat ≡ holds (set_route held place (wants wanted)) = ap (λ (r : Room). seat_at r seat) given ∙ seat_set room seat _ (held_within room seat held sits) in
        let only = peer_is_connected sizes start now next (whole_after sizes room whole (packet_call seat bytes)) (tied_after sizes start past room whole tie (packet_call seat bytes))
        seat (set_route held place (wants wanted)) here (number_of_place place) wanted (route_set held.routes place (wants wanted) (find_within is_free held.routes place lowest)) in
        both_connected start now seat (number_of_place place) (peer room seat held.key wanted)
        (subst (OnlyPeer start now seat (number_of_place place)) (ap (λ (r : Room). peer r seat held.key wanted) given ∙ peer_kept (set_route held place (wants wanted)) refl) only)

  module _ (bytes : List ℕ) (asks : client.relay_read bytes ≡ read.packet (client.routing_request wanted)) where
    -- with no route that names the key, no request for it stands
    not_asked_lem : {A : Type 0} → find (route_to wanted) held.routes ≡ none → (n : ℕ) → stands start past held.key n wanted ≡ true → A
    unfolding route_to
    not_asked_lem h n t =
        let there : get_or held.routes (n - first_number) free ≡ wants wanted = wanted_place held.routes n wanted (stands_wants sizes start past room whole tie seat held sits n wanted t) in
        absurd (true≢false (sym (ap (route_to wanted) there ∙ same_refl wanted) ∙ find_miss (route_to wanted) free held.routes refl h (n - first_number)))

    -- no request for the own key stands
    own_not_asked : {A : Type 0} → wanted ≡ held.key → (n : ℕ) → stands start past held.key n wanted ≡ true → A
    own_not_asked q n t =
        absurd (whole.not_own seat held sits n (stands_wants sizes start past room whole tie seat held sits n wanted t ∙ ap wants q))

    request_found : (own : Bool) (old lowest : Found) → same_key wanted held.key ≡ own → find (route_to wanted) held.routes ≡ old → find is_free held.routes ≡ lowest
        → (event room (packet_call seat bytes)).sent ≡ (request_at own old lowest room seat held.key wanted).sent → RequestTells start past seat held.key wanted (event room (packet_call seat bytes))
    unfolding request_at accept
    request_found true old lowest o h l s = record {
      number = 0;
      later = [];
      answered = s;
      old = λ n t. own_not_asked (same_sound wanted held.key o) n t;
      zero = λ q. refl;
      new = λ none-stands q. absurd (q refl);
    }
    request_found false (at place) lowest o h l s =
        let there : route_at held.routes (number_of_place place) ≡ wants wanted = route_at_place held.routes place ∙ route_to_wants wanted _ (find_hit (route_to wanted) free held.routes place h) in
        record {
          number = number_of_place place;
          later = [];
          answered = s;
          old = λ n t. (whole.wanted seat held sits wanted (number_of_place place) n there (stands_wants sizes start past room whole tie seat held sits n wanted t), refl);
          zero = λ q. refl;
          new = λ none-stands q. absurd (true≢false (sym (wants_stands sizes start past room whole tie seat held sits (number_of_place place) wanted there) ∙ none-stands (number_of_place place)));
        }
    request_found false none none o h l s = record {
      number = 0;
      later = [];
      answered = s;
      old = λ n t. not_asked_lem h n t;
      zero = λ q. refl;
      new = λ none-stands q. absurd (q refl);
    }
    request_found false none (at place) o h l s = record {
      number = number_of_place place;
      later = tell_both seat (number_of_place place) (peer room seat held.key wanted);
      answered = s;
      old = λ n t. not_asked_lem h n t;
      zero = λ q. absurd (omega arith);
      new = λ none-stands q. now_connected bytes asks place o h l;
    }

    pub request_tells : RequestTells start past seat held.key wanted (event room (packet_call seat bytes))
    unfolding event outcome packet_from act_on act
    request_tells =
        request_found (same_key wanted held.key) (find (route_to wanted) held.routes) (find is_free held.routes) refl refl refl (rw (sits, asks))

-- ---- every history, from the empty room

pub drop_tells_from_empty : (sizes : Sizes) (calls : List Call) (before : List Event) (e : Event) (later : List Event)
    → transcript sizes (empty_room sizes) calls ≡ before ++ (e ∷ later)
    → (seat number : ℕ) (bytes : List ℕ) → e.call ≡ packet_call seat bytes → client.relay_read bytes ≡ read.packet (client.drop_route number)
    → Disconnects (from_empty sizes) (past_after [] before) seat number e.sent
unfolding event
drop_tells_from_empty sizes calls before e later t seat number bytes c r =
    from_empty_lem sizes (λ past e. e.call ≡ packet_call seat bytes → Disconnects (from_empty sizes) past seat number e.sent)
    (λ past room whole tie call c. subst (λ (x : Call). Disconnects (from_empty sizes) past seat number (event room x).sent) (sym c) (drop_tells sizes (from_empty sizes) past room whole tie seat number bytes r))
    calls before e later t c

pub leave_tells_from_empty : (sizes : Sizes) (calls : List Call) (before : List Event) (e : Event) (later : List Event)
    → transcript sizes (empty_room sizes) calls ≡ before ++ (e ∷ later)
    → (seat : ℕ) → e.call ≡ leave seat → LeaveTells sizes (from_empty sizes) (past_after [] before) seat e.sent
unfolding event
leave_tells_from_empty sizes calls before e later t seat c =
    from_empty_lem sizes (λ past e. e.call ≡ leave seat → LeaveTells sizes (from_empty sizes) past seat e.sent)
    (λ past room whole tie call c. subst (λ (x : Call). LeaveTells sizes (from_empty sizes) past seat (event room x).sent) (sym c) (leave_tells sizes (from_empty sizes) past room whole tie seat))
    calls before e later t c

pub request_tells_from_empty : (sizes : Sizes) (calls : List Call) (before : List Event) (e : Event) (later : List Event)
    → transcript sizes (empty_room sizes) calls ≡ before ++ (e ∷ later)
    → (seat : ℕ) (bytes : List ℕ) (key wanted : Key) → e.call ≡ packet_call seat bytes → client.relay_read bytes ≡ read.packet (client.routing_request wanted)
    → sitter (from_empty sizes) (past_after [] before) seat ≡ client_of key → RequestTells (from_empty sizes) (past_after [] before) seat key wanted e
unfolding event
request_tells_from_empty sizes calls before e later t seat bytes key wanted c r =
    from_empty_lem sizes (λ past e. e.call ≡ packet_call seat bytes → sitter (from_empty sizes) past seat ≡ client_of key → RequestTells (from_empty sizes) past seat key wanted e)
    (λ past room whole tie call c by.
    subst (λ (x : Call). RequestTells (from_empty sizes) past seat key wanted (event room x)) (sym c)
    (request_tells sizes (from_empty sizes) past room whole tie seat (set_key (held_of (seat_at room seat)) key) (seat_holds sizes (from_empty sizes) past room whole tie seat key by) wanted bytes r))
    calls before e later t c
