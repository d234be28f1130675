-- For every history, by what has happened alone: a key sits in one seat, so two connected clients have different keys; a request for a key stands under one
-- number or under none, which the room's tables decide; and nothing stands under number 0, whatever events there were. Assumes nothing.
use mathlib.Core.Path.{◌≡◌, refl, sym, ap, ◌∙◌}
use mathlib.Core.Bool.{true, false, ◌&&◌}
use mathlib.Core.List.{List, [], ◌∷◌, ◌++◌}
use mathlib.Core.Logic.{◌≢◌}
use Prim.Native.Nat.{ℕ, ◌-◌}
use lib.Dec.{eqb}
use Rattle.key.specs.Keys.{same_key}
use Rattle.key.proofs.Same.{same_refl}
use Rattle.packet_laws.specs.Read.{Read}
use Rattle.packet_laws.specs.Read as read
use Rattle.packet_laws.specs.FromClient as client
use Rattle.rules.specs.Room.{Sizes, Key, Route, free, wants, vacant, Room, Found, none, at, find, seat_of, route_to, seat_at, route_at, first_number, number_of_place}
use Rattle.rules.specs.Whole.{Whole}
use Rattle.rules.specs.Call.{Call, arrive, leave, packet_call, tick, Answer, Sent}
use Rattle.rules.specs.History.{Event, happens}
use Rattle.rules.specs.Transcript.{Past, Maker, nobody, client_of, Start, from_empty, is_accepted, put_out, is_among, sitter, maker, stands_after_packet, stands_after_own, stands_after, stands}
use Rattle.rules.specs.After.{past_after, routes_in, routes_by, Tied}
use Rattle.after_calls.specs.GoesOn.{Connected}
use Rattle.after_calls.specs.Given.{Asked, under, not_asked}
use Rattle.rules.proofs.FindLaws.{find_hit, find_miss, routes_held, seat_of_holds, route_to_wants, route_none, route_at_place, wanted_place}
use Rattle.rules.proofs.Tied.{either, seat_holds}
use Rattle.rules.proofs.EachEvent.{moment_from_empty}

module _ (sizes : Sizes) (start : Start) (past : Past) (room : Room) (whole : Whole sizes room) (tie : Tied start past room) where
  -- "seated keys differ": a key sits in one seat
  pub one_seat : (key : Key) (seat other : ℕ) → sitter start past seat ≡ client_of key → sitter start past other ≡ client_of key → seat ≡ other
  one_seat key seat other a b =
      whole.seated seat other _ _ (seat_holds sizes start past room whole tie seat key a) (seat_holds sizes start past room whole tie other key b) refl

  -- so "they sit in different seats" gives two different clients
  pub connected_differ : (seat number other number' : ℕ) (c : Connected start past seat number other number') → c.key ≢ c.wanted
  connected_differ seat number other number' c q = c.apart (one_seat c.key seat other c.here.sits (c.there.sits ∙ ap client_of (sym q)))

  -- whether a request for a key stands, and then under which number; one for the client's own key stands under none (`OwnKey.antt`)
  module _ (key wanted : Key) where
    abbrev mine : List Route
    mine = routes_by room key

    there : (number : ℕ) → stands start past key number wanted ≡ true → route_at mine number ≡ wants wanted
    there number a = route_to_wants wanted _ (sym (tie.requests key number wanted) ∙ a)

    -- under one number: the table is that of the seat where the client sits
    one_number : (f : Found) → find (seat_of key) room.seats ≡ f
        → (n m : ℕ) → route_at (routes_in f room) n ≡ wants wanted → route_at (routes_in f room) m ≡ wants wanted → n ≡ m
    unfolding routes_in seat_at
    one_number none e n m a b = let q = route_none n in absurd (cc)
    one_number (at seat) e n m a b =
        let here = seat_of_holds key (seat_at room seat) (find_hit (seat_of key) vacant room.seats seat e) in
        let mine = ap (λ (t : List Route). route_at t n) (routes_held (seat_at room seat)) in
        let mine' = ap (λ (t : List Route). route_at t m) (routes_held (seat_at room seat)) in
        whole.wanted seat _ here wanted n m (sym mine ∙ a) (sym mine' ∙ b)

    asked_found : (f : Found) → find (route_to wanted) mine ≡ f → Asked start past key wanted
    unfolding route_to routes_by
    asked_found none e = not_asked (λ n. tie.requests key n wanted ∙ go n (route_at mine n) refl)
      where
        go : (n : ℕ) (route : Route) → route_at mine n ≡ route → route_to wanted route ≡ false
        go n free q = refl
        go n (wants w) q = ap (route_to wanted) (sym (wanted_place mine n w q)) ∙ find_miss (route_to wanted) free mine refl e (n - first_number)
    asked_found (at place) e =
        let number = number_of_place place in
        let here : route_at mine number ≡ wants wanted = route_at_place mine place ∙ route_to_wants wanted _ (find_hit (route_to wanted) free mine place e) in
        under number (tie.requests key number wanted ∙ ap (route_to wanted) here ∙ same_refl wanted)
        (λ n a. one_number (find (seat_of key) room.seats) refl n number (there n a) here)

    pub asked_or_not : Asked start past key wanted
    asked_or_not = asked_found (find (route_to wanted) mine) refl

-- ---- nothing stands under number 0

zero_packet : (r : Read client.FromClient) (answer : Answer) (sent : List Sent) (wanted : Key) → stands_after_packet r answer sent 0 wanted false ≡ false
unfolding stands_after_packet
zero_packet (read.packet (client.routing_request key)) answer sent wanted = refl
zero_packet (read.packet (client.drop_route n)) answer sent wanted = either (is_accepted answer && eqb n 0) false
zero_packet (read.packet (client.ping n)) answer sent wanted = refl
zero_packet (read.packet (client.pong n)) answer sent wanted = refl
zero_packet (read.packet (client.oob_send key bytes)) answer sent wanted = refl
zero_packet (read.packet (client.routed_data n bytes)) answer sent wanted = refl
zero_packet (read.refused why) answer sent wanted = refl

zero_own : (call : Call) (answer : Answer) (sent : List Sent) (wanted : Key) → stands_after_own call answer sent 0 wanted false ≡ false
unfolding stands_after_own
zero_own (arrive key) answer sent wanted = either (is_accepted answer) false
zero_own (leave seat) answer sent wanted = either (is_accepted answer) false
zero_own (packet_call seat bytes) answer sent wanted = zero_packet (client.relay_read bytes) answer sent wanted
zero_own (tick time ping) answer sent wanted = refl

zero_after : (m : Maker) (e : Event) (key wanted : Key) → stands_after m e key 0 wanted false ≡ false
unfolding stands_after
zero_after nobody e key wanted = refl
zero_after (client_of k) e key wanted = rw (zero_own e.call e.answer e.sent wanted) (either (same_key k key) false)

-- "A request stands from an answer other than 0": so after any events, where none stands so at the start
pub none_under_zero : (start : Start) → ((key wanted : Key) → start.standing key 0 wanted ≡ false)
    → (past : Past) (key wanted : Key) → stands start past key 0 wanted ≡ false
unfolding stands
none_under_zero start at_first [] key wanted = at_first key wanted
none_under_zero start at_first (e ∷ past) key wanted =
    rw (none_under_zero start at_first past key wanted, zero_after (maker start past e.call) e key wanted)
    (either (is_among key (put_out start past e.call e.answer)) false)

-- from the empty room
pub none_under_zero_from_empty : (sizes : Sizes) (past : Past) (key wanted : Key) → stands (from_empty sizes) past key 0 wanted ≡ false
none_under_zero_from_empty sizes = none_under_zero (from_empty sizes) (λ key wanted. refl)

-- and where the room's tables say what has happened
pub tied_none_under_zero : (start : Start) (past : Past) (room : Room) → Tied start past room → (key wanted : Key) → stands start past key 0 wanted ≡ false
unfolding route_at route_to
tied_none_under_zero start past room tie key wanted = tie.requests key 0 wanted

-- ---- every moment of every history, from the empty room

module _ (sizes : Sizes) (calls : List Call) (before after : List Event) (t : happens sizes calls ≡ before ++ after) where
  pub one_seat_from_empty : (key : Key) (seat other : ℕ) → sitter (from_empty sizes) (past_after [] before) seat ≡ client_of key
      → sitter (from_empty sizes) (past_after [] before) other ≡ client_of key → seat ≡ other
  one_seat_from_empty =
      moment_from_empty sizes
      (λ past. (key : Key) (seat other : ℕ) → sitter (from_empty sizes) past seat ≡ client_of key → sitter (from_empty sizes) past other ≡ client_of key → seat ≡ other)
      (one_seat sizes (from_empty sizes)) calls before after t

  pub connected_differ_from_empty : (seat number other number' : ℕ) (c : Connected (from_empty sizes) (past_after [] before) seat number other number')
      → c.key ≢ c.wanted
  connected_differ_from_empty =
      moment_from_empty sizes (λ past. (seat number other number' : ℕ) (c : Connected (from_empty sizes) past seat number other number') → c.key ≢ c.wanted)
      (connected_differ sizes (from_empty sizes)) calls before after t

  pub asked_or_not_from_empty : (key wanted : Key) → Asked (from_empty sizes) (past_after [] before) key wanted
  asked_or_not_from_empty =
      moment_from_empty sizes (λ past. (key wanted : Key) → Asked (from_empty sizes) past key wanted) (asked_or_not sizes (from_empty sizes)) calls before after t
