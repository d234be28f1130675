-- What has happened and the room's tables say the same, after every history: who sits where, which requests stand, the clock and the pings. Each call keeps
-- it, since it changes the tables just as its answer and what it sent tell. From the empty room, and from any whole room with a start that says what its
-- tables say. Assumes nothing.
use mathlib.Core.Path.{◌≡◌, refl, sym, ap, ◌∙◌}
use mathlib.Core.Bool.{Bool, true, false, ◌&&◌, not, cond, false≢true, and-false}
use mathlib.Core.List.{List, [], ◌∷◌}
use Prim.Native.Nat.{ℕ, zero, suc, ◌-◌}
use native.Mathlib.Omega.{arith}
use lib.Dec.{eqb, ltb}
use lib.ListN.{get_or, set, length, length-set, length-replicate}
use lib.Seq.{set-get_or}
use borrow.Author.Tests.{eqb-true, eqb-false, ne_eqb, not-true}
use Rattle.key.specs.Keys.{same_key}
use Rattle.key.proofs.Same.{same_refl, same_sound}
use Rattle.refusal.specs.declared.Refusal.{Refusal}
use Rattle.refusal.specs.declared.Refusal.TheVariants.{RoomFull}
use Rattle.packet_laws.specs.Read.{Read}
use Rattle.packet_laws.specs.Read as read
use Rattle.packet_laws.specs.FromClient as client
use Rattle.packet_laws.specs.FromRelay as relay
use Rattle.packet_laws.proofs.ReadBounds.{request_key_long}
use Rattle.rules.specs.Room.{Sizes, Key, Route, free, wants, Ping, Held, Seat, vacant, holds, Room, none_since, set_key, set_ping, set_route, set_seats, set_seat, empty_room, Found, none, at, find, seat_of, is_vacant, route_to, is_free, ping_in, seat_at, route_at, first_number, number_of_place, Peer, alone, joined}
use Rattle.rules.specs.Whole.{Whole}
use Rattle.rules.specs.Call.{Call, arrive, leave, packet_call, tick, refused}
use Rattle.rules.specs.Outcome.{with_route, without_ping, apply, apply_all, refuse, accept, to, Outcome, room_after, peer, leave_from, take_seat, request_at, drop_at, oob_to, carry_to, data_at, pong_at, act, act_on, packet_from, tick_at, outcome}
use Rattle.rules.specs.History.{event, transcript}
use Rattle.rules.specs.Transcript.{Past, Maker, nobody, client_of, Start, from_empty, is_accepted, clock_after, clock_of, ping_after_arrival, ping_after_packet, ping_after, ping_of, put_out_if, put_out, is_among, sits_after_arrival, sits_after, sitter, maker, number_answered, stands_after_packet, stands_after_own, stands_after, stands}
use Rattle.rules.specs.After.{room_after_all, past_after, client_in, routes_in, routes_by, Tied, start_of}
use Rattle.rules.proofs.FindLaws.{route_to_wants, find_hit, find_within, find_replicate, get_d_all, held_of, seat_set, seat_set_other, held_within, free_not_to, route_none, route_at_place, wanted_high, route_set_other, route_set, route_freed}
use Rattle.rules.proofs.Whole.{whole_after, whole_empty}
use Rattle.rules.proofs.ComesBack.{arrives_new}
use Rattle.rules.proofs.SeatSet.{seat_put, client_set, client_kept, routes_else, routes_mine, routes_put, routes_left}
use Rattle.rules.proofs.TiedArrival.{tied_new, tied_back}
use Rattle.rules.proofs.TiedTick.{tied_tick}
use Rattle.rules.proofs.AnswerLaws.{zero_answered, place_answered}

-- ---- tests

pub either : {A : Type 0} (t : Bool) (x : A) → cond t x x ≡ x
either true x = refl
either false x = refl

-- what already holds is not changed by a test that holds only then
absorb : (t b : Bool) → (t ≡ true → b ≡ true) → cond t true b ≡ b
absorb true b h = sym (h refl)
absorb false b h = refl

itself : (t : Bool) → cond t true false ≡ t
itself true = refl
itself false = refl

pub both_true : (a b : Bool) → (a && b) ≡ true → (a ≡ true) × (b ≡ true)
both_true true b h = (refl, h)
both_true false b h = absurd (false≢true h)

-- a test that is made in one place alone
cond_and : {A : Type 0} (a b : Bool) (x y : A) → cond (a && b) x y ≡ cond b (cond a x y) y
cond_and true true x y = refl
cond_and true false x y = refl
cond_and false true x y = refl
cond_and false false x y = refl

-- ---- a refusal

-- no number is read off a refusal: 0 is none
none_answered : (number : ℕ) (t : Bool) → ((not (eqb number 0) && eqb 0 number) && t) ≡ false
none_answered zero t = refl
none_answered (suc number) t = rw (ne_eqb (suc number) 0 (λ e. omega arith), ne_eqb 0 (suc number) (λ e. omega arith))

module _ (why : Refusal) where
  -- a refused call that sent nothing leaves who sits where
  refused_sits : (call : Call) (here : ℕ) (ping : Ping) (before : Maker) → sits_after call (refused why) here ping before ≡ before
  unfolding sits_after sits_after_arrival is_accepted
  refused_sits (arrive key) here ping before = refl
  refused_sits (leave seat) here ping before = refl
  refused_sits (packet_call seat bytes) here ping before = refl
  refused_sits (tick time number) here ping before = refl

  -- the clock, each ping, and nobody is put out
  refused_clock : (call : Call) (before : ℕ) → clock_after call (refused why) before ≡ before
  unfolding clock_after is_accepted
  refused_clock (arrive key) before = refl
  refused_clock (leave seat) before = refl
  refused_clock (packet_call seat bytes) before = refl
  refused_clock (tick time number) before = refl

  refused_ping : (call : Call) (clock here : ℕ) (who : Maker) (before : Ping) → ping_after call (refused why) [] clock here who before ≡ before
  unfolding ping_after ping_after_arrival is_accepted
  refused_ping (arrive key) clock here who before = refl
  refused_ping (leave seat) clock here who before = refl
  refused_ping (packet_call seat bytes) clock here who before = refl
  refused_ping (tick time number) clock here who before = refl

  pub refused_puts_out : (start : Start) (past : Past) (call : Call) → put_out start past call (refused why) ≡ []
  unfolding put_out put_out_if is_accepted
  refused_puts_out start past (arrive key) = refl
  refused_puts_out start past (leave seat) = refl
  refused_puts_out start past (packet_call seat bytes) = refl
  refused_puts_out start past (tick time number) = refl

  -- and which requests stand
  refused_packet : (r : Read client.FromClient) (number : ℕ) (wanted : Key) (before : Bool) → stands_after_packet r (refused why) [] number wanted before ≡ before
  unfolding stands_after_packet number_answered is_accepted
  refused_packet (read.packet (client.routing_request key)) number wanted before = rw (none_answered number (same_key key wanted))
  refused_packet (read.packet (client.drop_route n)) number wanted before = refl
  refused_packet (read.packet (client.ping n)) number wanted before = refl
  refused_packet (read.packet (client.pong n)) number wanted before = refl
  refused_packet (read.packet (client.oob_send key bytes)) number wanted before = refl
  refused_packet (read.packet (client.routed_data n bytes)) number wanted before = refl
  refused_packet (read.refused other) number wanted before = refl

  refused_own : (call : Call) (number : ℕ) (wanted : Key) (before : Bool) → stands_after_own call (refused why) [] number wanted before ≡ before
  unfolding stands_after_own is_accepted
  refused_own (arrive key) number wanted before = refl
  refused_own (leave seat) number wanted before = refl
  refused_own (packet_call seat bytes) number wanted before = refused_packet (client.relay_read bytes) number wanted before
  refused_own (tick time ping) number wanted before = refl

  refused_stands : (m : Maker) (call : Call) (key : Key) (number : ℕ) (wanted : Key) (before : Bool)
      → stands_after m (record { call = call; answer = refused why; sent = [] }) key number wanted before ≡ before
  unfolding stands_after
  refused_stands nobody call key number wanted before = refl
  refused_stands (client_of k) call key number wanted before = rw (refused_own call number wanted before) (either (same_key k key) before)

  -- so it keeps the tie, whatever it was refused for
  pub tied_refused : (start : Start) (past : Past) (room : Room) → Tied start past room → (call : Call)
      → Tied start (record { call = call; answer = refused why; sent = [] } ∷ past) room
  unfolding sitter stands clock_of ping_of is_among
  tied_refused start past room tie call = record {
    seats = tie.seats;
    clock = refused_clock call (clock_of start past) ∙ tie.clock;
    pings = λ seat. refused_ping call (clock_of start past) seat (sitter start past seat) (ping_of start past seat) ∙ tie.pings seat;
    sits = λ seat. refused_sits call seat (ping_of start past seat) (sitter start past seat) ∙ tie.sits seat;
    requests = λ key number wanted.
        rw (refused_puts_out start past call)
        (refused_stands (maker start past call) call key number wanted (stands start past key number wanted) ∙ tie.requests key number wanted);
  }

-- ---- each call

module _ (sizes : Sizes) (start : Start) (past : Past) (room : Room) (whole : Whole sizes room) (tie : Tied start past room) where
  -- an outcome of a call keeps the tie
  abbrev Keeps : Call → Outcome → Type 0
  Keeps call o = Tied start (record { call = call; answer = o.answer; sent = o.sent } ∷ past) (room_after sizes room o)

  tied_arrive : (key : Key) (seated lowest : Found) → find (seat_of key) room.seats ≡ seated → find is_vacant room.seats ≡ lowest
      → Keeps (arrive key) (outcome room (arrive key))
  unfolding take_seat refuse room_after apply_all
  tied_arrive key none none h l = rw (arrives_new room key h, l) (tied_refused RoomFull start past room tie (arrive key))
  tied_arrive key none (at place) h l = tied_new sizes start past room whole tie key h place l
  tied_arrive key (at seat) lowest h l = tied_back sizes start past room whole tie key seat h

  -- a Leave or a packet from an empty seat is nobody's
  module _ (seat : ℕ) (empty : seat_at room seat ≡ vacant) where
    by_nobody : sitter start past seat ≡ nobody
    unfolding client_in
    by_nobody = tie.sits seat ∙ ap client_in empty

    tied_no_leave : Keeps (leave seat) (leave_from vacant room seat)
    unfolding room_after apply_all leave_from refuse sitter sits_after is_accepted stands stands_after maker put_out is_among clock_of clock_after ping_of ping_after
    tied_no_leave = record { seats = tie.seats; clock = tie.clock; pings = tie.pings; sits = tie.sits; requests = λ k number wanted. rw by_nobody (tie.requests k number wanted) }

    tied_no_packet : (bytes : List ℕ) → Keeps (packet_call seat bytes) (packet_from vacant room seat bytes)
    unfolding room_after apply_all packet_from refuse sitter sits_after is_accepted stands stands_after maker put_out is_among clock_of clock_after ping_of ping_after
    tied_no_packet bytes = record { seats = tie.seats; clock = tie.clock; pings = tie.pings; sits = tie.sits; requests = λ k number wanted. rw by_nobody (tie.requests k number wanted) }

  module _ (seat : ℕ) (held : Held) (sits : seat_at room seat ≡ holds held) where
    pub sitter_is : sitter start past seat ≡ client_of held.key
    unfolding client_in
    sitter_is = tie.sits seat ∙ ap client_in sits

    -- what stands of its own
    pub tied_here : (number : ℕ) (wanted : Key) → stands start past held.key number wanted ≡ route_to wanted (route_at held.routes number)
    tied_here number wanted = tie.requests held.key number wanted ∙ ap (λ (t : List Route). route_to wanted (route_at t number)) (routes_mine sizes room whole seat held sits)

    tied_leave : Keeps (leave seat) (leave_from (holds held) room seat)
    unfolding room_after apply_all apply leave_from accept sitter sits_after is_accepted stands stands_after stands_after_own maker client_in seat_of route_to put_out is_among clock_of clock_after ping_of ping_after ping_in
    tied_leave = record {
      seats = tie.seats ∙ sym (length-set room.seats seat vacant);
      clock = tie.clock;
      pings = λ here. ap (cond (eqb seat here) (none_since 0)) (tie.pings here) ∙ sym (seat_put room seat vacant (held_within room seat held sits) ping_in here);
      sits = λ here. ap (cond (eqb seat here) nobody) (tie.sits here) ∙ sym (client_set room seat vacant (held_within room seat held sits) here);
      requests = λ k number wanted. rw sitter_is (on k number wanted (same_key held.key k) refl);
    }
      where
        on : (k : Key) (number : ℕ) (wanted : Key) (t : Bool) → same_key held.key k ≡ t
            → cond t false (stands start past k number wanted) ≡ route_to wanted (route_at (routes_by (set_seat room seat vacant) k) number)
        on k number wanted true q = rw (← (same_sound held.key k q), routes_left sizes room whole seat held sits, route_none number)
        on k number wanted false q = rw (tie.requests k number wanted, routes_else room seat vacant k (rw sits q) refl)

    -- a packet of its own
    module _ (bytes : List ℕ) (r : Read client.FromClient) (e : client.relay_read bytes ≡ r) (o : Outcome) where
      -- where its seat holds `held'` then
      keeps_with : (held' : Held) → held'.key ≡ held.key → room_after sizes room o ≡ set_seat room seat (holds held')
          → ((number : ℕ) (wanted : Key) → stands_after_packet r o.answer o.sent number wanted (route_to wanted (route_at held.routes number))
          ≡ route_to wanted (route_at held'.routes number))
          → cond (is_accepted o.answer) (ping_after_packet r held.ping) held.ping ≡ held'.ping
          → Keeps (packet_call seat bytes) o
      unfolding sitter sits_after stands stands_after stands_after_own maker seat_of put_out is_among clock_of clock_after ping_of ping_after ping_in
      keeps_with held' same after own answered = record {
        seats = tie.seats ∙ sym (ap (λ (x : Room). length x.seats) after ∙ length-set room.seats seat (holds held'));
        clock = tie.clock ∙ sym (ap (λ (x : Room). x.clock) after);
        pings = λ here. rw (after, e, tie.pings here) (cond_and (is_accepted o.answer) (eqb seat here) _ _ ∙ ping_on here (eqb seat here) refl);
        sits = λ here. tie.sits here ∙ sym (ap (λ (r : Room). client_in (seat_at r here)) after ∙ client_kept room seat held held' same sits here);
        requests = λ k number wanted. rw (sitter_is, after, e) (on k number wanted (same_key held.key k) refl);
      }
        where
          ping_on : (here : ℕ) (t : Bool) → eqb seat here ≡ t
              → cond t (cond (is_accepted o.answer) (ping_after_packet r (ping_in (seat_at room here))) (ping_in (seat_at room here))) (ping_in (seat_at room here))
              ≡ ping_in (seat_at (set_seat room seat (holds held')) here)
          ping_on here true q = rw (← (eqb-true seat here q), sits, seat_set room seat (holds held') (held_within room seat held sits)) answered
          ping_on here false q = ap ping_in (sym (seat_set_other room seat (holds held') here (λ z. eqb-false seat here q (sym z))))

          on : (k : Key) (number : ℕ) (wanted : Key) (t : Bool) → same_key held.key k ≡ t
              → cond t (stands_after_packet r o.answer o.sent number wanted (stands start past k number wanted)) (stands start past k number wanted)
              ≡ route_to wanted (route_at (routes_by (set_seat room seat (holds held')) k) number)
          on k number wanted true q = rw (← (same_sound held.key k q), tied_here number wanted, routes_put sizes room whole seat held sits held' same) (own number wanted)
          on k number wanted false q = rw (tie.requests k number wanted, routes_else room seat (holds held') k (rw sits q) (rw same q))

      -- where nothing changes
      keeps_same : room_after sizes room o ≡ room
          → ((number : ℕ) (wanted : Key) → stands_after_packet r o.answer o.sent number wanted (route_to wanted (route_at held.routes number)) ≡ route_to wanted (route_at held.routes number))
          → cond (is_accepted o.answer) (ping_after_packet r held.ping) held.ping ≡ held.ping
          → Keeps (packet_call seat bytes) o
      unfolding seat_at
      keeps_same after own answered = keeps_with held refl (after ∙ ap (set_seats room) (sym (set-get_or room.seats seat vacant)) ∙ ap (set_seat room seat) sits) own answered

    -- a request
    module _ (bytes : List ℕ) (wanted : Key) (e : client.relay_read bytes ≡ read.packet (client.routing_request wanted)) where
      long : length wanted ≡ 32
      long = request_key_long bytes wanted e

      -- the number answered, as the test has it
      abbrev Asked : ℕ → ℕ → Key → Bool
      Asked answered number w = (not (eqb number 0) && eqb answered number) && same_key wanted w

      -- an answer of 0 that changes nothing
      tied_zero : (o : Outcome) → room_after sizes room o ≡ room → o.sent ≡ to seat (relay.routing_response 0 wanted) ∷ [] → Keeps (packet_call seat bytes) o
      unfolding stands_after_packet ping_after_packet
      tied_zero o after s =
          keeps_same bytes _ e o after (λ number w. rw (s, zero_answered seat wanted long []) (absorb (Asked 0 number w) _ (on number w)))
          (either (is_accepted o.answer) held.ping)
        where
          on : (number : ℕ) (w : Key) → Asked 0 number w ≡ true → route_to w (route_at held.routes number) ≡ true
          on number w t =
              let a = both_true (not (eqb number 0) && eqb 0 number) (same_key wanted w) t in
              let b = both_true (not (eqb number 0)) (eqb 0 number) a.0 in
              absurd (eqb-false number 0 (not-true (eqb number 0) b.0) (sym (eqb-true 0 number b.1)))

      tied_request : (own : Bool) (old lowest : Found) → find (route_to wanted) held.routes ≡ old → find is_free held.routes ≡ lowest
          → Keeps (packet_call seat bytes) (request_at own old lowest room seat held.key wanted)
      unfolding room_after apply_all apply with_route request_at accept stands_after_packet route_to is_accepted ping_after_packet
      tied_request true old lowest hf hg = tied_zero (request_at true old lowest room seat held.key wanted) refl refl
      tied_request false (at place) lowest hf hg =
          keeps_same bytes _ e (request_at false (at place) lowest room seat held.key wanted) refl
          (λ number w. rw (place_answered seat wanted long [] place) (absorb (Asked (number_of_place place) number w) _ (on number w))) refl
        where
          on : (number : ℕ) (w : Key) → Asked (number_of_place place) number w ≡ true → route_to w (route_at held.routes number) ≡ true
          on number w t =
              let a = both_true (not (eqb number 0) && eqb (number_of_place place) number) (same_key wanted w) t in
              let b = both_true (not (eqb number 0)) (eqb (number_of_place place) number) a.0 in
              rw (← (eqb-true (number_of_place place) number b.1), ← (same_sound wanted w a.1), route_at_place held.routes place) (find_hit (route_to wanted) free held.routes place hf)
      tied_request false none none hf hg = tied_zero (request_at false none none room seat held.key wanted) refl refl
      tied_request false none (at place) hf hg =
          keeps_with bytes _ e (request_at false none (at place) room seat held.key wanted) (set_route held place (wants wanted)) refl (rw sits)
          (λ number w. rw (place_answered seat wanted long _ place) (on number w (eqb (number_of_place place) number) refl)) refl
        where
          on : (number : ℕ) (w : Key) (t : Bool) → eqb (number_of_place place) number ≡ t
              → cond ((not (eqb number 0) && t) && same_key wanted w) true (route_to w (route_at held.routes number)) ≡ route_to w (route_at (set held.routes place (wants wanted)) number)
          on number w true q =
              rw (
                ← (eqb-true (number_of_place place) number q),
                ne_eqb (number_of_place place) 0 (λ z. omega arith),
                route_at_place held.routes place,
                free_not_to w (get_or held.routes place free) (find_hit is_free free held.routes place hg),
                route_set held.routes place (wants wanted) (find_within is_free held.routes place hg),
              ) (itself (same_key wanted w))
          on number w false q = rw (and-false (not (eqb number 0)), route_set_other held.routes place (wants wanted) number (λ z. eqb-false (number_of_place place) number q (sym z)))

    -- a drop
    tied_drop : (bytes : List ℕ) (number : ℕ) → client.relay_read bytes ≡ read.packet (client.drop_route number)
        → (route : Route) → route_at held.routes number ≡ route → Keeps (packet_call seat bytes) (drop_at route room seat held.key number)
    unfolding room_after apply_all apply with_route drop_at accept refuse stands_after_packet is_accepted route_to ping_after_packet
    tied_drop bytes number e free h = keeps_same bytes _ e (drop_at free room seat held.key number) refl (λ n w. refl) refl
    tied_drop bytes number e (wants wanted) h =
        keeps_with bytes _ e (drop_at (wants wanted) room seat held.key number) (set_route held (number - first_number) free) refl (rw sits) (λ n w. on n w (eqb number n) refl) refl
      where
        place : number ≡ number_of_place (number - first_number)
        place = wanted_high held.routes number wanted h

        on : (n : ℕ) (w : Key) (t : Bool) → eqb number n ≡ t → cond t false (route_to w (route_at held.routes n)) ≡ route_to w (route_at (set held.routes (number - first_number) free) n)
        on n w true q =
            sym (ap (λ (x : ℕ). route_to w (route_at (set held.routes (number - first_number) free) x)) (sym (eqb-true number n q) ∙ place) ∙ ap (route_to w) (route_freed held.routes (number - first_number)))
        on n w false q = sym (ap (route_to w) (route_set_other held.routes (number - first_number) free n (λ z. eqb-false number n q (place ∙ sym z))))

    -- the packets that change nothing
    tied_oob : (bytes : List ℕ) (wanted : Key) (payload : List ℕ) → client.relay_read bytes ≡ read.packet (client.oob_send wanted payload)
        → (other : Found) → Keeps (packet_call seat bytes) (oob_to other seat held.key payload)
    unfolding room_after apply_all oob_to accept stands_after_packet is_accepted ping_after_packet
    tied_oob bytes wanted payload e none = keeps_same bytes _ e (oob_to none seat held.key payload) refl (λ n w. refl) refl
    tied_oob bytes wanted payload e (at other) = keeps_same bytes _ e (oob_to (at other) seat held.key payload) refl (λ n w. refl) refl

    module _ (bytes : List ℕ) (number : ℕ) (payload : List ℕ) (e : client.relay_read bytes ≡ read.packet (client.routed_data number payload)) where
      tied_carry : (p : Peer) → Keeps (packet_call seat bytes) (carry_to p seat payload)
      unfolding room_after apply_all carry_to accept refuse stands_after_packet is_accepted ping_after_packet
      tied_carry alone = keeps_same bytes _ e (carry_to alone seat payload) refl (λ n w. refl) refl
      tied_carry (joined other place) = keeps_same bytes _ e (carry_to (joined other place) seat payload) refl (λ n w. refl) refl

      tied_data : (route : Route) → Keeps (packet_call seat bytes) (data_at route room seat held.key payload)
      unfolding room_after apply_all data_at refuse stands_after_packet is_accepted ping_after_packet
      tied_data free = keeps_same bytes _ e (data_at free room seat held.key payload) refl (λ n w. refl) refl
      tied_data (wants wanted) = tied_carry (peer room seat held.key wanted)

    -- a pong
    tied_pong : (bytes : List ℕ) (n : ℕ) → client.relay_read bytes ≡ read.packet (client.pong n) → (t : Bool) → eqb n held.ping.number ≡ t
        → Keeps (packet_call seat bytes) (pong_at t seat)
    unfolding room_after apply_all apply without_ping pong_at accept stands_after_packet is_accepted ping_after_packet
    tied_pong bytes n e true h = keeps_with bytes _ e (pong_at true seat) (set_ping held (none_since held.ping.time)) refl (rw sits) (λ n w. refl) (rw h)
    tied_pong bytes n e false h = keeps_same bytes _ e (pong_at false seat) refl (λ n w. refl) (rw h)

    tied_act : (bytes : List ℕ) (p : client.FromClient) → client.relay_read bytes ≡ read.packet p → Keeps (packet_call seat bytes) (act p room seat held)
    unfolding room_after apply_all act accept stands_after_packet is_accepted ping_after_packet
    tied_act bytes (client.routing_request wanted) e =
        tied_request bytes wanted e (same_key wanted held.key) (find (route_to wanted) held.routes) (find is_free held.routes) refl refl
    tied_act bytes (client.drop_route number) e = tied_drop bytes number e (route_at held.routes number) refl
    tied_act bytes (client.ping n) e = keeps_same bytes _ e (act (client.ping n) room seat held) refl (λ n w. refl) refl
    tied_act bytes (client.pong n) e = tied_pong bytes n e (eqb n held.ping.number) refl
    tied_act bytes (client.oob_send wanted payload) e = tied_oob bytes wanted payload e (find (seat_of wanted) room.seats)
    tied_act bytes (client.routed_data number payload) e = tied_data bytes number payload e (route_at held.routes number)

    tied_read : (bytes : List ℕ) (r : Read client.FromClient) → client.relay_read bytes ≡ r → Keeps (packet_call seat bytes) (act_on r room seat held)
    unfolding room_after apply_all act_on refuse stands_after_packet is_accepted ping_after_packet
    tied_read bytes (read.packet p) e = tied_act bytes p e
    tied_read bytes (read.refused why) e = keeps_same bytes _ e (act_on (read.refused why) room seat held) refl (λ n w. refl) refl

  tied_leave_from : (seat : ℕ) (s : Seat) → seat_at room seat ≡ s → Keeps (leave seat) (leave_from s room seat)
  tied_leave_from seat vacant e = tied_no_leave seat e
  tied_leave_from seat (holds held) e = tied_leave seat held e

  tied_packet : (seat : ℕ) (bytes : List ℕ) (s : Seat) → seat_at room seat ≡ s → Keeps (packet_call seat bytes) (packet_from s room seat bytes)
  unfolding packet_from
  tied_packet seat bytes vacant e = tied_no_packet seat e bytes
  tied_packet seat bytes (holds held) e = tied_read seat held e bytes (client.relay_read bytes) refl

  tied_tick_at : (zero back : Bool) (time number : ℕ) → Keeps (tick time number) (tick_at zero back room time number)
  unfolding room_after apply_all tick_at refuse sitter sits_after is_accepted stands stands_after maker put_out put_out_if is_among clock_of clock_after ping_of ping_after
  tied_tick_at true back time number = record { seats = tie.seats; clock = tie.clock; pings = tie.pings; sits = tie.sits; requests = tie.requests }
  tied_tick_at false true time number = record { seats = tie.seats; clock = tie.clock; pings = tie.pings; sits = tie.sits; requests = tie.requests }
  tied_tick_at false false time number = tied_tick sizes start past room whole tie time number

  -- every call keeps the tie
  pub tied_after : (call : Call) → Tied start (event room call ∷ past) (room_after sizes room (outcome room call))
  unfolding event outcome
  tied_after (arrive key) = tied_arrive key (find (seat_of key) room.seats) (find is_vacant room.seats) refl refl
  tied_after (leave seat) = tied_leave_from seat (seat_at room seat) refl
  tied_after (packet_call seat bytes) = tied_packet seat bytes (seat_at room seat) refl
  tied_after (tick time number) = tied_tick_at (eqb number 0) (ltb time room.clock) time number

-- ---- what the tie tells

module _ (sizes : Sizes) (start : Start) (past : Past) (room : Room) (whole : Whole sizes room) (tie : Tied start past room) where
  -- a client that sits there is in the table
  pub seat_holds : (seat : ℕ) (key : Key) → sitter start past seat ≡ client_of key → seat_at room seat ≡ holds (set_key (held_of (seat_at room seat)) key)
  unfolding client_in
  seat_holds seat key e = go (seat_at room seat) (sym (tie.sits seat) ∙ e)
    where
      go : (s : Seat) → client_in s ≡ client_of key → s ≡ holds (set_key (held_of s) key)
      go vacant q = absurd (cc)
      go (holds held) q = let z : held.key ≡ key = cc in ap (λ (k : Key). holds (set_key held k)) z

  module _ (seat : ℕ) (held : Held) (sits : seat_at room seat ≡ holds held) where
    -- a request that stands is in the table, and the other way
    pub stands_wants : (number : ℕ) (wanted : Key) → stands start past held.key number wanted ≡ true → route_at held.routes number ≡ wants wanted
    stands_wants number wanted e = route_to_wants wanted _ (sym (tied_here sizes start past room whole tie seat held sits number wanted) ∙ e)

    pub wants_stands : (number : ℕ) (wanted : Key) → route_at held.routes number ≡ wants wanted → stands start past held.key number wanted ≡ true
    unfolding route_to
    wants_stands number wanted e = tied_here sizes start past room whole tie seat held sits number wanted ∙ rw e (same_refl wanted)

    pub free_stands : (number : ℕ) → route_at held.routes number ≡ free → (wanted : Key) → stands start past held.key number wanted ≡ false
    unfolding route_to
    free_stands number e wanted = tied_here sizes start past room whole tie seat held sits number wanted ∙ rw e

-- ---- every history

-- from a whole room on, with a past that says what it says
pub tied_history : (sizes : Sizes) (start : Start) (past : Past) (room : Room) → Whole sizes room → Tied start past room
    → (calls : List Call) → Tied start (past_after past (transcript sizes room calls)) (room_after_all sizes room calls)
unfolding room_after_all past_after transcript
tied_history sizes start past room whole tie [] = tie
tied_history sizes start past room whole tie (call ∷ calls) =
    tied_history sizes start (event room call ∷ past) (room_after sizes room (outcome room call)) (whole_after sizes room whole call)
    (tied_after sizes start past room whole tie call) calls

-- any room has a start that says what its tables say
pub tied_start : (room : Room) → Tied (start_of room) [] room
unfolding start_of sitter stands clock_of ping_of
tied_start room = record { seats = refl; clock = refl; pings = λ seat. refl; sits = λ seat. refl; requests = λ key number wanted. refl }

-- from the empty room
pub tied_empty : (sizes : Sizes) → Tied (from_empty sizes) [] (empty_room sizes)
unfolding empty_room sitter stands client_in routes_by routes_in seat_at seat_of route_to clock_of ping_of ping_in
tied_empty sizes = record {
  seats = sym (length-replicate sizes.seats vacant);
  clock = refl;
  pings = λ seat. rw (get_d_all sizes.seats seat vacant);
  sits = λ seat. rw (get_d_all sizes.seats seat vacant);
  requests = λ key number wanted. rw (find_replicate (seat_of key) sizes.seats vacant refl, route_none number);
}

pub tied_from_empty : (sizes : Sizes) (calls : List Call)
    → Tied (from_empty sizes) (past_after [] (transcript sizes (empty_room sizes) calls)) (room_after_all sizes (empty_room sizes) calls)
tied_from_empty sizes calls = tied_history sizes (from_empty sizes) [] (empty_room sizes) (whole_empty sizes) (tied_empty sizes) calls
