-- For every history, by what has happened alone: a seated client's ping sends it a pong with the same number, and nothing else; its pong sends nothing, and
-- clears the outstanding number if it bears it, and else does nothing; its out-of-band send goes to the seat of the client whose key it names, itself
-- included, with its own key put in, and nothing else is sent; where that key sits nowhere nothing is sent. All are accepted. Assumes nothing.
use mathlib.Core.Path.{◌≡◌, refl, sym, ap, ◌∙◌, subst}
use mathlib.Core.Bool.{Bool, true, false}
use mathlib.Core.List.{List, [], ◌∷◌, ◌++◌}
use Prim.Native.Nat.{ℕ}
use lib.Dec.{eqb}
use borrow.Author.Tests.{eq-eqb, ne_eqb}
use Rattle.key.specs.Keys.{same_key}
use Rattle.packet_laws.specs.Read as read
use Rattle.packet_laws.specs.FromClient as client
use Rattle.packet_laws.specs.FromRelay as relay
use Rattle.rules.specs.Room.{Sizes, Key, vacant, holds, Room, empty_room, Found, none, at, find, seat_of, seat_at, Held, set_key}
use Rattle.rules.specs.Whole.{Whole}
use Rattle.rules.specs.Call.{Call, packet_call}
use Rattle.rules.specs.Outcome.{accept, to, oob_to, pong_at, act, act_on, packet_from, outcome}
use Rattle.rules.specs.History.{Event, event, transcript}
use Rattle.rules.specs.Transcript.{Past, client_of, Start, from_empty, is_accepted, clock_after, clock_of, ping_after_packet, ping_after, ping_of, sits_after, sitter, put_out, is_among, maker, stands_after_packet, stands_after_own, stands_after, stands}
use Rattle.rules.specs.After.{past_after, client_in, Tied}
use Rattle.after_calls.specs.PingAndOutOfBand.{Accepted, PongDoes, OutOfBand, reaches, nowhere}
use Rattle.rules.proofs.FindLaws.{find_hit, seat_of_holds, held_of}
use Rattle.rules.proofs.Tied.{either, seat_holds, sitter_is}
use Rattle.rules.proofs.EachEvent.{from_empty_lem}
use Rattle.after_calls.proofs.Given.{sits_nowhere}

-- ---- one call

module _ (sizes : Sizes) (start : Start) (past : Past) (room : Room) (whole : Whole sizes room) (tie : Tied start past room) (seat : ℕ) (held : Held)
    (sits : seat_at room seat ≡ holds held) (bytes : List ℕ) where
  oob_found : (wanted : Key) (payload : List ℕ) (f : Found) → find (seat_of wanted) room.seats ≡ f
      → (is_accepted (oob_to f seat held.key payload).answer ≡ true) × OutOfBand start past held.key wanted payload (oob_to f seat held.key payload).sent
  unfolding oob_to accept is_accepted client_in seat_at
  oob_found wanted payload none h = (refl, nowhere (sits_nowhere sizes start past room whole tie wanted h) refl)
  oob_found wanted payload (at other) h =
      (refl, reaches other (tie.sits other ∙ ap client_in (seat_of_holds wanted (seat_at room other) (find_hit (seat_of wanted) vacant room.seats other h))) refl)

  pub ping_sends : (n : ℕ) → client.relay_read bytes ≡ read.packet (client.ping n) → Accepted (λ sent. sent ≡ to seat (relay.pong n) ∷ []) (event room (packet_call seat bytes))
  unfolding event outcome packet_from act_on act accept is_accepted
  ping_sends n e = rw (sits, e) (refl, refl)

  pub pong_sends : (n : ℕ) → client.relay_read bytes ≡ read.packet (client.pong n) → Accepted (λ sent. sent ≡ []) (event room (packet_call seat bytes))
  unfolding event outcome packet_from act_on act accept is_accepted pong_at
  pong_sends n e = rw (sits, e) (go (eqb n held.ping.number))
    where
      go : (t : Bool) → (is_accepted (pong_at t seat).answer ≡ true) × ((pong_at t seat).sent ≡ [])
      go true = (refl, refl)
      go false = (refl, refl)

  pub pong_does : (n : ℕ) → client.relay_read bytes ≡ read.packet (client.pong n) → PongDoes start past seat n (event room (packet_call seat bytes))
  unfolding event sitter sits_after clock_of clock_after ping_of ping_after ping_after_packet stands stands_after stands_after_own stands_after_packet put_out is_among maker
  pong_does n e =
      let heard : is_accepted (outcome room (packet_call seat bytes)).answer ≡ true = (pong_sends n e).0 in
      record {
        clears = λ q. rw (heard, eq-eqb seat seat refl, e, eq-eqb n (ping_of start past seat).number q);
        others = λ q. rw (heard, eq-eqb seat seat refl, e, ne_eqb n (ping_of start past seat).number q);
        elsewhere = λ other apart. rw (heard, ne_eqb seat other (λ q. apart (sym q)));
        clock = refl;
        seats = λ here. refl;
        requests = λ asker number wanted. rw (sitter_is sizes start past room whole tie seat held sits, e) (either (same_key held.key asker) (stands start past asker number wanted));
      }

  pub oob_sends : (wanted : Key) (payload : List ℕ) → client.relay_read bytes ≡ read.packet (client.oob_send wanted payload)
      → Accepted (OutOfBand start past held.key wanted payload) (event room (packet_call seat bytes))
  unfolding event outcome packet_from act_on act
  oob_sends wanted payload e = rw (sits, e) (oob_found wanted payload (find (seat_of wanted) room.seats) refl)

-- ---- every history, from the empty room

module _ (sizes : Sizes) (calls : List Call) (before : List Event) (e : Event) (later : List Event) (t : transcript sizes (empty_room sizes) calls ≡ before ++ (e ∷ later))
    (seat : ℕ) (bytes : List ℕ) (isPacket : e.call ≡ packet_call seat bytes) (key : Key) (by : sitter (from_empty sizes) (past_after [] before) seat ≡ client_of key) where
  -- what holds of each packet of a seated client
  of_each : (P : Past → Event → Type 0)
      → ((past : Past) (room : Room) → Whole sizes room → Tied (from_empty sizes) past room → (held : Held) → seat_at room seat ≡ holds (set_key held key) → P past (event room (packet_call seat bytes)))
      → P (past_after [] before) e
  unfolding event
  of_each P each =
      from_empty_lem sizes (λ past e. e.call ≡ packet_call seat bytes → sitter (from_empty sizes) past seat ≡ client_of key → P past e)
      (λ past room whole tie call c by.
      subst (λ (x : Call). P past (event room x)) (sym c) (each past room whole tie (held_of (seat_at room seat)) (seat_holds sizes (from_empty sizes) past room whole tie seat key by)))
      calls before e later t isPacket by

  pub ping_sends_from_empty : (n : ℕ) → client.relay_read bytes ≡ read.packet (client.ping n) → (is_accepted e.answer ≡ true) × (e.sent ≡ to seat (relay.pong n) ∷ [])
  ping_sends_from_empty n r =
      of_each (λ past e. (is_accepted e.answer ≡ true) × (e.sent ≡ to seat (relay.pong n) ∷ []))
      (λ past room whole tie held sits. ping_sends sizes (from_empty sizes) past room whole tie seat (set_key held key) sits bytes n r)

  pub pong_sends_from_empty : (n : ℕ) → client.relay_read bytes ≡ read.packet (client.pong n) → (is_accepted e.answer ≡ true) × (e.sent ≡ [])
  pong_sends_from_empty n r =
      of_each (λ past e. (is_accepted e.answer ≡ true) × (e.sent ≡ [])) (λ past room whole tie held sits. pong_sends sizes (from_empty sizes) past room whole tie seat (set_key held key) sits bytes n r)

  pub pong_does_from_empty : (n : ℕ) → client.relay_read bytes ≡ read.packet (client.pong n) → PongDoes (from_empty sizes) (past_after [] before) seat n e
  pong_does_from_empty n r =
      of_each (λ past e. PongDoes (from_empty sizes) past seat n e) (λ past room whole tie held sits. pong_does sizes (from_empty sizes) past room whole tie seat (set_key held key) sits bytes n r)

  pub oob_sends_from_empty : (wanted : Key) (payload : List ℕ) → client.relay_read bytes ≡ read.packet (client.oob_send wanted payload)
      → (is_accepted e.answer ≡ true) × OutOfBand (from_empty sizes) (past_after [] before) key wanted payload e.sent
  oob_sends_from_empty wanted payload r =
      of_each (λ past e. (is_accepted e.answer ≡ true) × OutOfBand (from_empty sizes) past key wanted payload e.sent)
      (λ past room whole tie held sits. oob_sends sizes (from_empty sizes) past room whole tie seat (set_key held key) sits bytes wanted payload r)
