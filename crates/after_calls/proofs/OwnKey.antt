-- For every history, by what has happened alone: nothing stands from a key for itself; a request is answered with 0 exactly where its key is the asker's own,
-- or none for its key stands and one stands under every number of its client's table; and a request of a client for its own key is accepted and answered with
-- 0, nobody else is told anything, and who sits where and which requests stand is as before. Assumes nothing.
use mathlib.Core.Path.{◌≡◌, refl, sym, ap, ◌∙◌, subst}
use mathlib.Core.Bool.{false, true≢false}
use mathlib.Core.List.{List, [], ◌∷◌, ◌++◌}
use mathlib.Core.Logic.{◌↔◌, ◌≢◌}
use Prim.Native.Nat.{ℕ}
use native.Mathlib.Omega.{arith}
use Rattle.key.proofs.Same.{same_refl, not_so}
use Rattle.packet_laws.specs.Read as read
use Rattle.packet_laws.specs.FromClient as client
use Rattle.packet_laws.specs.FromRelay as relay
use Rattle.rules.specs.Room.{Sizes, Key, Held, vacant, holds, set_key, Room, Found, none, at, find, seat_of, route_to, seat_at, route_at}
use Rattle.rules.specs.Whole.{Whole}
use Rattle.rules.specs.Call.{Call, packet_call, Sent}
use Rattle.rules.specs.Outcome.{answer_only, accept, to, apply_all, room_after, request_at, act, act_on, packet_from, outcome}
use Rattle.rules.specs.History.{Event, event, happens}
use Rattle.rules.specs.Transcript.{Past, client_of, Start, from_empty, sits_after, sitter, stands}
use Rattle.rules.specs.After.{past_after, routes_in, routes_by, Tied}
use Rattle.after_calls.specs.Given.{NoneFree, Numbered, own_key, old_number, none_free, lowest_free}
use Rattle.after_calls.specs.OwnKey.{NoneForItself, ZeroGround, its_own, table_full, OwnKey}
use Rattle.rules.proofs.FindLaws.{find_hit, routes_held, seat_of_holds, route_to_wants, route_none, held_of}
use Rattle.rules.proofs.Tied.{tied_after, seat_holds}
use Rattle.rules.proofs.EachEvent.{from_empty_lem, moment_from_empty}
use Rattle.after_calls.proofs.Given.{request_numbered}
use Rattle.after_calls.proofs.OneSeat.{tied_none_under_zero}

-- ---- the grounds for 0

module _ (sizes : Sizes) (start : Start) (past : Past) (key wanted : Key) (no_zero : stands start past key 0 wanted ≡ false) where
  -- of another's key a full table is the only one
  only_full : {A : Type 0} → wanted ≢ key → (NoneFree sizes start past key wanted → ⊥) → ZeroGround sizes start past key wanted → A
  only_full other notFull (its_own e) = absurd (other e)
  only_full other notFull (table_full f) = absurd (notFull f)

  numbered_zero : (number : ℕ) → Numbered sizes start past key wanted number → (number ≡ 0) ↔ ZeroGround sizes start past key wanted
  numbered_zero number (own_key e z) = (λ q. its_own e, λ q. z)
  numbered_zero number (old_number other t) = (
    λ z. absurd (true≢false (sym t ∙ ap (λ (n : ℕ). stands start past key n wanted) z ∙ no_zero)),
    only_full other (λ f. true≢false (sym t ∙ f.not_asked number)),
  )
  numbered_zero number (none_free other f z) = (λ q. table_full f, λ q. z)
  numbered_zero number (lowest_free other place new within is_free lower e) = (
    λ z. absurd (omega arith),
    only_full other (λ f. let k = f.full place within in true≢false (sym k.asked ∙ is_free k.wanted)),
  )

module _ (sizes : Sizes) (start : Start) (past : Past) (room : Room) (whole : Whole sizes room) (tie : Tied start past room) where
  -- ---- nothing stands from a key for itself: where the client sits, no route names its key

  pub none_for_itself : NoneForItself start past
  unfolding routes_by routes_in route_to seat_at
  none_for_itself key number = tie.requests key number key ∙ go (find (seat_of key) room.seats) refl
    where
      go : (f : Found) → find (seat_of key) room.seats ≡ f → route_to key (route_at (routes_in f room) number) ≡ false
      go none e = rw (route_none number)
      go (at seat) e =
          let here = seat_of_holds key (seat_at room seat) (find_hit (seat_of key) vacant room.seats seat e) in
          rw (routes_held (seat_at room seat))
          (not_so (λ h. whole.not_own seat (set_key (held_of (seat_at room seat)) key) here number (route_to_wants key _ h)))

  -- ---- a request of a seated client

  module _ (seat : ℕ) (key : Key) (by : sitter start past seat ≡ client_of key) where
    abbrev held : Held
    held = set_key (held_of (seat_at room seat)) key

    holder : seat_at room seat ≡ holds held
    holder = seat_holds sizes start past room whole tie seat key by

    pub zero_exactly : (wanted : Key) (bytes : List ℕ) → client.relay_read bytes ≡ read.packet (client.routing_request wanted) → (number : ℕ) (later : List Sent)
        → (event room (packet_call seat bytes)).sent ≡ to seat (relay.routing_response number wanted) ∷ later
        → (number ≡ 0) ↔ ZeroGround sizes start past key wanted
    zero_exactly wanted bytes asks number later s =
        numbered_zero sizes start past key wanted (tied_none_under_zero start past room tie key wanted) number
        (request_numbered sizes start past room whole tie seat held holder wanted bytes asks number later s)

    -- for its own key
    module _ (bytes : List ℕ) (asks : client.relay_read bytes ≡ read.packet (client.routing_request key)) where
      pub own_outcome : outcome room (packet_call seat bytes) ≡ answer_only seat 0 key
      unfolding outcome packet_from act_on act request_at
      own_outcome = rw (holder, asks, same_refl key)

      -- "no route is taken": the room is as before
      pub own_room_kept : room_after sizes room (outcome room (packet_call seat bytes)) ≡ room
      unfolding room_after accept apply_all
      own_room_kept = rw own_outcome

      pub own_key_lem : OwnKey start past seat key (event room (packet_call seat bytes))
      unfolding event accept sitter sits_after
      own_key_lem = record {
        answer = rw own_outcome;
        sent = rw own_outcome;
        seats = λ here. refl;
        requests = λ asker number wanted.
            (tied_after sizes start past room whole tie (packet_call seat bytes)).requests asker number wanted
            ∙ ap (λ (r : Room). route_to wanted (route_at (routes_by r asker) number)) own_room_kept
            ∙ sym (tie.requests asker number wanted);
      }

-- ---- every history, from the empty room

-- THE THEOREM, at each moment
pub none_for_itself_from_empty : (sizes : Sizes) (calls : List Call) (before after : List Event) → happens sizes calls ≡ before ++ after
    → NoneForItself (from_empty sizes) (past_after [] before)
none_for_itself_from_empty sizes = moment_from_empty sizes (NoneForItself (from_empty sizes)) (none_for_itself sizes (from_empty sizes))

module _ (sizes : Sizes) (calls : List Call) (before : List Event) (e : Event) (later : List Event) (t : happens sizes calls ≡ before ++ (e ∷ later))
    (seat : ℕ) (bytes : List ℕ) (key : Key) (c : e.call ≡ packet_call seat bytes) (by : sitter (from_empty sizes) (past_after [] before) seat ≡ client_of key) where
  -- the grounds for 0
  pub zero_exactly_from_empty : (wanted : Key) → client.relay_read bytes ≡ read.packet (client.routing_request wanted)
      → (number : ℕ) (sent : List Sent) → e.sent ≡ to seat (relay.routing_response number wanted) ∷ sent
      → (number ≡ 0) ↔ ZeroGround sizes (from_empty sizes) (past_after [] before) key wanted
  unfolding event
  zero_exactly_from_empty wanted r =
      from_empty_lem sizes (λ past e. e.call ≡ packet_call seat bytes → sitter (from_empty sizes) past seat ≡ client_of key → (number : ℕ) (sent : List Sent)
      → e.sent ≡ to seat (relay.routing_response number wanted) ∷ sent → (number ≡ 0) ↔ ZeroGround sizes (from_empty sizes) past key wanted)
      (λ past room whole tie call c by number sent s.
      zero_exactly sizes (from_empty sizes) past room whole tie seat key by wanted bytes r number sent (ap (λ (x : Call). (event room x).sent) (sym c) ∙ s))
      calls before e later t c by

  -- a request for the own key
  pub own_key_from_empty : client.relay_read bytes ≡ read.packet (client.routing_request key) → OwnKey (from_empty sizes) (past_after [] before) seat key e
  unfolding event
  own_key_from_empty r =
      from_empty_lem sizes (λ past e. e.call ≡ packet_call seat bytes → sitter (from_empty sizes) past seat ≡ client_of key → OwnKey (from_empty sizes) past seat key e)
      (λ past room whole tie call c by.
      subst (λ (x : Call). OwnKey (from_empty sizes) past seat key (event room x)) (sym c) (own_key_lem sizes (from_empty sizes) past room whole tie seat key by bytes r))
      calls before e later t c by
