-- Every outcome is a refusal or an acceptance: it answers a refusal, changes nothing and sends nothing, or it is accepted with the count of the bytes it sends.
-- "A refusal answers its number with 0 bytes written; room [..] as before the call." None is 2: "2 is retired". In every room, for every call. Assumes nothing.
use mathlib.Core.Path.{◌≡◌, refl, sym, ap, ◌∙◌}
use mathlib.Core.Bool.{Bool, true, false, true≢false}
use mathlib.Core.List.{List, [], ◌∷◌, ◌++◌}
use Prim.Native.Nat.{ℕ}
use lib.Dec.{eqb, ltb}
use lib.ListN.{set}
use Rattle.refusal.specs.declared.Refusal.{Refusal}
use Rattle.refusal.specs.Numbers.{is_retired}
use Rattle.refusal.specs.declared.Refusal.TheVariants.{RoomFull, NotSeated, ZeroPing, NoSuchRoute, NotConnected, ClockBack}
use Rattle.key.specs.Keys.{same_key}
use Rattle.packet_laws.specs.Read.{Read}
use Rattle.packet_laws.specs.Read as read
use Rattle.packet_laws.specs.FromClient as client
use Rattle.packet_laws.proofs.ReadBounds.{read_given}
use Rattle.rules.specs.Room.{Sizes, Key, Route, free, wants, Held, Seat, vacant, holds, Room, Found, none, at, find, seat_of, is_vacant, route_to, is_free, seat_at, route_at, Peer, alone, joined}
use Rattle.rules.specs.Call.{Call, arrive, leave, packet_call, tick}
use Rattle.rules.specs.Outcome.{seat_taken, apply_all, Outcome, refuse, accept, room_after, join_outcomes, followed_by, peer, leave_from, take_seat, arrive_from, request_at, drop_at, oob_to, carry_to, data_at, pong_at, act, act_on, packet_from, tick_from, tick_at, outcome}
use Rattle.rules.specs.History.{event, transcript}
use Rattle.rules.specs.Transcript.{is_accepted}
use Rattle.rules.specs.Accepted.{RefusedOrAccepted, MadeAt, refusal, acceptance, is_given, all_given}

made_at : (seat : ℕ) (o : Outcome) → MadeAt seat o → RefusedOrAccepted o
made_at seat o (refusal why given e) = refusal why given e
made_at seat o (acceptance changes sent e) = acceptance seat changes sent e

-- one after the other
followed_made : (first second : Outcome) → RefusedOrAccepted first → RefusedOrAccepted second → RefusedOrAccepted (followed_by first second)
unfolding join_outcomes refuse accept
followed_made first second (refusal why given e) m = refusal why given (rw e)
followed_made first second (acceptance seat changes sent e) (refusal why given e') = refusal why given (rw (e, e'))
followed_made first second (acceptance seat changes sent e) (acceptance seat' changes' sent' e') =
    acceptance seat' (changes ++ changes') (sent ++ sent') (rw (e, e'))

module _ (room : Room) where
  leave_made : (s : Seat) (seat : ℕ) → MadeAt seat (leave_from s room seat)
  unfolding leave_from
  leave_made vacant seat = refusal NotSeated refl refl
  leave_made (holds held) seat = acceptance _ _ refl

  take_made : (lowest : Found) (key : Key) → RefusedOrAccepted (take_seat lowest key)
  unfolding take_seat
  take_made none key = refusal RoomFull refl refl
  take_made (at seat) key = acceptance seat (seat_taken seat key ∷ []) [] refl

  arrive_made : (seated : Found) (key : Key) → RefusedOrAccepted (arrive_from seated room key)
  unfolding arrive_from
  arrive_made none key = take_made (find is_vacant room.seats) key
  arrive_made (at seat) key =
      followed_made _ _ (made_at seat _ (leave_made (seat_at room seat) seat)) (take_made (find is_vacant (set room.seats seat vacant)) key)

  request_made : (own : Bool) (old lowest : Found) (seat : ℕ) (key wanted : Key) → MadeAt seat (request_at own old lowest room seat key wanted)
  unfolding request_at
  request_made true old lowest seat key wanted = acceptance _ _ refl
  request_made false (at place) lowest seat key wanted = acceptance _ _ refl
  request_made false none none seat key wanted = acceptance _ _ refl
  request_made false none (at place) seat key wanted = acceptance _ _ refl

  drop_made : (route : Route) (seat : ℕ) (key : Key) (number : ℕ) → MadeAt seat (drop_at route room seat key number)
  unfolding drop_at
  drop_made free seat key number = refusal NoSuchRoute refl refl
  drop_made (wants wanted) seat key number = acceptance _ _ refl

  oob_made : (f : Found) (seat : ℕ) (key : Key) (bytes : List ℕ) → MadeAt seat (oob_to f seat key bytes)
  unfolding oob_to
  oob_made none seat key bytes = acceptance _ _ refl
  oob_made (at i) seat key bytes = acceptance _ _ refl

  carry_made : (p : Peer) (seat : ℕ) (bytes : List ℕ) → MadeAt seat (carry_to p seat bytes)
  unfolding carry_to
  carry_made alone seat bytes = refusal NotConnected refl refl
  carry_made (joined i place) seat bytes = acceptance _ _ refl

  data_made : (route : Route) (seat : ℕ) (key : Key) (bytes : List ℕ) → MadeAt seat (data_at route room seat key bytes)
  unfolding data_at
  data_made free seat key bytes = refusal NoSuchRoute refl refl
  data_made (wants wanted) seat key bytes = carry_made (peer room seat key wanted) seat bytes

  pong_made : (t : Bool) (seat : ℕ) → MadeAt seat (pong_at t seat)
  unfolding pong_at
  pong_made true seat = acceptance _ _ refl
  pong_made false seat = acceptance _ _ refl

  act_made : (r : Read client.FromClient) → ((why : Refusal) → r ≡ read.refused why → is_retired why ≡ false) → (seat : ℕ) (held : Held)
      → MadeAt seat (act_on r room seat held)
  unfolding act_on act
  act_made (read.packet (client.routing_request wanted)) given seat held =
      request_made (same_key wanted held.key) (find (route_to wanted) held.routes) (find is_free held.routes) seat held.key wanted
  act_made (read.packet (client.drop_route number)) given seat held = drop_made (route_at held.routes number) seat held.key number
  act_made (read.packet (client.ping n)) given seat held = acceptance _ _ refl
  act_made (read.packet (client.pong n)) given seat held = pong_made (eqb n held.ping.number) seat
  act_made (read.packet (client.oob_send wanted bytes)) given seat held = oob_made (find (seat_of wanted) room.seats) seat held.key bytes
  act_made (read.packet (client.routed_data number bytes)) given seat held = data_made (route_at held.routes number) seat held.key bytes
  act_made (read.refused why) given seat held = refusal why (given why refl) refl

  packet_made : (s : Seat) (seat : ℕ) (bytes : List ℕ) → MadeAt seat (packet_from s room seat bytes)
  unfolding packet_from
  packet_made vacant seat bytes = refusal NotSeated refl refl
  packet_made (holds held) seat bytes = act_made (client.relay_read bytes) (read_given bytes) seat held

  -- a tick that is accepted answers seat 0
  tick_made : (zero back : Bool) (time number : ℕ) → MadeAt 0 (tick_at zero back room time number)
  unfolding tick_at tick_from
  tick_made true back time number = refusal ZeroPing refl refl
  tick_made false true time number = refusal ClockBack refl refl
  tick_made false false time number = acceptance _ _ refl

  -- a Leave or a packet that is accepted answers its own seat
  pub leave_made_at : (seat : ℕ) → MadeAt seat (outcome room (leave seat))
  unfolding outcome
  leave_made_at seat = leave_made (seat_at room seat) seat

  pub packet_made_at : (seat : ℕ) (bytes : List ℕ) → MadeAt seat (outcome room (packet_call seat bytes))
  unfolding outcome
  packet_made_at seat bytes = packet_made (seat_at room seat) seat bytes

  pub tick_made_at : (time number : ℕ) → MadeAt 0 (outcome room (tick time number))
  unfolding outcome
  tick_made_at time number = tick_made (eqb number 0) (ltb time room.clock) time number

  pub outcome_made : (call : Call) → RefusedOrAccepted (outcome room call)
  unfolding outcome
  outcome_made (arrive key) = arrive_made (find (seat_of key) room.seats) key
  outcome_made (leave seat) = made_at seat (outcome room (leave seat)) (leave_made_at seat)
  outcome_made (packet_call seat bytes) = made_at seat (outcome room (packet_call seat bytes)) (packet_made_at seat bytes)
  outcome_made (tick time number) = made_at 0 (outcome room (tick time number)) (tick_made_at time number)

  -- so a refused call leaves the room as it was, and sends nothing
  pub refused_does_nothing : (sizes : Sizes) (call : Call) → is_accepted (outcome room call).answer ≡ false
      → (room_after sizes room (outcome room call) ≡ room) × ((outcome room call).sent ≡ [])
  unfolding refuse accept room_after apply_all is_accepted
  refused_does_nothing sizes call = go (outcome room call) (outcome_made call)
    where
      go : (o : Outcome) → RefusedOrAccepted o → is_accepted o.answer ≡ false → (room_after sizes room o ≡ room) × (o.sent ≡ [])
      go o (refusal why given e) h = rw e (refl, refl)
      go o (acceptance seat changes sent e) h = absurd (true≢false (sym (ap (λ (x : Outcome). is_accepted x.answer) e) ∙ h))

-- and is given no refusal that is retired
pub made_given : (o : Outcome) → RefusedOrAccepted o → is_given o.answer ≡ true
unfolding is_given refuse accept
made_given o (refusal why given e) = rw (e, given)
made_given o (acceptance seat changes sent e) = rw e

-- in any history, from any room on
pub history_given : (sizes : Sizes) (room : Room) (calls : List Call) → all_given (transcript sizes room calls) ≡ true
unfolding transcript event all_given
history_given sizes room [] = refl
history_given sizes room (call ∷ calls) =
    rw (made_given (outcome room call) (outcome_made room call)) (history_given sizes (room_after sizes room (outcome room call)) calls)
