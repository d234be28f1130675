-- What calls are answered, for every history, by what has happened alone. An arrival of a seated key is accepted: it takes the lowest seat that is empty once
-- its own is, and tells what a leave tells. Another gets 1 where every seat is taken, and else takes the lowest empty seat. A leave or a packet of a seat where
-- nobody sits gets 3; a leave of another seat is accepted, and a packet that the relay's reader refuses gets the reader's refusal. A request for the client's
-- own key gets 0; another the number under which one for its key stands; else 0 where a request stands under every number; else the lowest under which none
-- stands. A drop gets 8 where no request stands under its number, and else is accepted. The cases of each are all there are, and exclude each other. That a
-- refused call sends nothing is in `rules`, `RefusedOrAccepted.antt`. Assumes nothing.
use mathlib.Core.Path.{◌≡◌, refl, sym, ap, ◌∙◌, subst}
use mathlib.Core.Bool.{Bool, true, false, true≢false}
use mathlib.Core.List.{List, [], ◌∷◌, ◌++◌}
use mathlib.Core.Logic.{◌≢◌, ◌⊎◌, inl, inr}
use Prim.Native.Nat.{ℕ, ◌-◌, ◌<◌}
use native.Mathlib.Omega.{arith}
use lib.Dec.{eqb}
use lib.ListN.{get_or, set, length, length-set}
use lib.Seq.{get_or-set_other}
use borrow.Author.Tests.{eqb-true, eqb-false}
use Rattle.refusal.specs.declared.Refusal.{Refusal}
use Rattle.refusal.specs.declared.Refusal.TheVariants.{NotSeated}
use Rattle.key.specs.Keys.{same_key}
use Rattle.key.proofs.Same.{same_refl, same_sound, same_apart}
use Rattle.packet_laws.specs.Read as read
use Rattle.packet_laws.specs.FromClient as client
use Rattle.packet_laws.specs.FromRelay as relay
use Rattle.rules.specs.Room.{Sizes, Key, Route, free, wants, Seat, vacant, holds, Room, empty_room, Found, none, at, find, seat_of, is_vacant, route_to, is_free, seat_at, route_at, first_number, number_of_place, Held, set_key}
use Rattle.rules.specs.Whole.{Whole}
use Rattle.rules.specs.Call.{Call, arrive, leave, packet_call, accepted, refused, Sent}
use Rattle.rules.specs.Outcome.{refuse, sent_bytes, accept, to, Outcome, take_seat, leave_from, request_at, drop_at, act, act_on, packet_from, outcome}
use Rattle.rules.specs.History.{Event, event, transcript}
use Rattle.rules.specs.Transcript.{Past, nobody, client_of, Start, from_empty, is_accepted, sitter, stands}
use Rattle.rules.specs.After.{past_after, client_in, Tied}
use Rattle.after_calls.specs.Given.{ArriveAnswered, full, takes, returns, LeaveAnswered, empty, left, Taken, Numbered, own_key, old_number, none_free, lowest_free, DropAnswered, no_route, dropped}
use Rattle.rules.proofs.FindLaws.{set_default, find_hit, find_miss, find_within, find_before, find_none, route_to_wants, route_at_place, wanted_place, held_of}
use Rattle.after_calls.specs.Told.{LeaveTells}
use Rattle.after_calls.proofs.Told.{leave_tells}
use Rattle.rules.proofs.ComesBack.{arrives_new, new_sends_nothing, sits_there, some_empty, comes_back_to}
use Rattle.rules.proofs.Tied.{tied_here, seat_holds, sitter_is, wants_stands, free_stands}
use Rattle.rules.proofs.EachEvent.{from_empty_lem}

-- ---- one call

held_somebody : (s : Seat) → is_vacant s ≡ false → client_in s ≢ nobody
unfolding is_vacant client_in
held_somebody vacant h q = absurd (true≢false h)
held_somebody (holds held) h q = absurd (cc)

vacant_nobody : (s : Seat) → is_vacant s ≡ true → client_in s ≡ nobody
unfolding is_vacant client_in
vacant_nobody vacant h = refl
vacant_nobody (holds held) h = absurd (true≢false (sym h))

module _ (sizes : Sizes) (start : Start) (past : Past) (room : Room) (whole : Whole sizes room) (tie : Tied start past room) where
  -- an arrival
  module _ (key : Key) where
    pub sits_nowhere : find (seat_of key) room.seats ≡ none → (seat : ℕ) → sitter start past seat ≢ client_of key
    unfolding seat_of seat_at
    sits_nowhere e seat q =
        let there = seat_holds sizes start past room whole tie seat key q in
        true≢false (sym (ap (seat_of key) there ∙ same_refl key) ∙ find_miss (seat_of key) vacant room.seats refl e seat)

    taken : (seat : ℕ) → is_vacant (seat_at room seat) ≡ false → sitter start past seat ≢ nobody
    taken seat h q = held_somebody (seat_at room seat) h (sym (tie.sits seat) ∙ q)

    -- of a key that sits nowhere
    arrive_new : (lowest : Found) → find is_vacant room.seats ≡ lowest → find (seat_of key) room.seats ≡ none → ArriveAnswered sizes start past key (event room (arrive key))
    unfolding event take_seat refuse accept sent_bytes seat_at
    arrive_new none l h =
        full (sits_nowhere h) (λ seat within. taken seat (find_none is_vacant vacant room.seats l seat (let n = whole.seats in omega arith)))
        (ap (λ (o : Outcome). o.answer) (arrives_new room key h ∙ ap (λ (f : Found). take_seat f key) l)) (new_sends_nothing room key h)
    arrive_new (at seat) l h =
        takes seat (sits_nowhere h) (let n = whole.seats in let w = find_within is_vacant room.seats seat l in omega arith)
        (tie.sits seat ∙ vacant_nobody (seat_at room seat) (find_hit is_vacant vacant room.seats seat l))
        (λ lower less. taken lower (find_before is_vacant vacant room.seats seat l lower less))
        (ap (λ (o : Outcome). o.answer) (arrives_new room key h ∙ ap (λ (f : Found). take_seat f key) l)) (new_sends_nothing room key h)

    -- of a seated key
    module _ (old : ℕ) (found : find (seat_of key) room.seats ≡ at old) where
      abbrev low : ℕ
      low = (some_empty room key old found).place

      lowest : find is_vacant (set room.seats old vacant) ≡ at low
      lowest = (some_empty room key old found).lowest

      -- its own seat, or one that was empty
      low_empty : (t : Bool) → eqb low old ≡ t → (low ≡ old) ⊎ (sitter start past low ≡ nobody)
      unfolding seat_at
      low_empty true e = inl (eqb-true low old e)
      low_empty false e =
          inr (tie.sits low
          ∙ vacant_nobody (seat_at room low) (sym (ap is_vacant (get_or-set_other room.seats old low vacant vacant (eqb-false low old e))) ∙ find_hit is_vacant vacant (set room.seats old vacant) low lowest))

      -- each lower one is taken by another
      below : (lower : ℕ) → lower < low → (lower ≢ old) × (sitter start past lower ≢ nobody)
      unfolding seat_at is_vacant
      below lower less =
          let h = find_before is_vacant vacant (set room.seats old vacant) low lowest lower less in
          let apart : lower ≢ old =
          λ q. true≢false (sym (ap (λ (i : ℕ). is_vacant (get_or (set room.seats old vacant) i vacant)) q ∙ ap is_vacant (set_default room.seats old vacant)) ∙ h) in
          (apart, taken lower (sym (ap is_vacant (get_or-set_other room.seats old lower vacant vacant apart)) ∙ h))

      sent_as_leave : (event room (arrive key)).sent ≡ (event room (leave old)).sent
      unfolding event outcome leave_from accept
      sent_as_leave = ap (λ (o : Outcome). o.sent) (comes_back_to room key old found low lowest) ∙ rw (sits_there room key old found)

      counted : (event room (arrive key)).answer ≡ accepted low (length (sent_bytes (event room (arrive key)).sent))
      unfolding event accept
      counted =
          let q = comes_back_to room key old found low lowest in
          ap (λ (o : Outcome). o.answer) q ∙ sym (ap (λ (o : Outcome). accepted low (length (sent_bytes o.sent))) q)

      arrive_back : ArriveAnswered sizes start past key (event room (arrive key))
      unfolding event client_in accept
      arrive_back =
          returns old low (tie.sits old ∙ ap client_in (sits_there room key old found))
          (let n = whole.seats in let w = find_within is_vacant (set room.seats old vacant) low lowest in omega (arith, length-set room.seats old vacant))
          (low_empty (eqb low old) refl) below counted
          (subst (LeaveTells sizes start past old) (sym sent_as_leave) (leave_tells sizes start past room whole tie old))

    pub arrive_answered : ArriveAnswered sizes start past key (event room (arrive key))
    arrive_answered = go (find (seat_of key) room.seats) refl
      where
        go : (f : Found) → find (seat_of key) room.seats ≡ f → ArriveAnswered sizes start past key (event room (arrive key))
        go none h = arrive_new (find is_vacant room.seats) refl h
        go (at old) h = arrive_back old h

  module _ (seat : ℕ) where
    leave_seat : (s : Seat) → seat_at room seat ≡ s → LeaveAnswered start past seat (leave_from s room seat).answer
    unfolding leave_from refuse accept client_in is_accepted
    leave_seat vacant h = empty (tie.sits seat ∙ ap client_in h) refl
    leave_seat (holds held) h = left held.key (tie.sits seat ∙ ap client_in h) refl

    pub leave_answered : LeaveAnswered start past seat (event room (leave seat)).answer
    unfolding event outcome
    leave_answered = leave_seat (seat_at room seat) refl

    -- a packet that is nobody's
    nobodys : (bytes : List ℕ) (s : Seat) → client_in s ≡ nobody → (packet_from s room seat bytes).answer ≡ refused NotSeated
    unfolding packet_from refuse client_in
    nobodys bytes vacant h = refl
    nobodys bytes (holds held) h = absurd (cc)

    pub nobodys_packet : (bytes : List ℕ) → sitter start past seat ≡ nobody → (event room (packet_call seat bytes)).answer ≡ refused NotSeated
    unfolding event outcome
    nobodys_packet bytes q = nobodys bytes (seat_at room seat) (sym (tie.sits seat) ∙ q)

    -- a packet that the relay does not read
    pub unread_packet : (key : Key) → sitter start past seat ≡ client_of key → (bytes : List ℕ) (why : Refusal) → client.relay_read bytes ≡ read.refused why
        → (event room (packet_call seat bytes)).answer ≡ refused why
    unfolding event outcome packet_from act_on refuse
    unread_packet key by bytes why e = rw (seat_holds sizes start past room whole tie seat key by, e)

    -- a drop
    drop_route_lem : (held : Held) → seat_at room seat ≡ holds held → (number : ℕ) (route : Route) → route_at held.routes number ≡ route
        → DropAnswered start past seat number (drop_at route room seat held.key number).answer
    unfolding drop_at refuse accept is_accepted
    drop_route_lem held sits number free h =
        no_route (record { key = held.key; sits = sitter_is sizes start past room whole tie seat held sits; asked = free_stands sizes start past room whole tie seat held sits number h }) refl
    drop_route_lem held sits number (wants wanted) h =
        dropped held.key wanted (record { sits = sitter_is sizes start past room whole tie seat held sits; asked = wants_stands sizes start past room whole tie seat held sits number wanted h }) refl

    drop_seat : (number : ℕ) (bytes : List ℕ) → client.relay_read bytes ≡ read.packet (client.drop_route number) → (s : Seat) → seat_at room seat ≡ s
        → DropAnswered start past seat number (packet_from s room seat bytes).answer
    unfolding packet_from act_on act refuse client_in
    drop_seat number bytes e vacant h = empty (tie.sits seat ∙ ap client_in h) refl
    drop_seat number bytes e (holds held) h = rw e (drop_route_lem held h number (route_at held.routes number) refl)

    pub drop_answered : (number : ℕ) (bytes : List ℕ) → client.relay_read bytes ≡ read.packet (client.drop_route number) → DropAnswered start past seat number (event room (packet_call seat bytes)).answer
    unfolding event outcome
    drop_answered number bytes e = drop_seat number bytes e (seat_at room seat) refl

  -- a request
  module _ (seat : ℕ) (held : Held) (sits : seat_at room seat ≡ holds held) (wanted : Key) where
    not_asked_lem : find (route_to wanted) held.routes ≡ none → (n : ℕ) → stands start past held.key n wanted ≡ false
    unfolding route_to
    not_asked_lem h n = tied_here sizes start past room whole tie seat held sits n wanted ∙ go (route_at held.routes n) refl
      where
        go : (route : Route) → route_at held.routes n ≡ route → route_to wanted route ≡ false
        go free e = refl
        go (wants w) e =
            ap (route_to wanted) (sym (wanted_place held.routes n w e)) ∙ find_miss (route_to wanted) free held.routes refl h (n - first_number)

    not_free : (place : ℕ) → is_free (get_or held.routes place free) ≡ false → Taken start past held.key (number_of_place place)
    unfolding is_free
    not_free place h = go (get_or held.routes place free) refl h
      where
        go : (route : Route) → get_or held.routes place free ≡ route → is_free route ≡ false → Taken start past held.key (number_of_place place)
        go free e q = absurd (true≢false q)
        go (wants w) e q = record { wanted = w; asked = wants_stands sizes start past room whole tie seat held sits (number_of_place place) w (route_at_place held.routes place ∙ e) }

    is_free_lem : (place : ℕ) → is_free (get_or held.routes place free) ≡ true → (other : Key) → stands start past held.key (number_of_place place) other ≡ false
    unfolding is_free
    is_free_lem place h = go (get_or held.routes place free) refl h
      where
        go : (route : Route) → get_or held.routes place free ≡ route → is_free route ≡ true → (other : Key) → stands start past held.key (number_of_place place) other ≡ false
        go free e q other = free_stands sizes start past room whole tie seat held sits (number_of_place place) (route_at_place held.routes place ∙ e) other
        go (wants w) e q other = absurd (true≢false (sym q))

    -- an answer tells its number
    same_number : (n m : ℕ) (later later' : List Sent) → ◌≡◌ {A = List Sent} (to seat (relay.routing_response n wanted) ∷ later) (to seat (relay.routing_response m wanted) ∷ later') → n ≡ m
    unfolding to relay.relay_bytes
    same_number n m later later' e =
        let s : to seat (relay.routing_response n wanted) ≡ to seat (relay.routing_response m wanted) = cc in
        let b : ◌≡◌ {A = List ℕ} (1 ∷ n ∷ wanted) (1 ∷ m ∷ wanted) = ap (λ (r : Sent). r.bytes) s in
        cc

    abbrev apart : same_key wanted held.key ≡ false → wanted ≢ held.key
    apart = same_apart wanted held.key

    request_found : (own : Bool) (old lowest : Found) → same_key wanted held.key ≡ own → find (route_to wanted) held.routes ≡ old → find is_free held.routes ≡ lowest
        → (number : ℕ) (later : List Sent) → (request_at own old lowest room seat held.key wanted).sent ≡ to seat (relay.routing_response number wanted) ∷ later → Numbered sizes start past held.key wanted number
    unfolding request_at accept
    request_found true old lowest o h l number later s = own_key (same_sound wanted held.key o) (sym (same_number 0 number _ later s))
    request_found false (at place) lowest o h l number later s =
        let q = same_number (number_of_place place) number _ later s in
        old_number (apart o) (subst (λ (n : ℕ). stands start past held.key n wanted ≡ true) q
        (wants_stands sizes start past room whole tie seat held sits (number_of_place place) wanted (route_at_place held.routes place ∙ route_to_wants wanted _ (find_hit (route_to wanted) free held.routes place h))))
    request_found false none none o h l number later s =
        none_free (apart o)
        (record {
          not_asked = not_asked_lem h;
          full = λ place within. not_free place (find_none is_free free held.routes l place (let n = whole.numbers seat held sits in omega arith));
        })
        (sym (same_number 0 number _ later s))
    request_found false none (at place) o h l number later s =
        lowest_free (apart o) place (not_asked_lem h) (let n = whole.numbers seat held sits in let w = find_within is_free held.routes place l in omega arith) (is_free_lem place (find_hit is_free free held.routes place l))
        (λ lower less. not_free lower (find_before is_free free held.routes place l lower less)) (sym (same_number (number_of_place place) number _ later s))

    pub request_numbered : (bytes : List ℕ) → client.relay_read bytes ≡ read.packet (client.routing_request wanted)
        → (number : ℕ) (later : List Sent) → (event room (packet_call seat bytes)).sent ≡ to seat (relay.routing_response number wanted) ∷ later → Numbered sizes start past held.key wanted number
    unfolding event outcome packet_from act_on act
    request_numbered bytes asks number later s =
        request_found (same_key wanted held.key) (find (route_to wanted) held.routes) (find is_free held.routes) refl refl refl number later (rw (sits, asks) at s)

-- ---- every history, from the empty room

module _ (sizes : Sizes) (calls : List Call) (before : List Event) (e : Event) (later : List Event) (t : transcript sizes (empty_room sizes) calls ≡ before ++ (e ∷ later)) where
  -- what holds of each call
  of_each : (P : Past → Event → Type 0) → ((past : Past) (room : Room) → Whole sizes room → Tied (from_empty sizes) past room → (call : Call) → P past (event room call)) → P (past_after [] before) e
  of_each P each = from_empty_lem sizes P each calls before e later t

  pub arrive_answered_from_empty : (key : Key) → e.call ≡ arrive key → ArriveAnswered sizes (from_empty sizes) (past_after [] before) key e
  unfolding event
  arrive_answered_from_empty key =
      of_each (λ past e. e.call ≡ arrive key → ArriveAnswered sizes (from_empty sizes) past key e)
      (λ past room whole tie call c. subst (λ (x : Call). ArriveAnswered sizes (from_empty sizes) past key (event room x)) (sym c) (arrive_answered sizes (from_empty sizes) past room whole tie key))

  module _ (seat : ℕ) where
    pub leave_answered_from_empty : e.call ≡ leave seat → LeaveAnswered (from_empty sizes) (past_after [] before) seat e.answer
    unfolding event
    leave_answered_from_empty =
        of_each (λ past e. e.call ≡ leave seat → LeaveAnswered (from_empty sizes) past seat e.answer)
        (λ past room whole tie call c. subst (λ (x : Call). LeaveAnswered (from_empty sizes) past seat (event room x).answer) (sym c) (leave_answered sizes (from_empty sizes) past room whole tie seat))

    module _ (bytes : List ℕ) where
      pub nobodys_packet_from_empty : e.call ≡ packet_call seat bytes → sitter (from_empty sizes) (past_after [] before) seat ≡ nobody → e.answer ≡ refused NotSeated
      unfolding event
      nobodys_packet_from_empty =
          of_each (λ past e. e.call ≡ packet_call seat bytes → sitter (from_empty sizes) past seat ≡ nobody → e.answer ≡ refused NotSeated)
          (λ past room whole tie call c q. ap (λ (x : Call). (event room x).answer) c ∙ nobodys_packet sizes (from_empty sizes) past room whole tie seat bytes q)

      pub unread_packet_from_empty : (key : Key) (why : Refusal) → client.relay_read bytes ≡ read.refused why → e.call ≡ packet_call seat bytes
          → sitter (from_empty sizes) (past_after [] before) seat ≡ client_of key → e.answer ≡ refused why
      unfolding event
      unread_packet_from_empty key why r =
          of_each (λ past e. e.call ≡ packet_call seat bytes → sitter (from_empty sizes) past seat ≡ client_of key → e.answer ≡ refused why)
          (λ past room whole tie call c by. ap (λ (x : Call). (event room x).answer) c ∙ unread_packet sizes (from_empty sizes) past room whole tie seat key by bytes why r)

      pub drop_answered_from_empty : (number : ℕ) → client.relay_read bytes ≡ read.packet (client.drop_route number) → e.call ≡ packet_call seat bytes
          → DropAnswered (from_empty sizes) (past_after [] before) seat number e.answer
      unfolding event
      drop_answered_from_empty number r =
          of_each (λ past e. e.call ≡ packet_call seat bytes → DropAnswered (from_empty sizes) past seat number e.answer)
          (λ past room whole tie call c. subst (λ (x : Call). DropAnswered (from_empty sizes) past seat number (event room x).answer) (sym c) (drop_answered sizes (from_empty sizes) past room whole tie seat number bytes r))

      -- that it is answered so is `request_tells_from_empty`
      pub request_numbered_from_empty : (key wanted : Key) → client.relay_read bytes ≡ read.packet (client.routing_request wanted) → e.call ≡ packet_call seat bytes
          → sitter (from_empty sizes) (past_after [] before) seat ≡ client_of key
          → (number : ℕ) (sent : List Sent) → e.sent ≡ to seat (relay.routing_response number wanted) ∷ sent → Numbered sizes (from_empty sizes) (past_after [] before) key wanted number
      unfolding event
      request_numbered_from_empty key wanted r =
          of_each (λ past e. e.call ≡ packet_call seat bytes → sitter (from_empty sizes) past seat ≡ client_of key
          → (number : ℕ) (sent : List Sent) → e.sent ≡ to seat (relay.routing_response number wanted) ∷ sent → Numbered sizes (from_empty sizes) past key wanted number)
          (λ past room whole tie call c by number sent s.
          request_numbered sizes (from_empty sizes) past room whole tie seat (set_key (held_of (seat_at room seat)) key) (seat_holds sizes (from_empty sizes) past room whole tie seat key by) wanted bytes r number sent
          (ap (λ (x : Call). (event room x).sent) (sym c) ∙ s))
