-- Demand 2's sentence on data, for every history: a well-formed data packet goes on exactly when its sender and the client that its number names
-- are connected, as one record for that client, under that client's own number, with the same payload. Otherwise it is refused, with 3, 8 or 9
-- exactly where no client sits there, no request stands under the number, or the two are not connected. Assumes nothing.
use mathlib.Core.Path.{◌≡◌, refl, sym, ap, ◌∙◌, subst}
use mathlib.Core.Bool.{true≢false}
use mathlib.Core.List.{List, [], ◌∷◌, ◌++◌}
use Prim.Native.Nat.{ℕ}
use Rattle.refusal.specs.declared.Refusal.TheVariants.{NotSeated, NoSuchRoute, NotConnected}
use Rattle.packet_laws.specs.Read as read
use Rattle.packet_laws.specs.FromClient as client
use Rattle.packet_laws.specs.FromRelay as relay
use Rattle.rules.specs.Room.{Sizes, Key, Route, free, wants, Seat, vacant, holds, Room, empty_room, seat_at, route_at, number_of_place, Peer, alone, joined, Held}
use Rattle.rules.specs.Whole.{Whole}
use Rattle.rules.specs.Call.{Call, packet_call, refused, Sent}
use Rattle.rules.specs.Outcome.{refuse, accept, to, Outcome, peer, carry_to, data_at, act, act_on, packet_from, outcome}
use Rattle.rules.specs.History.{Event, event, transcript}
use Rattle.rules.specs.Transcript.{Past, nobody, client_of, Start, from_empty, is_accepted, sitter, stands}
use Rattle.rules.specs.After.{past_after, client_in, Tied}
use Rattle.after_calls.specs.GoesOn.{Names, Connected, NoRequest, Waits, no_client, no_request, waits, connects, Carried, DataGoesOn, OnlyPeer}
use Rattle.rules.proofs.Whole.{whole_empty}
use Rattle.rules.proofs.Tied.{tied_empty, sitter_is, wants_stands, free_stands}
use Rattle.after_calls.proofs.PeerConnected.{peer_is_connected}
use Rattle.rules.proofs.EachEvent.{each_event}

-- ---- the four cases, by what has happened

-- a record tells its seat and its number
same_record : (payload : List ℕ) (i j n m : ℕ) → ◌≡◌ {A = List Sent} (to i (relay.routed_data n payload) ∷ []) (to j (relay.routed_data m payload) ∷ []) → (i ≡ j) × (n ≡ m)
unfolding to relay.relay_bytes
same_record payload i j n m e =
    let s : to i (relay.routed_data n payload) ≡ to j (relay.routed_data m payload) = cc in
    let b : n ∷ payload ≡ m ∷ payload = ap (λ (r : Sent). r.bytes) s in
    (ap (λ (r : Sent). r.seat) s, cc)

module _ (start : Start) (past : Past) (seat number : ℕ) (payload : List ℕ) (e : Event) where
  -- two that cannot be together
  nobody_names : {A : Type 0} (key : Key) → sitter start past seat ≡ nobody → sitter start past seat ≡ client_of key → A
  nobody_names key a b = absurd (cc)

  none_names : {A : Type 0} (key wanted : Key) → NoRequest start past seat number → Names start past seat number key wanted → A
  none_names key wanted n h =
      let a = n.sits in
      let b = h.sits in
      let q : n.key ≡ key = cc in
      absurd (true≢false (sym h.asked ∙ ap (λ (k : Key). stands start past k number wanted) (sym q) ∙ n.asked wanted))

  case_nobody : e.answer ≡ refused NotSeated → e.sent ≡ [] → sitter start past seat ≡ nobody → DataGoesOn start past seat number payload e
  case_nobody a s h = record {
    decided = no_client h;
    not_seated = (λ q. h, λ q. a);
    no_such_route = (λ q. absurd (cc), λ n. nobody_names n.key h n.sits);
    not_connected = (λ q. absurd (cc), λ w. nobody_names w.key h w.here.sits);
    goes_on = λ other number'. (λ c. (let q = c.answer in absurd (cc)), λ c. nobody_names c.key h c.here.sits);
    silent = λ q. s;
  }

  case_none : e.answer ≡ refused NoSuchRoute → e.sent ≡ [] → NoRequest start past seat number → DataGoesOn start past seat number payload e
  case_none a s h = record {
    decided = no_request h;
    not_seated = (λ q. absurd (cc), λ n. nobody_names h.key n h.sits);
    no_such_route = (λ q. h, λ q. a);
    not_connected = (λ q. absurd (cc), λ w. none_names w.key w.wanted h w.here);
    goes_on = λ other number'. (λ c. (let q = c.answer in absurd (cc)), λ c. none_names c.key c.wanted h c.here);
    silent = λ q. s;
  }

  case_waits : e.answer ≡ refused NotConnected → e.sent ≡ [] → Waits start past seat number → DataGoesOn start past seat number payload e
  case_waits a s h = record {
    decided = waits h;
    not_seated = (λ q. absurd (cc), λ n. nobody_names h.key n h.here.sits);
    no_such_route = (λ q. absurd (cc), λ n. none_names h.key h.wanted n h.here);
    not_connected = (λ q. h, λ q. a);
    goes_on = λ other number'. (λ c. (let q = c.answer in absurd (cc)), λ c. absurd (h.alone other number' c));
    silent = λ q. s;
  }

  case_connected : (other number' : ℕ) → Carried e seat other number' payload → Connected start past seat number other number'
      → ((other' n : ℕ) → Connected start past seat number other' n → (other ≡ other') × (number' ≡ n)) → DataGoesOn start past seat number payload e
  unfolding is_accepted
  case_connected other number' carried h only =
      let a = carried.answer in
      let s = carried.sent in
      record {
        decided = connects other number' h;
        not_seated = (λ q. absurd (cc), λ n. nobody_names h.key n h.here.sits);
        no_such_route = (λ q. absurd (cc), λ n. none_names h.key h.wanted n h.here);
        not_connected = (λ q. absurd (cc), λ w. absurd (w.alone other number' h));
        goes_on = λ other' n. (
          λ c. (let q = same_record payload other other' number' n (sym s ∙ c.sent) in rw (← q.0, ← q.1) h),
          λ c. (let q = only other' n c in rw (← q.0, ← q.1) carried),
        );
        silent = λ q. absurd (true≢false (sym (ap is_accepted a) ∙ q));
      }

-- ---- one call

module _ (sizes : Sizes) (start : Start) (past : Past) (room : Room) (whole : Whole sizes room) (tie : Tied start past room) (seat number : ℕ)
    (bytes payload : List ℕ) (e : client.relay_read bytes ≡ read.packet (client.routed_data number payload)) where
  abbrev Goes : Outcome → Type 0
  Goes o = DataGoesOn start past seat number payload (record { call = packet_call seat bytes; answer = o.answer; sent = o.sent })

  module _ (held : Held) (sits : seat_at room seat ≡ holds held) where
    goes_peer : (wanted : Key) → route_at held.routes number ≡ wants wanted → (p : Peer) → OnlyPeer start past seat number p → Goes (carry_to p seat payload)
    unfolding carry_to refuse accept OnlyPeer
    goes_peer wanted asks alone only =
        case_waits start past seat number payload _ refl refl
        (record {
          key = held.key;
          wanted = wanted;
          here = record { sits = sitter_is sizes start past room whole tie seat held sits; asked = wants_stands sizes start past room whole tie seat held sits number wanted asks };
          alone = only;
        })
    goes_peer wanted asks (joined other place) only =
        case_connected start past seat number payload _ other (number_of_place place) (record { answer = refl; sent = refl }) only.0 only.1

    goes_route : (route : Route) → route_at held.routes number ≡ route → Goes (data_at route room seat held.key payload)
    unfolding data_at refuse
    goes_route free h =
        case_none start past seat number payload _ refl refl
        (record { key = held.key; sits = sitter_is sizes start past room whole tie seat held sits; asked = free_stands sizes start past room whole tie seat held sits number h })
    goes_route (wants wanted) h = goes_peer wanted h (peer room seat held.key wanted) (peer_is_connected sizes start past room whole tie seat held sits number wanted h)

  goes_seat : (s : Seat) → seat_at room seat ≡ s → Goes (packet_from s room seat bytes)
  unfolding packet_from act_on act refuse client_in
  goes_seat vacant h = case_nobody start past seat number payload _ refl refl (tie.sits seat ∙ ap client_in h)
  goes_seat (holds held) h = rw e (goes_route held h (route_at held.routes number) refl)

  pub data_goes_on : DataGoesOn start past seat number payload (event room (packet_call seat bytes))
  unfolding event outcome
  data_goes_on = goes_seat (seat_at room seat) refl

-- ---- every history

-- from a whole room on, with a past that says what it says: each data packet of the transcript, by what happened before it
pub data_goes_on_from : (sizes : Sizes) (start : Start) (past : Past) (room : Room) → Whole sizes room → Tied start past room
    → (calls : List Call) (before : List Event) (e : Event) (later : List Event) → transcript sizes room calls ≡ before ++ (e ∷ later)
    → (seat number : ℕ) (bytes payload : List ℕ) → e.call ≡ packet_call seat bytes → client.relay_read bytes ≡ read.packet (client.routed_data number payload)
    → DataGoesOn start (past_after past before) seat number payload e
unfolding event
data_goes_on_from sizes start past room whole tie calls before e later t seat number bytes payload c r =
    each_event sizes start (λ past e. e.call ≡ packet_call seat bytes → DataGoesOn start past seat number payload e)
    (λ past room whole tie call c. subst (λ (x : Call). DataGoesOn start past seat number payload (event room x)) (sym c) (data_goes_on sizes start past room whole tie seat number bytes payload r))
    past room whole tie calls before e later t c

-- from the empty room
pub data_goes_on_from_empty : (sizes : Sizes) (calls : List Call) (before : List Event) (e : Event) (later : List Event)
    → transcript sizes (empty_room sizes) calls ≡ before ++ (e ∷ later)
    → (seat number : ℕ) (bytes payload : List ℕ) → e.call ≡ packet_call seat bytes → client.relay_read bytes ≡ read.packet (client.routed_data number payload)
    → DataGoesOn (from_empty sizes) (past_after [] before) seat number payload e
data_goes_on_from_empty sizes = data_goes_on_from sizes (from_empty sizes) [] (empty_room sizes) (whole_empty sizes) (tied_empty sizes)
