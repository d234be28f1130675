-- Who is told of a connection, by what has happened alone: document 01, "The room", and document 02, "A client that asks for itself".
use Rattle.std.specs.Prelude.{true, false, List, [], ◌∷◌, ◌++◌, ◌↔◌, ◌≢◌, ◌≡◌, ℕ, zero, suc, ◌+◌, ◌<◌, ◌≤◌}
use Rattle.packet_laws.specs.FromRelay as relay
use Rattle.rules.specs.Room.{Sizes, Key, first_number}
use Rattle.rules.specs.Call.{Sent}
use Rattle.rules.specs.Outcome.{to, Outcome}
use Rattle.rules.specs.History.{Event}
use Rattle.rules.specs.Transcript.{Past, Start, stands}
use Rattle.after_calls.specs.GoesOn.{Connected}

-- ---- a drop: "A connected peer is told disconnected. The dropper hears nothing."

-- on `number` of the client in `seat`, one of these is so: there is a connected peer, or none
pub data PeerOrNone (start : Start) (past : Past) (seat number : ℕ) : Type 0 where
  peer_is : (other number' : ℕ) → Connected start past seat number other number' → PeerOrNone start past seat number
  no_peer : ((other number' : ℕ) → Connected start past seat number other number' → ⊥) → PeerOrNone start past seat number

-- one disconnect notification for the connected peer, under the peer's number, exactly where there is one; else nothing
pub record Disconnects (start : Start) (past : Past) (seat number : ℕ) (sent : List Sent) : Type 0 where
  pub decided : PeerOrNone start past seat number
  pub told : (other number' : ℕ) → (sent ≡ to other (relay.disconnect_notice number') ∷ []) ↔ Connected start past seat number other number'
  pub otherwise : ((other number' : ℕ) → Connected start past seat number other number' → ⊥) → sent ≡ []

-- ---- a leave: "in rising route number, each connected peer is told disconnected with the peer's own number"

-- in two parts, of which one holds of the first and one of the rest
pub record Parts (First Rest : List Sent → Type 0) (sent : List Sent) : Type 0 where
  pub front : List Sent
  pub back : List Sent
  pub both : sent ≡ front ++ back
  pub first : First front
  pub rest : Rest back

-- on each number in turn, from `number` on, so many
unfoldable pub InTurn : Start → Past → ℕ → ℕ → ℕ → List Sent → Type 0
InTurn start past seat number zero sent = sent ≡ []
InTurn start past seat number (suc many) sent = Parts (Disconnects start past seat number) (InTurn start past seat (suc number) many) sent

-- what a leave tells: on each of the seat's numbers in turn, and those are all that can be connected
pub record LeaveTells (sizes : Sizes) (start : Start) (past : Past) (seat : ℕ) (sent : List Sent) : Type 0 where
  pub in_turn : InTurn start past seat first_number sizes.numbers sent
  pub all : (number other number' : ℕ) → Connected start past seat number other number' → (first_number ≤ number) × (number < first_number + sizes.numbers)

-- ---- a request. Of the client's own key, document 02: "The answer becomes 0 and no route is taken". Of another's: "a key already named by this seat gets its old
-- number again and nothing else happens. Otherwise the lowest free number is taken, or, with none free, the answer is 0 and nothing changes. Then, if the two
-- are now connected, connected is sent to the asker, then to the peer, each with its own number."

-- the two notifications exactly where there is a peer; else nothing
pub record Connects (start : Start) (past : Past) (seat number : ℕ) (sent : List Sent) : Type 0 where
  pub decided : PeerOrNone start past seat number
  pub told : (other number' : ℕ)
      → (sent ≡ to seat (relay.connect_notice number) ∷ to other (relay.connect_notice number') ∷ []) ↔ Connected start past seat number other number'
  pub otherwise : ((other number' : ℕ) → Connected start past seat number other number' → ⊥) → sent ≡ []

-- what the client `key` in `seat` and its peer are told where it asks for `wanted`: `e` is the event, so that `e ∷ past` is now
pub record RequestTells (start : Start) (past : Past) (seat : ℕ) (key wanted : Key) (e : Event) : Type 0 where
  pub number : ℕ
  pub later : List Sent
  -- the answer comes first
  pub answered : e.sent ≡ to seat (relay.routing_response number wanted) ∷ later
  -- "a key already named by this seat gets its old number again and nothing else happens"
  pub old : (n : ℕ) → stands start past key n wanted ≡ true → (number ≡ n) × (later ≡ [])
  -- "the answer is 0 and nothing changes", of the own key too
  pub zero : number ≡ 0 → later ≡ []
  -- a number that is new
  pub new : ((n : ℕ) → stands start past key n wanted ≡ false) → number ≢ 0 → Connects start (e ∷ past) seat number later

-- ---- after a disconnect: "when the other asks again, both must be told connected"

-- the asker, in `seat`, is answered with a number, and it and then the one in `other` are told connected, each with its own number
pub record BothTold (o : Outcome) (seat other number : ℕ) (wanted : Key) : Type 0 where
  pub own : ℕ
  pub sent : o.sent ≡ to seat (relay.routing_response own wanted) ∷ to seat (relay.connect_notice own) ∷ to other (relay.connect_notice number) ∷ []
