-- When a data packet goes on, by what has happened alone: document 01, "The room", "Data on a connected number goes to the peer under the peer's
-- number", with its refusals 3, 8 and 9, each exactly where it is given.
use Rattle.std.specs.Prelude.{false, true, List, [], ◌∷◌, ◌↔◌, ◌≢◌, ◌≡◌, ℕ, length}
use Rattle.refusal.specs.declared.Refusal.TheVariants.{NotSeated, NoSuchRoute, NotConnected}
use Rattle.packet_laws.specs.FromRelay as relay
use Rattle.rules.specs.Room.{Key, number_of_place, Peer, alone, joined}
use Rattle.rules.specs.Call.{accepted, refused}
use Rattle.rules.specs.Outcome.{sent_bytes, to}
use Rattle.rules.specs.History.{Event}
use Rattle.rules.specs.Transcript.{Past, nobody, client_of, Start, is_accepted, sitter, stands}

-- "A number names C while its client's request for C's key, answered with that number, stands": the client `key` sits in `seat`, and its number
-- names `wanted`
pub record Names (start : Start) (past : Past) (seat number : ℕ) (key wanted : Key) : Type 0 where
  pub sits : sitter start past seat ≡ client_of key
  pub asked : stands start past key number wanted ≡ true

-- "Two clients are connected when they sit in different seats and each has a route naming the other's key": on `number` of the client in `seat`,
-- with the client in `other` and that client's own number
pub record Connected (start : Start) (past : Past) (seat number other number' : ℕ) : Type 0 where
  pub key : Key
  pub wanted : Key
  pub apart : seat ≢ other
  pub here : Names start past seat number key wanted
  pub there : Names start past other number' wanted key

-- no request of the client in `seat` stands under `number`
pub record NoRequest (start : Start) (past : Past) (seat number : ℕ) : Type 0 where
  pub key : Key
  pub sits : sitter start past seat ≡ client_of key
  pub asked : (wanted : Key) → stands start past key number wanted ≡ false

-- "Otherwise a held route is waiting": one stands, and it connects with nobody
pub record Waits (start : Start) (past : Past) (seat number : ℕ) : Type 0 where
  pub key : Key
  pub wanted : Key
  pub here : Names start past seat number key wanted
  pub alone : (other number' : ℕ) → Connected start past seat number other number' → ⊥

-- what a search for the peer on `number` of the client in `seat` is to find: where nobody is connected nobody, else the one that is, and no other is
unfoldable pub OnlyPeer : Start → Past → ℕ → ℕ → Peer → Type 0
OnlyPeer start past seat number alone = (other number' : ℕ) → Connected start past seat number other number' → ⊥
OnlyPeer start past seat number (joined other place) =
    Connected start past seat number other (number_of_place place)
    × ((other' number' : ℕ) → Connected start past seat number other' number' → (other ≡ other') × (number_of_place place ≡ number'))

-- one of these is so
pub data OnNumber (start : Start) (past : Past) (seat number : ℕ) : Type 0 where
  no_client : sitter start past seat ≡ nobody → OnNumber start past seat number
  no_request : NoRequest start past seat number → OnNumber start past seat number
  waits : Waits start past seat number → OnNumber start past seat number
  connects : (other number' : ℕ) → Connected start past seat number other number' → OnNumber start past seat number

-- the payload went to the seat `other` under `number'`, in one record, and nothing else was sent
pub record Carried (e : Event) (seat other number' : ℕ) (payload : List ℕ) : Type 0 where
  pub answer : e.answer ≡ accepted seat (length (sent_bytes e.sent))
  pub sent : e.sent ≡ to other (relay.routed_data number' payload) ∷ []

-- what became of a data packet that the client in `seat` sent on `number`
pub record DataGoesOn (start : Start) (past : Past) (seat number : ℕ) (payload : List ℕ) (e : Event) : Type 0 where
  pub decided : OnNumber start past seat number
  pub not_seated : (e.answer ≡ refused NotSeated) ↔ (sitter start past seat ≡ nobody)
  pub no_such_route : (e.answer ≡ refused NoSuchRoute) ↔ NoRequest start past seat number
  pub not_connected : (e.answer ≡ refused NotConnected) ↔ Waits start past seat number
  pub goes_on : (other number' : ℕ) → Carried e seat other number' payload ↔ Connected start past seat number other number'
  -- "A refusal answers its number with 0 bytes written"
  pub silent : is_accepted e.answer ≡ false → e.sent ≡ []
