-- A client that asks for its own key: document 02, "The answer becomes 0 and no route is taken". So nothing ever stands from a key for itself, and 0 has two
-- grounds.
use Rattle.std.specs.Prelude.{false, [], ◌∷◌, ◌≡◌, ℕ, length}
use Rattle.packet_laws.specs.FromRelay as relay
use Rattle.rules.specs.Room.{Sizes, Key}
use Rattle.rules.specs.Call.{accepted}
use Rattle.rules.specs.Outcome.{sent_bytes, to}
use Rattle.rules.specs.History.{Event}
use Rattle.rules.specs.Transcript.{Past, Start, sitter, stands}
use Rattle.after_calls.specs.Given.{NoneFree}

-- what becomes of the request `e` of the client `key`, in `seat`, for its own key, after `past`
pub record OwnKey (start : Start) (past : Past) (seat : ℕ) (key : Key) (e : Event) : Type 0 where
  -- it is accepted, "The answer becomes 0", and nothing else is sent
  pub answer : e.answer ≡ accepted seat (length (sent_bytes e.sent))
  pub sent : e.sent ≡ to seat (relay.routing_response 0 key) ∷ []
  -- by what has happened, each seat is whose it was, as after every packet, and the requests that stand are those that stood. That "no route is taken", and the
  -- room is as before, is said of the room itself: `own_room_kept`, and of the exports `own_key_leaves` (`histories`)
  pub seats : (here : ℕ) → sitter start (e ∷ past) here ≡ sitter start past here
  pub requests : (asker : Key) (number : ℕ) (wanted : Key) → stands start (e ∷ past) asker number wanted ≡ stands start past asker number wanted

-- nothing stands from a key for itself, under any number, after what has happened
abbrev pub NoneForItself : Start → Past → Type 0
NoneForItself start past = (key : Key) (number : ℕ) → stands start past key number key ≡ false

-- the grounds on which a request of `key` for `wanted` is answered with 0. The key is its own, document 02: "The answer becomes 0 and no route is taken". Or its
-- table is full and does not name the key, document 01: "with none free, the answer is 0"
pub data ZeroGround (sizes : Sizes) (start : Start) (past : Past) (key wanted : Key) : Type 0 where
  its_own : wanted ≡ key → ZeroGround sizes start past key wanted
  table_full : NoneFree sizes start past key wanted → ZeroGround sizes start past key wanted
