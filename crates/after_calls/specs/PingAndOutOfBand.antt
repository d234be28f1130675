-- What pings, pongs and out-of-band sends do, by what has happened alone: document 01, "The room", and of pongs document 02, "Notice dead laptops".
use Rattle.std.specs.Prelude.{true, List, [], ◌∷◌, ◌≢◌, ◌≡◌, ℕ}
use Rattle.packet_laws.specs.FromRelay as relay
use Rattle.rules.specs.Room.{Key, none_since}
use Rattle.rules.specs.Call.{Sent}
use Rattle.rules.specs.Outcome.{to}
use Rattle.rules.specs.History.{Event}
use Rattle.rules.specs.Transcript.{Past, client_of, Start, is_accepted, clock_of, ping_of, sitter, stands}

-- a call is accepted, and of what it sends this holds
abbrev pub Accepted : (List Sent → Type 0) → Event → Type 0
Accepted P e = (is_accepted e.answer ≡ true) × P e.sent

-- what a pong of the client in `seat`, with the number `n`, does to the pings that are outstanding, by what has happened: `e` is the event, so that `e ∷ past` is
-- now. A pong sends nothing that would show it; that the room says the same after it is `tied_after` (`rules`) and, of the exports, `any_calls_tied` (`histories`)
pub record PongDoes (start : Start) (past : Past) (seat n : ℕ) (e : Event) : Type 0 where
  -- document 02: "A pong with the outstanding number clears it". The time of the ping stays
  pub clears : n ≡ (ping_of start past seat).number → ping_of start (e ∷ past) seat ≡ none_since (ping_of start past seat).time
  -- "other pongs do nothing"
  pub others : n ≢ (ping_of start past seat).number → ping_of start (e ∷ past) seat ≡ ping_of start past seat
  -- no pong does anything else: not to the ping of another seat, the clock, who sits where, or which requests stand
  pub elsewhere : (other : ℕ) → other ≢ seat → ping_of start (e ∷ past) other ≡ ping_of start past other
  pub clock : clock_of start (e ∷ past) ≡ clock_of start past
  pub seats : (here : ℕ) → sitter start (e ∷ past) here ≡ sitter start past here
  pub requests : (asker : Key) (number : ℕ) (wanted : Key) → stands start (e ∷ past) asker number wanted ≡ stands start past asker number wanted

-- what an out-of-band send of the client `key` to the key `wanted` sends: it "goes to the seat holding the key, the sender included, with the sender's key put
-- in. With no such seat it is accepted and nothing is sent."
pub data OutOfBand (start : Start) (past : Past) (key wanted : Key) (payload : List ℕ) (sent : List Sent) : Type 0 where
  reaches : (other : ℕ) → sitter start past other ≡ client_of wanted → sent ≡ to other (relay.oob_received key payload) ∷ []
      → OutOfBand start past key wanted payload sent
  nowhere : ((other : ℕ) → sitter start past other ≢ client_of wanted) → sent ≡ [] → OutOfBand start past key wanted payload sent
