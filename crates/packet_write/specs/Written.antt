-- What a writer does. Document 01, "Relay packets": "A writer makes exactly the bytes its reader takes and refuses by the same rules, judged
-- on the packet it would make, with 5 for a data number below 16"; "Refusal numbers": "Every writer, of packets or nodes, checks 10 last."
use Rattle.std.specs.Prelude.{cond, List, ◌++◌, ◌≡◌, ℕ, leb, length, drop, Result, Ok, Err}
use Rattle.refusal.specs.declared.Refusal.{Refusal}
use Rattle.refusal.specs.declared.Refusal.TheVariants.{OutputTooShort}
use Rattle.packet_laws.specs.Read.{Read, packet, refused}
use Rattle.packet_laws.specs.FromClient as client
use Rattle.packet_laws.specs.FromRelay as relay
use Rattle.packet_laws.specs.Judged.{client_judged, relay_judged}

-- the answer: the refusal, or 10 where the output is under the exact length, or the byte count
unfoldable pub written_answer : {A : Type 0} → Read A → List ℕ → List ℕ → Result ℕ Refusal
written_answer (refused why) bytes out = Err why
written_answer (packet p) bytes out = cond (leb (length bytes) (length out)) (Ok (length bytes)) (Err OutputTooShort)

-- the output: as it was, or the packet and then what stood behind it
unfoldable pub written_output : {A : Type 0} → Read A → List ℕ → List ℕ → List ℕ
written_output (refused why) bytes out = out
written_output (packet p) bytes out = cond (leb (length bytes) (length out)) (bytes ++ drop (length bytes) out) out

-- a writer that was to write `bytes`, judged so, into `out`: what it answers, and what it leaves
pub record Writes {A : Type 0} (judged : Read A) (bytes out : List ℕ) (answer : Result ℕ Refusal) (left : List ℕ) : Type 0 where
  pub answers : answer ≡ written_answer judged bytes out
  pub leaves : left ≡ written_output judged bytes out

-- bytes put into an output once they are judged, for which it does not matter what packet they are
abbrev pub PutsJudged : Read (Unit {0}) → List ℕ → List ℕ → Result ℕ Refusal → List ℕ → Type 0
PutsJudged = Writes

-- where no check is left
abbrev pub passed : Read (Unit {0})
passed = packet tt

-- bytes that are not refused, put into an output
abbrev pub Puts : List ℕ → List ℕ → Result ℕ Refusal → List ℕ → Type 0
Puts = PutsJudged passed

-- what a client's writer and the relay's do with a packet; its fields are as the types of the parameters have them
pub record ClientWrites (p : client.FromClient) (out left : List ℕ) (answer : Result ℕ Refusal) : Type 0 where
  pub fits : client.FitsClient p
  pub writes : Writes (client_judged p) (client.client_bytes p) out answer left

pub record RelayWrites (p : relay.FromRelay) (out left : List ℕ) (answer : Result ℕ Refusal) : Type 0 where
  pub fits : relay.FitsRelay p
  pub writes : Writes (relay_judged p) (relay.relay_bytes p) out answer left

-- both ends judge alike: one function that does what the client's writer and the relay's do
pub record BothWrite (p : client.FromClient) (q : relay.FromRelay) (out left : List ℕ) (answer : Result ℕ Refusal) : Type 0 where
  pub as_client : ClientWrites p out left answer
  pub as_relay : RelayWrites q out left answer

abbrev pub PingWrites : ℕ → List ℕ → List ℕ → Result ℕ Refusal → Type 0
PingWrites n = BothWrite (client.ping n) (relay.ping n)

abbrev pub PongWrites : ℕ → List ℕ → List ℕ → Result ℕ Refusal → Type 0
PongWrites n = BothWrite (client.pong n) (relay.pong n)

abbrev pub DataWrites : ℕ → List ℕ → List ℕ → List ℕ → Result ℕ Refusal → Type 0
DataWrites number bytes = BothWrite (client.routed_data number bytes) (relay.routed_data number bytes)
