-- Records in the lent output. Document 01, "The room": "What is sent is a run of records in the lent output: seat (1 byte), length (2), the packet.
-- An accepted call answers how many bytes it wrote; bytes after these keep their old contents." The bytes of records are those of `record_bytes` and
-- `sent_bytes` of `rules`.
use Rattle.std.specs.Prelude.{cond, List, [], ◌∷◌, ◌++◌, ◌≡◌, ℕ, ◌+◌, ◌≤◌, leb, length, take, drop, Result}
use Rattle.packet_laws.specs.Read.{Read, packet, refused}
use Rattle.packet_laws.specs.FromRelay.{FromRelay, FitsRelay}
use Rattle.packet_laws.specs.Judged.{relay_judged}
use Rattle.std.specs.Borrow.{MutBor}
use Rattle.std.specs.Fn.{Once, FnOnceReturnsAtMut}
use Rattle.packet_write.specs.Written.{RelayWrites}
use Rattle.refusal.specs.declared.Refusal.{Refusal}
use Rattle.rules.specs.Call.{Sent}
use Rattle.rules.specs.Outcome.{to, record_bytes, sent_bytes}

-- bytes written behind the first `at`; what stood behind them stays
abbrev pub appended : List ℕ → ℕ → List ℕ → List ℕ
appended out at bytes = take at out ++ (bytes ++ drop (at + length bytes) out)

-- records written behind the first `at` bytes: where the next would go, and what the output is then
pub record Appends (sent : List Sent) (out : List ℕ) (at next : ℕ) (left : List ℕ) : Type 0 where
  pub answers : next ≡ at + length (sent_bytes sent)
  pub leaves : left ≡ appended out at (sent_bytes sent)

-- what a writer appends: the record where the packet is taken and the record fits behind the first `at` bytes, and otherwise none
unfoldable pub fitting : {A : Type 0} → Read A → Sent → ℕ → List ℕ → List Sent
fitting (refused why) s at out = []
fitting (packet p) s at out = cond (leb (at + length (record_bytes s)) (length out)) (s ∷ []) []

-- for one packet of the relay's, judged as the client's reader does
unfoldable pub fitting_record : ℕ → FromRelay → ℕ → List ℕ → List Sent
fitting_record seat p at out = fitting (relay_judged p) (to seat p) at out

-- what a writer does with one packet for a seat; the packet's fields are as the types of the parameters have them
pub record WritesRecord (seat : ℕ) (p : FromRelay) (out : List ℕ) (at next : ℕ) (left : List ℕ) : Type 0 where
  pub fits : FitsRelay p
  pub appends : Appends (fitting_record seat p at out) out at next left

-- a number that a routing response may carry: 0, or a connection number
pub data Answers : ℕ → Type 0 where
  none : Answers 0
  given : (number : ℕ) → 16 ≤ number → Answers number

-- ---- for the private function that each writer calls

-- a function that writes a packet into what it is lent, as the relay's writer of that packet does
pub record WritesPacket {F : Type 0} (g : Once F (MutBor (List ℕ) × Unit {0}) (Result ℕ Refusal × (MutBor (List ℕ) × Unit {0}))) (write : F) (p : FromRelay) : Type 0 where
  pub writes : (lent left : List ℕ) (answer : Result ℕ Refusal) → FnOnceReturnsAtMut g write lent answer left → RelayWrites p lent left answer
