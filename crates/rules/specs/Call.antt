-- What is asked of the relay, and what it answers. Document 01, "The room", and document 02, "Notice dead laptops" and "One call when a laptop comes back".
use Rattle.std.specs.Prelude.{List, ◌≡◌, ℕ, ◌^◌, ◌<◌, length}
use Rattle.refusal.specs.declared.Refusal.{Refusal}
use Rattle.rules.specs.Room.{Key}

pub data Call : Type 0 where
  arrive : Key → Call
  leave : ℕ → Call
  packet_call : ℕ → List ℕ → Call
  -- document 02: "A tick brings the time and a nonzero ping number."
  tick : ℕ → ℕ → Call

-- values that the fields of a call can have. "A key is 32 bytes.": so has one that arrives. (One that is asked for has, by the packet's length.) A time and a
-- ping number are kept in 8 bytes each
abbrev pub FieldsFit : Call → Type 0
FieldsFit (arrive key) = length key ≡ 32
FieldsFit (leave seat) = Unit {0}
FieldsFit (packet_call seat bytes) = Unit {0}
FieldsFit (tick time number) = (time < 2 ^ 64) × (number < 2 ^ 64)

-- the output that a call needs: "lent output too short: under 2,048 for packet and leave"; document 02: "arrival checks 10 (2,048)", "10 (tick output under 5,120)"
abbrev pub needed : Call → ℕ
needed (arrive key) = 2048
needed (leave seat) = 2048
needed (packet_call seat bytes) = 2048
needed (tick time number) = 5120

-- no call needs more
abbrev pub most_needed : ℕ
most_needed = 5120

-- an accepted call answers a seat and how many bytes it wrote. An Arrive's seat is the one it takes: document 02, "Arrive now has output and answers its byte count
-- too." Document 01 has no seat in the answer of a Leave or a packet: there it is the call's own. A tick has no seat: it answers 0 there
pub data Answer : Type 0 where
  accepted : ℕ → ℕ → Answer
  refused : Refusal → Answer

-- one record of the output: for which seat, and the packet's bytes
pub record Sent : Type 0 where
  pub seat : ℕ
  pub bytes : List ℕ
