-- What each public call does: one relation between what it is given (the call, the bytes of the room, the output) and what it leaves (the bytes of the room,
-- the output, its answer). The relation is named here once. It is the contract of the function in `relay`; the contract of the export is the same relation with
-- the answer as a number, and of an Arrive a number and a seat (`banavoge_laws`, `Answers.antt`, `RelayCalls.antt`); and a step of a history is made of that
-- (`histories`, `History.antt`).
use Rattle.std.specs.Prelude.{cond, List, ◌++◌, ◌≡◌, ℕ, leb, length, drop}
use Rattle.refusal.specs.declared.Refusal.TheVariants.{OutputTooShort, RoomNotWhole}
use Rattle.rules.specs.Room.{Key}
use Rattle.rules.specs.Call as rules
use Rattle.rules.specs.Outcome.{Outcome, outcome, refuse, sent_bytes}
use Rattle.room_laws.specs.View.{view_room}
use Rattle.room_laws.specs.Whole.{room_whole}
use Rattle.room_laws.specs.Store.{store_all}
unfoldable pub use Rattle.records.specs.Entry.{answer_of, written}

-- what an outcome leaves: the answer, the room with the changes stored, the output with the records and what stood behind them
pub record Leaves (s n : ℕ) (o : Outcome) (b out : List ℕ) (given : rules.Answer) (b' out' : List ℕ) : Type 0 where
  pub answers : given ≡ o.answer
  pub stores : b' ≡ store_all s n b o.changes
  pub writes : out' ≡ sent_bytes o.sent ++ drop (length (sent_bytes o.sent)) out

-- the outcome of a call on lent memory: "Every lent state is tested in full before use"
unfoldable pub tested : ℕ → ℕ → List ℕ → rules.Call → Outcome
tested s n b call = cond (room_whole s n b) (outcome (view_room s n b) call) (refuse RoomNotWhole)

-- "Order for a packet call: 10, 11, 3, ..", "Leave: 10, 11, 3", and document 02: of a tick "10 (tick output under 5,120), 11, 7, 19 for a clock that goes back",
-- and "arrival checks 10 (2,048), 11, 1": 10 comes first
unfoldable pub if_long : ℕ → rules.Call → Outcome → Outcome
if_long space call o = cond (leb (rules.needed call) space) o (refuse OutputTooShort)

-- the outcome of a call on lent memory with a lent output
unfoldable pub with_output : ℕ → ℕ → List ℕ → List ℕ → rules.Call → Outcome
with_output s n b out call = if_long (length out) call (tested s n b call)

-- ---- the public calls, on the bytes b of a room, with the output `out`: they leave b' and out', and answer `given`

-- Arrive(key). "A key is 32 bytes."
pub record Arrives (s n : ℕ) (key : Key) (b out b' out' : List ℕ) (given : rules.Answer) : Type 0 where
  pub long : length key ≡ 32
  pub leaves : Leaves s n (with_output s n b out (rules.arrive key)) b out given b' out'

-- Leave(seat)
abbrev pub Departs : (s n seat : ℕ) (b out b' out' : List ℕ) (given : rules.Answer) → Type 0
Departs s n seat b out b' out' given = Leaves s n (with_output s n b out (rules.leave seat)) b out given b' out'

-- a packet of the client in a seat
abbrev pub Sends : (s n seat : ℕ) (packet b out b' out' : List ℕ) (given : rules.Answer) → Type 0
Sends s n seat packet b out b' out' given = Leaves s n (with_output s n b out (rules.packet_call seat packet)) b out given b' out'

-- Tick(time, number): document 02, "A tick brings the time and a nonzero ping number." Each is a number of 8 bytes
pub record Ticks (s n time number : ℕ) (b out b' out' : List ℕ) (given : rules.Answer) : Type 0 where
  pub fits : rules.FieldsFit (rules.tick time number)
  pub leaves : Leaves s n (with_output s n b out (rules.tick time number)) b out given b' out'
