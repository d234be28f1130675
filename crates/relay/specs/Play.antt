-- Stored calls, played one after the other. Each is one of document 01's calls, on the room that the last returned. The run writes, for each call, refusal (1
-- byte, 0 for none), seat (1), length (2) and the records; and it answers how many calls it played, how many bytes of the stored calls it read, how many it
-- wrote, and why it stopped. Only 11 is a refusal, before the first call; a stop is none.
use Rattle.std.specs.Prelude.{cond, List, [], ◌∷◌, ◌++◌, ◌≡◌, ℕ, zero, suc, ◌+◌, ◌-◌, eqb, leb, length, drop, Result, Ok, Err}
use Rattle.refusal.specs.declared.Refusal.{Refusal}
use Rattle.refusal.specs.declared.Refusal.TheVariants.{RoomNotWhole}
use Rattle.rules.specs.Room.{Sizes, Room}
use Rattle.rules.specs.Call.{Call, arrive, leave, needed, packet_call, tick}
use Rattle.rules.specs.Outcome.{Change, outcome, room_after, sent_bytes}
use Rattle.rules.specs.History.{Event, event, transcript}
unfoldable pub use Rattle.records.specs.Entry.{entry_head}
use Rattle.stored.specs.Stored.{stored_bytes, stored_all, First, none, call, first_call}
use Rattle.room_laws.specs.View.{view_room}
use Rattle.room_laws.specs.Whole.{room_whole}
use Rattle.room_laws.specs.Store.{store_all}
use Rattle.relay.specs.declared.play.Run as code
use Rattle.relay.specs.declared.play.Stop.{Stop}
use Rattle.relay.specs.declared.play.Stop.TheVariants.{End, NoCall, Allowance, Output}

-- ---- what is written for a call

-- the head and the records
unfoldable pub entry_bytes : Event → List ℕ
entry_bytes e = entry_head e.answer ++ sent_bytes e.sent

unfoldable pub entries_bytes : List Event → List ℕ
entries_bytes [] = []
entries_bytes (e ∷ events) = entry_bytes e ++ entries_bytes events

-- ---- which calls are played

-- what comes next: a call, or why there is none
pub data Next : Type 0 where
  stops : Stop → Next
  plays : Call → Next

-- a call is played with output for its head and for what it needs
abbrev pub least_space : Call → ℕ
least_space (arrive key) = 4 + needed (arrive key)
least_space (leave seat) = 4 + needed (leave seat)
least_space (packet_call seat bytes) = 4 + needed (packet_call seat bytes)
-- a tick has no stored form: this number is never used
least_space (tick time number) = 4 + 2048

-- no stored call is asked for more
abbrev pub most_space : ℕ
most_space = 4 + 2048

unfoldable pub next_call : First → ℕ → Next
next_call none space = stops NoCall
next_call (call c) space = cond (leb (least_space c) space) (plays c) (stops Output)

-- the grounds to stop, in the order in which they are tested
unfoldable pub next : ℕ → List ℕ → ℕ → Next
next allowance stored space =
    cond (eqb (length stored) 0) (stops End)
    (cond (eqb allowance 0) (stops Allowance)
    (next_call (first_call stored) space))

-- the calls that are played, and why no more are
pub record Run : Type 0 where
  pub calls : List Call
  pub why : Stop

unfoldable pub go_on : Next → (Call → Run) → Run
go_on (stops why) later = record { calls = []; why = why }
go_on (plays c) later = record { calls = c ∷ (later c).calls; why = (later c).why }

-- from a room on: at most `allowance` calls, each from the room that the last returned, with `space` bytes of output left
unfoldable pub run : Sizes → ℕ → Room → List ℕ → ℕ → Run
run sizes zero room stored space = record { calls = []; why = cond (eqb (length stored) 0) End Allowance }
run sizes (suc more) room stored space =
    go_on (next (suc more) stored space)
    (λ c. run sizes more (room_after sizes room (outcome room c)) (drop (length (stored_bytes c)) stored) (space - length (entry_bytes (event room c))))

-- ---- what a run changes

unfoldable pub changes_all : Sizes → Room → List Call → List Change
changes_all sizes room [] = []
changes_all sizes room (c ∷ calls) = (outcome room c).changes ++ changes_all sizes (room_after sizes room (outcome room c)) calls

-- ---- what a run comes to

pub record Playing : Type 0 where
  pub answer : Result code.Run Refusal
  pub changes : List Change
  pub bytes : List ℕ

-- the counts of calls, of bytes read and of bytes written; the changes of all its calls; what is written for each
unfoldable pub played : Sizes → Room → Run → Playing
played sizes room r =
    let bytes = entries_bytes (transcript sizes room r.calls) in
    record {
      answer = Ok (record { why = r.why; played = length r.calls; read = length (stored_all r.calls); written = length bytes });
      changes = changes_all sizes room r.calls;
      bytes = bytes;
    }

-- on the bytes b of a room of s seats with n connection numbers each: "Every lent state is tested in full before use"
unfoldable pub playing : ℕ → ℕ → ℕ → List ℕ → List ℕ → List ℕ → Playing
playing s n allowance stored b out =
    let sizes : Sizes = record { seats = s; numbers = n } in
    cond (room_whole s n b) (played sizes (view_room s n b) (run sizes allowance (view_room s n b) stored (length out)))
    (record { answer = Err RoomNotWhole; changes = []; bytes = [] })

-- what it leaves: the answer, the room with the changes stored, the output with what is written and what stood behind it
pub record LeavesRun (s n : ℕ) (p : Playing) (b out : List ℕ) (given : Result code.Run Refusal) (b' out' : List ℕ) : Type 0 where
  pub answers : given ≡ p.answer
  pub stores : b' ≡ store_all s n b p.changes
  pub writes : out' ≡ p.bytes ++ drop (length p.bytes) out

-- THE PUBLIC CALL: a run of stored calls, one relation as each single call is one (`relay_laws`, `Calls.antt`)
abbrev pub Plays : (s n allowance : ℕ) (stored b out b' out' : List ℕ) (given : Result code.Run Refusal) → Type 0
Plays s n allowance stored b out b' out' given = LeavesRun s n (playing s n allowance stored b out) b out given b' out'
