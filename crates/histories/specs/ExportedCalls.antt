-- Every export that is lent the memory of a room, for s seats with n connection numbers each: what the host lends it, before and after. What a call is not lent
-- stands as [] or as 0, and stays. (`banavoge_room_bytes` is lent nothing.)
use Rattle.std.specs.Prelude.{List, [], ◌≡◌, ℕ, ◌≤◌, ℤ, pos, negsuc, length}
use Rattle.refusal.specs.declared.Refusal.TheVariants.{OutputTooShort, RoomNotWhole}
use Rattle.rules.specs.Room.{Key}
use Rattle.rules.specs.Call.{arrive, leave, packet_call, tick, needed}
use Rattle.room_laws.specs.Whole.{room_whole}
use Rattle.room_laws.specs.Store.{MakesEmpty}
use Rattle.relay_laws.specs.Calls.{Arrives, Departs, Sends, Ticks}
use Rattle.relay.specs.Play.{Plays}
use Rattle.banavoge_laws.specs.Answers.{ToldAs}
use Rattle.banavoge_laws.specs.Rooms.{done_or}
use Rattle.banavoge_laws.specs.RelayCalls.{count_code, told, arrival_told}
use Rattle.banavoge_laws.specs.Sitting.{TellsSitter, seat_of_key}
use Rattle.banavoge_laws.specs.Runs.{Counts, counts, run_told}

-- the memory of a room, the output or the 32 bytes for a key, the place for a seat, and the places for counts
pub record HostMemory : Type 0 where
  pub room : List ℕ
  pub out : List ℕ
  pub seat : ℕ
  pub places : Counts

abbrev pub host_memory : List ℕ → List ℕ → Counts → HostMemory
host_memory room out places = record { room = room; out = out; seat = 0; places = places }

abbrev pub no_places : Counts
no_places = counts 0 0 0

-- with a place for a seat
abbrev pub with_seat : List ℕ → List ℕ → ℕ → HostMemory
with_seat room out seat = record { room = room; out = out; seat = seat; places = no_places }

-- an export's call: what it was lent, its answer, and what that is afterwards
pub data Exported (s n : ℕ) : HostMemory → ℤ → HostMemory → Type 0 where
  empties : {b b' : List ℕ} {answer : ℤ} → ToldAs (done_or OutputTooShort) (MakesEmpty s n b b') answer
      → Exported s n (host_memory b [] no_places) answer (host_memory b' [] no_places)
  checks : {b : List ℕ} {answer : ℤ} → answer ≡ done_or RoomNotWhole (room_whole s n b) → Exported s n (host_memory b [] no_places) answer (host_memory b [] no_places)
  arrives : {b out b' out' : List ℕ} {seat seat' : ℕ} {answer : ℤ} (key : Key) → ToldAs (arrival_told seat) (Arrives s n key b out b' out') (told answer seat')
      → Exported s n (with_seat b out seat) answer (with_seat b' out' seat')
  departs : {b out b' out' : List ℕ} {answer : ℤ} (seat : ℕ) → ToldAs count_code (Departs s n seat b out b' out') answer
      → Exported s n (host_memory b out no_places) answer (host_memory b' out' no_places)
  sends : {b out b' out' : List ℕ} {answer : ℤ} (seat : ℕ) (bytes : List ℕ) → ToldAs count_code (Sends s n seat bytes b out b' out') answer
      → Exported s n (host_memory b out no_places) answer (host_memory b' out' no_places)
  ticks : {b out b' out' : List ℕ} {answer : ℤ} (time number : ℕ) → ToldAs count_code (Ticks s n time number b out b' out') answer
      → Exported s n (host_memory b out no_places) answer (host_memory b' out' no_places)
  tells_key : {b before after : List ℕ} {answer : ℤ} (seat : ℕ) → TellsSitter s n seat b before after answer
      → Exported s n (host_memory b before no_places) answer (host_memory b after no_places)
  tells_seat : {b : List ℕ} {answer : ℤ} (key : Key) → answer ≡ seat_of_key s n b key → Exported s n (host_memory b [] no_places) answer (host_memory b [] no_places)
  plays : {b out b' out' : List ℕ} {before after : Counts} {answer : ℤ} (allowance : ℕ) (stored : List ℕ)
      → ToldAs (run_told before) (Plays s n allowance stored b out b' out') (record { answer = answer; counts = after })
      → Exported s n (host_memory b out before) answer (host_memory b' out' after)

-- the calls that are refused where the room is not whole, whatever else is wrong with them: "Every lent state is tested in full before use". Of an Arrive, a Leave,
-- a packet and a tick those with output long enough, since 10 comes before 11; `banavoge_room_empty` makes a room and tests none
abbrev pub TestsRoom : {s n : ℕ} {before after : HostMemory} {answer : ℤ} → Exported s n before answer after → Type 0
TestsRoom (empties c) = ⊥
TestsRoom (checks e) = Unit {0}
TestsRoom (arrives {out = out} key c) = needed (arrive key) ≤ length out
TestsRoom (departs {out = out} seat c) = needed (leave seat) ≤ length out
TestsRoom (sends {out = out} seat bytes c) = needed (packet_call seat bytes) ≤ length out
TestsRoom (ticks {out = out} time number c) = needed (tick time number) ≤ length out
TestsRoom (tells_key seat c) = Unit {0}
TestsRoom (tells_seat key e) = Unit {0}
TestsRoom (plays allowance stored c) = Unit {0}

-- an answer below 0: the call was refused
abbrev pub Below0 : ℤ → Type 0
Below0 (pos n) = ⊥
Below0 (negsuc n) = Unit {0}
