-- Histories as the host makes them. Document 01, "The record for a client": "A history is any sequence of Arrive, Leave and packet calls, with any bytes,
-- refused ones included. The first gets the empty room, each later one the room that the last returned; nothing else writes the room meanwhile. Each lent
-- output is long enough that 10 is not given." And document 02: "Ticks are calls of a history too". The room is lent bytes, for s seats with n connection numbers
-- each. A step is the relation that the contract of an exported call states (`banavoge_laws`, `ToldAs`; held in `contracts`), on the bytes given and left, and is seen
-- by the number that the export answers, an arrival by the seat that is set too.
use Rattle.std.specs.Prelude.{List, [], ◌∷◌, ◌≡◌, ℕ, ℤ, pos}
use Rattle.refusal.specs.declared.Refusal.TheVariants.{OutputTooShort}
use Rattle.rules.specs.Room.{Key}
use Rattle.rules.specs.Call.{Call, arrive, leave, packet_call, tick}
use Rattle.rules.specs.History.{Event}
use Rattle.room_laws.specs.Store.{MakesEmpty}
use Rattle.relay_laws.specs.Calls.{Arrives, Departs, Sends, Ticks}
use Rattle.banavoge_laws.specs.Answers.{ToldAs}
use Rattle.banavoge_laws.specs.Rooms.{done_or}
use Rattle.banavoge_laws.specs.RelayCalls.{count_code, told, arrival_told}
use Rattle.histories.specs.Seen.{seen}
use Rattle.histories.specs.Lent.{Lent, lent_with, AllLong}

-- ---- one call

-- `banavoge_arrive`, `banavoge_leave`, `banavoge_packet` or `banavoge_tick`, the call l, on the room's bytes b: it leaves b' and is seen as e. The output lent has
-- any length, and in the place lent to an Arrive for its seat stands any number
pub data Step (s n : ℕ) (b : List ℕ) (l : Lent) (e : Event) (b' : List ℕ) : Type 0 where
  arrives : (key : Key) (out out' : List ℕ) (place place' : ℕ) (number : ℤ) → ToldAs (arrival_told place) (Arrives s n key b out b' out') (told number place')
      → l ≡ lent_with (arrive key) out → e ≡ seen (arrive key) place' number out' → Step s n b l e b'
  departs : (seat : ℕ) (out out' : List ℕ) (number : ℤ) → ToldAs count_code (Departs s n seat b out b' out') number
      → l ≡ lent_with (leave seat) out → e ≡ seen (leave seat) seat number out' → Step s n b l e b'
  sends : (seat : ℕ) (bytes out out' : List ℕ) (number : ℤ) → ToldAs count_code (Sends s n seat bytes b out b' out') number
      → l ≡ lent_with (packet_call seat bytes) out → e ≡ seen (packet_call seat bytes) seat number out' → Step s n b l e b'
  ticks : (time ping : ℕ) (out out' : List ℕ) (number : ℤ) → ToldAs count_code (Ticks s n time ping b out b' out') number
      → l ≡ lent_with (tick time ping) out → e ≡ seen (tick time ping) 0 number out' → Step s n b l e b'

-- ---- one after the other

-- "each later one the room that the last returned": with any outputs
pub data AnyChain (s n : ℕ) : List ℕ → List Lent → List Event → List ℕ → Type 0 where
  none : {b : List ℕ} → AnyChain s n b [] [] b
  next : {b b₁ b' : List ℕ} {l : Lent} {e : Event} {lents : List Lent} {events : List Event}
      → Step s n b l e b₁ → AnyChain s n b₁ lents events b' → AnyChain s n b (l ∷ lents) (e ∷ events) b'

-- with outputs that are long enough
pub record Chain (s n : ℕ) (b : List ℕ) (events : List Event) (b' : List ℕ) : Type 0 where
  pub lents : List Lent
  pub calls : AnyChain s n b lents events b'
  pub long : AllLong lents

-- ---- from the empty room

-- "The first gets the empty room": what `banavoge_room_empty` leaves of some memory where it answers 0
pub record BeginsEmpty (s n : ℕ) (b : List ℕ) : Type 0 where
  pub memory : List ℕ
  pub empties : ToldAs (done_or OutputTooShort) (MakesEmpty s n memory b) (pos 0)

-- any calls from the empty room, with any outputs
pub record AnyCalls (s n : ℕ) (lents : List Lent) (events : List Event) (b' : List ℕ) : Type 0 where
  pub room : List ℕ
  pub begun : BeginsEmpty s n room
  pub chain : AnyChain s n room lents events b'

-- a history
pub record History (s n : ℕ) (events : List Event) (b' : List ℕ) : Type 0 where
  pub room : List ℕ
  pub begun : BeginsEmpty s n room
  pub chain : Chain s n room events b'

-- the calls of a history
unfoldable pub calls_of : List Event → List Call
calls_of [] = []
calls_of (e ∷ events) = e.call ∷ calls_of events
