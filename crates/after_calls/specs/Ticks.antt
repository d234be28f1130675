-- What a tick is answered and what it does, by what has happened alone: document 02, "Notice dead laptops". "A tick brings the time and a nonzero ping number."
-- Of clock, seats, pings and requests this says what comes of the event by `rules` `Transcript.antt`; that the room says the same after it is `tied_after` (`rules`)
-- and, of the exports, `any_calls_tied` (`histories`).
use Rattle.std.specs.Prelude.{true, false, List, [], ◌∷◌, ◌++◌, ◌↔◌, ◌≢◌, ◌≡◌, ℕ, zero, suc, ◌+◌, ◌<◌, ◌≤◌, length}
use Rattle.refusal.specs.declared.Refusal.TheVariants.{ZeroPing, ClockBack}
use Rattle.packet_laws.specs.FromRelay as relay
use Rattle.rules.specs.Room.{Sizes, Key, none_since}
use Rattle.rules.specs.Call.{leave, accepted, refused, Sent}
use Rattle.rules.specs.Outcome.{sent_bytes, to}
use Rattle.rules.specs.History.{Event}
use Rattle.rules.specs.Transcript.{Past, nobody, client_of, Start, clock_of, ping_of, ping_sent_to, sitter, stands}
use Rattle.after_calls.specs.Told.{Parts, LeaveTells}

-- a tick at `time` with the ping number `number`: "Refusals: 10 (tick output under 5,120), 11, 7, 19 for a clock that goes back." The first two belong to lent
-- memory. Else it is accepted: it has no seat of its own, answers 0 there, and "how many bytes it wrote"
pub data TickAnswered (start : Start) (past : Past) (time number : ℕ) (e : Event) : Type 0 where
  zero_ping : number ≡ 0 → e.answer ≡ refused ZeroPing → TickAnswered start past time number e
  clock_back : number ≢ 0 → time < clock_of start past → e.answer ≡ refused ClockBack → TickAnswered start past time number e
  ticks : number ≢ 0 → clock_of start past ≤ time → e.answer ≡ accepted 0 (length (sent_bytes e.sent)) → TickAnswered start past time number e

-- a refused one does nothing: "A refusal answers its number with 0 bytes written; room, list and lent output are as before the call." Of the lent room and output
-- themselves it is `refused_leaves` (`histories`)
pub record AsBefore (start : Start) (past : Past) (e : Event) : Type 0 where
  pub sent : e.sent ≡ []
  pub clock : clock_of start (e ∷ past) ≡ clock_of start past
  pub seats : (seat : ℕ) → sitter start (e ∷ past) seat ≡ sitter start past seat
  pub pings : (seat : ℕ) → ping_of start (e ∷ past) seat ≡ ping_of start past seat
  pub requests : (key : Key) (number : ℕ) (wanted : Key) → stands start (e ∷ past) key number wanted ≡ stands start past key number wanted

-- ---- who leaves, and who is pinged

-- "whose ping has stood unanswered for 10 seconds or more", at the tick's time
pub record Overdue (start : Start) (past : Past) (time seat : ℕ) : Type 0 where
  pub outstanding : (ping_of start past seat).number ≢ 0
  pub old : (ping_of start past seat).time + 10 ≤ time

-- a seat "with none outstanding, last pinged 30 seconds ago or more", at the tick's time. One that leaves has one outstanding, so this one remains
pub record Due (start : Start) (past : Past) (time seat : ℕ) : Type 0 where
  pub key : Key
  pub sits : sitter start past seat ≡ client_of key
  pub none_outstanding : (ping_of start past seat).number ≡ 0
  pub old : (ping_of start past seat).time + 30 ≤ time

-- why nobody sits in a seat after a tick
pub data EmptyThen (start : Start) (past : Past) (time seat : ℕ) : Type 0 where
  nobody_sat : sitter start past seat ≡ nobody → EmptyThen start past time seat
  it_left : Overdue start past time seat → EmptyThen start past time seat

-- "every seat whose ping has stood unanswered for 10 seconds or more leaves as if it had called"
pub record TickLeaves (start : Start) (past : Past) (time : ℕ) (e : Event) : Type 0 where
  -- after it nobody sits in a seat exactly if nobody sat there or its ping was overdue, and each other seat keeps its client
  pub empty : (seat : ℕ) → (sitter start (e ∷ past) seat ≡ nobody) ↔ EmptyThen start past time seat
  pub stays : (seat : ℕ) → (Overdue start past time seat → ⊥) → sitter start (e ∷ past) seat ≡ sitter start past seat
  -- "A request stands [..] until its number is dropped or its client leaves."
  pub ended : (seat : ℕ) (key : Key) → sitter start past seat ≡ client_of key → Overdue start past time seat
      → (number : ℕ) (wanted : Key) → stands start (e ∷ past) key number wanted ≡ false
  pub kept : (key : Key) → ((seat : ℕ) → sitter start past seat ≡ client_of key → Overdue start past time seat → ⊥)
      → (number : ℕ) (wanted : Key) → stands start (e ∷ past) key number wanted ≡ stands start past key number wanted

-- "Then every remaining seat with none outstanding, last pinged 30 seconds ago or more, is pinged"
pub record TickPings (start : Start) (past : Past) (time number : ℕ) (e : Event) : Type 0 where
  pub told : (seat : ℕ) → (ping_sent_to seat e.sent ≡ true) ↔ Due start past time seat
  -- "the time of its last ping and the ping number not yet answered"
  pub pinged : (seat : ℕ) → Due start past time seat → ping_of start (e ∷ past) seat ≡ record { time = time; number = number }
  -- every other that stays has the ping that it had; of one that leaves none is outstanding
  pub not_pinged : (seat : ℕ) → (Due start past time seat → ⊥) → (Overdue start past time seat → ⊥) → ping_of start (e ∷ past) seat ≡ ping_of start past seat
  pub left : (seat : ℕ) → Overdue start past time seat → ping_of start (e ∷ past) seat ≡ none_since 0

-- ---- what is sent: the departures' records, and then the pings

-- the Leave of a seat that tells these
abbrev pub leave_event : ℕ → List Sent → Event
leave_event seat sent = record { call = leave seat; answer = accepted seat (length (sent_bytes sent)); sent = sent }

-- "First, in rising seat order, every seat [..] leaves as if it had called": so many seats, from `seat` on. Each that is overdue tells what a Leave tells after
-- `now`, which is what has happened before the tick with those that left by then, as Leave calls
pub data LeavesFrom (sizes : Sizes) (start : Start) (past : Past) (time : ℕ) : Past → ℕ → ℕ → List Sent → Type 0 where
  done : {now : Past} {seat : ℕ} → LeavesFrom sizes start past time now seat zero []
  leaves : {now : Past} {seat many : ℕ} {back : List Sent} (front : List Sent) → Overdue start past time seat → LeaveTells sizes start now seat front
      → LeavesFrom sizes start past time (leave_event seat front ∷ now) (suc seat) many back → LeavesFrom sizes start past time now seat (suc many) (front ++ back)
  stays : {now : Past} {seat many : ℕ} {sent : List Sent} → (Overdue start past time seat → ⊥)
      → LeavesFrom sizes start past time now (suc seat) many sent → LeavesFrom sizes start past time now seat (suc many) sent

-- "is pinged in that order": so many seats, from `seat` on. Each that is due is sent one ping, of kind 4, with the tick's number
pub data PingsFrom (start : Start) (past : Past) (time number : ℕ) : ℕ → ℕ → List Sent → Type 0 where
  done : {seat : ℕ} → PingsFrom start past time number seat zero []
  pings : {seat many : ℕ} {back : List Sent} → Due start past time seat → PingsFrom start past time number (suc seat) many back
      → PingsFrom start past time number seat (suc many) (to seat (relay.ping number) ∷ back)
  passes : {seat many : ℕ} {sent : List Sent} → (Due start past time seat → ⊥) → PingsFrom start past time number (suc seat) many sent
      → PingsFrom start past time number seat (suc many) sent

-- what an accepted tick does
pub record TickDoes (sizes : Sizes) (start : Start) (past : Past) (time number : ℕ) (e : Event) : Type 0 where
  -- "A tick brings the time"
  pub clock : clock_of start (e ∷ past) ≡ time
  pub leaves : TickLeaves start past time e
  pub pings : TickPings start past time number e
  -- "First, in rising seat order, every seat [..] leaves", "Then every remaining seat [..] is pinged in that order."
  pub sent : Parts (LeavesFrom sizes start past time past 0 sizes.seats) (PingsFrom start past time number 0 sizes.seats) e.sent
