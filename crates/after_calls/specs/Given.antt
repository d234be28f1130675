-- What arrivals, leaves, requests and drops are answered, by what has happened alone: document 01, "The room", and document 02, "A client that asks for itself"
-- and "One call when a laptop comes back", with the refusals of "Refusal numbers" exactly where they are given. The cases of each are all there are.
use Rattle.std.specs.Prelude.{true, false, [], ◌≢◌, ◌⊎◌, ◌≡◌, ℕ, ◌<◌, length}
use Rattle.refusal.specs.declared.Refusal.TheVariants.{RoomFull, NotSeated, NoSuchRoute}
use Rattle.rules.specs.Room.{Sizes, Key, number_of_place}
use Rattle.rules.specs.Call.{Answer, accepted, refused}
use Rattle.rules.specs.Outcome.{sent_bytes}
use Rattle.rules.specs.History.{Event}
use Rattle.rules.specs.Transcript.{Past, nobody, client_of, Start, is_accepted, sitter, stands}
use Rattle.after_calls.specs.GoesOn.{Names, NoRequest}
use Rattle.after_calls.specs.Told.{LeaveTells}

-- an arrival of `key`, which is the event `e`. Of a key that is not seated: 1, "arrival with all 40 seats taken", or it "takes the lowest empty seat and answers
-- with it", and nothing is sent. Of a seated key, document 02: "an arrival of a seated key has the outcome of the two calls in that order, notices and all": it
-- is accepted, in the lowest seat that is empty once its own is; what is sent is what a Leave of its own seat tells, and its bytes are counted
pub data ArriveAnswered (sizes : Sizes) (start : Start) (past : Past) (key : Key) (e : Event) : Type 0 where
  full : ((seat : ℕ) → sitter start past seat ≢ client_of key) → ((seat : ℕ) → seat < sizes.seats → sitter start past seat ≢ nobody)
      → e.answer ≡ refused RoomFull → e.sent ≡ [] → ArriveAnswered sizes start past key e
  takes : (seat : ℕ) → ((other : ℕ) → sitter start past other ≢ client_of key) → seat < sizes.seats → sitter start past seat ≡ nobody
      → ((lower : ℕ) → lower < seat → sitter start past lower ≢ nobody) → e.answer ≡ accepted seat 0 → e.sent ≡ [] → ArriveAnswered sizes start past key e
  returns : (old seat : ℕ) → sitter start past old ≡ client_of key → seat < sizes.seats → (seat ≡ old) ⊎ (sitter start past seat ≡ nobody)
      → ((lower : ℕ) → lower < seat → (lower ≢ old) × (sitter start past lower ≢ nobody)) → e.answer ≡ accepted seat (length (sent_bytes e.sent))
      → LeaveTells sizes start past old e.sent → ArriveAnswered sizes start past key e

-- a leave of `seat`: 3, "seat above 39, or empty", or accepted
pub data LeaveAnswered (start : Start) (past : Past) (seat : ℕ) (answer : Answer) : Type 0 where
  empty : sitter start past seat ≡ nobody → answer ≡ refused NotSeated → LeaveAnswered start past seat answer
  left : (key : Key) → sitter start past seat ≡ client_of key → is_accepted answer ≡ true → LeaveAnswered start past seat answer

-- some request of the client stands under the number, which is not free: "A request stands from an answer other than 0 until its number is dropped or its
-- client leaves."
pub record Taken (start : Start) (past : Past) (key : Key) (number : ℕ) : Type 0 where
  pub wanted : Key
  pub asked : stands start past key number wanted ≡ true

-- whether a request of `key` for `wanted` stands: under one number, since "the wanted keys of one seat differ", or under none
pub data Asked (start : Start) (past : Past) (key wanted : Key) : Type 0 where
  under : (number : ℕ) → stands start past key number wanted ≡ true → ((n : ℕ) → stands start past key n wanted ≡ true → n ≡ number)
      → Asked start past key wanted
  not_asked : ((n : ℕ) → stands start past key n wanted ≡ false) → Asked start past key wanted

-- a full table that does not name the key `wanted`, "with none free": no request of `key` for it stands, and one stands under every number of the client's
-- table
pub record NoneFree (sizes : Sizes) (start : Start) (past : Past) (key wanted : Key) : Type 0 where
  pub not_asked : (n : ℕ) → stands start past key n wanted ≡ false
  pub full : (place : ℕ) → place < sizes.numbers → Taken start past key (number_of_place place)

-- the number that a request of `key` for `wanted` is answered with. Its own key, document 02: "The answer becomes 0 and no route is taken". Another's: "a key
-- already named by this seat gets its old number again", "Otherwise the lowest free number is taken, or, with none free, the answer is 0"
pub data Numbered (sizes : Sizes) (start : Start) (past : Past) (key wanted : Key) (number : ℕ) : Type 0 where
  own_key : wanted ≡ key → number ≡ 0 → Numbered sizes start past key wanted number
  old_number : wanted ≢ key → stands start past key number wanted ≡ true → Numbered sizes start past key wanted number
  none_free : wanted ≢ key → NoneFree sizes start past key wanted → number ≡ 0 → Numbered sizes start past key wanted number
  lowest_free : wanted ≢ key → (place : ℕ) → ((n : ℕ) → stands start past key n wanted ≡ false) → place < sizes.numbers
      → ((other : Key) → stands start past key (number_of_place place) other ≡ false)
      → ((lower : ℕ) → lower < place → Taken start past key (number_of_place lower)) → number ≡ number_of_place place → Numbered sizes start past key wanted number

-- a drop of `number` by the client in `seat`: 3, or 8, "room: number names no route", or accepted
pub data DropAnswered (start : Start) (past : Past) (seat number : ℕ) (answer : Answer) : Type 0 where
  empty : sitter start past seat ≡ nobody → answer ≡ refused NotSeated → DropAnswered start past seat number answer
  no_route : NoRequest start past seat number → answer ≡ refused NoSuchRoute → DropAnswered start past seat number answer
  dropped : (key wanted : Key) → Names start past seat number key wanted → is_accepted answer ≡ true → DropAnswered start past seat number answer
