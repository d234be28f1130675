-- Changes that fit a room: those that the relay stores. A change fits when it takes an empty seat for a key that has none, empties a seat that holds a key,
-- gives a free route of such a seat to a key that is not its own and that it does not want yet, or frees one that wants a key. So document 01's "seated keys
-- differ, the wanted keys of one seat differ" go on holding, and no seat comes to name its own key: document 02, "A room where a seat names its own key is no
-- longer whole." And a change fits that sets the clock to no earlier time, that has a seat pinged at a time which is not after the clock, or that has its ping
-- answered: document 02, "A ping time after the clock makes a room not whole." Times and numbers of pings are below 256 ^ 8, as 8 bytes hold them.
use Rattle.std.specs.Prelude.{false, List, [], ◌∷◌, ◌≡◌, ℕ, ◌^◌, ◌≤◌, ◌<◌, length, get_or}
use Rattle.key.specs.Keys.{same_key}
use Rattle.rules.specs.Room.{sizes_of, Key, free, wants, Held, vacant, holds, Room, none, find, seat_of, route_to, seat_at}
use Rattle.rules.specs.Outcome.{Change, seat_taken, seat_emptied, route_given, route_freed, clock_set, ping_sent, ping_answered, apply}
use Rattle.room_laws.specs.Layout.{word_bytes}

pub data Fit (s n : ℕ) (room : Room) : Change → Type 0 where
  takes : {i : ℕ} {key : Key} → i < s → seat_at room i ≡ vacant → find (seat_of key) room.seats ≡ none → length key ≡ 32 → Fit s n room (seat_taken i key)
  empties : {i : ℕ} {held : Held} → seat_at room i ≡ holds held → Fit s n room (seat_emptied i)
  gives : {i j : ℕ} {key : Key} {held : Held} → seat_at room i ≡ holds held → j < n → get_or held.routes j free ≡ free
      → same_key key held.key ≡ false → find (route_to key) held.routes ≡ none → length key ≡ 32 → Fit s n room (route_given i j key)
  frees : {i j : ℕ} {w : Key} {held : Held} → seat_at room i ≡ holds held → get_or held.routes j free ≡ wants w → Fit s n room (route_freed i j)
  sets : {time : ℕ} → room.clock ≤ time → time < 256 ^ word_bytes → Fit s n room (clock_set time)
  pings : {i time number : ℕ} {held : Held} → seat_at room i ≡ holds held → time ≤ room.clock → time < 256 ^ word_bytes → number < 256 ^ word_bytes
      → Fit s n room (ping_sent i time number)
  answers : {i : ℕ} {held : Held} → seat_at room i ≡ holds held → Fit s n room (ping_answered i)

-- each fits the room that those before it leave
abbrev pub FitAll : ℕ → ℕ → Room → List Change → Type 0
FitAll s n room [] = Unit {0}
FitAll s n room (change ∷ changes) = Fit s n room change × FitAll s n (apply (sizes_of s n) room change) changes
