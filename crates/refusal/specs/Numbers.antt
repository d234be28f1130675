-- Document 01, "Refusal numbers": the table, row by row, with the rows of document 02 behind it, and the table looked up by number.
use Rattle.std.specs.Prelude.{Bool, cond, List, [], ◌∷◌, ◌≡◌, ℕ, ◌≤◌, eqb}
use Rattle.refusal.specs.declared.Refusal.{Refusal}
use Rattle.refusal.specs.declared.Refusal.TheVariants.{RoomFull, AlreadySeated, NotSeated, PacketSize, UnexpectedKind, WrongLength, ZeroPing, NoSuchRoute, NotConnected, OutputTooShort, RoomNotWhole, ListSize, KeyNotHeld, ListNotWhole, UnknownFamily, NodeCutShort, BytesAfterNodes, BadFrame, ClockBack, BucketsNotWhole}

abbrev pub refusal_number : Refusal → ℕ
-- "arrival with all 40 seats taken"; document 02: "1 is given only to a key not seated"
refusal_number RoomFull = 1
-- "arrival of a key already seated"; document 02: "2 is retired": no call gives it any more, and its number stays reserved
refusal_number AlreadySeated = 2
-- "seat above 39, or empty"; where a key sits is asked for, also a key that sits nowhere
refusal_number NotSeated = 3
-- "packet of 0 or more than 2,032 bytes"
refusal_number PacketSize = 4
-- "a kind this end does not take"
refusal_number UnexpectedKind = 5
-- "wrong length for the kind"
refusal_number WrongLength = 6
-- "ping number 0"
refusal_number ZeroPing = 7
-- "room: number names no route; laptop's end: answer with 1 to 15, or kind 2 or 3 below 16"
refusal_number NoSuchRoute = 8
-- "data on a waiting route"
refusal_number NotConnected = 9
-- "lent output too short: under 2,048 for packet and leave, under the exact length for a writer"; document 02: "10 for a keep that is too short",
-- "10 (tick output under 5,120)", "arrival checks 10 (2,048)", "20 for buckets that hold a wrong, doubled or base key; then 10"
refusal_number OutputTooShort = 10
-- "room not whole"
refusal_number RoomNotWhole = 11
-- "list size not 1 to 16"
refusal_number ListSize = 12
-- "key to remove is not held"
refusal_number KeyNotHeld = 13
-- "list longer than its size, not strictly rising in distance, or holding an unknown family"
refusal_number ListNotWhole = 14
-- "unknown family byte"
refusal_number UnknownFamily = 15
-- "node cut short"
refusal_number NodeCutShort = 16
-- "bytes left after four nodes"
refusal_number BytesAfterNodes = 17
-- document 02: "18 for a length under 17 or above 2,048, as soon as both length bytes are there; 18 for a reader holding 2 or more bytes that start no unfinished
-- frame"
refusal_number BadFrame = 18
-- document 02: "19 for a clock that goes back"
refusal_number ClockBack = 19
-- document 02: "20 for buckets that hold a wrong, doubled or base key"
refusal_number BucketsNotWhole = 20

-- "2 is retired"
abbrev pub is_retired : Refusal → Bool
is_retired why = eqb (refusal_number why) 2

-- every refusal
unfoldable pub refusals : List Refusal
refusals =
    RoomFull
    ∷ AlreadySeated
    ∷ NotSeated
    ∷ PacketSize
    ∷ UnexpectedKind
    ∷ WrongLength
    ∷ ZeroPing
    ∷ NoSuchRoute
    ∷ NotConnected
    ∷ OutputTooShort
    ∷ RoomNotWhole
    ∷ ListSize
    ∷ KeyNotHeld
    ∷ ListNotWhole
    ∷ UnknownFamily
    ∷ NodeCutShort
    ∷ BytesAfterNodes
    ∷ BadFrame
    ∷ ClockBack
    ∷ BucketsNotWhole
    ∷ []

-- the first of these with a number; `other` where none has it
unfoldable pub with_number : ℕ → List Refusal → Refusal → Refusal
with_number number [] other = other
with_number number (why ∷ rest) other = cond (eqb (refusal_number why) number) why (with_number number rest other)

-- the refusal with a number. No call answers a number that the table lacks; for such a number this is the table's first row
unfoldable pub refusal_of : ℕ → Refusal
refusal_of number = with_number number refusals RoomFull

-- a refusal in the table: its number is above 0, and it is found again by it
pub record LookedUp (why : Refusal) : Type 0 where
  pub positive : 1 ≤ refusal_number why
  pub found : refusal_of (refusal_number why) ≡ why
