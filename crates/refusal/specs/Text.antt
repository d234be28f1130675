-- The words that a refusal is printed as. Document 01's from the table "Given exactly when", document 02's for a key not seated, a keep, a tick's output and
-- 18 to 20. An arrival's output is worded as a tick's, by document 02's "arrival checks 10 (2,048)"; and 2, which no call gives any more, has "retired"
-- before it.
use Rattle.std.specs.Prelude.{List, ◌++◌, ℕ, codes}
use Rattle.refusal.specs.declared.Refusal.{Refusal}
use Rattle.refusal.specs.declared.Refusal.TheVariants.{RoomFull, AlreadySeated, NotSeated, PacketSize, UnexpectedKind, WrongLength, ZeroPing, NoSuchRoute, NotConnected, OutputTooShort, RoomNotWhole, ListSize, KeyNotHeld, ListNotWhole, UnknownFamily, NodeCutShort, BytesAfterNodes, BadFrame, ClockBack, BucketsNotWhole}

-- the bytes that a refusal is printed as
abbrev pub refusal_text : Refusal → List ℕ
refusal_text RoomFull = codes "arrival with all 40 seats taken, of a key not seated"
refusal_text AlreadySeated = codes "retired: arrival of a key already seated"
refusal_text NotSeated = codes "seat above 39, or empty"
refusal_text PacketSize = codes "packet of 0 or more than 2,032 bytes"
refusal_text UnexpectedKind = codes "a kind this end does not take"
refusal_text WrongLength = codes "wrong length for the kind"
refusal_text ZeroPing = codes "ping number 0"
refusal_text NoSuchRoute = codes "room: number names no route; laptop's end: answer with 1 to 15, or kind 2 or 3 below 16"
refusal_text NotConnected = codes "data on a waiting route"
refusal_text OutputTooShort =
    codes "lent output too short: under 2,048 for packet and leave, under the exact length for a writer;"
    ++ codes " a keep that is too short; tick output under 5,120; arrival output under 2,048"
refusal_text RoomNotWhole = codes "room not whole"
refusal_text ListSize = codes "list size not 1 to 16"
refusal_text KeyNotHeld = codes "key to remove is not held"
refusal_text ListNotWhole = codes "list longer than its size, not strictly rising in distance, or holding an unknown family"
refusal_text UnknownFamily = codes "unknown family byte"
refusal_text NodeCutShort = codes "node cut short"
refusal_text BytesAfterNodes = codes "bytes left after four nodes"
refusal_text BadFrame = codes "a length under 17 or above 2,048; a reader holding 2 or more bytes that start no unfinished frame"
refusal_text ClockBack = codes "a clock that goes back"
refusal_text BucketsNotWhole = codes "buckets that hold a wrong, doubled or base key"
