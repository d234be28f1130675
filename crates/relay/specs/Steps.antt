-- Who makes a call: the client in a seat of the room that bytes are.
use Rattle.std.specs.Prelude.{true, cond, List, ◌∷◌, ◌≡◌, ℕ, ◌-◌, ◌≤◌, leb, length, Result, Ok, Err}
use Rattle.refusal.specs.declared.Refusal.{Refusal}
use Rattle.refusal.specs.declared.Refusal.TheVariants.{OutputTooShort, RoomNotWhole}
use Rattle.packet.specs.declared.relay.ClientPacket.{ClientPacket}
use Rattle.packet.specs.RelayReads.{shown_relay_read}
use Rattle.packet_laws.specs.FromClient.{FromClient, pong, relay_read}
use Rattle.packet_laws.specs.FromRelay.{routing_response}
use Rattle.rules.specs.Room.{Key, holds, seat_at, first_number}
use Rattle.rules.specs.Call.{Answer}
use Rattle.relay_laws.specs.Calls.{Leaves}
use Rattle.rules.specs.Outcome.{Outcome, route_given, to, tell_both, peer, act}
use Rattle.records.specs.Output.{Appends}
use Rattle.room_laws.specs.Store.{store}
use Rattle.room_laws.specs.View.{view_room, seat_held}
use Rattle.room_laws.specs.Whole.{room_whole}
use Rattle.room.specs.declared.layout.Sizes.{Sizes}
use Rattle.relay.specs.declared.Client.{Client}

-- the tests before any step: the output has room for what the call may write, and then the room is whole, of document 01's 40 seats with 32 numbers each
unfoldable pub ready_for : ℕ → List ℕ → List ℕ → Result Unit Refusal
ready_for least b out = cond (leb least (length out)) (cond (room_whole 40 32 b) (Ok tt) (Err RoomNotWhole)) (Err OutputTooShort)

-- what every step but a tick's rests on: the room is whole, and the output has room for what the call may write
abbrev pub Ready : Sizes → List ℕ → List ℕ → Type 0
Ready sizes b out = (room_whole sizes.seats sizes.numbers b ≡ true) × (2048 ≤ length out)

-- the client `key` sits in seat i
abbrev pub Sits : ℕ → ℕ → List ℕ → ℕ → Key → Type 0
Sits s n b i key = seat_at (view_room s n b) i ≡ holds (seat_held s n b i key)

-- the client sits in its seat of a room that is whole, and the output has room for what its packet may write
abbrev pub Seated : Sizes → Client → List ℕ → List ℕ → Type 0
Seated sizes client b out =
    (room_whole sizes.seats sizes.numbers b ≡ true) × Sits sizes.seats sizes.numbers b client.seat.0 client.key.0 × (2048 ≤ length out)

-- what a packet of the client asks for is done
abbrev pub Acts : Sizes → Client → FromClient → List ℕ → List ℕ → Answer → List ℕ → List ℕ → Type 0
Acts sizes client packet b out given b' out' =
    let s = sizes.seats in
    let n = sizes.numbers in
    Leaves s n (act packet (view_room s n b) client.seat.0 (seat_held s n b client.seat.0 client.key.0)) b out given b' out'

-- a number given to a request: the route is stored, and the answer and the notifications are written
pub record Gives (s n : ℕ) (b : List ℕ) (seat : ℕ) (key wanted : Key) (number : ℕ) (out : List ℕ) (bytes : ℕ) (b' out' : List ℕ) : Type 0 where
  pub stores : b' ≡ store s n b (route_given seat (number - first_number) wanted)
  pub writes : Appends (to seat (routing_response number wanted) ∷ tell_both seat number (peer (view_room s n b) seat key wanted)) out 0 bytes out'

-- an outcome that changes no room, whatever the room is: the answer, and what it leaves of the output
abbrev pub Carries : Outcome → List ℕ → Answer → List ℕ → Type 0
Carries o out given left = (s n : ℕ) (b : List ℕ) → Leaves s n o b out given b left

-- a pong of the client in seat i, whoever it is: it writes nothing
abbrev pub Pongs : ℕ → ℕ → ℕ → ℕ → List ℕ → Answer → List ℕ → Type 0
Pongs s n i number b given b' =
    (key : Key) (out : List ℕ) → Sits s n b i key → Leaves s n (act (pong number) (view_room s n b) i (seat_held s n b i key)) b out given b' out

-- what the relay's reader shows of a packet
abbrev pub Shows : List ℕ → ClientPacket → Type 0
Shows bytes shown = Ok shown ≡ shown_relay_read (relay_read bytes)
