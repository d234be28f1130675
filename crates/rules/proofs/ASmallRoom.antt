-- Rooms that no history comes to, of one seat with two numbers, where KA sits and a number names KA's own key. They are not whole, whichever number it is:
-- "A room where a seat names its own key is no longer whole." Even there a request for the own key gets 0, "tested before the search for an old number", and
-- no client is its own peer: "they sit in different seats". Assumes nothing.
use mathlib.Core.Path.{◌≡◌, refl}
use mathlib.Core.List.{List, [], ◌∷◌}
use Rattle.key.specs.Keys.{same_key}
use Rattle.packet_laws.specs.FromClient as client
use Rattle.rules.specs.Room.{Sizes, sizes_of, Route, free, wants, Held, holds, set_routes, newcomer, set_seats, Room, empty_room, or_later, find, seat_of, seat_at, route_at, alone}
use Rattle.rules.specs.Whole.{Whole}
use Rattle.rules.specs.Outcome.{peer_at, peer_in, peer, act}
use Rattle.rules.specs.Transcript.{number_answered}
use Rattle.rules.proofs.Computed.{ka, kb, opened}

abbrev small : Sizes
small = sizes_of 1 2

-- KA with these routes, and alone in the room
abbrev with_routes : List Route → Held
with_routes routes = set_routes (newcomer small 0 ka) routes

abbrev alone_with : List Route → Room
alone_with routes = set_seats (empty_room small) (holds (with_routes routes) ∷ [])

pub own_key_first : Whole small (alone_with (wants ka ∷ wants kb ∷ [])) → ⊥
unfolding seat_at route_at
own_key_first whole = whole.not_own 0 (with_routes (wants ka ∷ wants kb ∷ [])) refl 16 refl

pub own_key_last : Whole small (alone_with (free ∷ wants ka ∷ [])) → ⊥
unfolding seat_at route_at
own_key_last whole = whole.not_own 0 (with_routes (free ∷ wants ka ∷ [])) refl 17 refl

-- 16 is the old number of the own key here, and 0 is answered
pub own_key_before_old : number_answered (act (client.routing_request ka) (alone_with (wants ka ∷ wants kb ∷ [])) 0 (with_routes (wants ka ∷ wants kb ∷ []))).sent ≡ 0
unfolding opened
own_key_before_old = refl

pub not_with_itself : peer (alone_with (wants ka ∷ wants kb ∷ [])) 0 ka ka ≡ alone
unfolding peer peer_in peer_at find or_later seat_of same_key
not_with_itself = refl
