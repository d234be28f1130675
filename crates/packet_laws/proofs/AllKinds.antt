-- Document 01's table of kinds, computed at the edges of each check: which sizes, kinds, lengths, ping numbers and connection numbers are right, what either
-- end reads, and how a writer judges. Assumes nothing.
use mathlib.Core.Path.{◌≡◌, refl}
use mathlib.Core.Bool.{Bool, true, false}
use mathlib.Core.List.{List, [], ◌∷◌}
use Prim.Native.Nat.{ℕ}
use lib.ListN.{replicate}
use Rattle.wire.specs.Numbers.{number_of, bytes_of}
use Rattle.refusal.specs.declared.Refusal.TheVariants.{UnexpectedKind, WrongLength, ZeroPing, NoSuchRoute}
use Rattle.packet_laws.specs.Read.{packet, refused, check}
use Rattle.packet_laws.specs.Table.{kind_of, body_of, size_right, relay_takes, client_takes, length_right, ping_right, number_right, checked}
use Rattle.packet_laws.specs.FromClient as client
use Rattle.packet_laws.specs.FromRelay as relay
use Rattle.packet_laws.specs.Judged.{data_number, client_judged, relay_judged}

-- a test of each number of a list
abbrev each : (ℕ → Bool) → List ℕ → List Bool
each f [] = []
each f (n ∷ ns) = f n ∷ each f ns

-- ---- the checks

-- 4: of 0, 1, 2,032 and 2,033 bytes
pub sizes : each size_right (0 ∷ 1 ∷ 2032 ∷ 2033 ∷ []) ≡ false ∷ true ∷ true ∷ false ∷ []
unfolding size_right
sizes = refl

-- 5: the relay takes, of the kinds 0 to 7, 0 and 3 to 6
pub relay_low : each relay_takes (0 ∷ 1 ∷ 2 ∷ 3 ∷ 4 ∷ 5 ∷ 6 ∷ 7 ∷ []) ≡ true ∷ false ∷ false ∷ true ∷ true ∷ true ∷ true ∷ false ∷ []
unfolding relay_takes
relay_low = refl

-- 5: a client takes 1 to 5 and 7
pub client_low : each client_takes (0 ∷ 1 ∷ 2 ∷ 3 ∷ 4 ∷ 5 ∷ 6 ∷ 7 ∷ []) ≡ false ∷ true ∷ true ∷ true ∷ true ∷ true ∷ false ∷ true ∷ []
unfolding client_takes
client_low = refl

-- 5: of 8, 15, 16 and 255 both take the last two
pub relay_high : each relay_takes (8 ∷ 15 ∷ 16 ∷ 255 ∷ []) ≡ false ∷ false ∷ true ∷ true ∷ []
unfolding relay_takes
relay_high = refl

pub client_high : each client_takes (8 ∷ 15 ∷ 16 ∷ 255 ∷ []) ≡ false ∷ false ∷ true ∷ true ∷ []
unfolding client_takes
client_high = refl

-- 6: a request has 33 bytes, a response 34, a notification 2, a ping 9
pub request_lengths : each (length_right 0) (32 ∷ 33 ∷ 34 ∷ []) ≡ false ∷ true ∷ false ∷ []
unfolding length_right
request_lengths = refl

pub response_lengths : each (length_right 1) (33 ∷ 34 ∷ 35 ∷ []) ≡ false ∷ true ∷ false ∷ []
unfolding length_right
response_lengths = refl

pub notice_lengths : each (length_right 2) (1 ∷ 2 ∷ 3 ∷ []) ≡ false ∷ true ∷ false ∷ []
unfolding length_right
notice_lengths = refl

pub ping_lengths : each (length_right 4) (8 ∷ 9 ∷ 10 ∷ []) ≡ false ∷ true ∷ false ∷ []
unfolding length_right
ping_lengths = refl

-- 6: an out-of-band packet has 34 to 1,057 bytes, data 2 or more
pub oob_lengths : each (length_right 6) (33 ∷ 34 ∷ 1057 ∷ 1058 ∷ []) ≡ false ∷ true ∷ true ∷ false ∷ []
unfolding length_right
oob_lengths = refl

pub data_lengths : each (length_right 16) (1 ∷ 2 ∷ 2032 ∷ []) ≡ false ∷ true ∷ true ∷ []
unfolding length_right
data_lengths = refl

-- 7: the ping number 0 is wrong, and 1 is not; a request has none
pub ping_zero : ping_right 4 (replicate 8 0) ≡ false
unfolding ping_right number_of
ping_zero = refl

pub ping_one : ping_right 5 (0 ∷ 0 ∷ 0 ∷ 0 ∷ 0 ∷ 0 ∷ 0 ∷ 1 ∷ []) ≡ true
unfolding ping_right number_of
ping_one = refl

pub request_of_zeros : ping_right 0 (replicate 32 0) ≡ true
unfolding ping_right
request_of_zeros = refl

-- 8: a response has 0, or 16 or more; a notification 16 or more
pub response_numbers : each (number_right 1) (0 ∷ 1 ∷ 15 ∷ 16 ∷ 255 ∷ []) ≡ true ∷ false ∷ false ∷ true ∷ true ∷ []
unfolding number_right
response_numbers = refl

pub notice_numbers : each (number_right 2) (0 ∷ 1 ∷ 15 ∷ 16 ∷ 255 ∷ []) ≡ false ∷ false ∷ false ∷ true ∷ true ∷ []
unfolding number_right
notice_numbers = refl

-- ---- the readers

-- kind 1 and no more: 5 at the relay, which does not take it, and 6 at a client, which does
pub relay_kind_first : client.relay_read (1 ∷ []) ≡ refused UnexpectedKind
unfolding client.relay_read checked check kind_of size_right relay_takes
relay_kind_first = refl

pub client_length_first : relay.client_read (1 ∷ []) ≡ refused WrongLength
unfolding relay.client_read checked check kind_of size_right client_takes length_right
client_length_first = refl

-- the number of a response or of a notification is the byte behind the kind
pub response_zero : relay.client_read (1 ∷ 0 ∷ replicate 32 7) ≡ packet (relay.routing_response 0 (replicate 32 7))
unfolding relay.client_read checked check kind_of body_of size_right client_takes length_right ping_right number_right relay.from_relay
response_zero = refl

pub notice_fifteen : relay.client_read (2 ∷ 15 ∷ []) ≡ refused NoSuchRoute
unfolding relay.client_read checked check kind_of body_of size_right client_takes length_right ping_right number_right
notice_fifteen = refl

-- ---- the writers

-- data under 3: its bytes are a drop's, or a disconnect notification's, and yet it is 5
pub client_data_three : client_judged (client.routed_data 3 (16 ∷ [])) ≡ refused UnexpectedKind
unfolding client_judged data_number check size_right
client_data_three = refl

pub relay_data_three : relay_judged (relay.routed_data 3 (16 ∷ [])) ≡ refused UnexpectedKind
unfolding relay_judged data_number check size_right
relay_data_three = refl

-- a drop of any number is taken, and a disconnect notification below 16 is not
pub drop_fifteen : client_judged (client.drop_route 15) ≡ packet (client.drop_route 15)
unfolding client_judged client.client_bytes client.relay_read checked check kind_of body_of size_right relay_takes length_right ping_right client.from_client
drop_fifteen = refl

pub disconnect_fifteen : relay_judged (relay.disconnect_notice 15) ≡ refused NoSuchRoute
unfolding relay_judged relay.relay_bytes relay.client_read checked check kind_of body_of size_right client_takes length_right ping_right number_right
disconnect_fifteen = refl

-- a pong of 0 is not
pub pong_zero : client_judged (client.pong 0) ≡ refused ZeroPing
unfolding client_judged client.client_bytes client.relay_read checked check kind_of body_of size_right relay_takes length_right ping_right number_of bytes_of
pong_zero = refl
