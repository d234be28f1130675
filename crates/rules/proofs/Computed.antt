-- What facts that hold by computation share: document 01's three keys; what a call shows, which is its answer and the bytes of its output; and `opened`, which
-- opens every definition of `specs/` that a history meets.
use mathlib.Core.List.{List, [], ◌∷◌}
use Prim.Native.Nat.{ℕ}
use lib.ListN.{replicate}
use Rattle.refusal.specs.Numbers.{refusal_number}
use Rattle.wire.specs.Numbers.{number_of, bytes_of}
use Rattle.key.specs.Keys.{same_key}
use Rattle.packet_laws.specs.Read.{check}
use Rattle.packet_laws.specs.Table.{kind_of, body_of, size_right, relay_takes, client_takes, number_right, length_right, ping_right, checked}
use Rattle.packet_laws.specs.FromClient as client
use Rattle.packet_laws.specs.FromRelay as relay
use Rattle.rules.specs.Room.{Key, empty_room, or_later, find, seat_of, is_vacant, route_to, is_free, routes_of, ping_in, seat_at, route_at, place_when, places_from}
use Rattle.rules.specs.Call.{Call, packet_call, Answer, accepted, refused}
use Rattle.rules.specs.Outcome.{with_route, with_ping, without_ping, apply, apply_all, refuse, record_bytes, sent_bytes, accept, to, room_after, join_outcomes, joined_by, peer_at, peer_in, peer, to_peer, tell_peer, tell_peers, leave_from, take_seat, arrive_from, tell_both, request_at, drop_at, oob_to, carry_to, data_at, pong_at, act, act_on, packet_from, overdue, is_overdue, is_due, leave_each, ping_each, leavers, due_seats, tick_from, tick_at, outcome}
use Rattle.rules.specs.History.{Event, event, transcript}
use Rattle.rules.specs.Transcript.{is_client, is_accepted, clock_after, clock_of, ping_after_arrival, ping_after_packet, ping_sent_to, ping_after_tick, ping_after, ping_of, sits_after_arrival, sits_after, sitter, sits_from, is_seated, key_if, overdue_from, put_out_if, put_out, is_among, maker, number_read, number_answered, stands_after_packet, stands_after_own, stands_after, stands}
use Rattle.rules.specs.After.{past_after}

-- "KA is 32 bytes 11, KB 32 bytes 22, KC 32 bytes 33 (hex)"
abbrev pub ka : Key
ka = replicate 32 0x11

abbrev pub kb : Key
kb = replicate 32 0x22

abbrev pub kc : Key
kc = replicate 32 0x33

-- "00 KB": a request
unfoldable pub ask : ℕ → Key → Call
ask seat key = packet_call seat (0 ∷ key)

-- a call's answer, the refusal by its number, and its output's bytes
pub data Shown : Type 0 where
  wrote : ℕ → ℕ → List ℕ → Shown
  refusal : ℕ → List ℕ → Shown

unfoldable pub show : Answer → List ℕ → Shown
show (accepted seat count) output = wrote seat count output
show (refused why) output = refusal (refusal_number why) output

unfoldable pub show_all : List Event → List Shown
show_all [] = []
show_all (e ∷ es) = show e.answer (sent_bytes e.sent) ∷ show_all es

-- a seat taken
unfoldable pub took : ℕ → Shown
took seat = wrote seat 0 []

-- "A refusal answers its number with 0 bytes written"
unfoldable pub gets : ℕ → Shown
gets number = refusal number []

unfoldable pub opened : Unit {0}
unfolding number_of bytes_of same_key check kind_of body_of size_right relay_takes client_takes number_right length_right ping_right checked client.from_client client.relay_read relay.relay_bytes relay.from_relay relay.client_read empty_room or_later find seat_of is_vacant route_to is_free routes_of ping_in seat_at route_at place_when places_from with_route with_ping without_ping apply apply_all refuse record_bytes sent_bytes accept to room_after join_outcomes joined_by peer_at peer_in peer to_peer tell_peer tell_peers leave_from take_seat arrive_from tell_both request_at drop_at oob_to carry_to data_at pong_at act act_on packet_from overdue is_overdue is_due leave_each ping_each leavers due_seats tick_from tick_at outcome event transcript is_client is_accepted clock_after clock_of ping_after_arrival ping_after_packet ping_sent_to ping_after_tick ping_after ping_of sits_after_arrival sits_after sitter sits_from is_seated key_if overdue_from put_out_if put_out is_among maker number_read number_answered stands_after_packet stands_after_own stands_after stands past_after
opened = tt
