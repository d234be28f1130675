-- One small room, computed: 3 seats with 2 connection numbers each. Each key is one byte, 32 times.
--
--     header    count  order     seat 0                             seat 1                             seat 2
--     3 2 260   2      1 0 (0)   9..  260 519  wants 5.., (4..)     5..  257 520  (8..), wants 9..     (7..  265 521  (6..), (6..))
--
-- What stands in brackets is not listed: seats 0 and 1 are taken, by clients that want each other, one route of each is free, and seat 2 is empty. The clock is
-- 260: seat 0 was pinged at that time, and seat 1 before. Assumes nothing.
use Prim.Native.Nat.{ℕ}
use mathlib.Core.Path.{◌≡◌, refl, sym, ap, ◌∙◌}
use mathlib.Core.Bool.{true, false, true≢false}
use mathlib.Core.List.{List, [], ◌∷◌, ◌++◌}
use native.Mathlib.Omega.{arith}
use lib.ListN.{drop, replicate}
use Rattle.wire.specs.Numbers.{number_of, bytes_of}
use Rattle.key.specs.Keys.{same_key}
use Rattle.table_laws.specs.Bytes.{leading, first_of, member, key_before}
use Rattle.table_laws.specs.Table.{fits_table, listed, record_at, key_at, rising_after, rising, table_whole, find_key, found, table_without, key_of_place, is_used, lowest, lowest_free}
use Rattle.table_laws.specs.Table.{entered, closed, put, may_put, put_in, unlisted, freed, freed_in, tabulate, view}
use Rattle.rules.specs.Room.{free, wants, Held, vacant, holds, seat_at, newcomer, set_ping, set_routes, set_clock, set_seats, Room, empty_room, sizes_of, none, at, alone, joined}
use Rattle.rules.specs.Outcome.{seat_taken, seat_emptied, route_given, route_freed, clock_set, ping_sent, ping_answered, joined_by}
use Rattle.room_laws.specs.Layout.{sizes_right, fits_room, seat_table, routes_table}
use Rattle.room_laws.specs.View.{clock_in, route_in, view_routes, seat_in, view_room, seat_ping}
use Rattle.room_laws.specs.Whole.{header_right, seat_routes_whole, seat_ping_whole, seat_whole, seats_whole, room_whole}
use Rattle.room_laws.specs.Fits.{Fit, gives, sets, pings}
use Rattle.room_laws.specs.Store.{emptied, new_seat, with_clock, with_ping_at, with_outstanding, with_seats, with_routes, store}
use Rattle.room_laws.specs.Lookup.{place_in, seat_holding, lowest_empty, has_seat, taken, key_in, clock_found, ping_time_of, outstanding_of, route_wanting, lowest_route, route_of_place, route_at_place, peer_in_seat, peer_wanting}

abbrev key : ℕ → List ℕ
key n = replicate 32 n

-- 8 bytes, the last two of which are these
abbrev word : ℕ → ℕ → List ℕ
word a b = replicate 6 0 ++ (a ∷ b ∷ [])

-- a ping at the time 256 + t, with the number 512 + m
abbrev ping : ℕ → ℕ → List ℕ
ping t m = word 1 t ++ word 2 m

-- a seat with its key, its ping and its routes: how many, in what order, and what stands at each place
abbrev seat : ℕ → List ℕ → ℕ → ℕ → ℕ → ℕ → ℕ → List ℕ
seat n pinged count first second a b = key n ++ (pinged ++ (count ∷ first ∷ second ∷ (key a ++ key b)))

abbrev one : List ℕ
one = seat 9 (ping 4 7) 1 0 0 5 4

abbrev other : List ℕ
other = seat 5 (ping 1 8) 1 1 0 8 9

abbrev unused : List ℕ
unused = seat 7 (ping 9 9) 1 1 0 6 6

-- its header, with the clock 260
abbrev head : List ℕ
head = 3 ∷ 2 ∷ word 1 4

abbrev small : List ℕ
small = head ++ (2 ∷ 1 ∷ 0 ∷ 0 ∷ (one ++ (other ++ unused)))

-- ---- the room

-- it has 359 bytes: more will do, fewer will not
pub fits_exact : fits_room 3 2 small ≡ true
unfolding fits_room sizes_right
fits_exact = refl

pub fits_long : fits_room 3 2 (0 ∷ small) ≡ true
unfolding fits_room sizes_right
fits_long = refl

pub fits_short : fits_room 3 2 (drop 1 small) ≡ false
unfolding fits_room sizes_right
fits_short = refl

-- a room has at most 40 seats with 240 numbers each
pub most : sizes_right 40 240 ≡ true
unfolding sizes_right
most = refl

pub too_many_seats : sizes_right 41 240 ≡ false
unfolding sizes_right
too_many_seats = refl

pub too_many_numbers : sizes_right 40 241 ≡ false
unfolding sizes_right
too_many_numbers = refl

-- the room that it is, and what seat 1 holds
abbrev is_one : Held
is_one = set_ping (set_routes (newcomer (sizes_of 3 2) 0 (key 5)) (free ∷ wants (key 9) ∷ [])) (record { time = 257; number = 520 })

abbrev is_room : Room
is_room =
    set_clock (set_seats (empty_room (sizes_of 3 2)) (
    holds (set_ping (set_routes (newcomer (sizes_of 3 2) 0 (key 9)) (wants (key 5) ∷ free ∷ [])) (record { time = 260; number = 519 }))
    ∷ holds is_one
    ∷ vacant
    ∷ []
    )) 260

-- the routes of seat 1 alone, and the whole room
pub routes_small : view_routes 2 (routes_table 3 2 small 1) ≡ free ∷ wants (key 9) ∷ []
unfolding view_routes view tabulate route_in record_at listed member routes_table
routes_small = refl

pub view_small : view_room 3 2 small ≡ is_room
unfolding view_room view tabulate seat_in view_routes route_in record_at listed member seat_table clock_in number_of
view_small = refl

-- its header has its sizes, in that order
pub header_small : header_right 3 2 small ≡ true
unfolding header_right
header_small = refl

pub other_seats : header_right 2 2 small ≡ false
unfolding header_right
other_seats = refl

pub other_numbers : header_right 3 3 small ≡ false
unfolding header_right
other_numbers = refl

-- it is whole; where seat 0, or seat 1, wants one key twice it is not
pub whole_small : room_whole 3 2 small ≡ true
unfolding room_whole fits_room sizes_right header_right seats_whole seat_whole seat_ping_whole seat_ping clock_in number_of seat_routes_whole table_without table_whole find_key rising rising_after listed key_at key_before same_key seat_table routes_table
whole_small = refl

pub twice_wanted : room_whole 3 2 (head ++ (2 ∷ 1 ∷ 0 ∷ 0 ∷ (seat 9 (ping 4 7) 2 0 1 5 5 ++ (other ++ unused)))) ≡ false
unfolding room_whole fits_room sizes_right header_right seats_whole seat_whole seat_ping_whole seat_ping clock_in number_of seat_routes_whole table_without table_whole find_key rising rising_after listed key_at key_before same_key seat_table routes_table
twice_wanted = refl

pub twice_wanted_first : room_whole 3 2 (head ++ (2 ∷ 1 ∷ 0 ∷ 0 ∷ (one ++ (seat 5 (ping 1 8) 2 0 1 9 9 ++ unused)))) ≡ false
unfolding room_whole fits_room sizes_right header_right seats_whole seat_whole seat_ping_whole seat_ping clock_in number_of seat_routes_whole table_without table_whole find_key rising rising_after listed key_at key_before same_key seat_table routes_table
twice_wanted_first = refl

-- nor where seat 0, or seat 1, names its own key; an own key in the record of an empty seat, or at a place that is not listed, does not matter
pub own_key_zero : room_whole 3 2 (head ++ (2 ∷ 1 ∷ 0 ∷ 0 ∷ (seat 9 (ping 4 7) 1 0 0 9 4 ++ (other ++ unused)))) ≡ false
unfolding room_whole fits_room sizes_right header_right seats_whole seat_whole seat_ping_whole seat_ping clock_in number_of seat_routes_whole table_without table_whole find_key rising rising_after listed key_at key_before same_key seat_table routes_table
own_key_zero = refl

pub own_key_one : room_whole 3 2 (head ++ (2 ∷ 1 ∷ 0 ∷ 0 ∷ (one ++ (seat 5 (ping 1 8) 2 1 0 8 5 ++ unused)))) ≡ false
unfolding room_whole fits_room sizes_right header_right seats_whole seat_whole seat_ping_whole seat_ping clock_in number_of seat_routes_whole table_without table_whole find_key rising rising_after listed key_at key_before same_key seat_table routes_table
own_key_one = refl

pub own_key_unlisted : room_whole 3 2 (head ++ (2 ∷ 1 ∷ 0 ∷ 0 ∷ (seat 9 (ping 4 7) 1 0 0 5 9 ++ (other ++ seat 7 (ping 9 9) 1 1 0 6 7)))) ≡ true
unfolding room_whole fits_room sizes_right header_right seats_whole seat_whole seat_ping_whole seat_ping clock_in number_of seat_routes_whole table_without table_whole find_key rising rising_after listed key_at key_before same_key seat_table routes_table
own_key_unlisted = refl

-- nor where the ping time of seat 0, or of seat 1, is 261, which is after the clock; the 265 in the record of the empty seat does not matter
pub late_zero : room_whole 3 2 (head ++ (2 ∷ 1 ∷ 0 ∷ 0 ∷ (seat 9 (ping 5 7) 1 0 0 5 4 ++ (other ++ unused)))) ≡ false
unfolding room_whole fits_room sizes_right header_right seats_whole seat_whole seat_ping_whole seat_ping clock_in number_of seat_routes_whole table_without table_whole find_key rising rising_after listed key_at key_before same_key seat_table routes_table
late_zero = refl

pub late_one : room_whole 3 2 (head ++ (2 ∷ 1 ∷ 0 ∷ 0 ∷ (one ++ (seat 5 (ping 5 8) 1 1 0 8 9 ++ unused)))) ≡ false
unfolding room_whole fits_room sizes_right header_right seats_whole seat_whole seat_ping_whole seat_ping clock_in number_of seat_routes_whole table_without table_whole find_key rising rising_after listed key_at key_before same_key seat_table routes_table
late_one = refl

-- ---- lookups

-- the clock, and the ping of a seat; 0 where the memory is too short, or there is no such seat
pub clock_small : clock_found 3 2 small ≡ 260
unfolding clock_found fits_room sizes_right clock_in number_of
clock_small = refl

pub clock_short : clock_found 3 2 (drop 1 small) ≡ 0
unfolding clock_found fits_room sizes_right clock_in number_of
clock_short = refl

pub time_of_one : ping_time_of 3 2 small 1 ≡ 257
unfolding ping_time_of has_seat fits_room sizes_right seat_ping number_of
time_of_one = refl

pub time_of_three : ping_time_of 3 2 small 3 ≡ 0
unfolding ping_time_of has_seat fits_room sizes_right seat_ping number_of
time_of_three = refl

pub outstanding_of_one : outstanding_of 3 2 small 1 ≡ 520
unfolding outstanding_of has_seat fits_room sizes_right seat_ping number_of
outstanding_of_one = refl

pub outstanding_of_three : outstanding_of 3 2 small 3 ≡ 0
unfolding outstanding_of has_seat fits_room sizes_right seat_ping number_of
outstanding_of_three = refl

-- the key 5 is in seat 1; the key 7 is in no seat, and its place is told of none
pub holding_five : seat_holding 3 2 small (key 5) ≡ at 1
unfolding seat_holding place_in fits_room sizes_right found find_key fits_table listed key_at same_key seat_table
holding_five = refl

pub holding_seven : seat_holding 3 2 small (key 7) ≡ none
unfolding seat_holding place_in fits_room sizes_right found find_key fits_table listed key_at same_key seat_table
holding_seven = refl

-- seat 2 is the lowest that is empty
pub lowest_small : lowest_empty 3 2 small ≡ at 2
unfolding lowest_empty place_in fits_room sizes_right lowest_free lowest listed member seat_table
lowest_small = refl

-- seat 0 is taken, seat 2 is not
pub taken_zero : taken 3 2 small 0 ≡ true
unfolding taken fits_room sizes_right is_used listed member seat_table
taken_zero = refl

pub taken_two : taken 3 2 small 2 ≡ false
unfolding taken fits_room sizes_right is_used listed member seat_table
taken_two = refl

-- the key of a seat; zeros where there is no such seat
pub key_of_one : key_in 3 2 small 1 ≡ key 5
unfolding key_in has_seat fits_room sizes_right key_of_place fits_table key_at seat_table
key_of_one = refl

pub key_of_three : key_in 3 2 small 3 ≡ key 0
unfolding key_in has_seat fits_room sizes_right
key_of_three = refl

-- in seat 1, place 1 wants the key 9, and no place wants the key 8
pub wanting_nine : route_wanting 3 2 small 1 (key 9) ≡ at 1
unfolding route_wanting place_in fits_room sizes_right found find_key fits_table listed key_at same_key routes_table
wanting_nine = refl

pub wanting_eight : route_wanting 3 2 small 1 (key 8) ≡ none
unfolding route_wanting place_in fits_room sizes_right found find_key fits_table listed key_at same_key routes_table
wanting_eight = refl

-- the lowest place that is free is 1 in seat 0, and 0 in seat 1
pub free_in_zero : lowest_route 3 2 small 0 ≡ at 1
unfolding lowest_route place_in fits_room sizes_right lowest_free lowest listed member routes_table
free_in_zero = refl

pub free_in_one : lowest_route 3 2 small 1 ≡ at 0
unfolding lowest_route place_in fits_room sizes_right lowest_free lowest listed member routes_table
free_in_one = refl

-- the route at each place of seat 1
pub route_zero : route_at_place 3 2 small 1 0 ≡ free
unfolding route_at_place route_of_place has_seat fits_room sizes_right is_used route_in record_at listed member routes_table
route_zero = refl

pub route_one : route_at_place 3 2 small 1 1 ≡ wants (key 9)
unfolding route_at_place route_of_place has_seat fits_room sizes_right is_used route_in record_at listed member routes_table
route_one = refl

-- the peer of seat 0, which wants the key 5, is at place 1 of seat 1; no seat is its own peer, and the key 8 has none
pub peer_of_zero : peer_wanting 3 2 small 0 (key 9) (key 5) ≡ joined 1 1
unfolding peer_wanting peer_in_seat joined_by seat_holding route_wanting place_in fits_room sizes_right found find_key fits_table listed key_at same_key seat_table routes_table
peer_of_zero = refl

pub peer_of_itself : peer_wanting 3 2 small 1 (key 9) (key 5) ≡ alone
unfolding peer_wanting peer_in_seat joined_by seat_holding route_wanting place_in fits_room sizes_right found find_key fits_table listed key_at same_key seat_table routes_table
peer_of_itself = refl

pub peer_of_none : peer_wanting 3 2 small 0 (key 9) (key 8) ≡ alone
unfolding peer_wanting peer_in_seat joined_by seat_holding route_wanting place_in fits_room sizes_right found find_key fits_table listed key_at same_key seat_table routes_table
peer_of_none = refl

-- ---- changes

-- made empty: the header with the clock 0, no seat listed, and the rest as it stood
pub emptied_small : emptied 3 2 small ≡ 3 ∷ 2 ∷ (word 0 0 ++ (0 ∷ 1 ∷ 0 ∷ 0 ∷ (one ++ (other ++ unused))))
unfolding emptied bytes_of
emptied_small = refl

-- a new seat begins with its key and the clock, and none is outstanding
pub new_seat_lem : new_seat (word 1 4) (key 7) ≡ key 7 ++ (word 1 4 ++ replicate 9 0)
unfolding new_seat bytes_of
new_seat_lem = refl

-- seat 2 taken by the key 8: it is listed between the other two, its ping time is the clock, none is outstanding, and it lists no routes
pub takes_two : store 3 2 small (seat_taken 2 (key 8)) ≡ head ++ (3 ∷ 1 ∷ 2 ∷ 0 ∷ (one ++ (other ++ seat 8 (word 1 4 ++ word 0 0) 0 1 0 6 6)))
unfolding store with_seats new_seat bytes_of fits_room sizes_right put_in may_put put fits_table entered leading listed key_at key_before seat_table
takes_two = refl

-- seat 1 emptied: seat 0 alone is listed, and the record of seat 1 stays
pub empties_one : store 3 2 small (seat_emptied 1) ≡ head ++ (1 ∷ 0 ∷ 0 ∷ 0 ∷ (one ++ (other ++ unused)))
unfolding store with_seats fits_room sizes_right freed_in freed unlisted closed first_of listed seat_table
empties_one = refl

-- the free route of seat 1 given to the key 3
pub gives_one : store 3 2 small (route_given 1 0 (key 3)) ≡ head ++ (2 ∷ 1 ∷ 0 ∷ 0 ∷ (one ++ (seat 5 (ping 1 8) 2 0 1 3 9 ++ unused)))
unfolding store with_routes fits_room sizes_right put_in may_put put fits_table entered leading listed key_at key_before routes_table
gives_one = refl

-- its other route freed
pub frees_one : store 3 2 small (route_freed 1 1) ≡ head ++ (2 ∷ 1 ∷ 0 ∷ 0 ∷ (one ++ (seat 5 (ping 1 8) 0 1 0 8 9 ++ unused)))
unfolding store with_routes fits_room sizes_right freed_in freed unlisted closed first_of listed routes_table
frees_one = refl

-- the clock set to 515
pub sets_clock : store 3 2 small (clock_set 515) ≡ 3 ∷ 2 ∷ (word 2 3 ++ (2 ∷ 1 ∷ 0 ∷ 0 ∷ (one ++ (other ++ unused))))
unfolding store with_clock fits_room sizes_right bytes_of
sets_clock = refl

-- seat 1 pinged at 258 with the number 772, and its ping answered
pub pings_one : store 3 2 small (ping_sent 1 258 772) ≡ head ++ (2 ∷ 1 ∷ 0 ∷ 0 ∷ (one ++ (seat 5 (word 1 2 ++ word 3 4) 1 1 0 8 9 ++ unused)))
unfolding store with_ping_at fits_room sizes_right bytes_of
pings_one = refl

pub answers_one : store 3 2 small (ping_answered 1) ≡ head ++ (2 ∷ 1 ∷ 0 ∷ 0 ∷ (one ++ (seat 5 (word 1 1 ++ word 0 0) 1 1 0 8 9 ++ unused)))
unfolding store with_outstanding fits_room sizes_right bytes_of
answers_one = refl

-- where the memory is too short, or there is no such seat, nothing changes
pub sets_short : store 3 2 (drop 1 small) (clock_set 515) ≡ drop 1 small
unfolding store fits_room sizes_right
sets_short = refl

pub pings_three : store 3 2 small (ping_sent 3 258 772) ≡ small
unfolding store fits_room sizes_right
pings_three = refl

pub answers_three : store 3 2 small (ping_answered 3) ≡ small
unfolding store fits_room sizes_right
answers_three = refl

-- the clock set back to 259 does not fit, nor does a ping at 261, which is after the clock
pub back_unfit : Fit 3 2 is_room (clock_set 259) → ⊥
back_unfit (sets later small) = omega arith

pub late_unfit : Fit 3 2 is_room (ping_sent 1 261 772) → ⊥
late_unfit (pings sits earlier small few) = omega arith

-- that route given to the key 5, which is the seat's own, does not fit
pub own_key_unfit : Fit 3 2 is_room (route_given 1 0 (key 5)) → ⊥
unfolding seat_at same_key
own_key_unfit (gives {held = held} e within untaken apart fresh long) =
    let own : held.key ≡ key 5 = ap (λ (h : Held). h.key) (let q : is_one ≡ held = cc in sym q) in
    true≢false (ap (same_key (key 5)) (sym own) ∙ apart)
