-- A few answers, computed: the number that the host gets for each, and what is told through references. Assumes nothing.
use mathlib.Core.Path.{◌≡◌, refl}
use mathlib.Core.Bool.{true, false}
use mathlib.Core.List.{[], ◌∷◌}
use lib.IntN.{pos, negsuc}
use Rattle.std.proofs.Common.{Result, Ok, Err}
use Rattle.refusal.specs.declared.Refusal.{Refusal}
use Rattle.refusal.specs.declared.Refusal.TheVariants.{RoomFull, NotSeated, OutputTooShort, RoomNotWhole, BadFrame}
use Rattle.rules.specs.Room.{vacant, none, at}
use Rattle.rules.specs.Call.{accepted, refused}
use Rattle.room_laws.specs.Layout.{fits_room, sizes_right}
use Rattle.room_laws.specs.Whole.{room_whole}
use Rattle.frame.specs.declared.Shown.{Shown}
use Rattle.frame.specs.declared.Shown.TheVariants.{More, InPiece, InKeep}
use Rattle.frame.specs.declared.Read.{Read}
use Rattle.relay.specs.declared.play.Stop.TheVariants.{End, NoCall, Allowance, Output}
use Rattle.banavoge_laws.specs.Answers.{refusal_code}
use Rattle.banavoge_laws.specs.Frames.{frame_places, shown_code, end_after, frame_places_after}
use Rattle.banavoge_laws.specs.Rooms.{done_or}
use Rattle.banavoge_laws.specs.RelayCalls.{count_code, told, seat_after, arrival_told}
use Rattle.banavoge_laws.specs.Sitting.{turned, sits, sitting, who_sits, sit_code, key_then, place_code, seat_of_key}
use Rattle.banavoge_laws.specs.Runs.{stop_number}

-- ---- refusals: the numbers of document 01, below 0

pub room_full : refusal_code RoomFull ≡ negsuc 0
unfolding refusal_code
room_full = refl

pub not_whole : refusal_code RoomNotWhole ≡ negsuc 10
unfolding refusal_code
not_whole = refl

-- ---- an empty room: 0, or minus 10

pub made : done_or OutputTooShort true ≡ pos 0
unfolding done_or
made = refl

pub too_short : done_or OutputTooShort false ≡ negsuc 9
unfolding done_or refusal_code
too_short = refl

-- ---- frames: 5 bytes were held, 3 used, and the last frame ended at 7

abbrev read : Result Shown Refusal → Read
read shown = record { shown = shown; reader = record { held = 9 }; used = 4 }

pub no_frame_told : shown_code (Ok More) ≡ pos 0
unfolding shown_code
no_frame_told = refl

pub in_piece_told : shown_code (Ok (InPiece 8)) ≡ pos 1
unfolding shown_code
in_piece_told = refl

pub in_keep_told : shown_code (Ok (InKeep 8)) ≡ pos 2
unfolding shown_code
in_keep_told = refl

pub bad_frame_told : shown_code (Err BadFrame) ≡ negsuc 17
unfolding shown_code refusal_code
bad_frame_told = refl

pub places_without_frame : frame_places_after (read (Ok More)) (frame_places 5 3 7) ≡ frame_places 9 4 7
unfolding frame_places_after end_after
places_without_frame = refl

pub places_of_a_frame : frame_places_after (read (Ok (InKeep 8))) (frame_places 5 3 7) ≡ frame_places 9 4 8
unfolding frame_places_after end_after
places_of_a_frame = refl

-- ---- a call on a room, accepted in seat 3 with 9 bytes of records: it tells the count, and an arrival the seat too, whose place a refusal leaves

pub seat_told : arrival_told 7 (accepted 3 9) ≡ told (pos 9) 3
unfolding arrival_told count_code seat_after
seat_told = refl

pub seat_left : arrival_told 7 (refused RoomFull) ≡ told (negsuc 0) 7
unfolding arrival_told count_code seat_after refusal_code
seat_left = refl

pub count_told : count_code (accepted 3 9) ≡ pos 9
unfolding count_code
count_told = refl

-- ---- who sits: 3 of an empty seat, and of a key that sits in none

pub empty_seat : sitting vacant ≡ turned NotSeated
unfolding sitting
empty_seat = refl

pub client_seated : sit_code (sits (5 ∷ [])) ≡ pos 0
unfolding sit_code
client_seated = refl

pub key_handed : key_then (sits (5 ∷ [])) (7 ∷ []) ≡ 5 ∷ []
unfolding key_then
key_handed = refl

pub key_left : key_then (turned NotSeated) (7 ∷ []) ≡ 7 ∷ []
unfolding key_then
key_left = refl

pub nowhere : place_code none ≡ negsuc 2
unfolding place_code refusal_code
nowhere = refl

pub in_seat_4 : place_code (at 4) ≡ pos 4
unfolding place_code
in_seat_4 = refl

-- 11 of memory that holds no room, though nobody would sit in it
pub no_room : who_sits 40 32 [] 0 ≡ turned RoomNotWhole
unfolding who_sits room_whole fits_room sizes_right
no_room = refl

pub no_room_to_sit_in : seat_of_key 40 32 [] (5 ∷ []) ≡ negsuc 10
unfolding seat_of_key room_whole fits_room sizes_right refusal_code
no_room_to_sit_in = refl

-- ---- why a run stopped

pub stopped_at_the_end : stop_number End ≡ 0
unfolding stop_number
stopped_at_the_end = refl

pub stopped_by_no_call : stop_number NoCall ≡ 1
unfolding stop_number
stopped_by_no_call = refl

pub stopped_by_allowance : stop_number Allowance ≡ 2
unfolding stop_number
stopped_by_allowance = refl

pub stopped_by_output : stop_number Output ≡ 3
unfolding stop_number
stopped_by_output = refl
