-- A refusal is found again by its number, and every number is above 0: so minus the number, as the exports answer it, tells the refusal. 2 alone is
-- retired. Assumes nothing.
use mathlib.Core.Path.{◌≡◌, refl}
use mathlib.Core.Bool.{true, false}
use mathlib.Core.List.{◌∷◌, map}
use lib.ListN.{replicate}
use native.Mathlib.Omega.{arith}
use Rattle.refusal.specs.declared.Refusal.{Refusal}
use Rattle.refusal.specs.declared.Refusal.TheVariants.{RoomFull, AlreadySeated, NotSeated, PacketSize, UnexpectedKind, WrongLength, ZeroPing, NoSuchRoute, NotConnected, OutputTooShort, RoomNotWhole, ListSize, KeyNotHeld, ListNotWhole, UnknownFamily, NodeCutShort, BytesAfterNodes, BadFrame, ClockBack, BucketsNotWhole}
use Rattle.refusal.specs.Numbers.{is_retired, refusals, with_number, refusal_of, LookedUp}

pub looked_up : (why : Refusal) → LookedUp why
unfolding refusal_of with_number refusals
looked_up RoomFull = record { positive = omega arith; found = refl }
looked_up AlreadySeated = record { positive = omega arith; found = refl }
looked_up NotSeated = record { positive = omega arith; found = refl }
looked_up PacketSize = record { positive = omega arith; found = refl }
looked_up UnexpectedKind = record { positive = omega arith; found = refl }
looked_up WrongLength = record { positive = omega arith; found = refl }
looked_up ZeroPing = record { positive = omega arith; found = refl }
looked_up NoSuchRoute = record { positive = omega arith; found = refl }
looked_up NotConnected = record { positive = omega arith; found = refl }
looked_up OutputTooShort = record { positive = omega arith; found = refl }
looked_up RoomNotWhole = record { positive = omega arith; found = refl }
looked_up ListSize = record { positive = omega arith; found = refl }
looked_up KeyNotHeld = record { positive = omega arith; found = refl }
looked_up ListNotWhole = record { positive = omega arith; found = refl }
looked_up UnknownFamily = record { positive = omega arith; found = refl }
looked_up NodeCutShort = record { positive = omega arith; found = refl }
looked_up BytesAfterNodes = record { positive = omega arith; found = refl }
looked_up BadFrame = record { positive = omega arith; found = refl }
looked_up ClockBack = record { positive = omega arith; found = refl }
looked_up BucketsNotWhole = record { positive = omega arith; found = refl }

-- "2 is retired", and no other
pub retired_are : map is_retired refusals ≡ false ∷ true ∷ replicate 18 false
unfolding refusals
retired_are = refl
