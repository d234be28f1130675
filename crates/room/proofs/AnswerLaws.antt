-- What a lookup's answer tells of the place found: a seat is its place, and a connection number is its place and 16.
use mathlib.Core.Path.{◌≡◌, refl, sym, ap, ◌∙◌}
use Prim.Native.Nat.{ℕ, ◌-◌, ◌≤◌}
use native.Mathlib.Nat.{add-sub_cancel_left}
use native.Mathlib.Omega.{arith}
use Rattle.std.proofs.Common.{Some, None}
use Rattle.packet.specs.declared.ConnectionNumber.{ConnectionNumber}
use Rattle.rules.specs.Room.{Found, none, at, first_number, number_of_place}
use Rattle.seat.specs.declared.Seat.{Seat}
use Rattle.room.specs.Numbers.{seat_found, number_found}

pub seat_found_lem : (f : Found) (s : Seat) → seat_found f ≡ Some s → f ≡ at s.0
unfolding seat_found
seat_found_lem (at i) s e = let q : record { 0 = i } ≡ s = cc in ap (λ (x : Seat). at x.0) q
seat_found_lem none s e = cc

pub seat_not_found : (f : Found) → seat_found f ≡ None → f ≡ none
unfolding seat_found
seat_not_found (at i) e = cc
seat_not_found none e = refl

pub number_found_lem : (f : Found) (n : ConnectionNumber) → number_found f ≡ Some n → (f ≡ at (n.0 - first_number)) × (first_number ≤ n.0)
unfolding number_found
number_found_lem (at j) n e =
    let q : record { 0 = number_of_place j } ≡ n = cc in
    let v : number_of_place j ≡ n.0 = ap (λ (x : ConnectionNumber). x.0) q in
    (ap at (sym (add-sub_cancel_left 16 j) ∙ ap (λ (x : ℕ). x - first_number) v), omega arith)
number_found_lem none n e = cc

pub number_not_found : (f : Found) → number_found f ≡ None → f ≡ none
unfolding number_found
number_not_found (at j) e = cc
number_not_found none e = refl
