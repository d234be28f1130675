-- A number of two bytes, as the library makes it of two bytes and parts it into two. Assumes nothing.
use mathlib.Core.Path.{◌≡◌, refl}
use mathlib.Core.List.{List, [], ◌∷◌}
use Prim.Native.Nat.{ℕ, ◌+◌, ◌*◌, ◌≤◌}
use native.Mathlib.Omega.{arith}
use lib.ListN.{length, take, get_or}
use mir.Syntax.{w16}
use Rattle.std.specs.Int.{from_be_bytes, to_be_bytes}
use Rattle.wire.specs.Numbers.{number_of, bytes_of}

-- the first two bytes of some, the higher first
pub number_two : (bs : List ℕ) → 2 ≤ length bs → number_of (take 2 bs) ≡ get_or bs 0 0 * 256 + get_or bs 1 0
unfolding number_of
number_two [] h = absurd (omega arith)
number_two (a ∷ []) h = absurd (omega arith)
number_two (a ∷ b ∷ bs) h = omega arith

pub from_two : (bs : List ℕ) → 2 ≤ length bs → from_be_bytes w16 (get_or bs 0 0 ∷ get_or bs 1 0 ∷ []) ≡ number_of (take 2 bs)
from_two bs h = let e = number_two bs h in omega arith

pub to_two : (n : ℕ) → to_be_bytes w16 n ≡ bytes_of 2 n
unfolding bytes_of
to_two n = refl
