-- Bytes from a place to their end: as they are lent to a call, and as they come back from it. Assumes nothing.
use mathlib.Core.Path.{◌≡◌, ap, ◌∙◌}
use mathlib.Core.List.{List, ◌++◌, append-nil}
use Prim.Native.Nat.{ℕ, ◌-◌}
use native.Mathlib.Omega.{arith}
use lib.ListN.{length, take, drop, length-drop, drop_of_length-le}
use lib.Seq.{take_all}

-- from a place on, as it is lent
abbrev pub from : ℕ → List ℕ → List ℕ
from at l = take (length l - at) (drop at l)

pub from_is : (at : ℕ) (l : List ℕ) → from at l ≡ drop at l
from_is at l = take_all (length l - at) (drop at l) (let d = length-drop at l in omega arith)

pub length_from : (at : ℕ) (l : List ℕ) → length (from at l) ≡ length l - at
length_from at l = ap length (from_is at l) ∙ length-drop at l

-- and as it comes back
abbrev pub back : ℕ → List ℕ → List ℕ → List ℕ
back at l new = take at l ++ (new ++ drop (length l - at) (drop at l))

pub back_is : (at : ℕ) (l new : List ℕ) → back at l new ≡ take at l ++ new
back_is at l new =
    ap (λ (x : List ℕ). take at l ++ (new ++ x)) (drop_of_length-le (drop at l) {i = length l - at} (let d = length-drop at l in omega arith))
    ∙ ap (λ (x : List ℕ). take at l ++ x) (append-nil new)
