-- Laws of the places in a packet: its tail as a part, the part where there is no payload, and its front. Assumes nothing.
use mathlib.Core.Path.{◌≡◌}
use mathlib.Core.List.{List, []}
use Prim.Native.Nat.{ℕ, ◌-◌, ◌≤◌}
use native.Mathlib.Omega.{arith}
use lib.ListN.{length, drop, length-drop}
use lib.Seq.{take-length}
use borrow.Author.Tests.{le-leb}
use Rattle.packet.specs.Parts.{part_of, start_of, no_part}

-- all bytes from a place on, as a part
pub part_tail : (bytes : List ℕ) (at : ℕ) → at ≤ length bytes → part_of bytes (record { start = at; length = length (drop at bytes) }) ≡ drop at bytes
unfolding part_of
part_tail bytes at h =
    let e = length-drop at bytes in
    simp (le-leb at (length bytes) h, le-leb (length (drop at bytes)) (length bytes - at) (omega arith)) (take-length (drop at bytes))

pub start_tail : (bytes : List ℕ) (at : ℕ) → at ≤ length bytes → start_of bytes (record { start = at; length = length (drop at bytes) }) ≡ at
unfolding start_of
start_tail bytes at h =
    let e = length-drop at bytes in
    simp (le-leb at (length bytes) h, le-leb (length (drop at bytes)) (length bytes - at) (omega arith))

-- no payload: no bytes, at the front
pub no_part_lem : (bytes : List ℕ) → part_of bytes no_part ≡ []
unfolding part_of
no_part_lem bytes = simp (le-leb 0 (length bytes) (omega arith), le-leb 0 (length bytes - 0) (omega arith))

pub no_start : (bytes : List ℕ) → start_of bytes no_part ≡ 0
unfolding start_of
no_start bytes = simp (le-leb 0 (length bytes) (omega arith), le-leb 0 (length bytes - 0) (omega arith))
