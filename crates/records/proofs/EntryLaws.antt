-- What is written for a call before its records: the head, where it and the records fit the output. Assumes nothing.
use mathlib.Core.Path.{◌≡◌, ◌∙◌}
use mathlib.Core.List.{List, ◌++◌}
use Prim.Native.Nat.{ℕ, ◌+◌, ◌≤◌}
use native.Mathlib.Omega.{arith}
use borrow.Author.Tests.{le-leb}
use lib.ListN.{length, drop}
use Rattle.wire.proofs.Numbers.{length_bytes_of}
use Rattle.rules.specs.Call.{Answer, accepted, refused}
use Rattle.records.specs.Entry.{written, entry_head, WritesEntry}

pub length_entry_head : (given : Answer) → length (entry_head given) ≡ 4
unfolding entry_head
length_entry_head (accepted seat count) = let f = length_bytes_of 2 count in omega arith
length_entry_head (refused why) = let f = length_bytes_of 2 0 in omega arith

-- where the head and the records that the answer counts fit, the head is written, and both are counted
pub entry_within : (given : Answer) {out left : List ℕ} {bytes : ℕ} → 4 + written given ≤ length out → WritesEntry given out bytes left
    → (bytes ≡ 4 + written given) × (left ≡ entry_head given ++ drop 4 out)
entry_within given {out} h w = let t = le-leb (4 + written given) (length out) h in (w.answers ∙ simp t, w.leaves ∙ simp t)
