-- Laws of a part of a slice: how long it is, and that what it has past its first bytes is a part of the same whole.
-- Assumes nothing.
use mathlib.Core.List.{List}
use mathlib.Core.Path.{◌≡◌, ap, ◌∙◌}
use Prim.Native.Nat.{ℕ, ◌+◌, ◌-◌, ◌≤◌}
use native.Mathlib.Omega.{arith}
use lib.ListN.{length, take, drop, length-take, length-drop}
use lib.Seq.{drop-drop, take-take}
use Rattle.wire.proofs.Copy.{drop_take}
use Rattle.frame_reader.specs.Parts.{Lent, LentPart, IsPart, past}

-- ---- of lists
-- n of a part's k elements gone, the others are a part of the list
past_taken : (at k n : ℕ) (l : List ℕ) → take (k - n) (drop n (take k (drop at l))) ≡ take (k - n) (drop (at + n) l)
past_taken at k n l =
    ap (take (k - n)) (drop_take n k (drop at l) ∙ ap (take (k - n)) (drop-drop n at l))
    ∙ take-take (k - n) (k - n) (drop (at + n) l) (omega arith)

-- ---- of a part
-- what a slice has past its first n bytes
abbrev pub rest : Lent → ℕ → LentPart
rest s n = record { whole = s; at = n; count = length s.now - n }

module _ {part : LentPart} {r : Lent} (is : IsPart part r) where
  pub part_length : length r.now ≡ part.count
  part_length = rw is.bytes (simp (length-take, length-drop) (omega arith))

  pub past_part : (n : ℕ) → n ≤ part.count → {t : Lent} → IsPart (rest r n) t → IsPart (past n part) t
  past_part n h {t} left = record {
    block = left.block ∙ is.block;
    offset = omega arith;
    bytes = rw (left.bytes, part_length, is.bytes) (past_taken part.at part.count n part.whole.now);
    inside = omega arith;
  }
