-- `wire::write_number` meets its contract. The invariant: the bytes still to write, then those written, are the number's bytes.
-- Assumes nothing.
use mathlib.Core.Path.{◌≡◌}
use mathlib.Core.List.{◌++◌}
use lib.ListN.{length, drop}
use Rattle.wire.specs.Numbers.{bytes_of}
use Rattle.wire.proofs.write_number.Given as goal

abbrev pub invariant-loop-i : goal.invariant-loop-i
invariant-loop-i l = bytes_of (length l.out) l.fn.number ≡ bytes_of l.i l.left ++ drop l.i l.out
