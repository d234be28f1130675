-- `slot::write_all` meets its contract. The invariant: the slots passed are written, the bytes behind them are as they were. Assumes nothing.
use mathlib.Core.Path.{◌≡◌}
use mathlib.Core.List.{◌++◌}
use Prim.Native.Nat.{◌*◌}
use lib.ListN.{take, drop}
use Rattle.lent_list_laws.specs.Layout.{slots_bytes}
use Rattle.lent_list.proofs.slot.write_all.Given as goal

abbrev pub invariant-loop-i : goal.invariant-loop-i
invariant-loop-i l = l.out ≡ slots_bytes (take l.i l.node-items) ++ drop (l.i * 51) l.initial.out
