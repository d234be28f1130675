-- `slot::read_at` meets its contract: a slot ends 51 bytes behind its start. Assumes nothing.
use mathlib.Core.Path.{◌∙◌, ap}
use Prim.Native.Nat.{ℕ, ◌*◌}
use native.Mathlib.Nat.{add-sub_cancel_left}
use native.Mathlib.Omega.{arith}
use lib.ListN.{take, drop}
use Rattle.lent_list_laws.specs.Layout.{slot_at}
use Rattle.lent_list_laws.proofs.SlotLaws.{slot_lent}
use Rattle.lent_list.proofs.slot.read_at.Goals as goal

pub read-requires : goal.read-requires
read-requires c = let a = c.args in slot_lent a.slots.now (a.index * 51) (omega arith)

pub returns : goal.returns
returns c =
    let a = c.args in
    c.read.ensures ∙ ap (λ (k : ℕ). slot_at (take k (drop (a.index * 51) a.slots.now))) (add-sub_cancel_left (a.index * 51) 51)
