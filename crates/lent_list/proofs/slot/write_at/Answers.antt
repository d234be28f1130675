-- `slot::write_at` meets its contract: what stands before the slot and behind it is as it was. Assumes nothing.
use mathlib.Core.Path.{◌≡◌, ◌∙◌, ap, ap₂}
use mathlib.Core.List.{List, ◌++◌}
use Prim.Native.Nat.{ℕ, ◌+◌, ◌*◌, ◌-◌}
use native.Mathlib.Omega.{arith}
use lib.ListN.{take, drop}
use lib.Seq.{drop-drop}
use Rattle.lent_list.proofs.slot.write_at.Goals as goal

-- the part comes back written
one_written : (l new slot : List ℕ) (at : ℕ) → new ≡ slot → take at l ++ (new ++ drop (at + 51 - at) (drop at l)) ≡ take at l ++ (slot ++ drop (at + 51) l)
one_written l new slot at e =
    ap₂ (λ (x y : List ℕ). take at l ++ (x ++ y)) e
    (drop-drop (at + 51 - at) at l ∙ ap (λ (k : ℕ). drop k l) (let q : at + (at + 51 - at) ≡ at + 51 = omega arith in q))

pub returns : goal.returns
returns c =
    let a = c.args in
    one_written a.slots.now _ _ (a.index * 51) c.write.ensures
