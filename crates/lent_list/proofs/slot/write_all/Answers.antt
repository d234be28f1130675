-- `slot::write_all` meets its contract. The invariant: the slots passed are written, the bytes behind them are as they were. Assumes nothing.
use mathlib.Core.Path.{◌≡◌, ◌∙◌, refl, sym, ap, ap₂}
use mathlib.Core.List.{List, ◌++◌, append-nil}
use Prim.Native.Nat.{ℕ, ◌+◌, ◌*◌, ◌<◌, ◌≤◌}
use native.Mathlib.Omega.{arith}
use lib.ListN.{length, get_or, take, drop, length-append, length-drop, drop_of_length-le}
use lib.Seq.{take_all, drop-drop}
use Rattle.wire.proofs.Copy.{written_part}
use Rattle.node.specs.declared.Node.{Node}
use Rattle.lent_list_laws.specs.Layout.{slot_bytes, slots_bytes}
use Rattle.lent_list_laws.proofs.SlotLaws.{slots_more}
use Rattle.lent_list.proofs.slot.write_all.Goals as goal

-- one slot more
one_more : (ns : List Node) (out l : List ℕ) (i : ℕ) (d : Node) → i < length ns → length l ≡ length out → i * 51 + 51 ≤ length out → l ≡ slots_bytes (take i ns) ++ drop (i * 51) out
    → take (i * 51) l ++ (slot_bytes (get_or ns i d) ++ drop (i * 51 + 51) l) ≡ slots_bytes (take (i + 1) ns) ++ drop ((i + 1) * 51) out
one_more ns out l i d h k room e =
    let w = slots_bytes (take i ns) in
    let new = slot_bytes (get_or ns i d) in
    let at = i * 51 in
    let long : length w ≡ at = let x = ap length e ∙ length-append w (drop at out) in let y = length-drop at out in omega arith in
    ap (λ (x : List ℕ). take at x ++ (new ++ drop (at + 51) x)) e
    ∙ ap (λ (x : List ℕ). take at (w ++ drop at out) ++ (new ++ x)) (sym (drop-drop 51 at (w ++ drop at out)))
    ∙ written_part w new out at 51 long
    ∙ ap₂ (λ (x : List ℕ) (p : ℕ). x ++ drop p out) (sym (slots_more ns i d h)) (let q : at + 51 ≡ (i + 1) * 51 = omega arith in q)

pub loop-i-init : goal.loop-i-init
unfolding slots_bytes
loop-i-init c = refl

pub loop-i-preserved : goal.loop-i-preserved
loop-i-preserved c =
    let l = c.loop-i in
    let a = c.args in
    let n = c.requires in
    c.write_at.ensures ∙ one_more a.nodes a.out.now l.out l.i _ (omega arith) (omega arith) (omega arith) l.invariant

pub returns : goal.returns
returns c =
    let l = c.loop-i in
    let a = c.args in
    let n = c.requires in
    l.invariant ∙ ap₂ (λ (x : List Node) (y : List ℕ). slots_bytes x ++ y) (take_all l.i a.nodes (omega arith)) (drop_of_length-le a.out.now {i = l.i * 51} (omega arith))
    ∙ append-nil (slots_bytes a.nodes)
