-- `order::lists` meets its contract. The invariant: the place is listed if it is among those passed, or among those to come. Assumes nothing.
use mathlib.Core.Path.{sym, ap, ◌∙◌}
use mathlib.Core.Bool.{Bool, ◌||◌, or-true, or-false}
use mathlib.Core.List.{List}
use Prim.Native.Nat.{ℕ, ◌+◌}
use native.Mathlib.Omega.{arith}
use lib.ListN.{drop}
use Rattle.lists.specs.Find.{member}
use Rattle.lists.proofs.Members.{member_here, member_next, member_end}
use Rattle.table.proofs.order.lists.Goals as goal
use Rattle.table.proofs.order.lists.Goals.{then-from-place, else-from-place}

pub loop-listed-preserved : goal.loop-listed-preserved
loop-listed-preserved c =
    let l = c.loop-listed in
    let n = c.args.place in
    let ns : List ℕ = c.listed-listed-items.result.now in
    let more : Bool = member n (drop (l.listed-index + 1) ns) in
    elim c.if-from-place.branch [
      | then-from-place w ↦ l.invariant ∙ ap (λ (t : Bool). l.used || t) (member_here n ns l.listed-index (omega arith) (sym c.from.ensures ∙ w.if-from-place.true)) ∙ or-true l.used
          ∙ sym (ap (λ (t : Bool). t || more) w.used-is)
      | else-from-place w ↦ l.invariant ∙ ap (λ (t : Bool). l.used || t) (member_next n ns l.listed-index (omega arith) (λ e. w.if-from-place.false (c.from.ensures ∙ e)))
          ∙ sym (ap (λ (t : Bool). t || more) w.used-is)
    ]

pub returns : goal.returns
returns c =
    let l = c.loop-listed in
    let ns : List ℕ = c.listed-listed-items.result.now in
    sym (l.invariant ∙ ap (λ (t : Bool). l.used || t) (member_end c.args.place ns l.listed-index (omega arith)) ∙ or-false l.used)
    ∙ ap (member c.args.place) c.listed-listed-items.ensures
