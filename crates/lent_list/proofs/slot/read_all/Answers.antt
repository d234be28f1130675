-- `slot::read_all` meets its contract: each node is the one in the slot of its index. Assumes nothing.
use Rattle.std.proofs.Common.{rules, ◌≡◌, ◌∙◌, sym, ℕ, ◌*◌, take, drop, arith}
use borrow.Author.Tests.{tests}
use Rattle.std.proofs.lemmas.List.{same_lists}
use Rattle.node.specs.declared.Node.{Node}
use Rattle.lent_list_laws.specs.Layout.{slot_at, slots_at}
use Rattle.lent_list_laws.proofs.SlotLaws.{slots_at_lem, slots_number}
use Rattle.lent_list.proofs.FromFn.{each_given}
use Rattle.lent_list.proofs.slot.read_all.Goals as goal

pub returns : goal.returns
returns c =
    let b = c.args.bytes.now in
    let n = c.from_fn.ensures.items.long in
    same_lists c.from_fn.result (slots_at 16 b) (n ∙ sym (slots_number 16 b)) (λ k d h.
    each_given _ _ (λ (i : ℕ) (node : Node). node ≡ slot_at (take 51 (drop (i * 51) b))) c.from_fn.result (λ x y q w. search (rules, tests)) 16 0 c.from_fn.ensures.items.each k k d
    (omega arith) (omega arith) ∙ sym (slots_at_lem 16 k b d (omega arith)))
