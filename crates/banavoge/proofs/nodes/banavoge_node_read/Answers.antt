-- `banavoge_node_read` meets its contract: the node read, or the refusal. Assumes nothing.
use mathlib.Core.Path.{◌∙◌}
use mir.Syntax.{w32}
use mir.ValLaws.{to_z-of_z}
use Rattle.wire.proofs.Numbers.{bytes_each}
use Rattle.banavoge_laws.proofs.NodeTelling.{told_next, node_told, node_turned}
use Rattle.banavoge.proofs.nodes.banavoge_node_read.Goals as goal

pub returns-in-Ok : goal.returns-in-Ok
returns-in-Ok c =
    record {
      bytes = bytes_each c.args.bytes.now (λ i. (c.type_inv.bytes i).fits);
      does = node_told c.args.at _ c.in-Ok.node c.in-Ok.after _ _ c.in-Ok.ensures.exact (told_next c.in-Ok.node c.in-Ok.after _ c.tell.ensures);
    }

pub returns-in-Err : goal.returns-in-Err
returns-in-Err c =
    record {
      bytes = bytes_each c.args.bytes.now (λ i. (c.type_inv.bytes i).fits);
      does = node_turned c.args.at _ c.in-Err.why _ _ c.in-Err.ensures.exact (to_z-of_z w32 c.refused.result (record { sfits = c.refused.type_inv }) ∙ c.refused.ensures);
    }
